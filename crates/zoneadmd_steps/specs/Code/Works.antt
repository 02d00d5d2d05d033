-- What the work of a turn does beside its change of the desk, as the definitions have it.
use Rattle.std.specs.Prelude.{ℕ, Option, Some, None}
use Rattle.zone_pools.specs.Decisions as decisions
use Rattle.zoneadmd_steps.specs.Arrivals.{Arrival, New_record, in_store}
use Rattle.zoneadmd_steps.specs.Code.Cases.{object_edits}
use Rattle.zoneadmd_steps.specs.Desks.{Desk, Job}
use Rattle.zoneadmd_steps.specs.Turns.{Turned}
use Rattle.zoneadmd_steps.specs.declared.objects.changes.ObjectEdit.{ObjectEdit}
use Rattle.zoneadmd_steps.specs.declared.objects.changes.ObjectEdit.TheVariants.{ReleaseLast, UnmountLast}
use Rattle.zoneadmd_steps.specs.declared.requests.Gone.{Gone}
use Rattle.zoneadmd_steps.specs.declared.requests.Gone.TheVariants.{Nothing as Nothing_gone, Mount as Gone_mount, Claim as Gone_claim}
use Rattle.zoneadmd_steps.specs.declared.requests.Step.TheVariants.{Release, Unmount}
use Rattle.zoneadmd_steps.specs.declared.requests.TurnReply.{TurnReply}
use Rattle.zoneadmd_steps.specs.declared.requests.TurnReply.TheVariants.{Stepped}
use Rattle.zoneadmd_steps.specs.declared.settling.Stored.{Stored}
use Rattle.zoneadmd_steps.specs.declared.settling.TurnWork.{TurnWork}

-- what a turn does under a grant
abbrev pub Turn_act : Type 0
Turn_act = decisions.Act Arrival Turned

abbrev pub arrival_of : Option Stored → Option Arrival
arrival_of None = None
arrival_of (Some s) = Some (New_record (Some s.row.value))

-- a turn without what comes to the kernel, which is there before the rest is done
abbrev pub rest_of_turn : Turn_act → Turn_act
rest_of_turn a = record a { came = in_store a.came }

-- what goes by an edit as the last, and what a turn tells of it
abbrev pub gone_by : ObjectEdit → Gone
gone_by (UnmountLast dir) = Gone_mount dir.value
gone_by (ReleaseLast claim) = Gone_claim claim.value
gone_by _ = Nothing_gone

abbrev pub with_gone : Gone → TurnReply → TurnReply
with_gone Nothing_gone r = r
with_gone (Gone_mount dir) r = Stepped (Unmount (Some dir))
with_gone (Gone_claim claim) r = Stepped (Release (Some claim))

-- what the work does, as a turn that leaves the desk so
abbrev pub turn_work : TurnWork → Desk → Turn_act
turn_work w d = record { came = arrival_of w.stored; effect = record { objects = object_edits w.objects; desk = d; ended = w.ended; reply = with_gone (gone_by w.objects) w.reply } }

-- the request under way, where none ended
abbrev pub unless_ended : Option ℕ → Job → Option Job
unless_ended None j = Some j
unless_ended (Some ticket) j = None
