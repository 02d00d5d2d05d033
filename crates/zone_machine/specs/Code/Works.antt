-- What the code's works do, beside the change of the desk, as the definitions have it.
use Rattle.std.specs.Prelude.{◌≡◌, ℕ, List, [], ◌∷◌, ◌++◌, map, Option, Some, None, IfSome}
use Rattle.zn_base.specs.Names.{Name}
use Rattle.zoneadmd_steps.specs.Arrivals.{Arrival, New_record, in_store}
use Rattle.zone_pools.specs.Decisions as decisions
use Rattle.zone_cases.specs.Code.Replies.{reply_with}
use Rattle.zone_cases.specs.State.Decisions.{Act, acts_world, sweeps, after_came_world, turned}
use Rattle.zoneadmd_steps.specs.Turns.{Turned}
use Rattle.zoneadmd_steps.specs.Desks as desks
use Rattle.zone_cases.specs.State.Edits.{Edit, Of_objects, Set_desk, edits_world}
use Rattle.zone_cases.specs.Code.Consoles.{console_edits}
use Rattle.zone_cases.specs.Code.Doings.{sits}
use Rattle.zone_cases.specs.State.Worlds.{World}
use Rattle.zone_machine.specs.declared.machine.work.Storing.{Storing}
use Rattle.zone_machine.specs.declared.machine.work.Storing.TheVariants as storing
use Rattle.zone_machine.specs.declared.machine.work.Work.{Work}
use Rattle.zone_machine.specs.declared.machine.work.Ending.{Ending}
use Rattle.zone_machine.specs.declared.machine.work.Ending.TheVariants.{Process, Ticket}
use Rattle.commit_journal.specs.declared.records.Record.{Record}
use Rattle.kernel_objects.specs.Processes.{without_pid}
use Rattle.zone_pools.specs.Owned_lists.{Go, edited}
use Rattle.zoneadmd_steps.specs.Objects.{Process_goes, all_of}
use Rattle.zoneadmd_steps.specs.Code.Cases.{object_edits}
use Rattle.zoneadmd_steps.specs.Code.Works.{gone_by}
use Rattle.zone_cases.specs.declared.replies.Reply.{Reply}

-- what comes by what is stored
abbrev pub arrival_by : Storing → Option Arrival
arrival_by storing.Nothing = None
arrival_by (storing.Row s) = Some (New_record (Some s.row.value))
arrival_by (storing.Removal z) = Some (New_record None)

-- what is stored is of z
abbrev pub IsStoredOf : Name → Storing → Type 0
IsStoredOf z storing.Nothing = Unit {0}
IsStoredOf z (storing.Row s) = s.owner ≡ z
IsStoredOf z (storing.Removal y) = y ≡ z

pub record IsNamedWork (z : Name) (w : Work) : Type 0 where
  pub stored : IsStoredOf z w.stored
  pub sits : IfSome w.sits (λ s. s.owner ≡ z)

-- an act without what comes to the kernel
abbrev pub rest_of : Act → Act
rest_of a = record a { came = in_store a.came }

-- what ends last
abbrev pub endings : Option Ending → List Edit
endings None = []
endings (Some (Ticket t)) = sweeps (Some t)
endings (Some (Process pid)) = Of_objects (Process_goes pid) ∷ []

-- a ticket, or nothing
abbrev pub EndsNoProcess : Option Ending → Type 0
EndsNoProcess None = Unit {0}
EndsNoProcess (Some (Ticket t)) = Unit {0}
EndsNoProcess (Some (Process pid)) = ⊥

abbrev pub ticket_of : Option Ending → Option ℕ
ticket_of (Some (Ticket t)) = Some t
ticket_of o = None

-- what some work tells
abbrev pub told_by : Work → Reply
told_by w = reply_with (gone_by w.objects) w.reply

abbrev pub work_act : Work → desks.Desk → Act
work_act w d = record {
  came = arrival_by w.stored;
  effect = record { edits = sits w.sits ++ (map Of_objects (object_edits w.objects) ++ (Set_desk d ∷ (console_edits w.console ++ endings w.ended))); reply = told_by w };
}

-- the work does what an act says in a world, and leaves the desk so
pub record Works (n : Option ℕ) (a : Act) (v : World) (d : desks.Desk) (w : Work) : Type 0 where
  pub came : arrival_by w.stored ≡ a.came
  pub reply : told_by w ≡ a.effect.reply
  pub world : acts_world n (work_act w d) v ≡ acts_world n a v

-- parts of what an event does to a world: what is stored, and which processes the kernel has
abbrev pub with_row : Option Record → World → World
with_row row w = record w { stored = row }

abbrev pub without_processes : World → World
without_processes w = record w { processes = edited (Go all_of) w.processes }

abbrev pub without_process : ℕ → World → World
without_process pid w = record w { processes = without_pid pid w.processes }

-- what some work does to a world beside its change of the desk
abbrev pub work_world : Option ℕ → Work → World → World
work_world n w v =
    edits_world n (endings w.ended) (edits_world n (console_edits w.console) (edits_world n (map Of_objects (object_edits w.objects)) (edits_world n (sits w.sits) (after_came_world (arrival_by w.stored) v))))

-- a turn's act is what the turn decides, as the machine does it
abbrev pub turned_act : decisions.Act Arrival Turned → Act
turned_act a = record { came = a.came; effect = turned a.effect }
