-- A zone as its daemon finds it after a turn.
use Rattle.std.specs.Prelude.{List, [], ◌∷◌, Option, Some, None}
use Rattle.commit_journal.specs.declared.records.Record.{Record}
use Rattle.datalink_table.specs.Claims.{claiming, holds}
use Rattle.kernel_objects.specs.Processes.{below, without_pid}
use Rattle.zone_pools.specs.Decisions.{act_of}
use Rattle.zone_pools.specs.Owned_lists.{Change, Go, Last_goes, Put, edited}
use Rattle.zone_pools.specs.declared.grant.Grant.{Grant}
use Rattle.zoneadmd_steps.specs.Arrivals.{Arrival, New_claim, New_id, New_process, New_record, arrived}
use Rattle.zoneadmd_steps.specs.Objects.{Devices_are, Ids_change, Ids_go, Last_claim_goes, Object_edit, Objects, Of_mounts, Process_goes, Processes_change, Processes_go, keeping_pid, keeping_zid}
use Rattle.zoneadmd_steps.specs.Turns.{Seen, Turn_decision, Turned}
use Rattle.zoneadmd_steps.specs.declared.requests.TurnReply.{TurnReply}

-- what came with a grant, among the objects and in the store: a process at its place, an id in place of another, a claim last
-- unless the zone holds the item already
abbrev pub objects_with : Arrival → Objects → Objects
objects_with (New_process p) o = record o { processes = edited (Put (below p.pid) p) o.processes }
objects_with (New_id i) o = record o { ids = i ∷ [] }
objects_with (New_claim c) o = record o { claims = claiming (holds c o.claims) c o.claims }
objects_with _ o = o

abbrev pub stored_with : Arrival → Option Record → Option Record
stored_with (New_record row) stored = row
stored_with _ stored = stored

abbrev pub come : Option Arrival → Seen → Seen
come None v = v
come (Some a) v = record v { objects = objects_with a v.objects; stored = stored_with a v.stored }

abbrev pub edit : Object_edit → Objects → Objects
edit (Processes_go p) o = record o { processes = edited (Go p) o.processes }
edit (Process_goes pid) o = record o { processes = without_pid pid o.processes }
edit (Processes_change f) o = record o { processes = edited (Change (keeping_pid f)) o.processes }
edit (Of_mounts e) o = record o { mounts = edited e o.mounts }
edit Last_claim_goes o = record o { claims = edited Last_goes o.claims }
edit (Devices_are ds) o = record o { devices = ds }
edit (Ids_go p) o = record o { ids = edited (Go p) o.ids }
edit (Ids_change f) o = record o { ids = edited (Change (keeping_zid f)) o.ids }

abbrev pub edits : List Object_edit → Objects → Objects
edits [] o = o
edits (e ∷ es) o = edits es (edit e o)

-- a zone after a turn, and what the turn reports
pub record After : Type 0 where
  pub seen : Seen
  pub reply : TurnReply

-- the edits, and then the desk
abbrev pub done : Turned → Seen → After
done t v = record { seen = record v { objects = edits t.objects v.objects; desk = t.desk }; reply = t.reply }

-- what came first
abbrev pub after : Turn_decision → Grant → Seen → After
after d g v = let a = act_of arrived d g in done a.effect (come a.came v)
