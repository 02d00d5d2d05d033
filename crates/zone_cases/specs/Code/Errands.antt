-- What a call comes to of a process that enters the zone for it alone, by the number that it gets.
use Rattle.process_calls.specs.declared.call.Call.{Call}
use Rattle.process_calls.specs.declared.call.Call.TheVariants as call
use Rattle.std.specs.Prelude.{ℕ, Bool, true, false, List, [], ◌∷◌, map, nat_eq, nat_lt, if◌then◌else◌}
use Rattle.kernel_objects.specs.Processes.{at_pid, dropping, renamed}
use Rattle.kernel_objects.specs.declared.faults.Errno.TheVariants.{ESRCH}
use Rattle.kernel_objects.specs.declared.objects.ProcRow.{ProcRow}
use Rattle.zone_pools.specs.Owned_lists.{but_last, put}
use Rattle.zoneadmd_steps.specs.Code.Cases.{object_edits}
use Rattle.zoneadmd_steps.specs.Objects.{Process_goes, Processes_change}
use Rattle.zone_cases.specs.Calls.{ending}
use Rattle.zone_cases.specs.State.Decisions.{Effect, says}
use Rattle.zone_cases.specs.State.Edits.{Edit, Line, Of_console, Of_objects}
use Rattle.zone_cases.specs.declared.cases.Errand.{Errand}
use Rattle.zone_cases.specs.declared.cases.Errand.TheVariants.{Answers, Does, Exits, GivesUp, Lists, Renames, Signals, Writes}
use Rattle.zone_cases.specs.declared.replies.Body.TheVariants.{Processes, Why}
use Rattle.zone_cases.specs.declared.replies.Head.TheVariants.{Status}
use Rattle.zone_cases.specs.declared.replies.Refusal.TheVariants.{Errno as Of_errno}
use Rattle.zone_cases.specs.declared.replies.Reply.{Reply}

-- the last of a row and others
abbrev pub last_row : ProcRow → List ProcRow → ProcRow
last_row row [] = row
last_row row (next ∷ rows) = last_row next rows

-- the last row has its number, and stands in its place among the others
abbrev pub placed : ℕ → List ProcRow → List ProcRow
placed n [] = []
placed n (row ∷ rows) = put (λ r. nat_lt r.pid n) (record (last_row row rows) { pid = n }) (but_last (row ∷ rows))

abbrev pub errand_edits : ℕ → Errand → List Edit
errand_edits n (Answers reply) = []
errand_edits n (Does objects) = map Of_objects (object_edits objects)
errand_edits n (Writes line) = Of_console (Line line) ∷ []
errand_edits n (Renames name) = Of_objects (Processes_change (at_pid n (renamed name))) ∷ []
errand_edits n Exits = Of_objects (Process_goes n) ∷ []
errand_edits n (GivesUp number) = Of_objects (Processes_change (at_pid n (dropping number))) ∷ []
errand_edits n (Lists rows) = []
errand_edits n (Signals deadly target) = if nat_eq target n then ending deadly target else []

abbrev pub done_well : Reply
done_well = says (Status 0)

abbrev pub errand_reply : ℕ → Errand → Reply
errand_reply n (Answers reply) = reply
errand_reply n (Lists rows) = record { head = Status 0; body = Processes (placed n rows) }
errand_reply n (Signals deadly target) = if nat_eq target n then done_well else record { head = Status 1; body = Why (Of_errno ESRCH) }
errand_reply n _ = done_well

abbrev pub errand_effect : ℕ → Errand → Effect
errand_effect n e = record { edits = errand_edits n e; reply = errand_reply n e }

-- a call whose outcome asks no more of its process than its privileges, and not its number
abbrev pub is_told : Call → Bool
is_told (call.Mount m) = true
is_told (call.Umount dir) = true
is_told (call.Read path) = true
is_told (call.Write path) = true
is_told call.Mounts = true
is_told call.Links = true
is_told call.Datasets = true
is_told call.Devices = true
is_told call.Zonename = true
is_told call.Bootargs = true
is_told (call.Cons text) = true
is_told c = false
