-- What zlogin(1) does: a session is logged in to a zone, with a process of its own there, or has the zone's console; a line of such
-- a session is a call of that process, or goes to the console. Or a process enters the zone for one call.
use Rattle.std.specs.Prelude.{ℕ, List, [], ◌∷◌, ◌++◌, Bool, true, false, ◌&&◌, ◌==◌, Option, Some, None, Ok as Right, Err, codes, if◌then◌else◌, is_some, nat_eq}
use Rattle.std.specs.Option.{option_or}
use Rattle.console_link.specs.Consoles.{Console, typed as typed_at}
use Rattle.kernel_objects.specs.Kernel.{Kernel, at_limit, entered}
use Rattle.kernel_objects.specs.Processes.{Process, below}
use Rattle.kernel_objects.specs.declared.faults.Errno.TheVariants.{EAGAIN}
use Rattle.zn_base.specs.Lines.{lines_of}
use Rattle.zn_base.specs.declared.state.ZoneState.{ZoneState}
use Rattle.zn_base.specs.declared.state.ZoneState.TheVariants.{Configured, Incomplete, Running}
use Rattle.process_calls.specs.Calls.{Said, call_of}
use Rattle.process_calls.specs.declared.call.Call.{Call}
use Rattle.process_calls.specs.declared.call.Call.TheVariants.{False}
use Rattle.process_calls.specs.declared.call.Call.TheVariants as call
use Rattle.commit_journal.specs.declared.records.Record.{Record}
use Rattle.zone_pools.specs.Asked.{A_pid}
use Rattle.zone_pools.specs.Decisions.{Ask, Just}
use Rattle.zone_pools.specs.Owned_lists.{Put, edited}
use Rattle.zone_pools.specs.Firsts.{is_nil}
use Rattle.zoneadmd_steps.specs.Arrivals.{A_process}
use Rattle.zoneadmd_steps.specs.Desks.{Desk, state_now}
use Rattle.zoneadmd_steps.specs.Objects.{Process_goes, kernel_of}
use Rattle.zone_cases.specs.Calls.{calls, calls_if_there}
use Rattle.zone_cases.specs.State.{At_console, Logged_in}
use Rattle.zone_cases.specs.State.Decisions.{Decision, Effect, done_saying, effects, refused, told}
use Rattle.zone_cases.specs.State.Edits.{Here, Hold, Leave, Of_console, Of_objects, Take}
use Rattle.zone_cases.specs.State.Worlds.{View, objects_of}
use Rattle.zone_cases.specs.declared.replies.Body.TheVariants.{Lines, Why}
use Rattle.zone_cases.specs.declared.replies.Head.TheVariants.{Ok, Refused, Status}
use Rattle.zone_cases.specs.declared.replies.Refusal.{Refusal}
use Rattle.zone_cases.specs.declared.replies.Refusal.TheVariants.{Denied, Errno as Of_errno, NoZone, NotRunning, Taken, Usage}
use Rattle.zone_cases.specs.declared.replies.Reply.{Reply}

-- nothing is done where something is refused
abbrev pub unless : Option Refusal → Decision → Decision
unless None d = d
unless (Some refusal) d = Just (refused refusal)

abbrev pub if_any : Bool → Refusal → Option Refusal
if_any true refusal = Some refusal
if_any false refusal = None

-- a process enters a zone that is stored, that runs, and that has fewer processes than it may have
abbrev pub runs : Option ZoneState → Bool
runs (Some Running) = true
runs s = false

abbrev pub entry_refusal : Option Record → Desk → Kernel → Option Refusal
entry_refusal None d k = Some NoZone
entry_refusal (Some row) d k = if runs d.active then if_any (at_limit k) (Of_errno EAGAIN) else Some (NotRunning (state_now row d))

-- `zlogin Z`: a process `login` enters, and the session is logged in with it
abbrev pub login_of : Kernel → Option ℕ → Decision
login_of k escape =
    Ask (A_process (entered k (codes "login") false 0)) (A_pid ∷ []) (λ pool. refused (Denied pool)) (λ n. done_saying (Here (Some (Logged_in n escape)) ∷ []) Ok)

abbrev pub logs_in : Option ℕ → Option Record → Desk → Kernel → Decision
logs_in escape stored d k = unless (entry_refusal stored d k) (login_of k escape)

-- `zlogin -C Z`: the console of a zone that is installed, ready or running is for one session at a time, which takes what is kept of it
abbrev pub console_by : ZoneState → Console → Option Refusal
console_by Configured c = Some (NotRunning Configured)
console_by Incomplete c = Some (NotRunning Incomplete)
console_by s c = if_any (is_some c.holder) Taken

abbrev pub console_refusal : Option Record → Desk → Console → Option Refusal
console_refusal None d c = Some NoZone
console_refusal (Some row) d c = console_by (state_now row d) c

abbrev pub holds_console : Option ℕ → Option Record → Desk → Console → Decision
holds_console escape stored d c =
    unless (console_refusal stored d c) (Just (record { edits = Here (Some (At_console escape)) ∷ Of_console Hold ∷ []; reply = told (Lines (lines_of c.output)) }))

-- a line that begins with the escape byte and a period
abbrev pub escapes_at : ℕ → List ℕ → Bool
escapes_at b (x ∷ y ∷ more) = x == b && y == 46
escapes_at b text = false

abbrev pub escapes : Option ℕ → List ℕ → Bool
escapes None text = false
escapes (Some b) text = escapes_at b text

-- what a call came to, as zlogin(1) passes it on: 1 and why it was refused, else its status
abbrev pub passed_on : ℕ → Reply → Reply
passed_on status reply = elim reply.head as (λ h. Reply) [
  | Refused why ↦ record { head = Status 1; body = Why why }
  | _ ↦ record { head = Status status; body = reply.body }
]

abbrev pub status_of : Call → ℕ
status_of False = 1
status_of c = 0

abbrev pub with_status : ℕ → Effect → Effect
with_status status e = record e { reply = passed_on status e.reply }

abbrev pub passed_as : ℕ → Decision → Decision
passed_as status d = effects (with_status status) d

-- a call of the session's process; any other line is no command there
abbrev pub said_in : View → (pid : ℕ) → Said → Decision
said_in v pid (Right c) = passed_as (status_of c) (calls_if_there v pid (v.process pid) c)
said_in v pid (Err fault) = Just (done_saying [] (Status 127))

-- a line of a session that is logged in
abbrev pub logged_line : View → (pid : ℕ) → Option ℕ → List ℕ → Decision
logged_line v pid escape text =
    if escapes escape text then Just (done_saying (Of_objects (Process_goes pid) ∷ []) (Status 0))
    else if is_nil text then Just (done_saying [] (Status 0))
    else said_in v pid (call_of text)

-- a line of a session at the console
abbrev pub console_line : View → Option ℕ → List ℕ → Decision
console_line v escape text =
    if escapes escape text then Just (done_saying (Here None ∷ Of_console Leave ∷ []) (Status 0))
    else Just (record { edits = Of_console Take ∷ []; reply = told (Lines (lines_of (typed_at text v.world.console).output)) })

-- `zlogin Z CALL`: a process enters the zone, makes the call and goes. It is named by the first word of the call
abbrev pub call_word : Call → List ℕ
call_word (call.Fork name) = codes "fork"
call_word (call.Exec name) = codes "exec"
call_word call.Exit = codes "exit"
call_word (call.Kill signal target) = codes "kill"
call_word call.Ps = codes "ps"
call_word call.Privs = codes "privs"
call_word (call.Drop number) = codes "drop"
call_word (call.Mount m) = codes "mount"
call_word (call.Umount dir) = codes "umount"
call_word (call.Read path) = codes "read"
call_word (call.Write path) = codes "write"
call_word call.Mounts = codes "mounts"
call_word call.Links = codes "links"
call_word call.Datasets = codes "datasets"
call_word call.Devices = codes "devices"
call_word call.Zonename = codes "zonename"
call_word call.Bootargs = codes "bootargs"
call_word (call.Cons text) = codes "cons"
call_word call.True = codes "true"
call_word call.False = codes "false"

-- what a zone sees once a process has come
abbrev pub with_newcomer : Process → View → View
with_newcomer p v = record v {
  world = record v.world { processes = edited (Put (below p.pid) p) v.world.processes };
  process = λ n. option_or (v.process n) (if nat_eq n p.pid then Some p else None);
}

-- a call that makes no other process, as there is no second number for one
abbrev pub alone : Decision → Effect
alone (Just e) = e
alone (Ask c asked denied given) = refused (Of_errno EAGAIN)

abbrev pub goes_after : ℕ → Effect → Effect
goes_after n e = record e { edits = e.edits ++ Of_objects (Process_goes n) ∷ [] }

-- the process makes the call, whose outcome zlogin(1) passes on, and goes
abbrev pub errand : View → Process → Call → Effect
errand v p c = with_status (status_of c) (alone (calls (with_newcomer p v) p.pid p c))

abbrev pub enters : View → Call → Decision
enters v c =
    let p = entered (kernel_of (objects_of v.world)) (call_word c) false 0 in
    Ask (A_process p) (A_pid ∷ []) (λ pool. refused (Denied pool)) (λ n. goes_after n (errand v (record p { pid = n }) c))

-- a text that is no call is no line of zlogin(1)
abbrev pub entered_line : View → Said → Decision
entered_line v (Err fault) = Just (refused Usage)
entered_line v (Right c) = unless (entry_refusal v.world.stored v.world.desk (kernel_of (objects_of v.world))) (enters v c)
