-- How the report of a daemon's turn is printed.
use Rattle.std.specs.Prelude.{ℕ, List, [], ◌∷◌, ◌++◌, Bool, Option, Some, None, codes, if◌then◌else◌}
use Rattle.std.specs.Fmt.{decimal}
use Rattle.brand_hooks.specs.declared.change.Change.{Change}
use Rattle.brand_hooks.specs.declared.change.ChangeKind.{ChangeKind}
use Rattle.brand_hooks.specs.declared.change.ChangeKind.TheVariants as change
use Rattle.datalink_table.specs.declared.claims.Claim.{Claim}
use Rattle.datalink_table.specs.declared.claims.ClaimKind.{ClaimKind}
use Rattle.datalink_table.specs.declared.claims.ClaimKind.TheVariants.{Link, Address, Dataset}
use Rattle.grant_text.specs.Text.{pool_word}
use Rattle.trace_text.specs.Flaws.{flaw_text, limit_fault_text}
use Rattle.zn_base.specs.States.{state_text}
use Rattle.zoneadmd_steps.specs.declared.requests.Outcome.{Outcome}
use Rattle.zoneadmd_steps.specs.declared.requests.Outcome.TheVariants.{Done, WrongState, Denied, HookRefused, Privilege, NotVerified, TooLarge}
use Rattle.zoneadmd_steps.specs.declared.requests.RequestKind.{RequestKind}
use Rattle.zoneadmd_steps.specs.declared.requests.RequestKind.TheVariants as kind
use Rattle.zoneadmd_steps.specs.declared.requests.Step.{Step}
use Rattle.zoneadmd_steps.specs.declared.requests.Step.TheVariants.{Hook, Record, Moved, Copy, Erase, Source, Zid, Limits, Devices, Root, Mounted, Claimed, State, Init, Kill, Unmount, Release, Clear, ZidBack}
use Rattle.zoneadmd_steps.specs.declared.requests.TurnReply.{TurnReply}
use Rattle.zoneadmd_steps.specs.declared.requests.TurnReply.TheVariants.{Idle, Began, Stepped, Failed, Undone, Finished, Stuck}

abbrev pub kind_text : RequestKind → List ℕ
kind_text kind.Install = codes "install"
kind_text kind.Uninstall = codes "uninstall"
kind_text kind.Clone = codes "clone"
kind_text kind.Attach = codes "attach"
kind_text kind.Detach = codes "detach"
kind_text kind.Mark = codes "mark"
kind_text kind.Move = codes "move"
kind_text kind.Ready = codes "ready"
kind_text kind.Boot = codes "boot"
kind_text kind.Halt = codes "halt"
kind_text kind.Reboot = codes "reboot"

abbrev pub change_text : ChangeKind → List ℕ
change_text change.Install = codes "install"
change_text change.Uninstall = codes "uninstall"
change_text change.Clone = codes "clone"
change_text change.Attach = codes "attach"
change_text change.Detach = codes "detach"
change_text change.Ready = codes "ready"
change_text change.Boot = codes "boot"
change_text change.Halt = codes "halt"

abbrev pub moment_text : Bool → List ℕ
moment_text before = if before then codes "hook before " else codes "hook after "

abbrev pub hook_text : Change → List ℕ
hook_text asked = moment_text asked.before ++ change_text asked.kind

-- a claim, by its kind
abbrev pub claim_kind_text : ClaimKind → List ℕ
claim_kind_text Link = codes "link "
claim_kind_text Address = codes "address "
claim_kind_text Dataset = codes "dataset "

abbrev pub claim_text : Claim → List ℕ
claim_text claim = claim_kind_text claim.kind ++ claim.item

-- a step's word, and what it came to, where that is known: a number, the directory of an unmount, or the claim that ended
abbrev pub counted_text : List ℕ → Option ℕ → List ℕ
counted_text word None = word
counted_text word (Some n) = word ++ 32 ∷ decimal n

abbrev pub unmount_text : Option (List ℕ) → List ℕ
unmount_text None = codes "unmount"
unmount_text (Some dir) = codes "unmount " ++ dir

abbrev pub release_text : Option Claim → List ℕ
release_text None = codes "release"
release_text (Some claim) = codes "release " ++ claim_text claim

unfoldable pub step_text : Step → List ℕ
step_text (Hook asked) = hook_text asked
step_text (Record state) = codes "record " ++ state_text state
step_text Moved = codes "record moved"
step_text (Copy n) = codes "copy " ++ decimal n
step_text (Erase n) = codes "erase " ++ decimal n
step_text (Source name) = codes "source " ++ name
step_text (Zid n) = counted_text (codes "zid") n
step_text Limits = codes "limits"
step_text (Devices n) = counted_text (codes "devices") n
step_text Root = codes "root"
step_text (Mounted dir) = codes "mount " ++ dir
step_text (Claimed claim) = claim_text claim
step_text (State state) = codes "state " ++ state_text state
step_text (Init n) = counted_text (codes "init") n
step_text (Kill n) = counted_text (codes "kill") n
step_text (Unmount dir) = unmount_text dir
step_text (Release claim) = release_text claim
step_text Clear = codes "clear"
step_text (ZidBack n) = counted_text (codes "zidback") n

-- the code, the name and the arguments of what a request or a step came to; a flaw follows with its own
unfoldable pub outcome_text : Outcome → List ℕ
outcome_text Done = codes "ok"
outcome_text (WrongState state) = codes "81 WrongState " ++ state_text state
outcome_text (Denied pool) = codes "82 Denied " ++ pool_word pool
outcome_text (HookRefused code) = codes "83 HookRefused " ++ decimal code
outcome_text (Privilege fault) = codes "84 Privilege " ++ limit_fault_text fault
outcome_text (NotVerified flaw) = codes "85 NotVerified " ++ flaw_text flaw
outcome_text (TooLarge size) = codes "29 TooLarge " ++ decimal size

-- what a request ended with
unfoldable pub ending_text : Outcome → List ℕ
ending_text Done = codes "ok"
ending_text outcome = codes "err " ++ outcome_text outcome

abbrev pub began_text : ℕ → RequestKind → List ℕ
began_text ticket asked = codes "began " ++ decimal ticket ++ 32 ∷ [] ++ kind_text asked

abbrev pub failed_text : ℕ → Outcome → List ℕ
failed_text number outcome = codes "failed " ++ decimal number ++ codes ": " ++ outcome_text outcome

abbrev pub finished_text : ℕ → Outcome → List ℕ
finished_text ticket outcome = codes "finished " ++ decimal ticket ++ 32 ∷ [] ++ ending_text outcome

unfoldable pub turn_text : TurnReply → List ℕ
turn_text Idle = codes "idle"
turn_text (Began ticket asked) = began_text ticket asked
turn_text (Stepped step) = codes "step " ++ step_text step
turn_text (Failed number outcome) = failed_text number outcome
turn_text (Undone step) = codes "undone " ++ step_text step
turn_text (Finished ticket outcome) = finished_text ticket outcome
turn_text Stuck = codes "stuck unmount"
