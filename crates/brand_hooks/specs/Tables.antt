-- What hooks answer, for each change of a zone's state, by brands(7).
use Rattle.std.specs.Prelude.{ℕ, ◌+◌, List, Bool, true, ◌&&◌, nat_le, if◌then◌else◌, replicate, slice_set, slice_index_or}
use Rattle.std.specs.Bool.{IsTrue}
use Rattle.std.specs.List.{All}
use Rattle.brand_hooks.specs.declared.change.Change.{Change}
use Rattle.brand_hooks.specs.declared.change.ChangeKind.{ChangeKind}
use Rattle.brand_hooks.specs.declared.change.ChangeKind.TheVariants.{Install, Uninstall, Clone, Attach, Detach, Ready, Boot, Halt}
use Rattle.brand_hooks.specs.declared.table.HookAnswer.{HookAnswer}
use Rattle.brand_hooks.specs.declared.table.HookAnswer.TheVariants.{Proceed, Refuse}

abbrev pub kind_place : ChangeKind → ℕ
kind_place Install = 0
kind_place Uninstall = 1
kind_place Clone = 2
kind_place Attach = 3
kind_place Detach = 4
kind_place Ready = 5
kind_place Boot = 6
kind_place Halt = 7

-- the place of a change's answer in a table: first those before a change, then those after one
abbrev pub place : Change → ℕ
place c = if c.before then kind_place c.kind else 8 + kind_place c.kind

-- the code of a refusal is 1 to 99
abbrev pub is_answer : HookAnswer → Bool
is_answer Proceed = true
is_answer (Refuse code) = nat_le 1 code && nat_le code 99

abbrev pub AreAnswers : List HookAnswer → Type 0
AreAnswers table = All (λ answer. IsTrue (is_answer answer)) table

abbrev pub answer_at : Change → List HookAnswer → HookAnswer
answer_at c table = slice_index_or table (place c) Proceed

-- each of the 16 changes proceeds
abbrev pub proceeding : List HookAnswer
proceeding = replicate 16 Proceed

-- the table with another answer at one change
abbrev pub with_answer : Change → HookAnswer → List HookAnswer → List HookAnswer
with_answer c answer table = slice_set table (place c) answer
