-- What it is that a hook answers its table.
use Rattle.std.specs.Prelude.{◌≡◌, ℕ, List, Option, IfSome}
use Rattle.std.specs.List.{All}
use Rattle.std.specs.Fn.{FnReturnsAt, Shared, always_fn}
use denote.Ref.{Bor}
use Rattle.brand_hooks.specs.Tables.{answer_at}
use Rattle.brand_hooks.specs.Brands.{Hooked, brand_at}
use Rattle.brand_hooks.specs.declared.change.Change.{Change}
use Rattle.brand_hooks.specs.declared.table.HookAnswer.{HookAnswer}

-- a hook may be asked of each change, and what it answers is the table's entry
pub record AnswersTable {F : Type 0} (g : Shared F (Bor Change × Unit {0}) HookAnswer) (hook : F) (table : List HookAnswer) : Type 0 where
  pub callable : always_fn g hook
  pub answers : (change : Change) (answer : HookAnswer) → FnReturnsAt g hook change answer → answer ≡ answer_at change table

-- a brand's hook answers the brand's table
abbrev pub Follows : {F : Type 0} → Shared F (Bor Change × Unit {0}) HookAnswer → Hooked F → Type 0
Follows g brand = AnswersTable g brand.hook brand.table

-- each brand's hook answers its table
abbrev pub AllFollow : {F : Type 0} → Shared F (Bor Change × Unit {0}) HookAnswer → List (Hooked F) → Type 0
AllFollow g brands = All (Follows g) brands

-- where a brand stands at a place, a call of its hook with the change returned the answer
abbrev pub AskedAt : {F : Type 0} → Shared F (Bor Change × Unit {0}) HookAnswer → List (Hooked F) → Option ℕ → Change → HookAnswer → Type 0
AskedAt g brands place change answer = IfSome (brand_at brands place) (λ brand. FnReturnsAt g brand.hook change answer)
