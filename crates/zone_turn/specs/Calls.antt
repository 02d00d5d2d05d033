-- What the calls of a turn promise.
use Rattle.std.specs.Prelude.{◌≡◌, ◌≢◌, ◌⊎◌, ℕ, List, [], ◌++◌}
use Rattle.std.specs.List.{All}
use lib.ListN.{get_elem?}
use mathlib.Core.Option.{some}
use Rattle.zone_turn.specs.declared.views.View.{View}
use Rattle.zone_turn.specs.declared.views.Stage.TheVariants.{Out}
use Rattle.zone_turn.specs.Passes.{Apart, IsKept, kept_of, with_part}
use Rattle.zone_turn.specs.Histories.{IsMadeBy, own}

-- a pass takes the part, which stands for the history of so many gives; of that history its own entries are its list
pub record Takes {T E : Type 0} (stands : T → List E → Type 0) (belongs : E → ℕ) (gives : ℕ) (h : List E) (part : T) (old new : View E) : Type 0 where
  pub out : new ≡ with_part gives h old
  pub history : stands part h
  pub mine : own belongs old.number h ≡ old.list
  pub counted : IsMadeBy gives h

-- the pass has the part out, which stood for a history, and now stands for it and then the batch
abbrev pub Extends : {T E : Type 0} → (stands : T → List E → Type 0) → (part : T) → (batch : List E) → View E → Type 0
Extends {T} {E} stands part batch v = (gives : ℕ) × (h : List E) × (v.stage ≡ Out gives h) × stands part (h ++ batch)

-- the end: the part stands for the whole history; each list that is kept is exactly what of it belongs to its pass, in order
-- and each entry once, the numbers of the lists differ, and nothing is left over
pub record Closes {T E : Type 0} (stands : T → List E → Type 0) (belongs : E → ℕ) (h : List E) (part : T) (first : View E) : Type 0 where
  pub history : stands part h
  pub mine : own belongs 0 h ≡ first.list
  pub kept : All (λ (k : ℕ × List E). own belongs k.0 h ≡ k.1) (kept_of first.role)
  pub apart : Apart (kept_of first.role)
  pub whole : (n : ℕ) → n ≢ 0 → IsKept (kept_of first.role) n ⊎ (own belongs n h ≡ [])

-- the views of all passes of a turn: one at most has the part out
abbrev pub OneHolder : {E : Type 0} → List (View E) → Type 0
OneHolder {E} views = (i j t u : ℕ) (v w : View E) (g h : List E) → get_elem? views i ≡ some v → get_elem? views j ≡ some w → v.stage ≡ Out t g → w.stage ≡ Out u h → i ≡ j
