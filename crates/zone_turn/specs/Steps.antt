-- What each kind of step tells the pass that takes it: drawing a ticket, looking which is served, counting a batch.
use Rattle.std.specs.Prelude.{◌≡◌, ◌≢◌, ℕ, List, ◌∷◌, ◌++◌, Option, Some}
use Rattle.atomic_table.specs.Table.{Me, Step, rest}
use Rattle.zone_turn.specs.declared.views.View.{View}
use Rattle.zone_turn.specs.declared.views.Stage.TheVariants.{Waits}
use Rattle.zone_turn.specs.Passes.{idle_with, waits_for, with_part}
use Rattle.zone_turn.specs.Histories.{IsMadeBy, own}
use Rattle.zone_turn.specs.Rule.{in_word}

-- the pass notes its ticket
abbrev pub Draws : {T E : Type 0} → Step (Option T) → (before : Me (Option T) (View E)) → (found : ℕ) → (after : Me (Option T) (View E)) → Type 0
Draws st m n m' = (t : ℕ) × (m'.0 ≡ waits_for t m.0) × (in_word t ≡ n) × (m'.1 ≡ m.1)

-- where it finds its own ticket, it has the part out, and else nothing changes
abbrev pub Looks : {T E : Type 0} → (stands : T → List E → Type 0) → (belongs : E → ℕ) → Step (Option T) → (before : Me (Option T) (View E)) → (found : ℕ) → (after : Me (Option T) (View E)) → Type 0
Looks {T} {E} stands belongs st m n m' = (t : ℕ) → m.0.stage ≡ Waits t
    → (in_word t ≡ n → (x : T) × (h : List E) × (m'.0 ≡ with_part t h m.0) × (m'.1 ≡ (0, Some x) ∷ m.1) × stands x h × (own belongs m.0.number h ≡ m.0.list) × IsMadeBy t h)
    × (in_word t ≢ n → m' ≡ m)

-- the part comes home, and its list has the batch
abbrev pub Counts : {T E : Type 0} → (batch : List E) → Step (Option T) → (before : Me (Option T) (View E)) → (found : ℕ) → (after : Me (Option T) (View E)) → Type 0
Counts batch st m n m' = (m'.0 ≡ idle_with (m.0.list ++ batch) m.0) × (m'.1 ≡ rest m.1)
