-- The one history: the batches of all gives, joined in their order.
use Rattle.std.specs.Prelude.{◌≡◌, ℕ, ◌==◌, List, [], ◌∷◌, ◌++◌, length}
use Rattle.std.specs.List.{filter}

module _ {E : Type 0} where
  -- the batches in their order
  abbrev pub joined : List (List E) → List E
  joined [] = []
  joined (b ∷ bs) = b ++ joined bs

  -- the entries that belong to the pass n
  abbrev pub own : (belongs : E → ℕ) → (n : ℕ) → List E → List E
  own belongs n es = filter (λ e. belongs e == n) es

  -- so many gives made this history
  abbrev pub IsMadeBy : (gives : ℕ) → (h : List E) → Type 0
  IsMadeBy gives h = (batches : List (List E)) × (joined batches ≡ h) × (length batches ≡ gives)
