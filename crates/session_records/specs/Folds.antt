-- Steps one after another, and whether each is right where it is taken.
use Rattle.std.specs.Prelude.{List, [], ◌∷◌, Bool, true, ◌&&◌}

module _ {A E : Type 0} where
  abbrev pub folded : (step : A → E → A) → A → List E → A
  folded step a [] = a
  folded step a (e ∷ es) = folded step (step a e) es

  abbrev pub all_right : (right : A → E → Bool) → (step : A → E → A) → A → List E → Bool
  all_right right step a [] = true
  all_right right step a (e ∷ es) = right a e && all_right right step (step a e) es
