-- Steps in two parts.
use Rattle.std.proofs.Common.{◌≡◌, ◌&&◌, ◌∷◌, ◌++◌, [], List, Bool, true, false, refl}
use Rattle.std.proofs.lemmas.Bool.{and_from, and_parts}
use Rattle.session_records.specs.Folds.{all_right, folded}

module _ {A E : Type 0} where
  pub folded-append : (step : A → E → A) (a : A) (xs ys : List E) → folded step a (xs ++ ys) ≡ folded step (folded step a xs) ys
  folded-append step a [] ys = refl
  folded-append step a (x ∷ xs) ys = folded-append step (step a x) xs ys

  pub right-append : (right : A → E → Bool) (step : A → E → A) (a : A) (xs ys : List E) → all_right right step a xs ≡ true → all_right right step (folded step a xs) ys ≡ true → all_right right step a (xs ++ ys) ≡ true
  right-append right step a [] ys h more = more
  right-append right step a (x ∷ xs) ys h more =
      let parts = and_parts (right a x) (all_right right step (step a x) xs) h in and_from _ _ parts.0 (right-append right step (step a x) xs ys parts.1 more)
