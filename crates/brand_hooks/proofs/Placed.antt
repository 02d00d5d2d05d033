-- The brand at the place of a name is the first of that name.
use Rattle.std.proofs.Common.{◌≡◌, ◌≢◌, ◌≤◌, ◌↔◌, ◌∙◌, ℕ, Bool, true, false, cond, List, [], Some, None, length, get_or, refl, sym, ap, arith, nat_lt}
use Rattle.std.specs.Prelude.{bytes_eq, find, position}
use Rattle.std.specs.List.{All, position_or_len}
use Rattle.std.proofs.lemmas.Bool.Decides.{nat_tests}
use Rattle.std.proofs.lemmas.List.Folds.{find_at}
use Rattle.std.proofs.lemmas.List.Quantifiers.{position-Some}
use Rattle.std.proofs.lemmas.Option.{slice_get_past}
use Rattle.std.proofs.lemmas.Slice.Eq.{bytes_eq-Decides}
use Rattle.brand_hooks.proofs.Found.{none_passes}
use Rattle.brand_hooks.specs.Brands.{Tabled, answer_by, answer_of, brand_at, place_of}
use Rattle.brand_hooks.specs.declared.change.Change.{Change}

at_first : (test : Tabled → Bool) (brands : List Tabled) → brand_at brands (position test brands) ≡ find test brands
at_first test brands =
    let first : ℕ = position_or_len test brands in
    elim (nat_lt first (length brands)) as (λ v. nat_lt first (length brands) ≡ v → brand_at brands (cond v (Some first) None) ≡ find test brands) [
      | true ↦ λ e. sym (find_at test brands)
      | false ↦ λ e. let past : length brands ≤ first = grind (arith, nat_tests) in sym (find_at test brands ∙ slice_get_past brands first past)
    ] refl

pub answer_at_place : (name : List ℕ) (brands : List Tabled) (change : Change) → answer_of brands (place_of name brands) change ≡ answer_by (find (λ b. bytes_eq name b.name) brands) change
answer_at_place name brands change = ap (λ brand. answer_by brand change) (at_first (λ b. bytes_eq name b.name) brands)

pub no_place : (name : List ℕ) (brands : List Tabled) → (place_of name brands ≡ None) ↔ All (λ b. name ≢ b.name) brands
no_place name brands = (each_other, no_other) where
  named : Tabled → Bool
  named b = bytes_eq name b.name

  each_other : place_of name brands ≡ None → All (λ b. name ≢ b.name) brands
  each_other absent k d within same =
      let missing : find named brands ≡ None = sym (at_first named brands) ∙ ap (brand_at brands) absent in
      let other : bytes_eq name (get_or brands k d).name ≡ false = none_passes named brands k d missing within in
      let found : bytes_eq name (get_or brands k d).name ≡ true = (bytes_eq-Decides name (get_or brands k d).name).1 same in
      absurd (cc)

  no_other : All (λ b. name ≢ b.name) brands → place_of name brands ≡ None
  no_other others =
      elim (place_of name brands) as (λ place. place_of name brands ≡ place → place ≡ None) [
        | None ↦ λ e. refl
        | Some i ↦ λ e.
            let d : Tabled = record { name = name; table = [] } in
            let at = position-Some named brands i d e in
            absurd (others i d at.0 ((bytes_eq-Decides name (get_or brands i d).name).0 at.1))
      ] refl
