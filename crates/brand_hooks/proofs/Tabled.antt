-- Brands without their hooks have the names of the brands, and stand at their places.
use Rattle.std.proofs.Common.{◌≡◌, ℕ, List, [], ◌∷◌, Option, Some, None, refl, ap}
use Rattle.std.specs.Prelude.{option_map}
use Rattle.std.proofs.lemmas.Option.{slice_get-map}
use Rattle.brand_hooks.specs.Brands.{Hooked, brand_at, names_of, tabled, tabled_names, tables_of}

pub names_of_tables : {F : Type 0} (brands : List (Hooked F)) → names_of brands ≡ tabled_names (tables_of brands)
names_of_tables [] = refl
names_of_tables (b ∷ brands) = ap (λ names. b.name ∷ names) (names_of_tables brands)

pub tabled_at : {F : Type 0} (brands : List (Hooked F)) (place : Option ℕ) → brand_at (tables_of brands) place ≡ option_map tabled (brand_at brands place)
tabled_at brands None = refl
tabled_at brands (Some place) = slice_get-map tabled brands place
