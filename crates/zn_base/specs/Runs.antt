-- How far the parts of a pattern go with a path.
use Rattle.std.specs.Prelude.{ℕ, List, ◌∷◌, ◌+◌, ◌≡◌, ◌<◌, ◌≤◌, Bool, true, false, nat_lt, Option, Some, None, drop, length}
use Rattle.std.specs.List.{list_any}
use Rattle.zn_base.specs.declared.pattern.Run.{Run}
use Rattle.zn_base.specs.declared.pattern.Run.TheVariants.{ToEnd, ToStar, Differs}
use Rattle.zn_base.specs.Glob.{Star, bracket_end, bracket_size, fits, is_close, parts, stands_for}

-- from a place on a pattern has no `]`, and from each earlier one it has
abbrev pub IsBehindCloses : ℕ → List ℕ → Type 0
IsBehindCloses behind pattern = (k : ℕ) → list_any is_close (drop k pattern) ≡ nat_lt k behind

-- whether a part stands for a byte, and then the place after it, given its first byte, what follows
-- that, and where
abbrev pub PassesPart : ℕ → List ℕ → ℕ → ℕ → ℕ → Option ℕ → Type 0
PassesPart b bytes c place length None = stands_for (bracket_end b bytes) b bytes c ≡ false
PassesPart b bytes c place length (Some behind) =
    (stands_for (bracket_end b bytes) b bytes c ≡ true) × (behind ≡ place + bracket_size (bracket_end b bytes)) × (behind ≤ length)

-- whether what stands in a pattern from a place on fits a path from a place on
unfoldable pub fits_from : List ℕ → ℕ → List ℕ → ℕ → Bool
fits_from pattern at path place = fits (parts (drop at pattern)) (drop place path)

-- the same after a star
unfoldable pub star_fits_from : List ℕ → ℕ → List ℕ → ℕ → Bool
star_fits_from pattern at path place = fits (Star ∷ parts (drop at pattern)) (drop place path)

-- what a run along the parts before the next star says: at a star, what stands there fits as what stood at
-- the start, and so it does after an earlier star
abbrev pub RunTells : List ℕ → ℕ → List ℕ → ℕ → Run → Type 0
RunTells pattern at path place ToEnd = fits_from pattern at path place ≡ true
RunTells pattern at path place Differs = fits_from pattern at path place ≡ false
RunTells pattern at path place (ToStar next left) =
    (at < next) × (next ≤ length pattern) × (place ≤ left) × (left ≤ length path)
    × (fits_from pattern at path place ≡ star_fits_from pattern next path left)
    × (star_fits_from pattern at path place ≡ star_fits_from pattern next path left)
