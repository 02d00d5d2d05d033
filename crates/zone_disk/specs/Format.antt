-- The fronts of disks that formatting tells apart.
use Rattle.std.specs.Prelude.{◌≢◌, ℕ, ◌≤◌, List, length, get_or}
use Rattle.zone_disk.specs.declared.format.Kind.{Kind}
use Rattle.zone_disk.specs.declared.format.Kind.TheVariants.{Blank, Headless, Formatted}
use Rattle.zone_disk.specs.Image.{IsUnformatted}

-- a head gate that is there and closed, and at most 17 bytes
abbrev pub IsHeadless : List ℕ → Type 0
IsHeadless image = (get_or image 0 1 ≢ 1) × (length image ≤ 17)

-- what the front of a disk says
abbrev pub IsKind : Kind → List ℕ → Type 0
IsKind Blank image = length image ≤ 1
IsKind Headless image = IsHeadless image
IsKind Formatted image = IsUnformatted image → ⊥
