-- The first thing of a zone in a flat list, and what takes its place.
use Rattle.std.specs.Prelude.{ℕ, List, Option, Some, None, Bool, true, false, bytes_eq, ◌∷◌, [], if◌then◌else◌}
use Rattle.zone_pools.specs.declared.owned.Owned.{Owned}
use Rattle.zone_pools.specs.Owned_lists.{tag}

abbrev pub is_nil : {A : Type 0} → List A → Bool
is_nil [] = true
is_nil (x ∷ xs) = false

abbrev pub first_of : {A : Type 0} → List A → Option A
first_of [] = None
first_of (x ∷ xs) = Some x

-- a in the place of the first thing of z, or at the end where there is none
abbrev pub placed : {A : Type 0} → List ℕ → A → List (Owned A) → List (Owned A)
placed z a [] = tag z a ∷ []
placed z a (o ∷ os) = if bytes_eq z o.zone then tag z a ∷ os else o ∷ placed z a os
