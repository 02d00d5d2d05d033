-- A flat list of tagged items: what an event of one zone may do with it, and what the zone sees of it.
use Rattle.std.specs.Prelude.{ℕ, List, Option, Some, None, Bool, not, filter, map, bytes_eq, ◌&&◌, ◌++◌, ◌∷◌, [], if◌then◌else◌}
use Rattle.std.specs.List.{filter_map, list_any}
use Rattle.zone_pools.specs.declared.owned.Owned.{Owned}

abbrev pub own : {A : Type 0} → List ℕ → Owned A → Option A
own z o = if bytes_eq z o.zone then Some o.it else None

-- what is z's, in order
abbrev pub mine : {A : Type 0} → List ℕ → List (Owned A) → List A
mine z os = filter_map (own z) os

-- a change of one zone's list: items go, the last one goes, one comes at the end, one comes before those of the zone that do
-- not stand before it, each becomes another, all are these
pub data List_edit (A : Type 0) : Type 0 where
  Go : (A → Bool) → List_edit A
  Last_goes : List_edit A
  Come : A → List_edit A
  Put : (before : A → Bool) → A → List_edit A
  Change : (A → A) → List_edit A
  Become : List A → List_edit A

-- a list without its last item
abbrev pub but_last : {A : Type 0} → List A → List A
but_last [] = []
but_last (x ∷ []) = []
but_last (x ∷ y ∷ xs) = x ∷ but_last (y ∷ xs)

-- a goes before the first item that does not stand before it
abbrev pub put : {A : Type 0} → (A → Bool) → A → List A → List A
put before a [] = a ∷ []
put before a (x ∷ xs) = if before x then x ∷ put before a xs else a ∷ x ∷ xs

-- on the zone's own list
abbrev pub edited : {A : Type 0} → List_edit A → List A → List A
edited (Go p) xs = filter (λ x. not (p x)) xs
edited Last_goes xs = but_last xs
edited (Come a) xs = xs ++ a ∷ []
edited (Put before a) xs = put before a xs
edited (Change f) xs = map f xs
edited (Become ys) xs = ys

abbrev pub tag : {A : Type 0} → List ℕ → A → Owned A
tag z a = record { zone = z; it = a }

-- a goes before the first item of z that does not stand before it
abbrev pub put_tagged : {A : Type 0} → List ℕ → (A → Bool) → A → List (Owned A) → List (Owned A)
put_tagged z before a [] = tag z a ∷ []
put_tagged z before a (o ∷ os) = if bytes_eq z o.zone && not (before o.it) then tag z a ∷ o ∷ os else o ∷ put_tagged z before a os

-- whether nothing is z's
abbrev pub has_none : {A : Type 0} → List ℕ → List (Owned A) → Bool
has_none z os = not (list_any (λ o. bytes_eq z o.zone) os)

-- without the last that is z's
abbrev pub but_last_tagged : {A : Type 0} → List ℕ → List (Owned A) → List (Owned A)
but_last_tagged z [] = []
but_last_tagged z (o ∷ os) = if bytes_eq z o.zone && has_none z os then os else o ∷ but_last_tagged z os

-- f of what is z's, where it stands
abbrev pub changed : {A : Type 0} → List ℕ → (A → A) → Owned A → Owned A
changed z f o = if bytes_eq z o.zone then record o { it = f o.it } else o

-- on the flat list
abbrev pub edit_list : {A : Type 0} → List ℕ → List_edit A → List (Owned A) → List (Owned A)
edit_list z (Go p) os = filter (λ o. not (bytes_eq z o.zone && p o.it)) os
edit_list z Last_goes os = but_last_tagged z os
edit_list z (Come a) os = os ++ tag z a ∷ []
edit_list z (Put before a) os = put_tagged z before a os
edit_list z (Change f) os = map (changed z f) os
edit_list z (Become ys) os = filter (λ o. not (bytes_eq z o.zone)) os ++ map (tag z) ys
