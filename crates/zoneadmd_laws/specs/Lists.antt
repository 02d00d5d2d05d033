-- Lists in reverse, and without an item twice.
use Rattle.std.specs.Prelude.{List, [], ◌∷◌, Bool, true, not, ◌&&◌}
use Rattle.std.specs.List.{list_any}

-- the items of a list, the last first, before others
abbrev pub onto : {A : Type 0} → List A → List A → List A
onto [] done = done
onto (x ∷ xs) done = onto xs (x ∷ done)

-- whether a list has no item twice
abbrev pub all_differ : {A : Type 0} → (A → A → Bool) → List A → Bool
all_differ eq [] = true
all_differ eq (x ∷ xs) = not (list_any (eq x) xs) && all_differ eq xs
