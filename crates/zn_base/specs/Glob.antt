-- Patterns of paths: `*` stands for any bytes but `/`, `?` for one byte but `/`, a bracket for one byte that
-- it lists, or after a first `!` for one that it doesn't list, and every other byte for itself.
use Rattle.std.specs.Prelude.{ℕ, zero, suc, List, [], ◌∷◌, ◌+◌, Bool, true, false, nat_le, not, ◌&&◌, ◌||◌, ◌==◌, Option, Some, None, position, take, if◌then◌else◌}
use Rattle.std.specs.List.{list_any}
use Rattle.zn_base.specs.Path.{is_slash}

-- a part of a pattern: a star, or what stands for one byte
pub data Part : Type 0 where
  Star : Part
  One : (ℕ → Bool) → Part

-- what a bracket lists, from left to right: `X-Y` the bytes from X to Y, every other byte itself
abbrev pub is_listed : List ℕ → ℕ → Bool
is_listed [] c = false
is_listed (x ∷ []) c = c == x
is_listed (x ∷ m ∷ []) c = c == x || c == m
is_listed (x ∷ m ∷ y ∷ items) c =
    if m == 45 then (nat_le x c && nat_le c y) || is_listed items c else c == x || is_listed (m ∷ y ∷ items) c

-- after a first `!` a bracket stands for what it doesn't list
abbrev pub is_chosen : List ℕ → ℕ → Bool
is_chosen [] c = false
is_chosen (x ∷ items) c = if x == 33 then not (is_listed items c) else is_listed (x ∷ items) c

abbrev pub is_close : ℕ → Bool
is_close b = b == 93

-- where the bracket ends that a byte begins: at the next `]` after a `[`, and without one there is none
abbrev pub bracket_end : ℕ → List ℕ → Option ℕ
bracket_end b bytes = if b == 91 then position is_close bytes else None

-- what a byte other than a star, with what follows it, stands for
abbrev pub stands_for : Option ℕ → ℕ → List ℕ → ℕ → Bool
stands_for (Some end) b bytes c = not (is_slash c) && is_chosen (take end bytes) c
stands_for None b bytes c = if b == 63 then not (is_slash c) else c == b

-- how many bytes after the `[` belong to a bracket
abbrev pub bracket_size : Option ℕ → ℕ
bracket_size (Some end) = end + 1
bracket_size None = 0

-- the parts of a pattern after its first bytes, so many
abbrev pub parts_behind : ℕ → List ℕ → List Part
parts_behind n [] = []
parts_behind (suc n) (b ∷ bytes) = parts_behind n bytes
parts_behind zero (b ∷ bytes) =
    if b == 42 then Star ∷ parts_behind 0 bytes
    else One (stands_for (bracket_end b bytes) b bytes) ∷ parts_behind (bracket_size (bracket_end b bytes)) bytes

abbrev pub parts : List ℕ → List Part
parts pattern = parts_behind 0 pattern

-- what is left of a path after each of its fronts without a slash
abbrev pub rests : List ℕ → List (List ℕ)
rests [] = [] ∷ []
rests (c ∷ path) = (c ∷ path) ∷ (if is_slash c then [] else rests path)

-- whether parts fit a path: a star some front without a slash, every other part one byte
abbrev pub fits : List Part → List ℕ → Bool
fits [] [] = true
fits [] (c ∷ path) = false
fits (Star ∷ ps) path = list_any (fits ps) (rests path)
fits (One stands ∷ ps) [] = false
fits (One stands ∷ ps) (c ∷ path) = stands c && fits ps path

-- whether a pattern fits a whole path
unfoldable pub glob : List ℕ → List ℕ → Bool
glob pattern path = fits (parts pattern) path
