-- The components of paths, and what lies below what.
use Rattle.std.specs.Prelude.{◌≡◌, ℕ, List, [], ◌∷◌, ◌++◌, Bool, true, false, not, ◌&&◌, bytes_eq, drop, length}
use Rattle.std.specs.List.{slice_split}
use Rattle.zn_base.specs.Path.{is_path, is_slash}

-- what stands after each slash; `/` has no component
abbrev pub components : List ℕ → List (List ℕ)
components [] = []
components (b ∷ []) = []
components (b ∷ c ∷ bytes) = slice_split is_slash (c ∷ bytes)

abbrev pub depth : List ℕ → ℕ
depth path = length (components path)

-- whether some components are the first of others
abbrev pub begins : List (List ℕ) → List (List ℕ) → Bool
begins [] parts = true
begins (c ∷ cs) [] = false
begins (c ∷ cs) (d ∷ ds) = bytes_eq c d && begins cs ds

-- whether a path is a directory or lies below it, by whole components
abbrev pub covers : (dir path : List ℕ) → Bool
covers dir path = begins (components dir) (components path)

abbrev pub is_below : (dir path : List ℕ) → Bool
is_below dir path = covers dir path && not (bytes_eq path dir)

-- components, each after a slash
abbrev pub after_slashes : List (List ℕ) → List ℕ
after_slashes [] = []
after_slashes (c ∷ cs) = 47 ∷ (c ++ after_slashes cs)

-- the components of a path that follow those of a directory, each after a slash
abbrev pub rest_below : (dir path : List ℕ) → List ℕ
rest_below dir path = after_slashes (drop (depth dir) (components path))

-- the directory that a path stands in has all of its components but the last
pub record IsParent (path dir : List ℕ) : Type 0 where
  pub path_too : is_path dir ≡ true
  pub last : List ℕ
  pub parts : components path ≡ components dir ++ last ∷ []
