-- Absolute paths: `/`, or components, each after one `/`.
use Rattle.std.specs.Prelude.{ℕ, List, [], ◌∷◌, ◌+◌, length, Bool, nat_le, nat_lt, not, ◌&&◌, ◌==◌, Option, Some, None, Result, Ok, Err, is_ok, codes, if◌then◌else◌}
use Rattle.std.specs.List.{list_all, slice_split}
use Rattle.std.specs.Str.{bytes_eq}
use Rattle.zn_base.specs.declared.path.PathFault.{PathFault}
use Rattle.zn_base.specs.declared.path.PathFault.TheVariants.{PathLong, NotAbsolute, BadComponent}

abbrev pub is_slash : ℕ → Bool
is_slash b = b == 47

-- printable, no space and no quote
abbrev pub is_component_byte : ℕ → Bool
is_component_byte b = nat_le 33 b && nat_le b 126 && not (b == 34)

-- not empty, not `.` and not `..`
abbrev pub is_component : List ℕ → Bool
is_component part =
    list_all is_component_byte part && not (length part == 0) && not (bytes_eq part (codes ".")) && not (bytes_eq part (codes ".."))

-- where the first bad one of some components begins, the first of which begins at a place
abbrev pub first_bad : ℕ → List (List ℕ) → Option ℕ
first_bad place [] = None
first_bad place (part ∷ parts) =
    if is_component part then first_bad (place + length part + 1) parts else Some place

-- after the leading slash there is nothing, or there are components
abbrev pub first_bad_below_root : List ℕ → Option ℕ
first_bad_below_root [] = None
first_bad_below_root (b ∷ bytes) = first_bad 1 (slice_split is_slash (b ∷ bytes))

abbrev pub path_unless : Option ℕ → List ℕ → Result (List ℕ) PathFault
path_unless (Some place) bytes = Err (BadComponent place)
path_unless None bytes = Ok bytes

abbrev pub path_from_root : List ℕ → Result (List ℕ) PathFault
path_from_root [] = Err NotAbsolute
path_from_root (b ∷ bytes) =
    if is_slash b then path_unless (first_bad_below_root bytes) (b ∷ bytes) else Err NotAbsolute

-- the path that the bytes are, or why they are none
abbrev pub path_of : List ℕ → Result (List ℕ) PathFault
path_of bytes = if nat_lt 1023 (length bytes) then Err PathLong else path_from_root bytes

abbrev pub is_path : List ℕ → Bool
is_path bytes = is_ok (path_of bytes)
