-- Which types of file systems a zone may mount, by fs-allowed of zonecfg(8).
use Rattle.std.specs.Prelude.{ℕ, List, [], ◌∷◌, Bool, ◌||◌, ◌==◌, Option, None, Some, bytes_eq, codes, if◌then◌else◌}
use Rattle.std.specs.List.{list_any, slice_split}

abbrev pub is_comma : ℕ → Bool
is_comma b = b == 44

-- what a zone may mount that says nothing of it
abbrev pub is_usual : List ℕ → Bool
is_usual fstype = bytes_eq fstype (codes "hsfs") || bytes_eq fstype (codes "nfs") || bytes_eq fstype (codes "smbfs")

-- by the items of fs-allowed: a first item `-` takes away what is usual
abbrev pub allow_type : (items : List (List ℕ)) → List ℕ → Bool
allow_type [] fstype = is_usual fstype
allow_type (item ∷ items) fstype =
    if bytes_eq item (codes "-") then list_any (bytes_eq fstype) items
    else list_any (bytes_eq fstype) (item ∷ items) || is_usual fstype

abbrev pub allowed_items : Option (List ℕ) → List (List ℕ)
allowed_items None = []
allowed_items (Some text) = slice_split is_comma text

-- lofs(4FS) needs no leave
abbrev pub may_mount_type : (allowed : Option (List ℕ)) → List ℕ → Bool
may_mount_type allowed fstype = bytes_eq fstype (codes "lofs") || allow_type (allowed_items allowed) fstype
