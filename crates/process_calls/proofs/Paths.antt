-- A path has no space.
use Rattle.std.proofs.Common.{◌≡◌, ◌∙◌, ◌+◌, ℕ, true, false, not, ◌&&◌, nat_lt, List, [], ◌∷◌, length, codes, Option, Some, None, Err, refl, sym, ap}
use Rattle.std.specs.Prelude.{◌==◌, bytes_eq, if◌then◌else◌, is_ok}
use Rattle.std.specs.List.{join_with_byte, list_all, slice_split}
use Rattle.std.proofs.lemmas.Bool.{and_parts, eqb-true}
use Rattle.std.proofs.lemmas.List.Splits.{join_with_byte-slice_split}
use Rattle.zn_base.specs.declared.path.PathFault.TheVariants.{NotAbsolute, PathLong}
use Rattle.zn_base.specs.Cuts.{lacks}
use Rattle.zn_base.specs.Path.{first_bad, first_bad_below_root, is_component, is_component_byte, is_path, is_slash, path_from_root, path_unless}
use Rattle.zn_base.proofs.First_byte.{lacks-append, lacks_by}

part_lacks : (part : List ℕ) → is_component part ≡ true → lacks 32 part ≡ true
part_lacks part h =
    let dots = and_parts (list_all is_component_byte part && not (length part == 0) && not (bytes_eq part (codes "."))) _ h in
    let dot = and_parts (list_all is_component_byte part && not (length part == 0)) _ dots.0 in
    lacks_by is_component_byte 32 refl part (and_parts (list_all is_component_byte part) _ dot.0).0

good_part : (place : ℕ) (part : List ℕ) (parts : List (List ℕ)) → first_bad place (part ∷ parts) ≡ None → (is_component part ≡ true) × (first_bad (place + length part + 1) parts ≡ None)
good_part place part parts h =
    elim (is_component part) as (λ v. is_component part ≡ v → (if v then first_bad (place + length part + 1) parts else Some place) ≡ None → (is_component part ≡ true) × (first_bad (place + length part + 1) parts ≡ None)) [
      | true ↦ λ good rest. (good, rest)
      | false ↦ λ bad some. absurd (cc)
    ] refl h

parts_lack : (place : ℕ) (parts : List (List ℕ)) → first_bad place parts ≡ None → lacks 32 (join_with_byte 47 parts) ≡ true
parts_lack place [] h = refl
parts_lack place (part ∷ []) h = part_lacks part (good_part place part [] h).0
parts_lack place (part ∷ next ∷ parts) h =
    let good = good_part place part (next ∷ parts) h in
    lacks-append 32 part (47 ∷ join_with_byte 47 (next ∷ parts)) (part_lacks part good.0) (parts_lack (place + length part + 1) (next ∷ parts) good.1)

none_bad : (bad : Option ℕ) (path : List ℕ) → is_ok (path_unless bad path) ≡ true → bad ≡ None
none_bad None path h = refl
none_bad (Some place) path h = absurd (cc)

below_root_lacks : (bytes : List ℕ) → first_bad_below_root bytes ≡ None → lacks 32 bytes ≡ true
below_root_lacks [] h = refl
below_root_lacks (b ∷ bytes) h = ap (lacks 32) (sym (join_with_byte-slice_split 47 (b ∷ bytes))) ∙ parts_lack 1 (slice_split is_slash (b ∷ bytes)) h

from_root_lacks : (path : List ℕ) → is_ok (path_from_root path) ≡ true → lacks 32 path ≡ true
from_root_lacks [] h = absurd (cc)
from_root_lacks (b ∷ bytes) h =
    elim (is_slash b) as (λ v. is_slash b ≡ v → is_ok (if v then path_unless (first_bad_below_root bytes) (b ∷ bytes) else Err NotAbsolute) ≡ true → lacks 32 (b ∷ bytes) ≡ true) [
      | true ↦ λ slash good.
          let is : b ≡ 47 = eqb-true b 47 slash in
          rw is (below_root_lacks bytes (none_bad (first_bad_below_root bytes) (b ∷ bytes) good))
      | false ↦ λ other bad. absurd (cc)
    ] refl h

pub path_lacks : (path : List ℕ) → is_path path ≡ true → lacks 32 path ≡ true
path_lacks path h =
    elim (nat_lt 1023 (length path)) as (λ v. is_ok (if v then Err PathLong else path_from_root path) ≡ true → lacks 32 path ≡ true) [
      | true ↦ λ long. absurd (cc)
      | false ↦ λ short. from_root_lacks path short
    ] h
