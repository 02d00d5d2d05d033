-- The items of a list with commas.
use Rattle.std.proofs.Common.{◌≡◌, ◌∷◌, ◌||◌, [], ℕ, List, Option, Some, None, codes, false, refl, true}
use Rattle.std.specs.Prelude.{bytes_eq, position}
use Rattle.std.specs.List.{list_any, slice_split}
use Rattle.zn_base.specs.Cuts.{after_byte, before_byte}
use Rattle.zn_base.proofs.Splits.{split_none, split_some}
use Rattle.loopback_mounts.specs.Types.{allow_type, is_comma, is_usual}

-- the items after the first
abbrev pub items_after : Option (List ℕ) → List (List ℕ)
items_after None = []
items_after (Some more) = slice_split is_comma more

pub first_item : (text : List ℕ) → slice_split is_comma text ≡ before_byte 44 text ∷ items_after (after_byte 44 text)
first_item text = at_place (position is_comma text) refl
  where
    at_place : (at : Option ℕ) → position is_comma text ≡ at → slice_split is_comma text ≡ before_byte 44 text ∷ items_after (after_byte 44 text)
    at_place None e = simp (split_none is_comma text e, e)
    at_place (Some i) e = simp ((split_some is_comma text i e).1, e)

-- by a first item that is `-`, and by another
module _ (fstype item : List ℕ) (more items : List (List ℕ)) (is : items ≡ item ∷ more) where
  after_dash : bytes_eq item (codes "-") ≡ true → allow_type items fstype ≡ list_any (bytes_eq fstype) more
  after_dash h = rw is (simp h)

  after_other : bytes_eq item (codes "-") ≡ false → allow_type items fstype ≡ (list_any (bytes_eq fstype) items || is_usual fstype)
  after_other h = rw is (simp h)

pub allow_dash : (text fstype : List ℕ) → bytes_eq (before_byte 44 text) (codes "-") ≡ true
    → allow_type (slice_split is_comma text) fstype ≡ list_any (bytes_eq fstype) (items_after (after_byte 44 text))
allow_dash text fstype h = after_dash fstype (before_byte 44 text) (items_after (after_byte 44 text)) (slice_split is_comma text) (first_item text) h

pub allow_other : (text fstype : List ℕ) → bytes_eq (before_byte 44 text) (codes "-") ≡ false
    → allow_type (slice_split is_comma text) fstype ≡ (list_any (bytes_eq fstype) (slice_split is_comma text) || is_usual fstype)
allow_other text fstype h = after_other fstype (before_byte 44 text) (items_after (after_byte 44 text)) (slice_split is_comma text) (first_item text) h
