-- The edits of one resource, as its user sees them.
use Rattle.std.proofs.Common.{◌≡◌, ◌∙◌, ℕ, Bool, true, false, List, Option, Some, None, length, refl, ap, sym, arith, nat_lt}
use Rattle.std.specs.Prelude.{position, slice_get}
use Rattle.std.specs.List.{position_or_len}
use Rattle.std.specs.Str.{bytes_eq}
use Rattle.std.proofs.lemmas.Bool.Decides.{nat_tests}
use Rattle.std.proofs.lemmas.List.Folds.{find_at}
use Rattle.std.proofs.lemmas.Option.{slice_get_within}
use Rattle.config_terms.specs.declared.fields.Field.{Field}
use Rattle.config_terms.specs.declared.fields.Named.TheVariants.{One, Many}
use Rattle.config_terms.specs.declared.terms.Kind.{Kind}
use Rattle.config_terms.specs.declared.terms.Resource.{Resource}
use Rattle.config_terms.specs.Edits.{with_field}
use Rattle.config_terms.specs.Fields.{field_name, field_named, fields_of, is_name_of_list, kind_of, list_name, named, simple_or_list}
use Rattle.config_terms.specs.Settable.{ShowsText}
use Rattle.config_terms.proofs.By_kind.{puts_at}

-- a test holds first where its search comes to an end
first_at : {A : Type 0} (p : A → Bool) (xs : List A) (x : A) → slice_get xs (position_or_len p xs) ≡ Some x → position p xs ≡ Some (position_or_len p xs)
first_at p xs x h =
    let inside = slice_get_within xs (position_or_len p xs) x h in
    let within : nat_lt (position_or_len p xs) (length xs) ≡ true = grind (arith, nat_tests) in
    rw within refl

-- the text of a property that is put shows in its place of the table
pub text_shows : (r : Resource) (name text : List ℕ) (f : Field) → field_named (kind_of r) name ≡ Some f → ShowsText name text r (with_field f text r)
text_shows r name text f h =
    let test : Field → Bool = λ g. bytes_eq name (field_name g) in
    let fs : List Field = fields_of (kind_of r) in
    let at : slice_get fs (position_or_len test fs) ≡ Some f = sym (find_at test fs) ∙ h in
    let puts = puts_at r text (position_or_len test fs) f at in
    record { place = position_or_len test fs; there = first_at test fs f at; kind = puts.0; texts = puts.1; options = puts.2; values = puts.3 }

-- what a name stands for in a kind's table
is_one : (o : Option Field) (listed : Bool) (f : Field) → simple_or_list o listed ≡ Some (One f) → o ≡ Some f
is_one (Some g) listed f h = cc
is_one None true f h = absurd (cc)
is_one None false f h = absurd (cc)

pub named_one : (k : Kind) (name : List ℕ) (f : Field) → named k name ≡ Some (One f) → field_named k name ≡ Some f
named_one k name f h = is_one (field_named k name) (is_name_of_list (list_name k) name) f h

is_no_list : (o : Option Field) → simple_or_list o false ≡ Some Many → ⊥
is_no_list (Some g) h = absurd (cc)
is_no_list None h = absurd (cc)

-- a kind without a list has no name for one
pub named_no_list : (k : Kind) (name : List ℕ) → list_name k ≡ None → named k name ≡ Some Many → ⊥
named_no_list k name none h =
    is_no_list (field_named k name) (ap (λ o. simple_or_list (field_named k name) (is_name_of_list o name)) (sym none) ∙ h)
