-- What edits make of a resource, as the user of a property sees it.
use Rattle.std.proofs.Common.{◌≡◌, ◌∙◌, ℕ, Bool, true, false, cond, List, [], ◌∷◌, Option, Some, None, Ok, Err, refl, ap, arith}
use Rattle.std.specs.Prelude.{◌==◌, ◌&&◌, ok_or}
use Rattle.std.specs.Str.{bytes_eq}
use mathlib.Core.Bool.{beq}
use Rattle.std.proofs.lemmas.Slice.Eq.{bytes_eq-Decides}
use Rattle.std.proofs.lemmas.Bool.Decides.{nat_tests}
use Rattle.zn_base.specs.declared.values.Value.{Value}
use Rattle.zn_base.specs.declared.values.Value.TheVariants.{Simple as Text, Complex, List as Items}
use Rattle.config_terms.specs.declared.fault.ConfigFault.TheVariants.{BadValue, NoMatch, TooMany, UnknownProperty}
use Rattle.config_terms.specs.declared.fields.Named.{Named}
use Rattle.config_terms.specs.declared.fields.Named.TheVariants.{One, Many}
use Rattle.config_terms.specs.declared.lists.ListEdit.{ListEdit}
use Rattle.config_terms.specs.declared.lists.ListEdit.TheVariants.{Put, Add, Remove}
use Rattle.config_terms.specs.declared.terms.Fs as fs
use Rattle.config_terms.specs.declared.terms.Limit.{Limit}
use Rattle.config_terms.specs.declared.terms.Rctl as rctl
use Rattle.config_terms.specs.declared.terms.Resource.{Resource}
use Rattle.config_terms.specs.declared.terms.Resource.TheVariants.{Fs, Rctl}
use Rattle.config_terms.specs.Edits.{and_then, cleared_in, edited, edited_in, limit_given, list_edited, options_edited, options_given, passes_options, put_in, same_limit, with_field, with_property, with_value, without_each, without_property, without_value}
use Rattle.config_terms.specs.Fields.{field_rule, kind_of, named}
use Rattle.config_terms.specs.Rules.{obeys}
use Rattle.config_terms.specs.Settable.{Comes, IsCleared, MayRefuseEdit, MayRefuseList, MayRefuseSet, ResourcesAreEdited, Shows, ShowsEdit, ShowsList}
use Rattle.config_terms.proofs.Lists_edited.{lacks, taken_out}
use Rattle.config_terms.proofs.Settables.{named_no_list, named_one, text_shows}

same_text : (a b : List ℕ) → bytes_eq a b ≡ true → a ≡ b
same_text a b h = (bytes_eq-Decides a b).0 h

own_text : (a : List ℕ) → bytes_eq a a ≡ true
own_text a = (bytes_eq-Decides a a).1 refl

both_true : (a b : Bool) → (a && b) ≡ true → (a ≡ true) × (b ≡ true)
both_true true b h = (refl, h)
both_true false b h = absurd (cc)

same_bool : (a b : Bool) → beq a b ≡ true → a ≡ b
same_bool true true h = refl
same_bool false false h = refl
same_bool true false h = absurd (cc)
same_bool false true h = absurd (cc)

own_bool : (a : Bool) → beq a a ≡ true
own_bool true = refl
own_bool false = refl

same_value : (v w : Limit) → same_limit v w ≡ true → v ≡ w
same_value v w h =
    let parts = both_true (v.limit == w.limit) (beq v.deny w.deny) h in
    let limits : v.limit ≡ w.limit = grind (arith, nat_tests) in
    ap (λ n. record { limit = n; deny = v.deny }) limits ∙ ap (λ b. record { limit = w.limit; deny = b }) (same_bool v.deny w.deny parts.1)

own_value : (v : Limit) → same_limit v v ≡ true
own_value v = let number : (v.limit == v.limit) ≡ true = grind (arith, nat_tests) in rw (number, own_bool v.deny) refl

-- the options of a file system
options_removed : (v : Value) (x : fs.Fs) (given : List (List ℕ)) → options_given Remove v ≡ Some given → (o : Option (List (List ℕ))) → without_each bytes_eq given x.options ≡ o
    → Comes (ShowsList Remove v (Fs x)) (MayRefuseList Remove v (Fs x)) (and_then (and_then (ok_or o NoMatch) (λ os. Ok (record x { options = os }))) (λ f. Ok (Fs f)))
options_removed v x given gives None e = record { given = given; gives = gives; lacks = lacks bytes_eq same_text own_text given x.options e }
options_removed v x given gives (Some os) e =
    record { given = given; gives = gives; listed = taken_out bytes_eq same_text given x.options os e; few = λ h. absurd (cc); kind = refl; texts = refl }

options_left : (edit : ListEdit) (v : Value) (x : fs.Fs) (given : List (List ℕ)) → options_given edit v ≡ Some given → passes_options edit given x.options ≡ false
    → Comes (ShowsList edit v (Fs x)) (MayRefuseList edit v (Fs x)) (and_then (and_then (edited bytes_eq edit given x.options) (λ os. Ok (record x { options = os }))) (λ f. Ok (Fs f)))
options_left Put v x given gives few = record { given = given; gives = gives; listed = refl; few = λ _. grind (arith, nat_tests); kind = refl; texts = refl }
options_left Add v x given gives few = record { given = given; gives = gives; listed = refl; few = λ _. grind (arith, nat_tests); kind = refl; texts = refl }
options_left Remove v x given gives few = options_removed v x given gives (without_each bytes_eq given x.options) refl

options_by : (edit : ListEdit) (v : Value) (x : fs.Fs) (o : Option (List (List ℕ))) → options_given edit v ≡ o
    → Comes (ShowsList edit v (Fs x)) (MayRefuseList edit v (Fs x))
    (and_then (and_then (ok_or o BadValue) (λ given. and_then (options_edited edit given x.options) (λ os. Ok (record x { options = os })))) (λ f. Ok (Fs f)))
unfolding options_edited
options_by edit v x None gives = gives
options_by edit v x (Some given) gives =
    elim (passes_options edit given x.options) as (λ b. passes_options edit given x.options ≡ b
    → Comes (ShowsList edit v (Fs x)) (MayRefuseList edit v (Fs x))
    (and_then (and_then (cond b (Err (TooMany 32)) (edited bytes_eq edit given x.options)) (λ os. Ok (record x { options = os }))) (λ f. Ok (Fs f)))) [
      | true ↦ λ e. record { given = given; gives = gives; told = refl; many = e }
      | false ↦ λ e. options_left edit v x given gives e
    ] refl

-- the values of an rctl
value_removed : (v : Value) (x : rctl.Rctl) (given : Limit) → limit_given v ≡ Some given → (o : Option (List Limit)) → without_each same_limit (given ∷ []) x.values ≡ o
    → Comes (ShowsList Remove v (Rctl x)) (MayRefuseList Remove v (Rctl x)) (and_then (and_then (ok_or o NoMatch) (λ vs. Ok (record x { values = vs }))) (λ r. Ok (Rctl r)))
value_removed v x given gives None e = record { given = given; gives = gives; lacks = lacks same_limit same_value own_value (given ∷ []) x.values e }
value_removed v x given gives (Some vs) e =
    record { given = given; gives = gives; listed = taken_out same_limit same_value (given ∷ []) x.values vs e; kind = refl; texts = refl }

values_by : (edit : ListEdit) (v : Value) (x : rctl.Rctl) (o : Option Limit) → limit_given v ≡ o
    → Comes (ShowsList edit v (Rctl x)) (MayRefuseList edit v (Rctl x))
    (and_then (and_then (ok_or o BadValue) (λ given. and_then (edited same_limit edit (given ∷ []) x.values) (λ vs. Ok (record x { values = vs })))) (λ r. Ok (Rctl r)))
values_by edit v x None gives = gives
values_by Put v x (Some given) gives = record { given = given; gives = gives; listed = refl; kind = refl; texts = refl }
values_by Add v x (Some given) gives = record { given = given; gives = gives; listed = refl; kind = refl; texts = refl }
values_by Remove v x (Some given) gives = value_removed v x given gives (without_each same_limit (given ∷ []) x.values) refl

list_by : (edit : ListEdit) (v : Value) (old : Resource) (name : List ℕ) → named (kind_of old) name ≡ Some Many
    → Comes (ShowsList edit v old) (MayRefuseList edit v old) (list_edited edit v old)
unfolding list_edited
list_by edit v (Fs x) name h = options_by edit v x (options_given edit v) refl
list_by edit v (Rctl x) name h = values_by edit v x (limit_given v) refl
list_by edit v old name h = absurd (named_no_list (kind_of old) name refl h)

set_by : (n : Option Named) (name : List ℕ) (v : Value) (old : Resource) → named (kind_of old) name ≡ n
    → Comes (Shows n name v old) (MayRefuseSet n v old) (put_in n v old)
set_by None name v old h = tt
set_by (Some Many) name v old h = list_by Put v old name h
set_by (Some (One f)) name (Complex pairs) old h = refl
set_by (Some (One f)) name (Items texts) old h = refl
set_by (Some (One f)) name (Text text) old h =
    elim (obeys (field_rule f) text) as (λ b. obeys (field_rule f) text ≡ b
    → Comes (Shows (Some (One f)) name (Text text) old) (MayRefuseSet (Some (One f)) (Text text) old) (cond b (Ok (with_field f text old)) (Err BadValue))) [
      | true ↦ λ e. (e, text_shows old name text f (named_one (kind_of old) name f h))
      | false ↦ λ e. e
    ] refl

cleared_by : (n : Option Named) (name : List ℕ) (old : Resource) → named (kind_of old) name ≡ n
    → Comes (IsCleared n name old) (λ fault. (n ≡ None) × (fault ≡ UnknownProperty)) (cleared_in n old)
cleared_by None name old h = (refl, refl)
cleared_by (Some (One f)) name old h = text_shows old name [] f (named_one (kind_of old) name f h)
cleared_by (Some Many) name (Fs x) h = (refl, refl, refl, refl)
cleared_by (Some Many) name (Rctl x) h = (refl, refl, refl, refl)
cleared_by (Some Many) name old h = (refl, refl, refl, refl)

edited_by : (n : Option Named) (edit : ListEdit) (name : List ℕ) (v : Value) (old : Resource) → named (kind_of old) name ≡ n
    → Comes (ShowsEdit n edit v old) (MayRefuseEdit n edit v old) (edited_in n edit v old)
edited_by None edit name v old h = tt
edited_by (Some (One f)) edit name v old h = tt
edited_by (Some Many) edit name v old h = list_by edit v old name h

pub all_edits : ResourcesAreEdited
unfolding with_property without_property with_value without_value
all_edits = record {
  set = λ name v old. set_by (named (kind_of old) name) name v old refl;
  cleared = λ name old. cleared_by (named (kind_of old) name) name old refl;
  added = λ name v old. edited_by (named (kind_of old) name) Add name v old refl;
  removed = λ name v old. edited_by (named (kind_of old) name) Remove name v old refl;
}
