-- An edit leaves an allowed resource allowed.
use Rattle.std.proofs.Common.{◌≡◌, inl, inr, ℕ, zero, suc, codes, Bool, true, false, cond, ◌&&◌, List, [], ◌∷◌, ◌++◌, Option, Some, None, Result, Ok, Err, IsTrue, refl, subst, sym}
use Rattle.std.specs.Prelude.{map, position, remove, option_map, option_and_then, ok_or, slice_get, slice_set}
use Rattle.std.proofs.lemmas.List.Folds.{list_all-append}
use Rattle.std.specs.List.{list_all}
use Rattle.std.specs.Char.{is_ascii_digit}
use Rattle.std.specs.Str.{bytes_eq}
use Rattle.zn_base.specs.declared.values.Pair.{Pair}
use Rattle.zn_base.specs.declared.values.Value.{Value}
use Rattle.zn_base.specs.declared.values.Value.TheVariants.{Simple as Text, Complex, List as Items}
use Rattle.config_terms.specs.declared.fault.ConfigFault.{ConfigFault}
use Rattle.config_terms.specs.declared.fault.ConfigFault.TheVariants.{BadValue, NoMatch, TooMany}
use Rattle.config_terms.specs.declared.fields.Field.{Field}
use Rattle.config_terms.specs.declared.fields.Named.{Named}
use Rattle.config_terms.specs.declared.fields.Named.TheVariants.{One, Many}
use Rattle.config_terms.specs.declared.lists.ListEdit.{ListEdit}
use Rattle.config_terms.specs.declared.lists.ListEdit.TheVariants.{Put, Add, Remove}
use Rattle.config_terms.specs.declared.rules.Rule.TheVariants.{OptionWord}
use Rattle.config_terms.specs.declared.terms.Fs as fs
use Rattle.config_terms.specs.declared.terms.Limit.{Limit}
use Rattle.config_terms.specs.declared.terms.Rctl as rctl
use Rattle.config_terms.specs.declared.terms.Kind.{Kind}
use Rattle.config_terms.specs.declared.terms.Kind.TheVariants as kind
use Rattle.config_terms.specs.declared.terms.Resource.{Resource}
use Rattle.config_terms.specs.declared.terms.Resource.TheVariants.{Fs, Rctl}
use Rattle.config_terms.specs.Numbers.{is_limit, number_of}
use Rattle.zn_base.specs.Decimals.{decimal_of, digits_value, has_no_leading_zero, is_decimal}
use Rattle.config_terms.specs.Rules.{obeys, fits}
use Rattle.config_terms.specs.Fields.{field_rule, fields_of, fs_shown, kind_of, named, rctl_shown, resource_options, resource_shown, resource_values}
use Rattle.config_terms.specs.Allowed.{is_allowed_limit, is_kept_path, is_whole, fields_fit, entry_allowed, is_allowed}
use Rattle.config_terms.specs.Edits.{with_field, field_set, option_texts, options_given, are_limit_pairs, limit_of_pairs, limit_given, without_first, without_each, edited, passes_options, options_edited, same_limit, and_then, fs_edited, rctl_edited, list_edited, without_list, put_in, with_property, cleared_in, without_property, edited_in, with_value, without_value}
use Rattle.config_terms.specs.Staying.{IsEdited}
use Rattle.config_terms.proofs.By_kind.{placed, puts_at}
use Rattle.config_terms.proofs.Paths.{obeyed_fits}

first_true : (a b : Bool) → (a && b) ≡ true → a ≡ true
first_true true b h = refl
first_true false b h = h

rest_true : (a b : Bool) → (a && b) ≡ true → b ≡ true
rest_true true b h = h
rest_true false b h = absurd (cc)

both_true : (a b : Bool) → a ≡ true → b ≡ true → (a && b) ≡ true
both_true true b h g = g
both_true false b h g = h

three : (a b c : Bool) → ((a && b) && c) ≡ true → (a ≡ true) × (b ≡ true) × (c ≡ true)
three true true true h = (refl, refl, refl)
three _ _ _ h = absurd (cc)

-- the parts of what an entry may hold
record Parts (fit listed limited : Bool) : Type 0 where
  fields : fit ≡ true
  options : listed ≡ true
  values : limited ≡ true

parts : (k : Kind) (shown : Field → List ℕ) (os : List (List ℕ)) (vs : List Limit) → entry_allowed k shown os vs ≡ true
    → Parts (fields_fit k shown) (list_all (obeys OptionWord) os) (list_all is_allowed_limit vs)
unfolding entry_allowed
parts k shown os vs h =
    let all = three (fields_fit k shown) (list_all (obeys OptionWord) os) (list_all is_allowed_limit vs) h in
    record { fields = all.0; options = all.1; values = all.2 }

whole : (k : Kind) (shown : Field → List ℕ) (os : List (List ℕ)) (vs : List Limit) → fields_fit k shown ≡ true → list_all (obeys OptionWord) os ≡ true
    → list_all is_allowed_limit vs ≡ true → entry_allowed k shown os vs ≡ true
unfolding entry_allowed
whole k shown os vs f o v = rw (f, o, v) refl

-- whether a property is unset or obeys its rule, by what it shows
abbrev does_fit : (Field → List ℕ) → Field → Bool
does_fit shown f = fits (field_rule f) (shown f)

-- properties that show the same texts
all_fit : (fs : List Field) (old new : Field → List ℕ) → map new fs ≡ map old fs → list_all (does_fit old) fs ≡ true → list_all (does_fit new) fs ≡ true
all_fit [] old new texts h = refl
all_fit (f ∷ fs) old new texts h =
    let own : new f ≡ old f = cc in
    let others : map new fs ≡ map old fs = cc in
    both_true (does_fit new f) (list_all (does_fit new) fs) (rw own (first_true (does_fit old f) (list_all (does_fit old) fs) h))
    (all_fit fs old new others (rest_true (does_fit old f) (list_all (does_fit old) fs) h))

-- properties of which one shows another text, that fits
one_fits : (fs : List Field) (old new : Field → List ℕ) (place : ℕ) (x : Field) (t : List ℕ) → slice_get fs place ≡ Some x → map new fs ≡ slice_set (map old fs) place t
    → fits (field_rule x) t ≡ true → list_all (does_fit old) fs ≡ true → list_all (does_fit new) fs ≡ true
one_fits [] old new place x t at texts g h = refl
one_fits (f ∷ fs) old new zero x t at texts g h =
    let same : f ≡ x = cc in
    let own : new f ≡ t = cc in
    let others : map new fs ≡ map old fs = cc in
    both_true (does_fit new f) (list_all (does_fit new) fs) (rw (own, same) g) (all_fit fs old new others (rest_true (does_fit old f) (list_all (does_fit old) fs) h))
one_fits (f ∷ fs) old new (suc place) x t at texts g h =
    let own : new f ≡ old f = cc in
    let others : map new fs ≡ slice_set (map old fs) place t = cc in
    both_true (does_fit new f) (list_all (does_fit new) fs) (rw own (first_true (does_fit old f) (list_all (does_fit old) fs) h))
    (one_fits fs old new place x t at others g (rest_true (does_fit old f) (list_all (does_fit old) fs) h))

-- an entry of which one property shows another text, that fits
entry_stays : (j k : Kind) (old new : Field → List ℕ) (os ps : List (List ℕ)) (vs ws : List Limit) (place : ℕ) (x : Field) (t : List ℕ) → k ≡ j
    → map new (fields_of k) ≡ slice_set (map old (fields_of j)) place t → ps ≡ os → ws ≡ vs → slice_get (fields_of j) place ≡ Some x → fits (field_rule x) t ≡ true
    → entry_allowed j old os vs ≡ true → entry_allowed k new ps ws ≡ true
unfolding fields_fit
entry_stays j k old new os ps vs ws place x t same texts options values at g h =
    let p = parts j old os vs h in
    let texts : map new (fields_of j) ≡ slice_set (map old (fields_of j)) place t = rw same at texts in
    rw (same, options, values) (whole j new os vs (one_fits (fields_of j) old new place x t at texts g p.fields) p.options p.values)

-- a text that fits, in the place of a property of an allowed resource
field_stays : (x : Field) (t : List ℕ) (r : Resource) → fits (field_rule x) t ≡ true → is_allowed r ≡ true → is_allowed (with_field x t r) ≡ true
field_stays x t r g h =
    let rest = entry_allowed (kind_of r) (resource_shown r) (resource_options r) (resource_values r) in
    let new = with_field x t r in
    elim (placed r x) [
      | inl at ↦
          let puts = puts_at r t at.0 x at.1 in
          both_true (is_whole new) (entry_allowed (kind_of new) (resource_shown new) (resource_options new) (resource_values new))
          (puts.4 (first_true (is_whole r) rest h))
          (entry_stays (kind_of r) (kind_of new) (resource_shown r) (resource_shown new) (resource_options r) (resource_options new) (resource_values r) (resource_values new)
          at.0 x t puts.0 puts.1 puts.2 puts.3 at.1 g (rest_true (is_whole r) rest h))
      | inr same ↦ let P : Resource → Type 0 = λ k. is_allowed k ≡ true in subst P (sym (same t)) h
    ]

options_stay : (f : fs.Fs) (os : List (List ℕ)) → list_all (obeys OptionWord) os ≡ true → is_allowed (Fs f) ≡ true → is_allowed (Fs (record f { options = os })) ≡ true
options_stay f os g h =
    let p = parts kind.Fs (fs_shown f) f.options [] (rest_true (is_kept_path f.dir) (entry_allowed kind.Fs (fs_shown f) f.options []) h) in
    both_true (is_kept_path f.dir) (entry_allowed kind.Fs (fs_shown f) os [])
    (first_true (is_kept_path f.dir) (entry_allowed kind.Fs (fs_shown f) f.options []) h) (whole kind.Fs (fs_shown f) os [] p.fields g refl)

values_stay : (r : rctl.Rctl) (vs : List Limit) → list_all is_allowed_limit vs ≡ true → is_allowed (Rctl r) ≡ true → is_allowed (Rctl (record r { values = vs })) ≡ true
values_stay r vs g h = whole kind.Rctl (rctl_shown r) [] vs (parts kind.Rctl (rctl_shown r) [] r.values h).fields refl g

-- what stays of all items of a list, over each edit
all_remove : {A : Type 0} (p : A → Bool) (xs : List A) (i : ℕ) → list_all p xs ≡ true → list_all p (remove xs i) ≡ true
all_remove p [] zero h = refl
all_remove p [] (suc i) h = refl
all_remove p (x ∷ xs) zero h = rest_true (p x) (list_all p xs) h
all_remove p (x ∷ xs) (suc i) h = both_true (p x) (list_all p (remove xs i)) (first_true (p x) (list_all p xs) h) (all_remove p xs i (rest_true (p x) (list_all p xs) h))

all_without : {A : Type 0} (p : A → Bool) (xs ys : List A) (o : Option ℕ) → list_all p xs ≡ true → option_map (remove xs) o ≡ Some ys → list_all p ys ≡ true
all_without p xs ys None h e = absurd (cc)
all_without p xs ys (Some i) h e = let same : remove xs i ≡ ys = cc in rw same at (all_remove p xs i h)

all_without_each : {A : Type 0} (same : A → A → Bool) (p : A → Bool) (given xs ys : List A) → list_all p xs ≡ true → without_each same given xs ≡ Some ys → list_all p ys ≡ true
all_without_each same p [] xs ys h e = let is : xs ≡ ys = cc in rw is at h
all_without_each same p (g ∷ given) xs ys h e =
    elim (without_first (same g) xs) as (λ o. without_first (same g) xs ≡ o → option_and_then (without_each same given) o ≡ Some ys → list_all p ys ≡ true) [
      | None ↦ λ _ is. absurd (cc)
      | Some zs ↦ λ is rest. all_without_each same p given zs ys (all_without p xs zs (position (same g) xs) h is) rest
    ] refl e

or_no_match : {A : Type 0} (o : Option A) (y : A) → ok_or {E = ConfigFault} o NoMatch ≡ Ok y → o ≡ Some y
or_no_match None y e = absurd (cc)
or_no_match (Some x) y e = cc

all_edited : {A : Type 0} (same : A → A → Bool) (p : A → Bool) (edit : ListEdit) (given xs ys : List A) → list_all p given ≡ true → list_all p xs ≡ true → edited same edit given xs ≡ Ok ys → list_all p ys ≡ true
all_edited same p Put given xs ys g h e = let is : given ≡ ys = cc in rw is at g
all_edited same p Add given xs ys g h e = let is : xs ++ given ≡ ys = cc in rw (← is, list_all-append p xs given) (both_true (list_all p xs) (list_all p given) h g)
all_edited same p Remove given xs ys g h e = all_without_each same p given xs ys h (or_no_match (without_each same given xs) ys e)

and_then_ok : {A B : Type 0} (r : Result A ConfigFault) (f : A → Result B ConfigFault) (y : B) → and_then r f ≡ Ok y → (x : A) × ((r ≡ Ok x) × (f x ≡ Ok y))
and_then_ok (Ok x) f y h = (x, (refl, h))
and_then_ok (Err e) f y h = absurd (cc)

or_bad_value : {A : Type 0} (o : Option A) (y : A) → ok_or {E = ConfigFault} o BadValue ≡ Ok y → o ≡ Some y
or_bad_value None y e = absurd (cc)
or_bad_value (Some x) y e = cc

texts_obey : (ts os : List (List ℕ)) → option_texts ts ≡ Some os → list_all (obeys OptionWord) os ≡ true
texts_obey ts os h =
    elim (list_all (obeys OptionWord) ts) as (λ b. list_all (obeys OptionWord) ts ≡ b → cond b (Some ts) None ≡ Some os → list_all (obeys OptionWord) os ≡ true) [
      | true ↦ λ all is. let same : ts ≡ os = cc in rw same at all
      | false ↦ λ _ is. absurd (cc)
    ] refl h

given_obey : (edit : ListEdit) (v : Value) (os : List (List ℕ)) → options_given edit v ≡ Some os → list_all (obeys OptionWord) os ≡ true
given_obey Put (Text []) os h = let same : [] ≡ os = cc in rw (← same) refl
given_obey Put (Text (b ∷ t)) os h = texts_obey ((b ∷ t) ∷ []) os h
given_obey Add (Text t) os h = texts_obey (t ∷ []) os h
given_obey Remove (Text t) os h = texts_obey (t ∷ []) os h
given_obey edit (Items ts) os h = texts_obey ts os h
given_obey edit (Complex ps) os h = absurd (cc)

number_is_limit : (t : List ℕ) (n : ℕ) → number_of t ≡ Some n → is_limit n ≡ true
unfolding decimal_of
number_is_limit t n h =
    elim (is_decimal 18446744073709551615 t) as (λ b. is_decimal 18446744073709551615 t ≡ b → cond b (Some (digits_value 0 t)) None ≡ Some n → is_limit n ≡ true) [
      | true ↦ λ is e.
          let same : digits_value 0 t ≡ n = cc in
          rw same at (three (has_no_leading_zero t) (list_all is_ascii_digit t) (is_limit (digits_value 0 t)) is).2
      | false ↦ λ _ e. absurd (cc)
    ] refl h

mapped_limit : (o : Option ℕ) (deny : Bool) (v : Limit) → ((n : ℕ) → o ≡ Some n → is_limit n ≡ true) → option_map (λ n. record { limit = n; deny = deny }) o ≡ Some v → is_allowed_limit v ≡ true
mapped_limit None deny v h e = absurd (cc)
mapped_limit (Some n) deny v h e =
    let made : Limit = record { limit = n; deny = deny } in
    let same : made ≡ v = cc in
    let P : Limit → Type 0 = λ w. is_allowed_limit w ≡ true in
    subst P same (h n refl)

pairs_limit : (p l a : Pair) (v : Limit) → limit_of_pairs p l a ≡ Some v → is_allowed_limit v ≡ true
pairs_limit p l a v h =
    let deny : Bool = bytes_eq a.value (codes "deny") in
    elim (are_limit_pairs p l a) as (λ b. cond b (option_map (λ n. record { limit = n; deny = deny }) (number_of l.value)) None ≡ Some v → is_allowed_limit v ≡ true) [
      | true ↦ λ e. mapped_limit (number_of l.value) deny v (number_is_limit l.value) e
      | false ↦ λ e. absurd (cc)
    ] h

given_limit : (value : Value) (v : Limit) → limit_given value ≡ Some v → is_allowed_limit v ≡ true
given_limit (Text t) v h = absurd (cc)
given_limit (Items ts) v h = absurd (cc)
given_limit (Complex []) v h = absurd (cc)
given_limit (Complex (p ∷ [])) v h = absurd (cc)
given_limit (Complex (p ∷ l ∷ [])) v h = absurd (cc)
given_limit (Complex (p ∷ l ∷ a ∷ [])) v h = pairs_limit p l a v h
given_limit (Complex (p ∷ l ∷ a ∷ b ∷ ps)) v h = absurd (cc)

options_edited_obey : (edit : ListEdit) (given xs ys : List (List ℕ)) → list_all (obeys OptionWord) given ≡ true → list_all (obeys OptionWord) xs ≡ true
    → options_edited edit given xs ≡ Ok ys → list_all (obeys OptionWord) ys ≡ true
unfolding options_edited
options_edited_obey edit given xs ys g h e =
    elim (passes_options edit given xs) as (λ b. cond b (Err (TooMany 32)) (edited bytes_eq edit given xs) ≡ Ok ys → list_all (obeys OptionWord) ys ≡ true) [
      | true ↦ λ is. absurd (cc)
      | false ↦ λ is. all_edited bytes_eq (obeys OptionWord) edit given xs ys g h is
    ] e

fs_edit_stays : (edit : ListEdit) (v : Value) (f g : fs.Fs) → is_allowed (Fs f) ≡ true → fs_edited edit v f ≡ Ok g → is_allowed (Fs g) ≡ true
fs_edit_stays edit v f g h e =
    let first = and_then_ok (ok_or (options_given edit v) BadValue) (λ given. and_then (options_edited edit given f.options) (λ os. Ok (record f { options = os }))) g e in
    let second = and_then_ok (options_edited edit first.0 f.options) (λ os. Ok (record f { options = os })) g first.1.1 in
    let old = parts kind.Fs (fs_shown f) f.options [] (rest_true (is_kept_path f.dir) (entry_allowed kind.Fs (fs_shown f) f.options []) h) in
    let all = options_edited_obey edit first.0 f.options second.0 (given_obey edit v first.0 (or_bad_value (options_given edit v) first.0 first.1.0)) old.options second.1.0 in
    let made : fs.Fs = record f { options = second.0 } in
    let same : made ≡ g = cc in
    let P : fs.Fs → Type 0 = λ k. is_allowed (Fs k) ≡ true in
    subst P same (options_stay f second.0 all h)

rctl_edit_stays : (edit : ListEdit) (v : Value) (r s : rctl.Rctl) → is_allowed (Rctl r) ≡ true → rctl_edited edit v r ≡ Ok s → is_allowed (Rctl s) ≡ true
rctl_edit_stays edit v r s h e =
    let first = and_then_ok (ok_or (limit_given v) BadValue) (λ given. and_then (edited same_limit edit (given ∷ []) r.values) (λ vs. Ok (record r { values = vs }))) s e in
    let second = and_then_ok (edited same_limit edit (first.0 ∷ []) r.values) (λ vs. Ok (record r { values = vs })) s first.1.1 in
    let old = parts kind.Rctl (rctl_shown r) [] r.values h in
    let given = both_true (is_allowed_limit first.0) true (given_limit v first.0 (or_bad_value (limit_given v) first.0 first.1.0)) refl in
    let all = all_edited same_limit is_allowed_limit edit (first.0 ∷ []) r.values second.0 given old.values second.1.0 in
    let made : rctl.Rctl = record r { values = second.0 } in
    let same : made ≡ s = cc in
    let P : rctl.Rctl → Type 0 = λ k. is_allowed (Rctl k) ≡ true in
    subst P same (values_stay r second.0 all h)

list_edit_stays : (edit : ListEdit) (v : Value) (r s : Resource) → is_allowed r ≡ true → list_edited edit v r ≡ Ok s → is_allowed s ≡ true
unfolding list_edited
list_edit_stays edit v (Fs f) s h e =
    let made = and_then_ok (fs_edited edit v f) (λ g. Ok (Fs g)) s e in
    let same : Fs made.0 ≡ s = cc in
    let P : Resource → Type 0 = λ k. is_allowed k ≡ true in
    subst P same (fs_edit_stays edit v f made.0 h made.1.0)
list_edit_stays edit v (Rctl r) s h e =
    let made = and_then_ok (rctl_edited edit v r) (λ g. Ok (Rctl g)) s e in
    let same : Rctl made.0 ≡ s = cc in
    let P : Resource → Type 0 = λ k. is_allowed k ≡ true in
    subst P same (rctl_edit_stays edit v r made.0 h made.1.0)
list_edit_stays edit v r s h e = absurd (cc)

without_list_stays : (r : Resource) → is_allowed r ≡ true → is_allowed (without_list r) ≡ true
without_list_stays (Fs f) h = options_stay f [] refl h
without_list_stays (Rctl r) h = values_stay r [] refl h
without_list_stays r h = h

field_set_stays : (x : Field) (v : Value) (r s : Resource) → is_allowed r ≡ true → field_set x v r ≡ Ok s → is_allowed s ≡ true
field_set_stays x (Text t) r s h e =
    elim (obeys (field_rule x) t) as (λ b. obeys (field_rule x) t ≡ b → cond b (Ok (with_field x t r)) (Err BadValue) ≡ Ok s → is_allowed s ≡ true) [
      | true ↦ λ obeyed is.
          let same : with_field x t r ≡ s = cc in
          let P : Resource → Type 0 = λ k. is_allowed k ≡ true in
          subst P same (field_stays x t r (obeyed_fits (field_rule x) t obeyed) h)
      | false ↦ λ _ is. absurd (cc)
    ] refl e
field_set_stays x (Items ts) r s h e = absurd (cc)
field_set_stays x (Complex ps) r s h e = absurd (cc)

put_stays : (o : Option Named) (v : Value) (r s : Resource) → is_allowed r ≡ true → put_in o v r ≡ Ok s → is_allowed s ≡ true
put_stays None v r s h e = absurd (cc)
put_stays (Some (One x)) v r s h e = field_set_stays x v r s h e
put_stays (Some Many) v r s h e = list_edit_stays Put v r s h e

unset_fits : (x : Field) → fits (field_rule x) [] ≡ true
unfolding fits
unset_fits x = refl

clear_stays : (o : Option Named) (r s : Resource) → is_allowed r ≡ true → cleared_in o r ≡ Ok s → is_allowed s ≡ true
clear_stays None r s h e = absurd (cc)
clear_stays (Some (One x)) r s h e =
    let same : with_field x [] r ≡ s = cc in
    let P : Resource → Type 0 = λ k. is_allowed k ≡ true in
    subst P same (field_stays x [] r (unset_fits x) h)
clear_stays (Some Many) r s h e =
    let same : without_list r ≡ s = cc in
    let P : Resource → Type 0 = λ k. is_allowed k ≡ true in
    subst P same (without_list_stays r h)

list_stays : (o : Option Named) (edit : ListEdit) (v : Value) (r s : Resource) → is_allowed r ≡ true → edited_in o edit v r ≡ Ok s → is_allowed s ≡ true
list_stays None edit v r s h e = absurd (cc)
list_stays (Some (One x)) edit v r s h e = absurd (cc)
list_stays (Some Many) edit v r s h e = list_edit_stays edit v r s h e

pub edits_stay : (name : List ℕ) (value : Value) (old new : Resource) → IsTrue (is_allowed old) → IsEdited name value old new → IsTrue (is_allowed new)
unfolding with_property without_property with_value without_value
edits_stay name value old new h (inl set) = put_stays (named (kind_of old) name) value old new h set
edits_stay name value old new h (inr (inl cleared)) = clear_stays (named (kind_of old) name) old new h cleared
edits_stay name value old new h (inr (inr (inl added))) = list_stays (named (kind_of old) name) Add value old new h added
edits_stay name value old new h (inr (inr (inr removed))) = list_stays (named (kind_of old) name) Remove value old new h removed
