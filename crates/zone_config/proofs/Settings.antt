-- What `set_property` makes of a configuration.
use Rattle.std.proofs.Common.{◌≡◌, inl, inr, ℕ, Bool, true, false, cond, not, List, [], ◌∷◌, ◌++◌, length, Option, Some, None, Result, Ok, Err, refl, ap, sym, subst, ◌∙◌, IsTrue, IfErr, append-nil, arith}
use Rattle.std.specs.Prelude.{filter, is_some, nat_le, nat_lt, slice_set}
use Rattle.std.specs.List.{list_any}
use Rattle.std.proofs.lemmas.Bool.Decides.{nat_tests}
use Rattle.std.proofs.lemmas.List.Elements.{filter-append}
use Rattle.zn_base.specs.declared.values.Value.{Value}
use Rattle.zn_base.specs.declared.values.Value.TheVariants.{Simple, Complex, List as Items}
use Rattle.config_terms.specs.declared.fault.ConfigFault.{ConfigFault}
use Rattle.config_terms.specs.declared.fault.ConfigFault.TheVariants as fault
use Rattle.config_terms.specs.declared.terms.Kind.TheVariants as kind
use Rattle.config_terms.specs.declared.terms.Rctl.{Rctl}
use Rattle.config_terms.specs.declared.terms.Resource.TheVariants as resource
use Rattle.config_terms.specs.Numbers.{number_of}
use Rattle.config_terms.specs.Rules.{obeys}
use Rattle.zone_config.specs.declared.terms.Alias.{Alias}
use Rattle.zone_config.specs.declared.terms.Alias.TheVariants.{CpuShares, MaxLwps, MaxProcesses}
use Rattle.zone_config.specs.declared.terms.Contents.{Contents}
use Rattle.zone_config.specs.declared.terms.Property.{Property}
use Rattle.zone_config.specs.declared.terms.Setting.{Setting}
use Rattle.zone_config.specs.declared.terms.Setting.TheVariants.{Kept, Aliased}
use Rattle.zone_config.specs.Property.{property_rule, rctl_name, setting_named, shown, with_value}
use Rattle.zone_config.specs.Export.{export_text, sized}
use Rattle.zone_config.specs.Sound.{IsSound, count}
use Rattle.zone_config.specs.Resources.{added, limit_passed, replaced, unless_passed}
use Rattle.zone_config.specs.Edits.{alias_rctl, alias_set, is_held, is_named_for, limit_set, named_set, place_of, property_set, rctl_put, setting_set, with_property}
use Rattle.zone_config.specs.Settable.{MayRefuseSet, SetsWhereAllowed, Shows, ShowsLimit, ShowsText, allows, allows_value, is_settable}
use Rattle.zone_config.proofs.Lists.{first_false, rest_false}
use Rattle.zone_config.proofs.PropertyEdits.{resources-with, shown-with, shown_obeyed}
use Rattle.zone_config.proofs.SameResources.{same-resources}
use Rattle.zone_config.proofs.Aliases.{Parts, none_behind, none_passes, parted, slice_set-middle}

-- what a bound on the text leaves
pub fits_in : (c d : Contents) → sized c ≡ Ok d → d ≡ c
fits_in c d h =
    elim (nat_lt 32768 (length (export_text c))) as (λ b. cond b (Err (fault.TooLarge (length (export_text c)))) (Ok c) ≡ Ok d → d ≡ c) [
      | true ↦ λ g. absurd (cc)
      | false ↦ λ g. cc
    ] h

-- the text alone is too long
too_long : (t : Setting) (old c : Contents) → IfErr (sized c) (MayRefuseSet (Some t) old)
too_long t old c =
    elim (nat_lt 32768 (length (export_text c))) as (λ b. nat_lt 32768 (length (export_text c)) ≡ b → IfErr (cond {A = Result Contents ConfigFault} b (Err (fault.TooLarge (length (export_text c)))) (Ok c)) (MayRefuseSet (Some t) old)) [
      | true ↦ λ e. grind (arith, nat_tests)
      | false ↦ λ e. tt
    ] refl

-- a property that is kept as it stands
property-Ok : (p : Property) (v : List ℕ) (c d : Contents) → property_set p v c ≡ Ok d → (obeys (property_rule p) v ≡ true) × (d ≡ with_value p v c)
property-Ok p v c d h =
    elim (obeys (property_rule p) v) as (λ b. obeys (property_rule p) v ≡ b → cond b (sized (with_value p v c)) (Err fault.BadValue) ≡ Ok d → (obeys (property_rule p) v ≡ true) × (d ≡ with_value p v c)) [
      | true ↦ λ e g. (e, fits_in (with_value p v c) d g)
      | false ↦ λ e g. absurd (cc)
    ] refl h

pub shows_text : (p : Property) (v : List ℕ) (c : Contents) → shown p (with_value p v c) ≡ v → ShowsText p v c (with_value p v c)
shows_text p v c h = record {
  given = h;
  others = λ q differ. elim (shown-with p q v c) [ inl same ↦ absurd (differ same) | inr as_before ↦ as_before ];
  same = same-resources c (with_value p v c) (resources-with p v c);
}

property-refused : (p : Property) (v : List ℕ) (c : Contents) → obeys (property_rule p) v ≡ true → IfErr (property_set p v c) (MayRefuseSet (Some (Kept p)) c)
property-refused p v c h = rw h (too_long (Kept p) c (with_value p v c))

-- a list with one item that passes a test, and what does not pass as it was
record HasOne {A : Type 0} (p : A → Bool) (xs ys : List A) (x : A) : Type 0 where
  given : filter p ys ≡ x ∷ []
  others : filter (λ y. not (p y)) ys ≡ filter (λ y. not (p y)) xs

pub filter-none : {A : Type 0} (p : A → Bool) (xs : List A) → list_any p xs ≡ false → filter p xs ≡ []
filter-none p [] h = refl
filter-none p (x ∷ xs) h = rw (first_false (p x) _ h) (filter-none p xs (rest_false (p x) _ h))

filter-kept : {A : Type 0} (p : A → Bool) (x : A) (xs : List A) → p x ≡ true → filter p (x ∷ xs) ≡ x ∷ filter p xs
filter-kept p x xs h = rw h refl

pub filter-dropped : {A : Type 0} (p : A → Bool) (x : A) (xs : List A) → p x ≡ false → filter p (x ∷ xs) ≡ filter p xs
filter-dropped p x xs h = rw h refl

one_in_place : {A : Type 0} (p : A → Bool) (xs : List A) (i : ℕ) (x : A) (s : Parts p xs i) → list_any p s.back ≡ false → p x ≡ true → HasOne p xs (slice_set xs i x) x
one_in_place {A} p xs i x s h g =
    let q : A → Bool = λ y. not (p y) in
    let now : slice_set xs i x ≡ s.front ++ x ∷ s.back = rw (s.are, s.place) (slice_set-middle s.front s.it x s.back) in
    record {
      given = ap (filter p) now ∙ filter-append p s.front (x ∷ s.back) ∙ ap (λ ys. ys ++ filter p (x ∷ s.back)) (filter-none p s.front s.none) ∙ filter-kept p x s.back g
          ∙ ap (λ ys. x ∷ ys) (filter-none p s.back h);
      others = ap (filter q) now ∙ filter-append q s.front (x ∷ s.back) ∙ ap (λ ys. filter q s.front ++ ys) (filter-dropped q x s.back (ap not g) ∙ sym (filter-dropped q s.it s.back (ap not s.first)))
          ∙ sym (filter-append q s.front (s.it ∷ s.back)) ∙ ap (filter q) (sym s.are);
    }

one_anew : {A : Type 0} (p : A → Bool) (xs : List A) (x : A) → list_any p xs ≡ false → p x ≡ true → HasOne p xs (xs ++ x ∷ []) x
one_anew {A} p xs x h g =
    let q : A → Bool = λ y. not (p y) in
    record {
      given = filter-append p xs (x ∷ []) ∙ ap (λ ys. ys ++ filter p (x ∷ [])) (filter-none p xs h) ∙ filter-kept p x [] g;
      others = filter-append q xs (x ∷ []) ∙ ap (λ ys. filter q xs ++ ys) (filter-dropped q x [] (ap not g)) ∙ append-nil (filter q xs);
    }

-- an alias that is kept as an rctl
named_for_own : (a : Alias) (n : ℕ) → is_named_for a (alias_rctl a n) ≡ true
named_for_own CpuShares n = refl
named_for_own MaxLwps n = refl
named_for_own MaxProcesses n = refl

record IsLimited (a : Alias) (n : ℕ) (c d : Contents) : Type 0 where
  one : HasOne (is_named_for a) c.rctl d.rctl (alias_rctl a n)
  same : d ≡ record c { rctl = d.rctl }

limited_in_place : (a : Alias) (n i : ℕ) (c : Contents) → IsSound c → place_of a c.rctl ≡ Some i → IsLimited a n c (replaced i (resource.Rctl (alias_rctl a n)) c)
limited_in_place a n i c s h =
    let parts = parted (is_named_for a) c.rctl i h in
    record {
      one = one_in_place (is_named_for a) c.rctl i (alias_rctl a n) parts (none_behind (λ r. r.name) (rctl_name a) c.rctl i (s.resources.kinds kind.Rctl).once parts) (named_for_own a n);
      same = refl;
    }

limited_anew : (a : Alias) (n : ℕ) (c : Contents) → place_of a c.rctl ≡ None → IsLimited a n c (added (resource.Rctl (alias_rctl a n)) c)
limited_anew a n c h = record { one = one_anew (is_named_for a) c.rctl (alias_rctl a n) (none_passes (is_named_for a) c.rctl h) (named_for_own a n); same = refl }

added-Ok : (r : Rctl) (c d : Contents) → unless_passed (limit_passed (resource.Rctl r) c) (added (resource.Rctl r) c) ≡ Ok d → d ≡ added (resource.Rctl r) c
added-Ok r c d h =
    elim (nat_le 256 (count c)) as (λ b. unless_passed (cond b (Some 256) None) (added (resource.Rctl r) c) ≡ Ok d → d ≡ added (resource.Rctl r) c) [
      | true ↦ λ g. absurd (cc)
      | false ↦ λ g. fits_in (added (resource.Rctl r) c) d g
    ] h

added-refused : (a : Alias) (r : Rctl) (c : Contents) → place_of a c.rctl ≡ None → IfErr (unless_passed (limit_passed (resource.Rctl r) c) (added (resource.Rctl r) c)) (MayRefuseSet (Some (Aliased a)) c)
added-refused a r c at =
    elim (nat_le 256 (count c)) as (λ b. nat_le 256 (count c) ≡ b → IfErr (unless_passed (cond b (Some 256) None) (added (resource.Rctl r) c)) (MayRefuseSet (Some (Aliased a)) c)) [
      | true ↦ λ e. record { none = at; told = refl; full = grind (arith, nat_tests) }
      | false ↦ λ e. too_long (Aliased a) c (added (resource.Rctl r) c)
    ] refl

put-Ok : (a : Alias) (n : ℕ) (o : Option ℕ) (c d : Contents) → IsSound c → place_of a c.rctl ≡ o → rctl_put o (alias_rctl a n) c ≡ Ok d → IsLimited a n c d
put-Ok a n (Some i) c d s at h = subst (IsLimited a n c) (sym (fits_in (replaced i (resource.Rctl (alias_rctl a n)) c) d h)) (limited_in_place a n i c s at)
put-Ok a n None c d s at h = subst (IsLimited a n c) (sym (added-Ok (alias_rctl a n) c d h)) (limited_anew a n c at)

put-refused : (a : Alias) (o : Option ℕ) (r : Rctl) (c : Contents) → place_of a c.rctl ≡ o → IfErr (rctl_put o r c) (MayRefuseSet (Some (Aliased a)) c)
put-refused a (Some i) r c at = too_long (Aliased a) c (replaced i (resource.Rctl r) c)
put-refused a None r c at = added-refused a r c at

limit-Ok : (a : Alias) (n : ℕ) (c d : Contents) → IsSound c → limit_set a (Some n) c ≡ Ok d → IsLimited a n c d
limit-Ok a n c d s h =
    elim (is_held a c.rctl) as (λ b. cond b (Err fault.AliasHeld) (rctl_put (place_of a c.rctl) (alias_rctl a n) c) ≡ Ok d → IsLimited a n c d) [
      | true ↦ λ g. absurd (cc)
      | false ↦ λ g. put-Ok a n (place_of a c.rctl) c d s refl g
    ] h

number-refused : (a : Alias) (n : ℕ) (c : Contents) → IfErr (limit_set a (Some n) c) (MayRefuseSet (Some (Aliased a)) c)
number-refused a n c =
    elim (is_held a c.rctl) as (λ b. is_held a c.rctl ≡ b → IfErr (cond b (Err fault.AliasHeld) (rctl_put (place_of a c.rctl) (alias_rctl a n) c)) (MayRefuseSet (Some (Aliased a)) c)) [
      | true ↦ λ e. e
      | false ↦ λ e. put-refused a (place_of a c.rctl) (alias_rctl a n) c refl
    ] refl

shows_limit : (a : Alias) (text : List ℕ) (n : ℕ) (c d : Contents) → number_of text ≡ Some n → IsLimited a n c d → ShowsLimit a text c d
shows_limit a text n c d e l = record {
  given = λ m g. let same : n ≡ m = cc in subst (λ (k : ℕ). filter (is_named_for a) d.rctl ≡ alias_rctl a k ∷ []) same l.one.given;
  others = l.one.others;
  same = l.same;
}

-- a setting of either sort, a value of any sort, and a name that there may be or not
pub record Put (o : Option Setting) (value : Value) (c d : Contents) : Type 0 where
  pub allowed : allows_value o value ≡ true
  pub shows : Shows o value c d

limit-put : (a : Alias) (text : List ℕ) (o : Option ℕ) (c d : Contents) → IsSound c → number_of text ≡ o → limit_set a o c ≡ Ok d → Put (Some (Aliased a)) (Simple text) c d
limit-put a text None c d s e h = absurd (cc)
limit-put a text (Some n) c d s e h = record { allowed = ap is_some e; shows = shows_limit a text n c d e (limit-Ok a n c d s h) }

setting-put : (t : Setting) (text : List ℕ) (c d : Contents) → IsSound c → setting_set t text c ≡ Ok d → Put (Some t) (Simple text) c d
unfolding alias_set
setting-put (Kept p) text c d s h =
    let put = property-Ok p text c d h in
    record { allowed = put.0; shows = subst (ShowsText p text c) (sym put.1) (shows_text p text c (shown_obeyed p text c put.0)) }
setting-put (Aliased a) text c d s h = limit-put a text (number_of text) c d s refl h

named-put : (o : Option Setting) (value : Value) (c d : Contents) → IsSound c → named_set o value c ≡ Ok d → Put o value c d
named-put None value c d s h = absurd (cc)
named-put (Some t) (Simple text) c d s h = setting-put t text c d s h
named-put (Some t) (Complex pairs) c d s h = absurd (cc)
named-put (Some t) (Items texts) c d s h = absurd (cc)

limit-refused : (a : Alias) (o : Option ℕ) (c : Contents) → is_some o ≡ true → IfErr (limit_set a o c) (MayRefuseSet (Some (Aliased a)) c)
limit-refused a None c h = absurd (cc)
limit-refused a (Some n) c h = number-refused a n c

setting-refused : (t : Setting) (text : List ℕ) (c : Contents) → allows t text ≡ true → IfErr (setting_set t text c) (MayRefuseSet (Some t) c)
unfolding alias_set
setting-refused (Kept p) text c h = property-refused p text c h
setting-refused (Aliased a) text c h = limit-refused a (number_of text) c h

named-refused : (o : Option Setting) (value : Value) (c : Contents) → allows_value o value ≡ true → IfErr (named_set o value c) (MayRefuseSet o c)
named-refused None value c h = absurd (cc)
named-refused (Some t) (Simple text) c h = setting-refused t text c h
named-refused (Some t) (Complex pairs) c h = absurd (cc)
named-refused (Some t) (Items texts) c h = absurd (cc)

refusal : (name : List ℕ) (value : Value) (old : Contents) (e : ConfigFault) → with_property name value old ≡ Err e → IsTrue (is_settable name value) → MayRefuseSet (setting_named name) old e
unfolding with_property
refusal name value old e h allowed = subst (λ (r : Result Contents ConfigFault). IfErr r (MayRefuseSet (setting_named name) old)) h (named-refused (setting_named name) value old allowed)

put : (name : List ℕ) (value : Value) (old new : Contents) → IsSound old → with_property name value old ≡ Ok new → Put (setting_named name) value old new
unfolding with_property
put name value old new s h = named-put (setting_named name) value old new s h

-- memory may always run out where there is such a property
memory : (o : Option Setting) (value : Value) (old : Contents) → allows_value o value ≡ true → MayRefuseSet o old fault.Memory
memory None value old h = absurd (cc)
memory (Some t) value old h = tt

pub sets : SetsWhereAllowed
sets name value old new (Ok done) s h = let is = put name value old new s h in record { allowed = is.allowed; refused = λ _. tt; shows = is.shows }
sets name value old new (Err fault.Memory) s h = record { allowed = tt; refused = memory (setting_named name) value old; shows = tt }
sets name value old new (Err e) s h = record { allowed = tt; refused = λ allowed. refusal name value old _ h.0 allowed; shows = tt }
