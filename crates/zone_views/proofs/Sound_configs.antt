-- What an edit makes of a sound configuration is sound.
use Rattle.std.proofs.Common.{◌≡◌, ◌≤◌, ◌<◌, ◌-◌, ◌∙◌, ℕ, zero, suc, Bool, true, false, cond, List, [], ◌∷◌, Option, Some, None, Result, Ok, Err, length, refl, ap, arith, subst, sym, unwrap_or}
use Rattle.std.specs.Prelude.{codes, nat_lt, option_map, remove, slice_get, if◌then◌else◌}
use Rattle.std.proofs.lemmas.Bool.Decides.{nat_tests}
use Rattle.config_terms.specs.declared.fault.ConfigFault.{ConfigFault}
use Rattle.config_terms.specs.declared.fault.ConfigFault.TheVariants.{AliasHeld, BadValue, NoMatch, TooLarge}
use Rattle.config_terms.specs.declared.terms.Kind.{Kind}
use Rattle.config_terms.specs.declared.terms.Kind.TheVariants as kind
use Rattle.config_terms.specs.declared.terms.Resource.{Resource}
use Rattle.config_terms.specs.declared.terms.Resource.TheVariants as resource
use Rattle.config_terms.specs.Numbers.{number_of}
use Rattle.config_terms.specs.Rules.{fits, obeys}
use Rattle.config_terms.specs.Texts.{setting}
use Rattle.zn_base.specs.declared.values.Pair.{Pair}
use Rattle.zn_base.specs.declared.values.Value.{Value}
use Rattle.zn_base.specs.declared.values.Value.TheVariants.{Simple}
use Rattle.zone_config.specs.declared.terms.Alias.{Alias}
use Rattle.zone_config.specs.declared.terms.Contents.{Contents}
use Rattle.zone_config.specs.declared.terms.Property.{Property}
use Rattle.zone_config.specs.declared.terms.Property.TheVariants.{Brand}
use Rattle.zone_config.specs.declared.terms.Setting.{Setting}
use Rattle.zone_config.specs.declared.terms.Setting.TheVariants.{Aliased, Kept}
use Rattle.zone_config.specs.Edits.{alias_cleared, alias_rctl, alias_set, is_held, limit_set, named_cleared, named_set, place_of, property_set, rctl_put, with_property, without_property, without_rctl}
use Rattle.zone_config.specs.Export.{export_text, sized}
use Rattle.zone_config.specs.Property.{blank, property_rule, setting_named, unset_text, with_value, without_value}
use Rattle.zone_config.specs.Removal.{given, matches_at, unless_none, without_all, without_found, without_match_at, without_matches, without_place}
use Rattle.zone_config.specs.Resources.{added, count_of, found, length_of, limit_passed, removed, replaced, unless_passed, with_replaced, with_resource}
use Rattle.zone_config.specs.Sound.{IsKept, IsSound}
use Rattle.zone_config.proofs.Adding.{checked_added}
use Rattle.zone_config.proofs.Aliases.{free_anew, free_but, place_within, rctl_fits}
use Rattle.zone_config.proofs.PropertyEdits.{blank_kept, fits_obeyed, fits_unset, kept_with, shown_obeyed, shown_unset}
use Rattle.zone_config.proofs.Removing.{next_tested, partly, untested}
use Rattle.zone_config.proofs.ResourceEdits.{is_checked, kept_added, kept_checked, kept_replaced, leaves}

abbrev size : Contents → ℕ
size c = length (export_text c)

kept : (c : Contents) → IsSound c → IsKept c (size c)
kept c s = record { measured = refl; sound = s }

-- what is not too large
sized-ok : (d e : Contents) → sized d ≡ Ok e → (size d ≤ 32768) × (d ≡ e)
sized-ok d e h =
    elim (nat_lt 32768 (size d)) as (λ b. nat_lt 32768 (size d) ≡ b → cond b (Err (TooLarge (size d))) (Ok d) ≡ Ok e → (size d ≤ 32768) × (d ≡ e)) [
      | true ↦ λ f g. absurd (cc)
      | false ↦ λ f g. (grind (arith, nat_tests), cc)
    ] refl h

-- a property is set, or cleared
set-sound : (p : Property) (value : List ℕ) (c d : Contents) → IsSound c → property_set p value c ≡ Ok d → IsSound d
set-sound p value c d s h = at_rule (obeys (property_rule p) value) refl h
  where
    at_rule : (b : Bool) → obeys (property_rule p) value ≡ b → (if b then sized (with_value p value c) else Err BadValue) ≡ Ok d → IsSound d
    at_rule false e h = absurd (cc)
    at_rule true e h =
        let fit = sized-ok (with_value p value c) d h in
        subst IsSound fit.1 (kept_with p value c (size c) (size (with_value p value c)) (kept c s) (shown_obeyed p value c e) (fits_obeyed (property_rule p) value e) refl fit.0).sound

cleared-sound : (p : Property) (c d : Contents) → IsSound c → sized (without_value p c) ≡ Ok d → IsSound d
cleared-sound p c d s h =
    let fit = sized-ok (without_value p c) d h in
    subst IsSound fit.1 (kept_with p (unset_text p) c (size c) (size (without_value p c)) (kept c s) (shown_unset p c) (fits_unset p) refl fit.0).sound

-- an alias is set, or cleared
alias-sound : (a : Alias) (value : List ℕ) (c d : Contents) → IsSound c → alias_set a value c ≡ Ok d → IsSound d
unfolding alias_set
alias-sound a value c d s h = at_number (number_of value) refl h
  where
    at_passed : (n : ℕ) → number_of value ≡ Some n → place_of a c.rctl ≡ None → (o : Option ℕ) → limit_passed (resource.Rctl (alias_rctl a n)) c ≡ o
        → unless_passed o (added (resource.Rctl (alias_rctl a n)) c) ≡ Ok d → IsSound d
    at_passed n number none (Some limit) e h = absurd (cc)
    at_passed n number none None e h =
        let r = resource.Rctl (alias_rctl a n) in
        let fit = sized-ok (added r c) d h in
        subst IsSound fit.1 (kept_added r c (size c) (size (added r c)) (kept c s) (rctl_fits a value n number) (free_anew a n c none) e refl fit.0).sound

    at_place : (n : ℕ) → number_of value ≡ Some n → (o : Option ℕ) → place_of a c.rctl ≡ o → rctl_put o (alias_rctl a n) c ≡ Ok d → IsSound d
    at_place n number None e h = at_passed n number e (limit_passed (resource.Rctl (alias_rctl a n)) c) refl h
    at_place n number (Some place) e h =
        let r = resource.Rctl (alias_rctl a n) in
        let fit = sized-ok (replaced place r c) d h in
        subst IsSound fit.1 (kept_replaced r place c (size c) (size (replaced place r c)) (kept c s) (rctl_fits a value n number) (free_but a n place (size c) c (kept c s) e) refl refl fit.0).sound

    at_held : (n : ℕ) → number_of value ≡ Some n → (b : Bool) → (if b then Err AliasHeld else rctl_put (place_of a c.rctl) (alias_rctl a n) c) ≡ Ok d → IsSound d
    at_held n number true h = absurd (cc)
    at_held n number false h = at_place n number (place_of a c.rctl) refl h

    at_number : (o : Option ℕ) → number_of value ≡ o → limit_set a o c ≡ Ok d → IsSound d
    at_number None number h = absurd (cc)
    at_number (Some n) number h = at_held n number (is_held a c.rctl) h

there : {A : Type 0} (xs : List A) (k : ℕ) → k < length xs → (x : A) × (slice_get xs k ≡ Some x)
there [] k h = absurd (omega arith)
there (x ∷ xs) zero h = (x, refl)
there (x ∷ xs) (suc k) h = there xs k (omega arith)

place-sound : (k : Kind) (c : Contents) (place : ℕ) → IsSound c → IsSound (without_place k c place)
place-sound k c place s = at_removed (removed k place c) refl
  where
    at_removed : (o : Option (Resource × Contents)) → removed k place c ≡ o → IsSound (unwrap_or (option_map (λ r. r.1) o) c)
    at_removed None e = s
    at_removed (Some x) e = (leaves k place c x.1 x.0 (size c) (kept c s) e).kept.sound

alias-cleared-sound : (a : Alias) (c d : Contents) → IsSound c → alias_cleared a c ≡ Ok d → IsSound d
unfolding alias_cleared
alias-cleared-sound a c d s h = at_held (is_held a c.rctl) h
  where
    at_place : (o : Option ℕ) → place_of a c.rctl ≡ o → IsSound (without_rctl o c)
    at_place None e = s
    at_place (Some place) e =
        let x = there c.rctl place (place_within a c.rctl place e) in
        (leaves kind.Rctl place c (record c { rctl = remove c.rctl place }) (resource.Rctl x.0) (size c) (kept c s) (ap (option_map (λ r. (resource.Rctl r, record c { rctl = remove c.rctl place }))) x.1)).kept.sound

    at_held : (b : Bool) → (if b then Err AliasHeld else Ok (without_rctl (place_of a c.rctl) c)) ≡ Ok d → IsSound d
    at_held true h = absurd (cc)
    at_held false h = let same : without_rctl (place_of a c.rctl) c ≡ d = cc in subst IsSound same (at_place (place_of a c.rctl) refl)

-- by name
pub with-property-sound : (name : List ℕ) (value : Value) (c d : Contents) → IsSound c → with_property name value c ≡ Ok d → IsSound d
unfolding with_property
with-property-sound name value c d s h = at_name (setting_named name) value h
  where
    at_name : (o : Option Setting) (value : Value) → named_set o value c ≡ Ok d → IsSound d
    at_name (Some (Kept p)) (Simple text) h = set-sound p text c d s h
    at_name (Some (Aliased a)) (Simple text) h = alias-sound a text c d s h
    at_name (Some setting) value h = absurd (cc)
    at_name None value h = absurd (cc)

pub without-property-sound : (name : List ℕ) (c d : Contents) → IsSound c → without_property name c ≡ Ok d → IsSound d
unfolding without_property
without-property-sound name c d s h = at_name (setting_named name) h
  where
    at_name : (o : Option Setting) → named_cleared o c ≡ Ok d → IsSound d
    at_name (Some (Kept p)) h = cleared-sound p c d s h
    at_name (Some (Aliased a)) h = alias-cleared-sound a c d s h
    at_name None h = absurd (cc)

-- one more resource, and one in the place of another
pub with-resource-sound : (r : Resource) (c d : Contents) → IsSound c → with_resource r c ≡ Ok d → IsSound d
with-resource-sound r c d s h =
    let all = checked_added r c (size c) (size d) (kept c s) (ap length_of h) in
    let same : added r c ≡ d = let both = sym all.answer ∙ h in cc in
    subst IsSound same all.kept.sound

pub with-replaced-sound : (place : ℕ) (r : Resource) (c d : Contents) → IsSound c → with_replaced place r c ≡ Ok d → IsSound d
with-replaced-sound place r c d s h =
    let checked = is_checked r place c (size d) (ap length_of h) in
    let same : replaced place r c ≡ d = let both = sym checked.answer ∙ h in cc in
    subst IsSound same (kept_checked r place c (size c) (size d) (kept c s) (ap length_of h)).sound

-- resources are removed
pub without-found-sound : (k : Kind) (wanted : List Pair) (c d : Contents) → IsSound c → without_found k wanted c ≡ Ok d → IsSound d
without-found-sound k wanted c d s h = at_found (found k wanted c) h
  where
    at_found : (r : Result ℕ ConfigFault) → given (without_place k c) r ≡ Ok d → IsSound d
    at_found (Err fault) h = absurd (cc)
    at_found (Ok place) h = let same : without_place k c place ≡ d = cc in subst IsSound same (place-sound k c place s)

match-sound : (k : Kind) (wanted : List Pair) (place : ℕ) (c : Contents) → IsSound c → IsSound (without_match_at k wanted place c)
match-sound k wanted place c s = at_test (matches_at k wanted place c)
  where
    at_test : (b : Bool) → IsSound (if b then without_place k c place else c)
    at_test true = place-sound k c place s
    at_test false = s

matches-sound : (k : Kind) (wanted : List Pair) (c : Contents) → IsSound c → IsSound (without_matches k wanted c)
matches-sound k wanted c s = down (count_of k c) (omega arith) (subst IsSound (untested k wanted c c (count_of k c) refl refl) s)
  where
    down : (n : ℕ) → n ≤ count_of k c → IsSound (partly k wanted n c) → IsSound (partly k wanted 0 c)
    down zero le s = s
    down (suc n) le s =
        let e : suc n - 1 ≡ n = omega arith in
        let next = next_tested k wanted (suc n) c (partly k wanted (suc n) c) (omega arith) le refl in
        down n (omega (arith, le)) (subst IsSound (next ∙ ap (λ m. partly k wanted m c) e) (match-sound k wanted (suc n - 1) (partly k wanted (suc n) c) s))

pub without-all-sound : (k : Kind) (wanted : List Pair) (c d : Contents) → IsSound c → without_all k wanted c ≡ Ok d → IsSound d
without-all-sound k wanted c d s h = at_found (found k wanted c) h
  where
    at_found : (r : Result ℕ ConfigFault) → unless_none r (without_matches k wanted c) ≡ Ok d → IsSound d
    at_found (Err NoMatch) h = absurd (cc)
    at_found r h = let same : without_matches k wanted c ≡ d = cc in subst IsSound same (matches-sound k wanted c s)

-- a new one
pub blank-sound : IsSound blank
blank-sound = blank_kept.sound

pub branded-sound : IsSound (record blank { brand = codes "ipkg" })
unfolding setting export_text fits obeys
branded-sound = (kept_with Brand (codes "ipkg") blank 48 63 blank_kept refl refl refl (omega arith)).sound
