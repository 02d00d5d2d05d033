-- What `clear_property` makes of a configuration.
use Rattle.std.proofs.Common.{◌≡◌, ◌≢◌, ◌≤◌, ℕ, codes, Bool, true, false, cond, not, List, ◌∷◌, ◌++◌, length, Option, Some, None, Result, Ok, Err, refl, ap, sym, subst, ◌∙◌, IfErr, arith}
use Rattle.std.specs.Prelude.{filter, nat_lt, remove}
use Rattle.std.proofs.lemmas.Bool.Decides.{nat_tests}
use Rattle.std.proofs.lemmas.List.Elements.{filter-append}
use Rattle.config_terms.specs.declared.fault.ConfigFault.{ConfigFault}
use Rattle.config_terms.specs.declared.fault.ConfigFault.TheVariants as fault
use Rattle.config_terms.specs.declared.terms.IpType.TheVariants.{Shared, Exclusive}
use Rattle.config_terms.specs.declared.terms.Kind.TheVariants as kind
use Rattle.config_terms.specs.Texts.{setting}
use Rattle.zone_config.specs.declared.terms.Alias.{Alias}
use Rattle.zone_config.specs.declared.terms.Contents.{Contents}
use Rattle.zone_config.specs.declared.terms.Property.{Property}
use Rattle.zone_config.specs.declared.terms.Property.TheVariants.{Zonepath, Brand, Autoboot, Bootargs, Pool, Limitpriv, SchedulingClass, IpType, Hostid, FsAllowed}
use Rattle.zone_config.specs.declared.terms.Setting.{Setting}
use Rattle.zone_config.specs.declared.terms.Setting.TheVariants.{Kept, Aliased}
use Rattle.zone_config.specs.Property.{ip_text, property_name, rctl_name, setting_named, shown, unset_text, without_value}
use Rattle.zone_config.specs.Export.{export_text, sized}
use Rattle.zone_config.specs.Sound.{IsKept, IsSound}
use Rattle.zone_config.specs.Edits.{alias_cleared, is_held, is_named_for, named_cleared, place_of, without_property, without_rctl}
use Rattle.zone_config.specs.Settable.{ClearsWhereNamed, HasNoLimit, IsCleared, MayRefuseClear, ShowsText}
use Rattle.zone_config.proofs.PropertyEdits.{shown_unset, size_with}
use Rattle.zone_config.proofs.Settings.{filter-dropped, filter-none, fits_in, shows_text}
use Rattle.zone_config.proofs.Aliases.{Parts, key_taken_once, none_passes, parted, remove-middle}

-- the line of a property that is not set is no longer than the one that goes, but for `false`
unset_line : (p : Property) (c : Contents) → p ≢ Autoboot → length (setting (property_name p) (unset_text p)) ≤ length (setting (property_name p) (shown p c))
unfolding setting
unset_line Zonepath c h = omega arith
unset_line Brand c h = omega arith
unset_line Autoboot c h = absurd (h refl)
unset_line Bootargs c h = omega arith
unset_line Pool c h = omega arith
unset_line Limitpriv c h = omega arith
unset_line SchedulingClass c h = omega arith
unset_line IpType c h =
    elim c.ip as (λ i. length (setting (codes "ip-type") (codes "shared")) ≤ length (setting (codes "ip-type") (ip_text i))) [ Shared ↦ omega arith | Exclusive ↦ omega arith ]
unset_line Hostid c h = omega arith
unset_line FsAllowed c h = omega arith

unset_taken : (p : Property) (c : Contents) → IsSound c → p ≢ Autoboot → sized (without_value p c) ≡ Ok (without_value p c)
unset_taken p c s h =
    let k : IsKept c (length (export_text c)) = record { measured = refl; sound = s } in
    let m = size_with p (unset_text p) c (length (export_text c)) k (shown_unset p c) in
    let short : length (export_text (without_value p c)) ≤ 32768 = omega (arith, m.within, m.now, unset_line p c h, s.short) in
    let fits : nat_lt 32768 (length (export_text (without_value p c))) ≡ false = grind (arith, nat_tests) in
    rw fits refl

kept-refused : (p : Property) (c : Contents) → IsSound c → IfErr (sized (without_value p c)) (MayRefuseClear (Some (Kept p)) c)
kept-refused Autoboot c s =
    let size = length (export_text (without_value Autoboot c)) in
    elim (nat_lt 32768 size) as (λ b. nat_lt 32768 size ≡ b → IfErr (cond {A = Result Contents ConfigFault} b (Err (fault.TooLarge size)) (Ok (without_value Autoboot c))) (MayRefuseClear (Some (Kept Autoboot)) c)) [
      | true ↦ λ e. grind (arith, nat_tests)
      | false ↦ λ e. tt
    ] refl
kept-refused Zonepath c s = rw (unset_taken Zonepath c s (λ e. cc)) tt
kept-refused Brand c s = rw (unset_taken Brand c s (λ e. cc)) tt
kept-refused Bootargs c s = rw (unset_taken Bootargs c s (λ e. cc)) tt
kept-refused Pool c s = rw (unset_taken Pool c s (λ e. cc)) tt
kept-refused Limitpriv c s = rw (unset_taken Limitpriv c s (λ e. cc)) tt
kept-refused SchedulingClass c s = rw (unset_taken SchedulingClass c s (λ e. cc)) tt
kept-refused IpType c s = rw (unset_taken IpType c s (λ e. cc)) tt
kept-refused Hostid c s = rw (unset_taken Hostid c s (λ e. cc)) tt
kept-refused FsAllowed c s = rw (unset_taken FsAllowed c s (λ e. cc)) tt

alias-refused : (a : Alias) (c : Contents) → IfErr (alias_cleared a c) (MayRefuseClear (Some (Aliased a)) c)
unfolding alias_cleared
alias-refused a c =
    elim (is_held a c.rctl) as (λ b. is_held a c.rctl ≡ b → IfErr (cond {A = Result Contents ConfigFault} b (Err fault.AliasHeld) (Ok (without_rctl (place_of a c.rctl) c))) (MayRefuseClear (Some (Aliased a)) c)) [
      | true ↦ λ e. e
      | false ↦ λ e. tt
    ] refl

-- a list without the one item that passes a test
filter-without : {A : Type 0} (p : A → Bool) (xs : List A) (i : ℕ) (s : Parts p xs i) → filter (λ y. not (p y)) (remove xs i) ≡ filter (λ y. not (p y)) xs
filter-without {A} p xs i s =
    let q : A → Bool = λ y. not (p y) in
    let now : remove xs i ≡ s.front ++ s.back = rw (s.are, s.place) (remove-middle s.front s.it s.back) in
    ap (filter q) now ∙ filter-append q s.front s.back ∙ ap (λ ys. filter q s.front ++ ys) (sym (filter-dropped q s.it s.back (ap not s.first)))
    ∙ sym (filter-append q s.front (s.it ∷ s.back)) ∙ ap (filter q) (sym s.are)

without_limit : (a : Alias) (o : Option ℕ) (c : Contents) → IsSound c → place_of a c.rctl ≡ o → HasNoLimit a c (without_rctl o c)
without_limit a None c s h = record { gone = filter-none (is_named_for a) c.rctl (none_passes (is_named_for a) c.rctl h); others = refl; same = refl }
without_limit a (Some i) c s h =
    let parts = parted (is_named_for a) c.rctl i h in
    record {
      gone = filter-none (is_named_for a) (remove c.rctl i) (key_taken_once (λ r. r.name) (rctl_name a) c.rctl i (s.resources.kinds kind.Rctl).once parts);
      others = filter-without (is_named_for a) c.rctl i parts;
      same = refl;
    }

alias-Ok : (a : Alias) (c d : Contents) → IsSound c → alias_cleared a c ≡ Ok d → HasNoLimit a c d
unfolding alias_cleared
alias-Ok a c d s h =
    elim (is_held a c.rctl) as (λ b. cond {A = Result Contents ConfigFault} b (Err fault.AliasHeld) (Ok (without_rctl (place_of a c.rctl) c)) ≡ Ok d → HasNoLimit a c d) [
      | true ↦ λ g. absurd (cc)
      | false ↦ λ g. let same : without_rctl (place_of a c.rctl) c ≡ d = cc in subst (HasNoLimit a c) same (without_limit a (place_of a c.rctl) c s refl)
    ] h

named-Ok : (o : Option Setting) (c d : Contents) → IsSound c → named_cleared o c ≡ Ok d → IsCleared o c d
named-Ok None c d s h = absurd (cc)
named-Ok (Some (Kept p)) c d s h =
    subst (ShowsText p (unset_text p) c) (sym (fits_in (without_value p c) d h)) (shows_text p (unset_text p) c (shown_unset p c))
named-Ok (Some (Aliased a)) c d s h = alias-Ok a c d s h

named-refused : (o : Option Setting) (c : Contents) → IsSound c → IfErr (named_cleared o c) (MayRefuseClear o c)
named-refused None c s = tt
named-refused (Some (Kept p)) c s = kept-refused p c s
named-refused (Some (Aliased a)) c s = alias-refused a c

cleared : (name : List ℕ) (old new : Contents) → IsSound old → without_property name old ≡ Ok new → IsCleared (setting_named name) old new
unfolding without_property
cleared name old new s h = named-Ok (setting_named name) old new s h

refusal : (name : List ℕ) (old : Contents) (e : ConfigFault) → IsSound old → without_property name old ≡ Err e → MayRefuseClear (setting_named name) old e
unfolding without_property
refusal name old e s h = subst (λ (r : Result Contents ConfigFault). IfErr r (MayRefuseClear (setting_named name) old)) h (named-refused (setting_named name) old s)

pub clears : ClearsWhereNamed
clears name old new (Ok done) s h = record { cleared = cleared name old new s h; refused = tt }
clears name old new (Err e) s h = record { cleared = tt; refused = refusal name old e s h.0 }
