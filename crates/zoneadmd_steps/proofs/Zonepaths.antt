-- Another zonepath of a configuration.
use Rattle.std.proofs.Common.{◌≡◌, ◌∙◌, ◌+◌, ◌<◌, ◌≤◌, ◌^◌, ◌++◌, ◌∷◌, [], ℕ, Bool, List, Result, Ok, Err, IfOk, IsSome, true, false, not, nat_lt, length, codes, bytes_eq, refl, subst, sym, arith, length-append}
use Rattle.std.specs.Prelude.{if◌then◌else◌}
use Rattle.std.specs.List.{list_all, position_or_len}
use Rattle.std.proofs.lemmas.Bool.{false≢true, ltb-false}
use Rattle.std.proofs.lemmas.List.{take_at}
use Rattle.config_terms.specs.Fields.{path_text}
use Rattle.config_terms.specs.Rules.{obeys}
use Rattle.config_terms.specs.Texts.{is_bare_byte, setting, value_text}
use Rattle.config_terms.specs.declared.fault.ConfigFault.{ConfigFault}
use Rattle.config_terms.specs.declared.rules.Rule.TheVariants.{OwnPath}
use Rattle.config_verify.proofs.Front_texts.{front_text}
use Rattle.zn_base.proofs.Path_texts.{path_with_root}
use Rattle.zn_base.specs.Path.{is_path}
use Rattle.zn_base.specs.Text.{is_text, is_text_byte}
use Rattle.zone_config.proofs.PropertyEdits.{shown_obeyed, size_with}
use Rattle.zone_config.specs.declared.terms.Contents.{Contents}
use Rattle.zone_config.specs.declared.terms.Property.TheVariants.{Zonepath}
use Rattle.zone_config.specs.Edits.{property_set, with_property}
use Rattle.zone_config.specs.Export.{export_text, sized}
use Rattle.config_terms.specs.Edits.{kept_path}
use Rattle.zone_config.specs.Property.{setting_named, with_value}
use Rattle.zone_config.specs.Sound.{IsSound}
use Rattle.zone_pools.specs.Asked.{A_path, Asked}
use Rattle.zoneadmd_steps.specs.Configs.{with_zonepath}
use Rattle.zoneadmd_steps.specs.Turns.{path_asked, size_in}

-- a path is a text, since what is longer is one
pub path_is_text : (path : List ℕ) → is_path path ≡ true → is_text path ≡ true
path_is_text path h = subst (λ t. is_text t ≡ true) (take_at path (codes "/root") (length path) refl) (front_text (path ++ codes "/root") (length path) (path_with_root path h))

short_value : (value : List ℕ) → length (value_text value) ≤ length value + 2
short_value value = at_bytes (list_all is_bare_byte value) refl
  where
    at_bytes : (b : Bool) → list_all is_bare_byte value ≡ b → length (value_text value) ≤ length value + 2
    at_bytes true e = rw e (omega arith)
    at_bytes false e = let l = length-append value (34 ∷ []) in rw e (omega (arith, l))

short_setting : (path : List ℕ) → length (setting (codes "zonepath") path) ≤ length path + 16
unfolding setting
short_setting [] = omega arith
short_setting (b ∷ path) =
    let value = short_value (b ∷ path) in
    let l = length-append (value_text (b ∷ path)) (10 ∷ []) in
    omega (arith, value, l)

text_bound : (path : List ℕ) → is_text path ≡ true → length path ≤ 4200
text_bound path h = at_bad (nat_lt (position_or_len (λ b. not (is_text_byte b)) path) (length path)) refl
  where
    at_length : (b : Bool) → nat_lt 4200 (length path) ≡ b → nat_lt (position_or_len (λ b. not (is_text_byte b)) path) (length path) ≡ false → length path ≤ 4200
    at_length true e n = absurd (false≢true (simp (n, e) at h))
    at_length false e n = ltb-false 4200 (length path) e

    at_bad : (b : Bool) → nat_lt (position_or_len (λ b. not (is_text_byte b)) path) (length path) ≡ b → length path ≤ 4200
    at_bad true e = absurd (false≢true (simp e at h))
    at_bad false e = at_length (nat_lt 4200 (length path)) refl e

-- the export text is not much longer
moved_size : (path : List ℕ) (c : Contents) → IsSound c → is_text path ≡ true → obeys OwnPath path ≡ true → length (export_text (with_value Zonepath path c)) < 2 ^ 32
moved_size path c sound text e =
    let sizes = size_with Zonepath path c (length (export_text c)) (record { measured = refl; sound = sound }) (shown_obeyed Zonepath path c e) in
    let line = short_setting path in
    let bound = text_bound path text in
    omega (arith, sizes.within, sizes.now, line, bound, sound.short)

set_path : (path : List ℕ) (c : Contents) → with_zonepath path c ≡ property_set Zonepath path c
unfolding with_property obeys setting_named
set_path path c = refl

abbrev err_size : Result Contents ConfigFault → ℕ
err_size (Ok x) = 0
err_size (Err fault) = size_in fault

small_error : (x : Contents) → length (export_text x) < 2 ^ 32 → err_size (sized x) < 2 ^ 32
small_error x small = at_size (nat_lt 32768 (length (export_text x))) refl
  where
    at_size : (b : Bool) → nat_lt 32768 (length (export_text x)) ≡ b → err_size (sized x) < 2 ^ 32
    at_size true e = rw e small
    at_size false e = rw e (omega arith)

pub fault_bound : (path : List ℕ) (c : Contents) (fault : ConfigFault) → IsSound c → is_text path ≡ true → with_zonepath path c ≡ Err fault → size_in fault < 2 ^ 32
fault_bound path c fault sound text h = subst (λ r. err_size r < 2 ^ 32) (sym (set_path path c) ∙ h) (at_rule (obeys OwnPath path) refl)
  where
    at_rule : (b : Bool) → obeys OwnPath path ≡ b → err_size (property_set Zonepath path c) < 2 ^ 32
    at_rule true e = rw e (small_error (with_value Zonepath path c) (moved_size path c sound text e))
    at_rule false e = rw e (omega arith)

shown_ok : (path : List ℕ) (x : Contents) → path_text x.zonepath ≡ path → IfOk (sized x) (λ new. path_text new.zonepath ≡ path)
shown_ok path x shows = at_size (nat_lt 32768 (length (export_text x))) refl
  where
    at_size : (b : Bool) → nat_lt 32768 (length (export_text x)) ≡ b → IfOk (sized x) (λ new. path_text new.zonepath ≡ path)
    at_size true e = rw e tt
    at_size false e = rw e shows

pub path_shown : (path : List ℕ) (c new : Contents) → with_zonepath path c ≡ Ok new → path_text new.zonepath ≡ path
path_shown path c new h = subst (λ r. IfOk r (λ new. path_text new.zonepath ≡ path)) (sym (set_path path c) ∙ h) (at_rule (obeys OwnPath path) refl)
  where
    at_rule : (b : Bool) → obeys OwnPath path ≡ b → IfOk (property_set Zonepath path c) (λ new. path_text new.zonepath ≡ path)
    at_rule true e = rw e (shown_ok path (with_value Zonepath path c) (shown_obeyed Zonepath path c e))
    at_rule false e = rw e tt

-- it has one
kept_some : (path : List ℕ) → obeys OwnPath path ≡ true → IsSome (kept_path path)
unfolding obeys
kept_some [] h = absurd (false≢true h)
kept_some (b ∷ path) h = refl

set_ok : (x : Contents) → IsSome x.zonepath → IfOk (sized x) (λ new. IsSome new.zonepath)
set_ok x has = at_size (nat_lt 32768 (length (export_text x))) refl
  where
    at_size : (b : Bool) → nat_lt 32768 (length (export_text x)) ≡ b → IfOk (sized x) (λ new. IsSome new.zonepath)
    at_size true e = rw e tt
    at_size false e = rw e has

pub path_is_set : (path : List ℕ) (c new : Contents) → with_zonepath path c ≡ Ok new → IsSome new.zonepath
path_is_set path c new h = subst (λ r. IfOk r (λ new. IsSome new.zonepath)) (sym (set_path path c) ∙ h) (at_rule (obeys OwnPath path) refl)
  where
    at_rule : (b : Bool) → obeys OwnPath path ≡ b → IfOk (property_set Zonepath path c) (λ new. IsSome new.zonepath)
    at_rule true e = rw e (set_ok (with_value Zonepath path c) (kept_some path e))
    at_rule false e = rw e tt

-- a path that is new to the zone is asked for
pub asked_path : (path : List ℕ) (own config : Contents) (is_new : Bool) (serial : Asked) → is_new ≡ not (bytes_eq path (path_text own.zonepath)) → path_text config.zonepath ≡ path
    → path_asked path own serial ≡ (if is_new then A_path (path_text config.zonepath) ∷ serial ∷ [] else serial ∷ [])
asked_path path own config is_new serial is shows = rw (is, shows) (at_test (bytes_eq path (path_text own.zonepath)) refl)
  where
    at_test : (b : Bool) → bytes_eq path (path_text own.zonepath) ≡ b → path_asked path own serial ≡ (if not (bytes_eq path (path_text own.zonepath)) then A_path path ∷ serial ∷ [] else serial ∷ [])
    at_test true e = rw e refl
    at_test false e = rw e refl
