-- What a move changes of a configuration: its zonepath alone.
use Rattle.std.proofs.Common.{◌≡◌, ℕ, List, Bool, true, false, Ok, Err, nat_lt, length, if◌then◌else◌, sym, refl, ◌∙◌}
use Rattle.config_terms.specs.Edits.{kept_path}
use Rattle.config_terms.specs.declared.fault.ConfigFault.{ConfigFault}
use Rattle.config_terms.specs.declared.fault.ConfigFault.TheVariants.{BadValue}
use Rattle.config_terms.specs.Rules.{obeys}
use Rattle.zone_config.specs.Edits.{property_set, with_property}
use Rattle.zone_config.specs.Export.{export_text, unless_larger}
use Rattle.zone_config.specs.Property.{property_rule, setting_named, with_value}
use Rattle.zone_config.specs.declared.terms.Contents.{Contents}
use Rattle.zone_config.specs.declared.terms.Property.TheVariants.{Zonepath}
use Rattle.zoneadmd_steps.specs.Configs.{with_zonepath}

set_so : (path : List ℕ) (c : Contents) → with_zonepath path c ≡ property_set Zonepath path c
unfolding with_property setting_named
set_so path c = refl

size_so : (n : ℕ) (d e : Contents) → unless_larger n d ≡ Ok e → d ≡ e
size_so n d e h = go (nat_lt 32768 n) _ h
  where
    go : (b : Bool) (f : ConfigFault) → (if b then Err f else Ok d) ≡ Ok e → d ≡ e
    go true f h = cc
    go false f h = cc

rule_so : (b : Bool) (n : ℕ) (d e : Contents) → (if b then unless_larger n d else Err BadValue) ≡ Ok e → d ≡ e
rule_so true n d e h = size_so n d e h
rule_so false n d e h = cc

pub moved_so : (path : List ℕ) (c d : Contents) → with_zonepath path c ≡ Ok d → record c { zonepath = kept_path path } ≡ d
moved_so path c d h = rule_so (obeys (property_rule Zonepath) path) (length (export_text (with_value Zonepath path c))) (with_value Zonepath path c) d (sym (set_so path c) ∙ h)
