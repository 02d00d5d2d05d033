-- The configuration that `create` makes without `-b`.
use Rattle.std.proofs.Common.{◌≡◌, false, Ok, codes, refl}
use Rattle.zn_base.specs.declared.values.Value.TheVariants.{Simple}
use Rattle.config_terms.specs.Rules.{obeys}
use Rattle.config_terms.specs.Texts.{setting}
use Rattle.zone_config.specs.Edits.{with_property}
use Rattle.zone_config.specs.Export.{export_text}
use Rattle.zone_config.specs.Property.{blank, setting_named}
use Rattle.zonecfg_scopes.specs.Scopes.{created}

pub branded : with_property (codes "brand") (Simple (codes "ipkg")) blank ≡ Ok (created false)
unfolding with_property setting_named obeys setting export_text
branded = refl
