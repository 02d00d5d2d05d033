-- What the definitions say of some configurations.
use Rattle.std.proofs.Common.{◌≡◌, ℕ, [], ◌∷◌, length, replicate, true, Some, None, Ok, Err, codes, refl}
use Rattle.zn_base.specs.declared.values.Value.TheVariants.{Simple, List as Items}
use Rattle.config_terms.specs.declared.fault.ConfigFault.TheVariants.{UnknownProperty, BadValue, AliasHeld, TooLarge}
use Rattle.config_terms.specs.declared.terms.Fs as fs
use Rattle.config_terms.specs.declared.terms.Resource.TheVariants.{Fs, Dataset}
use Rattle.zn_base.specs.Decimals.{decimal_of}
use Rattle.config_terms.specs.Rules.{obeys}
use Rattle.config_terms.specs.Texts.{setting}
use Rattle.zone_config.specs.declared.terms.Contents.{Contents}
use Rattle.zone_config.specs.Property.{blank, setting_named}
use Rattle.zone_config.specs.Export.{export_text, unless_larger}
use Rattle.zone_config.specs.Edits.{with_property, without_property, alias_set, alias_cleared}
use Rattle.zone_config.specs.Resources.{limit_passed}
use Rattle.zone_config.specs.Sound.{count}

abbrev web : Contents
web = record blank { zonepath = Some (codes "/zones/web"); brand = codes "ipkg" }

web_is_set : with_property (codes "zonepath") (Simple (codes "/zones/web")) (record blank { brand = codes "ipkg" }) ≡ Ok web
unfolding with_property setting_named obeys export_text setting
web_is_set = refl

web_text : export_text web ≡ codes "create -b\nset zonepath=/zones/web\nset brand=ipkg\nset autoboot=false\nset ip-type=shared\n"
unfolding export_text setting
web_text = refl

web_length : length (export_text web) ≡ 87
unfolding export_text setting
web_length = refl

abbrev shares : Contents
shares = record blank { rctl = record { name = codes "zone.cpu-shares"; values = record { limit = 20; deny = true } ∷ [] } ∷ [] }

-- the action of cpu-shares is none
held : with_property (codes "cpu-shares") (Simple (codes "10")) shares ≡ Err AliasHeld
unfolding with_property setting_named alias_set decimal_of
held = refl

held_before_cleared : without_property (codes "cpu-shares") shares ≡ Err AliasHeld
unfolding without_property setting_named alias_cleared
held_before_cleared = refl

zero : with_property (codes "max-lwps") (Simple (codes "0")) blank ≡ Err BadValue
unfolding with_property setting_named alias_set decimal_of
zero = refl

listed : with_property (codes "pool") (Items []) blank ≡ Err BadValue
unfolding with_property setting_named
listed = refl

unknown : with_property (codes "dir") (Items []) blank ≡ Err UnknownProperty
unfolding with_property setting_named
unknown = refl

-- the greatest counts and the greatest length
mount : ℕ → fs.Fs
mount n = record { dir = None; special = []; raw = []; fstype = []; options = replicate n (codes "ro") }

mounts : ℕ → Contents
mounts n = record blank { fs = replicate n (mount 32) }

sets : ℕ → Contents
sets n = record blank { dataset = replicate n [] }

room_for_256 : limit_passed (Dataset []) (sets 255) ≡ None
unfolding sets count
room_for_256 = refl

no_room_for_257 : limit_passed (Dataset []) (sets 256) ≡ Some 256
unfolding sets count
no_room_for_257 = refl

room_for_100_mounts : limit_passed (Fs (mount 32)) (mounts 99) ≡ None
unfolding mount mounts count
room_for_100_mounts = refl

no_room_for_101_mounts : limit_passed (Fs (mount 0)) (mounts 100) ≡ Some 100
unfolding mount mounts count
no_room_for_101_mounts = refl

no_room_for_33_options : limit_passed (Fs (mount 33)) blank ≡ Some 32
unfolding mount count
no_room_for_33_options = refl

largest : unless_larger 32768 blank ≡ Ok blank
largest = refl

too_large : unless_larger 32769 blank ≡ Err (TooLarge 32769)
too_large = refl
