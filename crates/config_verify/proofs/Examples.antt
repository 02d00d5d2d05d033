-- What the definitions say of some values and resources.
use Rattle.std.proofs.Common.{◌≡◌, [], ◌∷◌, true, false, Some, codes, refl}
use Rattle.config_terms.specs.declared.fields.Field.TheVariants.{DatasetName, FsSpecial, NetPhysical}
use Rattle.config_terms.specs.declared.fields.Named.TheVariants.{One}
use Rattle.config_terms.specs.declared.terms.IpType.TheVariants.{Shared}
use Rattle.config_terms.specs.declared.terms.Kind.TheVariants as kind
use Rattle.zn_base.specs.Decimals.{decimal_of}
use Rattle.zone_config.specs.Property.{blank}
use Rattle.config_verify.specs.declared.flaw.Flaw.TheVariants.{MissingProperty, NetForm, NoZonepath, SameDir, UnknownBrand}
use Rattle.config_verify.specs.Flaws.{flaws, flaws_of_dataset, flaws_of_fs, flaws_of_net, has_special, is_claimed}
use Rattle.config_verify.specs.Values.{is_address, is_of_form, is_plain_address, is_unsigned, is_up_to, without_prefix}

address : is_address (codes "10.0.0.255/32") ≡ true
unfolding is_address is_plain_address is_up_to decimal_of
address = refl

no_leading_zero : is_address (codes "10.0.01.1") ≡ false
unfolding is_address is_plain_address is_up_to decimal_of
no_leading_zero = refl

no_prefix_of_33 : is_address (codes "10.0.0.1/33") ≡ false
unfolding is_address is_plain_address is_up_to decimal_of
no_prefix_of_33 = refl

negative : is_of_form (codes "int") (codes "-12") ≡ true
unfolding is_of_form is_unsigned
negative = refl

digits_18 : is_of_form (codes "uint") (codes "123456789012345678") ≡ true
unfolding is_of_form is_unsigned
digits_18 = refl

no_19_digits : is_of_form (codes "uint") (codes "1234567890123456789") ≡ false
unfolding is_of_form is_unsigned
no_19_digits = refl

any_string : is_of_form (codes "string") (codes "a b") ≡ true
unfolding is_of_form
any_string = refl

fs_on_the_root : flaws_of_fs [] (record { dir = Some (codes "/"); special = codes "a"; raw = []; fstype = codes "lofs"; options = [] }) ≡ MissingProperty kind.Fs (One FsSpecial) ∷ SameDir (codes "/") ∷ []
unfolding flaws_of_fs has_special
fs_on_the_root = refl

one_address : flaws_of_net Shared (record { address = codes "1.2.3.4/8"; allowed = []; physical = codes "e0"; defrouter = [] } ∷ []) (record { address = codes "1.2.3.4"; allowed = []; physical = []; defrouter = [] }) ≡ MissingProperty kind.Net (One NetPhysical) ∷ NetForm 1 ∷ []
unfolding flaws_of_net is_claimed is_address is_plain_address is_up_to decimal_of without_prefix
one_address = refl

-- the zone's own flaws come before those of its resources
first_of_all : flaws (codes "ipkg" ∷ []) (record blank { brand = codes "lx"; dataset = [] ∷ [] })
    ≡ NoZonepath ∷ UnknownBrand (codes "lx") ∷ MissingProperty kind.Dataset (One DatasetName) ∷ []
unfolding flaws flaws_of_dataset
first_of_all = refl
