-- The properties of the global scope: a row for each (zonecfg(8), PROPERTIES).
use Rattle.std.specs.Prelude.{ℕ, List, [], ◌∷◌, ◌++◌, Bool, true, false, map, Option, None, find, codes, if◌then◌else◌}
use Rattle.std.specs.Str.{bytes_eq}
use Rattle.config_terms.specs.declared.terms.IpType.TheVariants.{Shared, Exclusive}
use Rattle.config_terms.specs.declared.terms.IpType as ip
use Rattle.config_terms.specs.declared.rules.Rule.{Rule}
use Rattle.config_terms.specs.declared.rules.Rule.TheVariants.{OwnPath, Flag, ShortName, Simple, IpWay, HostId}
use Rattle.config_terms.specs.Edits.{kept_path}
use Rattle.config_terms.specs.Fields.{path_text}
use Rattle.zone_config.specs.declared.terms.Contents.{Contents}
use Rattle.zone_config.specs.declared.terms.Property.{Property}
use Rattle.zone_config.specs.declared.terms.Property.TheVariants.{Zonepath, Brand, Autoboot, Bootargs, Pool, Limitpriv, SchedulingClass, IpType, Hostid, FsAllowed}
use Rattle.zone_config.specs.declared.terms.Alias.{Alias}
use Rattle.zone_config.specs.declared.terms.Alias.TheVariants.{CpuShares, MaxLwps, MaxProcesses}
use Rattle.zone_config.specs.declared.terms.Setting.{Setting}
use Rattle.zone_config.specs.declared.terms.Setting.TheVariants.{Kept, Aliased}

abbrev pub property_name : Property → List ℕ
property_name Zonepath = codes "zonepath"
property_name Brand = codes "brand"
property_name Autoboot = codes "autoboot"
property_name Bootargs = codes "bootargs"
property_name Pool = codes "pool"
property_name Limitpriv = codes "limitpriv"
property_name SchedulingClass = codes "scheduling-class"
property_name IpType = codes "ip-type"
property_name Hostid = codes "hostid"
property_name FsAllowed = codes "fs-allowed"

abbrev pub property_rule : Property → Rule
property_rule Zonepath = OwnPath
property_rule Brand = ShortName
property_rule Autoboot = Flag
property_rule Bootargs = Simple
property_rule Pool = ShortName
property_rule Limitpriv = Simple
property_rule SchedulingClass = ShortName
property_rule IpType = IpWay
property_rule Hostid = HostId
property_rule FsAllowed = Simple

-- all of them, in the order in which they are printed
abbrev pub properties : List Property
properties =
    Zonepath ∷ Brand ∷ Autoboot ∷ Bootargs ∷ Pool ∷ Limitpriv ∷ SchedulingClass ∷ IpType ∷ Hostid ∷ FsAllowed ∷ []

abbrev pub bool_text : Bool → List ℕ
bool_text true = codes "true"
bool_text false = codes "false"

abbrev pub ip_text : ip.IpType → List ℕ
ip_text Shared = codes "shared"
ip_text Exclusive = codes "exclusive"

-- the ip-type that a text is
abbrev pub ip_type : List ℕ → ip.IpType
ip_type text = if bytes_eq text (codes "exclusive") then Exclusive else Shared

-- the text of a property: empty where it is not set
abbrev pub shown : Property → Contents → List ℕ
shown Zonepath c = path_text c.zonepath
shown Brand c = c.brand
shown Autoboot c = bool_text c.autoboot
shown Bootargs c = c.bootargs
shown Pool c = c.pool
shown Limitpriv c = c.limitpriv
shown SchedulingClass c = c.class
shown IpType c = ip_text c.ip
shown Hostid c = c.hostid
shown FsAllowed c = c.fs_allowed

-- nothing is set
abbrev pub blank : Contents
blank = record {
  zonepath = None;
  brand = [];
  autoboot = false;
  bootargs = [];
  pool = [];
  limitpriv = [];
  class = [];
  ip = Shared;
  hostid = [];
  fs_allowed = [];
  fs = [];
  net = [];
  device = [];
  rctl = [];
  attr = [];
  dataset = [];
}

-- what a property shows while it is not set
abbrev pub unset_text : Property → List ℕ
unset_text p = shown p blank

-- a property given a text that its rule allows, or the text of one that is not set
abbrev pub with_value : Property → List ℕ → Contents → Contents
with_value Zonepath value c = record c { zonepath = kept_path value }
with_value Brand value c = record c { brand = value }
with_value Autoboot value c = record c { autoboot = bytes_eq value (codes "true") }
with_value Bootargs value c = record c { bootargs = value }
with_value Pool value c = record c { pool = value }
with_value Limitpriv value c = record c { limitpriv = value }
with_value SchedulingClass value c = record c { class = value }
with_value IpType value c = record c { ip = ip_type value }
with_value Hostid value c = record c { hostid = value }
with_value FsAllowed value c = record c { fs_allowed = value }

-- a property as it is before it is set
abbrev pub without_value : Property → Contents → Contents
without_value p c = with_value p (unset_text p) c

abbrev pub alias_name : Alias → List ℕ
alias_name CpuShares = codes "cpu-shares"
alias_name MaxLwps = codes "max-lwps"
alias_name MaxProcesses = codes "max-processes"

abbrev pub aliases : List Alias
aliases = CpuShares ∷ MaxLwps ∷ MaxProcesses ∷ []

-- the name of the rctl that an alias is kept as
abbrev pub rctl_name : Alias → List ℕ
rctl_name CpuShares = codes "zone.cpu-shares"
rctl_name MaxLwps = codes "zone.max-lwps"
rctl_name MaxProcesses = codes "zone.max-processes"

-- whether what goes past the limit is denied
abbrev pub denies : Alias → Bool
denies CpuShares = false
denies MaxLwps = true
denies MaxProcesses = true

abbrev pub setting_name : Setting → List ℕ
setting_name (Kept p) = property_name p
setting_name (Aliased a) = alias_name a

-- what can be set in the global scope
abbrev pub settings : List Setting
settings = map Kept properties ++ map Aliased aliases

-- what a name stands for
unfoldable pub setting_named : List ℕ → Option Setting
setting_named name = find (λ s. bytes_eq (setting_name s) name) settings
