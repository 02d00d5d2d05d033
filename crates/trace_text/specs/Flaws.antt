-- How a flaw of a configuration is printed: its code and name, and what it is about.
use Rattle.std.specs.Prelude.{ℕ, List, ◌++◌, unwrap_or, codes}
use Rattle.std.specs.Fmt.{decimal}
use Rattle.config_terms.specs.Fields.{field_name, kind_name, list_name}
use Rattle.config_terms.specs.declared.fields.Named.{Named}
use Rattle.config_terms.specs.declared.fields.Named.TheVariants.{One, Many}
use Rattle.config_terms.specs.declared.terms.Kind.{Kind}
use Rattle.config_verify.specs.declared.flaw.Flaw.{Flaw}
use Rattle.config_verify.specs.declared.flaw.Flaw.TheVariants.{Memory, NoZonepath, MissingProperty, NetForm, BadAddress, SameDir, UnknownBrand, AttrForm}
use Rattle.priv_sets.specs.Table.{name_of}
use Rattle.priv_sets.specs.declared.limit.PrivFault.{PrivFault}
use Rattle.priv_sets.specs.declared.limit.PrivFault.TheVariants.{Memory as No_memory, PrivWord, PrivRequired, PrivProhibited}

-- a property of a kind
abbrev pub property_text : Kind → Named → List ℕ
property_text kind (One field) = field_name field
property_text kind Many = unwrap_or (list_name kind) (codes "value")

-- running out of memory is no flaw that is told
abbrev pub flaw_text : Flaw → List ℕ
flaw_text Memory = codes "no memory"
flaw_text NoZonepath = codes "41 NoZonepath"
flaw_text (MissingProperty kind name) = codes "42 MissingProperty " ++ (kind_name kind ++ (codes " " ++ property_text kind name))
flaw_text (NetForm place) = codes "43 NetForm " ++ decimal place
flaw_text (BadAddress text) = codes "44 BadAddress " ++ text
flaw_text (SameDir dir) = codes "45 SameDir " ++ dir
flaw_text (UnknownBrand brand) = codes "46 UnknownBrand " ++ brand
flaw_text (AttrForm name) = codes "50 AttrForm " ++ name

-- why its limitpriv denotes no limit set
abbrev pub limit_fault_text : PrivFault → List ℕ
limit_fault_text No_memory = codes "no memory"
limit_fault_text (PrivWord place) = codes "47 PrivWord " ++ decimal place
limit_fault_text (PrivRequired number) = codes "48 PrivRequired " ++ name_of number
limit_fault_text (PrivProhibited number) = codes "49 PrivProhibited " ++ name_of number
