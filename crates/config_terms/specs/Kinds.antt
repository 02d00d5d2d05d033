-- A row for each kind of resource: what the tables say of it, and how its resources are made, seen and edited.
use Rattle.std.specs.Prelude.{ℕ, List, [], ◌∷◌, Option, Some, None, codes}
use Rattle.config_terms.specs.declared.fields.Field.{Field}
use Rattle.config_terms.specs.declared.fields.Field.TheVariants.{FsDir, FsSpecial, FsRaw, FsType, NetAddress, NetAllowed, NetPhysical, NetDefrouter, DeviceMatch, RctlName, AttrName, AttrType, AttrValue, DatasetName}
use Rattle.config_terms.specs.declared.terms.Attr.{Attr}
use Rattle.config_terms.specs.declared.terms.Fs.{Fs}
use Rattle.config_terms.specs.declared.terms.Kind.{Kind}
use Rattle.config_terms.specs.declared.terms.Kind.TheVariants as kind
use Rattle.config_terms.specs.declared.terms.Net.{Net}
use Rattle.config_terms.specs.declared.terms.Rctl.{Rctl}
use Rattle.config_terms.specs.declared.terms.Resource.{Resource}
use Rattle.config_terms.specs.declared.terms.Resource.TheVariants as resource
use Rattle.config_terms.specs.Entries.{attr_shown, attr_with, dataset_with, device_with, fs_shown, fs_with, net_shown, net_with, rctl_shown, rctl_with, text_shown}

-- a kind whose resources are of a type: its name, its simple properties in the order in which they are printed, the one by
-- which two resources are told apart, and the name of its list, if it has them; how one is a resource, one of which nothing
-- is set, what one shows, and one with a text in the place of a property
pub record Row (A : Type 0) : Type 0 where
  pub kind : Kind
  pub name : List ℕ
  pub fields : List Field
  pub key : Option Field
  pub list_name : Option (List ℕ)
  pub make : A → Resource
  pub empty : A
  pub shown : A → Field → List ℕ
  pub put : Field → List ℕ → A → A

abbrev pub fs_row : Row Fs
fs_row = record {
  kind = kind.Fs;
  name = codes "fs";
  fields = FsDir ∷ FsSpecial ∷ FsRaw ∷ FsType ∷ [];
  key = None;
  list_name = Some (codes "options");
  make = resource.Fs;
  empty = record { dir = None; special = []; raw = []; fstype = []; options = [] };
  shown = fs_shown;
  put = fs_with;
}

abbrev pub net_row : Row Net
net_row = record {
  kind = kind.Net;
  name = codes "net";
  fields = NetAddress ∷ NetAllowed ∷ NetPhysical ∷ NetDefrouter ∷ [];
  key = None;
  list_name = None;
  make = resource.Net;
  empty = record { address = []; allowed = []; physical = []; defrouter = [] };
  shown = net_shown;
  put = net_with;
}

abbrev pub device_row : Row (List ℕ)
device_row = record {
  kind = kind.Device;
  name = codes "device";
  fields = DeviceMatch ∷ [];
  key = Some DeviceMatch;
  list_name = None;
  make = resource.Device;
  empty = [];
  shown = text_shown;
  put = device_with;
}

abbrev pub rctl_row : Row Rctl
rctl_row = record {
  kind = kind.Rctl;
  name = codes "rctl";
  fields = RctlName ∷ [];
  key = Some RctlName;
  list_name = Some (codes "value");
  make = resource.Rctl;
  empty = record { name = []; values = [] };
  shown = rctl_shown;
  put = rctl_with;
}

abbrev pub attr_row : Row Attr
attr_row = record {
  kind = kind.Attr;
  name = codes "attr";
  fields = AttrName ∷ AttrType ∷ AttrValue ∷ [];
  key = Some AttrName;
  list_name = None;
  make = resource.Attr;
  empty = record { name = []; form = []; value = [] };
  shown = attr_shown;
  put = attr_with;
}

abbrev pub dataset_row : Row (List ℕ)
dataset_row = record {
  kind = kind.Dataset;
  name = codes "dataset";
  fields = DatasetName ∷ [];
  key = Some DatasetName;
  list_name = None;
  make = resource.Dataset;
  empty = [];
  shown = text_shown;
  put = dataset_with;
}

-- what is made of the row of a kind
abbrev pub by_kind : {B : Type 0} → Kind → ((A : Type 0) → Row A → B) → B
by_kind kind.Fs make = make Fs fs_row
by_kind kind.Net make = make Net net_row
by_kind kind.Device make = make (List ℕ) device_row
by_kind kind.Rctl make = make Rctl rctl_row
by_kind kind.Attr make = make Attr attr_row
by_kind kind.Dataset make = make (List ℕ) dataset_row

-- what is made of a resource by the row of its kind
abbrev pub by_resource : {B : Type 0} → Resource → ((A : Type 0) → Row A → A → B) → B
by_resource (resource.Fs f) make = make Fs fs_row f
by_resource (resource.Net n) make = make Net net_row n
by_resource (resource.Device m) make = make (List ℕ) device_row m
by_resource (resource.Rctl r) make = make Rctl rctl_row r
by_resource (resource.Attr a) make = make Attr attr_row a
by_resource (resource.Dataset d) make = make (List ℕ) dataset_row d
