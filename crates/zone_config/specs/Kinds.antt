-- A row for each kind of resource: how its resources are seen, and where a configuration has them.
use Rattle.std.specs.Prelude.{ℕ, List, Bool, Option, Some, None}
use Rattle.std.specs.Str.{bytes_eq}
use Rattle.config_terms.specs.declared.fields.Field.{Field}
use Rattle.config_terms.specs.declared.terms.Attr.{Attr}
use Rattle.config_terms.specs.declared.terms.Fs.{Fs}
use Rattle.config_terms.specs.declared.terms.Kind.{Kind}
use Rattle.config_terms.specs.declared.terms.Kind.TheVariants as kind
use Rattle.config_terms.specs.declared.terms.Net.{Net}
use Rattle.config_terms.specs.declared.terms.Rctl.{Rctl}
use Rattle.config_terms.specs.declared.terms.Resource.{Resource}
use Rattle.config_terms.specs.declared.terms.Resource.TheVariants as resource
use Rattle.config_terms.specs.Fields.{attr_shown, fs_shown, net_shown, rctl_shown, text_shown}
use Rattle.config_terms.specs.Texts.{attr_text, dataset_text, device_text, fs_text, net_text, rctl_text}
use Rattle.zone_config.specs.declared.limits.TheConstants.{FS_MAX}
use Rattle.zone_config.specs.declared.terms.Contents.{Contents}
use Rattle.zone_config.specs.SameEntries.{same_attr, same_fs, same_net, same_rctl}

-- a kind whose resources are of a type: how one is a resource, what it shows, its text, whether two are one, how many there
-- may be where that is bounded, and their list
pub record Row (A : Type 0) : Type 0 where
  pub kind : Kind
  pub make : A → Resource
  pub shown : A → Field → List ℕ
  pub text : A → List ℕ
  pub same : A → A → Bool
  pub most : Option ℕ
  pub list : Contents → List A
  pub put : List A → Contents → Contents

abbrev pub fs_row : Row Fs
fs_row = record { kind = kind.Fs; make = resource.Fs; shown = fs_shown; text = fs_text; same = same_fs; most = Some FS_MAX; list = λ c. c.fs; put = λ xs c. record c { fs = xs } }

abbrev pub net_row : Row Net
net_row = record { kind = kind.Net; make = resource.Net; shown = net_shown; text = net_text; same = same_net; most = None; list = λ c. c.net; put = λ xs c. record c { net = xs } }

abbrev pub device_row : Row (List ℕ)
device_row =
    record { kind = kind.Device; make = resource.Device; shown = text_shown; text = device_text; same = bytes_eq; most = None; list = λ c. c.device; put = λ xs c. record c { device = xs } }

abbrev pub rctl_row : Row Rctl
rctl_row = record { kind = kind.Rctl; make = resource.Rctl; shown = rctl_shown; text = rctl_text; same = same_rctl; most = None; list = λ c. c.rctl; put = λ xs c. record c { rctl = xs } }

abbrev pub attr_row : Row Attr
attr_row = record { kind = kind.Attr; make = resource.Attr; shown = attr_shown; text = attr_text; same = same_attr; most = None; list = λ c. c.attr; put = λ xs c. record c { attr = xs } }

abbrev pub dataset_row : Row (List ℕ)
dataset_row =
    record { kind = kind.Dataset; make = resource.Dataset; shown = text_shown; text = dataset_text; same = bytes_eq; most = None; list = λ c. c.dataset; put = λ xs c. record c { dataset = xs } }

-- what is made of the row of a kind
abbrev pub by_kind {ℓ} : {B : Type ℓ} → Kind → ((A : Type 0) → Row A → B) → B
by_kind kind.Fs make = make Fs fs_row
by_kind kind.Net make = make Net net_row
by_kind kind.Device make = make (List ℕ) device_row
by_kind kind.Rctl make = make Rctl rctl_row
by_kind kind.Attr make = make Attr attr_row
by_kind kind.Dataset make = make (List ℕ) dataset_row

-- what is made of a resource by the row of its kind
abbrev pub by_resource : {B : Type 0} → Resource → ((A : Type 0) → Row A → A → B) → B
by_resource (resource.Fs f) make = make Fs fs_row f
by_resource (resource.Net n) make = make Net net_row n
by_resource (resource.Device m) make = make (List ℕ) device_row m
by_resource (resource.Rctl r) make = make Rctl rctl_row r
by_resource (resource.Attr a) make = make Attr attr_row a
by_resource (resource.Dataset d) make = make (List ℕ) dataset_row d
