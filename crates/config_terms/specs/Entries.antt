-- What resources of each type show, and what a text in the place of a property makes of them.
use Rattle.std.specs.Prelude.{ℕ, List, [], ◌∷◌, Option, Some, None}
use Rattle.config_terms.specs.declared.fields.Field.{Field}
use Rattle.config_terms.specs.declared.fields.Field.TheVariants.{FsDir, FsSpecial, FsRaw, FsType, NetAddress, NetAllowed, NetPhysical, NetDefrouter, DeviceMatch, RctlName, AttrName, AttrType, AttrValue, DatasetName}
use Rattle.config_terms.specs.declared.terms.Attr.{Attr}
use Rattle.config_terms.specs.declared.terms.Fs.{Fs}
use Rattle.config_terms.specs.declared.terms.Net.{Net}
use Rattle.config_terms.specs.declared.terms.Rctl.{Rctl}

abbrev pub path_text : Option (List ℕ) → List ℕ
path_text None = []
path_text (Some path) = path

-- the path that a text is, if it isn't empty
abbrev pub kept_path : List ℕ → Option (List ℕ)
kept_path [] = None
kept_path (b ∷ path) = Some (b ∷ path)

-- what each property shows, nothing where it isn't set; and a resource with a text in the place of one, which an empty
-- text unsets
abbrev pub fs_shown : Fs → Field → List ℕ
fs_shown f FsDir = path_text f.dir
fs_shown f FsSpecial = f.special
fs_shown f FsRaw = f.raw
fs_shown f FsType = f.fstype
fs_shown f _ = []

abbrev pub fs_with : Field → List ℕ → Fs → Fs
fs_with FsDir text f = record f { dir = kept_path text }
fs_with FsSpecial text f = record f { special = text }
fs_with FsRaw text f = record f { raw = text }
fs_with FsType text f = record f { fstype = text }
fs_with _ text f = f

abbrev pub net_shown : Net → Field → List ℕ
net_shown n NetAddress = n.address
net_shown n NetAllowed = n.allowed
net_shown n NetPhysical = n.physical
net_shown n NetDefrouter = n.defrouter
net_shown n _ = []

abbrev pub net_with : Field → List ℕ → Net → Net
net_with NetAddress text n = record n { address = text }
net_with NetAllowed text n = record n { allowed = text }
net_with NetPhysical text n = record n { physical = text }
net_with NetDefrouter text n = record n { defrouter = text }
net_with _ text n = n

abbrev pub rctl_shown : Rctl → Field → List ℕ
rctl_shown r RctlName = r.name
rctl_shown r _ = []

abbrev pub rctl_with : Field → List ℕ → Rctl → Rctl
rctl_with RctlName text r = record r { name = text }
rctl_with _ text r = r

abbrev pub attr_shown : Attr → Field → List ℕ
attr_shown a AttrName = a.name
attr_shown a AttrType = a.form
attr_shown a AttrValue = a.value
attr_shown a _ = []

abbrev pub attr_with : Field → List ℕ → Attr → Attr
attr_with AttrName text a = record a { name = text }
attr_with AttrType text a = record a { form = text }
attr_with AttrValue text a = record a { value = text }
attr_with _ text a = a

-- a device or a dataset is the text of its one property
abbrev pub text_shown : List ℕ → Field → List ℕ
text_shown text field = text

abbrev pub device_with : Field → List ℕ → List ℕ → List ℕ
device_with DeviceMatch text m = text
device_with _ text m = m

abbrev pub dataset_with : Field → List ℕ → List ℕ → List ℕ
dataset_with DatasetName text d = text
dataset_with _ text d = d
