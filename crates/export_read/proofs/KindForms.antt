-- What is known of each kind of resource.
use Rattle.std.proofs.Common.{◌≡◌, ◌≢◌, ◌⊎◌, inl, inr, ℕ, suc, length, subst, arith, Bool, true, false, List, [], ◌∷◌, ◌++◌, Option, Some, None, refl, ap}
use Rattle.std.specs.Prelude.{map, ◌==◌}
use Rattle.std.proofs.lemmas.Bool.Decides.{nat_tests}
use Rattle.config_terms.specs.Allowed.{entry_allowed, fields_fit, is_kept_path}
use Rattle.config_terms.specs.Edits.{attr_with, dataset_with, device_with, fs_with, kept_path, net_with, rctl_with}
use Rattle.config_terms.specs.Fields.{attr_shown, field_rule, fields_of, fs_shown, net_shown, path_text, rctl_shown}
use Rattle.config_terms.specs.declared.fields.Field.{Field}
use Rattle.config_terms.specs.declared.fields.Field.TheVariants.{FsDir, FsSpecial, FsRaw, FsType, NetAddress, NetAllowed, NetPhysical, NetDefrouter, DeviceMatch, RctlName, AttrName, AttrType, AttrValue, DatasetName}
use Rattle.config_terms.specs.declared.terms.Attr as attr
use Rattle.config_terms.specs.declared.terms.Fs as fs
use Rattle.config_terms.specs.declared.terms.Kind.TheVariants as kind
use Rattle.config_terms.specs.declared.terms.Limit.{Limit}
use Rattle.config_terms.specs.declared.terms.Net as net
use Rattle.config_terms.specs.declared.terms.Rctl as rctl
use Rattle.config_terms.specs.declared.terms.Resource.TheVariants.{Fs, Net, Device, Rctl, Attr, Dataset}
use Rattle.export_read.proofs.KindShapes.{IsForm}
use Rattle.export_read.proofs.Fresh.{IsOfNames}
use Rattle.export_read.proofs.Globals.{same_path}

nothing_at : {A : Type 0} (front rest : List A) (x : A) → [] ≡ front ++ x ∷ rest → ⊥
nothing_at [] rest x h = cc
nothing_at (y ∷ front) rest x h = cc

kept_shows : (v : List ℕ) → path_text (kept_path v) ≡ v
kept_shows [] = refl
kept_shows (b ∷ v) = refl

kept_whole : (v : List ℕ) → is_kept_path (kept_path v) ≡ true
kept_whole [] = refl
kept_whole (b ∷ v) = let some : (suc (length v) == 0) ≡ false = grind (arith, nat_tests) in rw some refl

not_empty : (p : Option (List ℕ)) → is_kept_path p ≡ true → p ≢ Some []
not_empty None h e = cc
not_empty (Some []) h e = absurd (cc)
not_empty (Some (b ∷ v)) h e = cc

-- file systems
abbrev pub fs_options : fs.Fs → List (List ℕ)
fs_options f = f.options

abbrev pub fs_values : fs.Fs → List Limit
fs_values f = []

abbrev pub fs_whole : fs.Fs → Bool
fs_whole f = is_kept_path f.dir

abbrev pub no_fs : fs.Fs
no_fs = record { dir = None; special = []; raw = []; fstype = []; options = [] }

fs_others : (f g : Field) (v : List ℕ) (a : fs.Fs) → (g ≡ f) ⊎ (fs_shown (fs_with f v a) g ≡ fs_shown a g)
fs_others FsDir FsDir v a = inl refl
fs_others FsDir g v a = inr refl
fs_others FsSpecial FsSpecial v a = inl refl
fs_others FsSpecial g v a = inr refl
fs_others FsRaw FsRaw v a = inl refl
fs_others FsRaw g v a = inr refl
fs_others FsType FsType v a = inl refl
fs_others FsType g v a = inr refl
fs_others f g v a = inr refl

fs_same_options : (f : Field) (v : List ℕ) (a : fs.Fs) → (fs_with f v a).options ≡ a.options
fs_same_options FsDir v a = refl
fs_same_options FsSpecial v a = refl
fs_same_options FsRaw v a = refl
fs_same_options FsType v a = refl
fs_same_options f v a = refl

fs_stays : (f : Field) (v : List ℕ) (a : fs.Fs) → fs_whole a ≡ true → fs_whole (fs_with f v a) ≡ true
fs_stays FsDir v a h = kept_whole v
fs_stays FsSpecial v a h = h
fs_stays FsRaw v a h = h
fs_stays FsType v a h = h
fs_stays f v a h = h

shows_no_fs : (f : Field) → fs_shown no_fs f ≡ []
shows_no_fs FsDir = refl
shows_no_fs FsSpecial = refl
shows_no_fs FsRaw = refl
shows_no_fs FsType = refl
shows_no_fs f = refl

same_fs : (a b : fs.Fs) → fs_whole a ≡ true → fs_whole b ≡ true → map (fs_shown a) (fields_of kind.Fs) ≡ map (fs_shown b) (fields_of kind.Fs) → a.options ≡ b.options → fs_values a ≡ fs_values b → a ≡ b
same_fs a b ha hb h os vs =
    let dir = same_path a.dir b.dir (cc) (not_empty a.dir ha) (not_empty b.dir hb) in
    let special : a.special ≡ b.special = cc in
    let raw : a.raw ≡ b.raw = cc in
    let fstype : a.fstype ≡ b.fstype = cc in
    λ i. record { dir = dir i; special = special i; raw = raw i; fstype = fstype i; options = os i }

pub fs_form : IsForm kind.Fs Fs fs_shown fs_options fs_values fs_with fs_whole no_fs
fs_form = record {
  kind = λ a. refl;
  judged = λ a. refl;
  distinct = refl;
  key_first = λ f h. absurd (cc);
  set = λ f v a. refl;
  own = (λ v a. kept_shows v, (λ v a. refl, (λ v a. refl, (λ v a. refl, tt))));
  others = fs_others;
  same_options = fs_same_options;
  same_values = λ f v a. refl;
  stays_whole = fs_stays;
  key_named = λ f h. absurd (cc);
  puts_options = λ o os a x h. (record a { options = o ∷ os }, refl, refl, refl, refl, refl);
  puts_value = λ v front rest a x h. absurd (nothing_at front rest v h);
  is_nothing = refl;
  shows_nothing = shows_no_fs;
  no_options = refl;
  no_values = refl;
  whole_nothing = refl;
  same = same_fs;
}

-- what kinds without a list have
abbrev pub no_options : {A : Type 0} → A → List (List ℕ)
no_options a = []

abbrev pub no_values : {A : Type 0} → A → List Limit
no_values a = []

abbrev pub always_whole : {A : Type 0} → A → Bool
always_whole a = true

-- network interfaces
abbrev pub no_net : net.Net
no_net = record { address = []; allowed = []; physical = []; defrouter = [] }

net_others : (f g : Field) (v : List ℕ) (a : net.Net) → (g ≡ f) ⊎ (net_shown (net_with f v a) g ≡ net_shown a g)
net_others NetAddress NetAddress v a = inl refl
net_others NetAddress g v a = inr refl
net_others NetAllowed NetAllowed v a = inl refl
net_others NetAllowed g v a = inr refl
net_others NetPhysical NetPhysical v a = inl refl
net_others NetPhysical g v a = inr refl
net_others NetDefrouter NetDefrouter v a = inl refl
net_others NetDefrouter g v a = inr refl
net_others f g v a = inr refl

shows_no_net : (f : Field) → net_shown no_net f ≡ []
shows_no_net NetAddress = refl
shows_no_net NetAllowed = refl
shows_no_net NetPhysical = refl
shows_no_net NetDefrouter = refl
shows_no_net f = refl

same_net : (a b : net.Net) → map (net_shown a) (fields_of kind.Net) ≡ map (net_shown b) (fields_of kind.Net) → a ≡ b
same_net a b h =
    let address : a.address ≡ b.address = cc in
    let allowed : a.allowed ≡ b.allowed = cc in
    let physical : a.physical ≡ b.physical = cc in
    let defrouter : a.defrouter ≡ b.defrouter = cc in
    λ i. record { address = address i; allowed = allowed i; physical = physical i; defrouter = defrouter i }

pub net_form : IsForm kind.Net Net net_shown no_options no_values net_with always_whole no_net
net_form = record {
  kind = λ a. refl;
  judged = λ a. refl;
  distinct = refl;
  key_first = λ f h. absurd (cc);
  set = λ f v a. refl;
  own = (λ v a. refl, (λ v a. refl, (λ v a. refl, (λ v a. refl, tt))));
  others = net_others;
  same_options = λ f v a. refl;
  same_values = λ f v a. refl;
  stays_whole = λ f v a h. refl;
  key_named = λ f h. absurd (cc);
  puts_options = λ o os a x h. absurd (cc);
  puts_value = λ v front rest a x h. absurd (nothing_at front rest v h);
  is_nothing = refl;
  shows_nothing = shows_no_net;
  no_options = refl;
  no_values = refl;
  whole_nothing = refl;
  same = λ a b ha hb h os vs. same_net a b h;
}

-- devices, each the text of its match
abbrev pub device_shown : List ℕ → Field → List ℕ
device_shown m DeviceMatch = m
device_shown m field = []

device_others : (f g : Field) (v : List ℕ) (a : List ℕ) → (g ≡ f) ⊎ (device_shown (device_with f v a) g ≡ device_shown a g)
device_others DeviceMatch DeviceMatch v a = inl refl
device_others DeviceMatch g v a = inr refl
device_others f g v a = inr refl

shows_no_device : (f : Field) → device_shown [] f ≡ []
shows_no_device DeviceMatch = refl
shows_no_device f = refl

pub device_form : IsForm kind.Device Device device_shown no_options no_values device_with always_whole []
unfolding entry_allowed fields_fit
device_form = record {
  kind = λ a. refl;
  judged = λ a. refl;
  distinct = refl;
  key_first = λ f h. let is : DeviceMatch ≡ f = cc in ([], ap (λ g. g ∷ []) is);
  set = λ f v a. refl;
  own = (λ v a. refl, tt);
  others = device_others;
  same_options = λ f v a. refl;
  same_values = λ f v a. refl;
  stays_whole = λ f v a h. refl;
  key_named = λ f h. let is : DeviceMatch ≡ f = cc in subst (λ g. IsOfNames (field_rule g)) is tt;
  puts_options = λ o os a x h. absurd (cc);
  puts_value = λ v front rest a x h. absurd (nothing_at front rest v h);
  is_nothing = refl;
  shows_nothing = shows_no_device;
  no_options = refl;
  no_values = refl;
  whole_nothing = refl;
  same = λ a b ha hb h os vs. (cc);
}

-- resource controls
abbrev pub rctl_values : rctl.Rctl → List Limit
rctl_values r = r.values

abbrev pub no_rctl : rctl.Rctl
no_rctl = record { name = []; values = [] }

rctl_others : (f g : Field) (v : List ℕ) (a : rctl.Rctl) → (g ≡ f) ⊎ (rctl_shown (rctl_with f v a) g ≡ rctl_shown a g)
rctl_others RctlName RctlName v a = inl refl
rctl_others RctlName g v a = inr refl
rctl_others f g v a = inr refl

rctl_same_values : (f : Field) (v : List ℕ) (a : rctl.Rctl) → (rctl_with f v a).values ≡ a.values
rctl_same_values RctlName v a = refl
rctl_same_values f v a = refl

shows_no_rctl : (f : Field) → rctl_shown no_rctl f ≡ []
shows_no_rctl RctlName = refl
shows_no_rctl f = refl

same_rctl : (a b : rctl.Rctl) → map (rctl_shown a) (fields_of kind.Rctl) ≡ map (rctl_shown b) (fields_of kind.Rctl) → a.values ≡ b.values → a ≡ b
same_rctl a b h vs =
    let name : a.name ≡ b.name = cc in
    λ i. record { name = name i; values = vs i }

pub rctl_form : IsForm kind.Rctl Rctl rctl_shown no_options rctl_values rctl_with always_whole no_rctl
rctl_form = record {
  kind = λ a. refl;
  judged = λ a. refl;
  distinct = refl;
  key_first = λ f h. let is : RctlName ≡ f = cc in ([], ap (λ g. g ∷ []) is);
  set = λ f v a. refl;
  own = (λ v a. refl, tt);
  others = rctl_others;
  same_options = λ f v a. refl;
  same_values = rctl_same_values;
  stays_whole = λ f v a h. refl;
  key_named = λ f h. let is : RctlName ≡ f = cc in subst (λ g. IsOfNames (field_rule g)) is tt;
  puts_options = λ o os a x h. absurd (cc);
  puts_value = λ v front rest a x h. (record a { values = a.values ++ v ∷ [] }, refl, refl, refl, refl, refl);
  is_nothing = refl;
  shows_nothing = shows_no_rctl;
  no_options = refl;
  no_values = refl;
  whole_nothing = refl;
  same = λ a b ha hb h os vs. same_rctl a b h vs;
}

-- attributes
abbrev pub no_attr : attr.Attr
no_attr = record { name = []; form = []; value = [] }

attr_others : (f g : Field) (v : List ℕ) (a : attr.Attr) → (g ≡ f) ⊎ (attr_shown (attr_with f v a) g ≡ attr_shown a g)
attr_others AttrName AttrName v a = inl refl
attr_others AttrName g v a = inr refl
attr_others AttrType AttrType v a = inl refl
attr_others AttrType g v a = inr refl
attr_others AttrValue AttrValue v a = inl refl
attr_others AttrValue g v a = inr refl
attr_others f g v a = inr refl

shows_no_attr : (f : Field) → attr_shown no_attr f ≡ []
shows_no_attr AttrName = refl
shows_no_attr AttrType = refl
shows_no_attr AttrValue = refl
shows_no_attr f = refl

same_attr : (a b : attr.Attr) → map (attr_shown a) (fields_of kind.Attr) ≡ map (attr_shown b) (fields_of kind.Attr) → a ≡ b
same_attr a b h =
    let name : a.name ≡ b.name = cc in
    let form : a.form ≡ b.form = cc in
    let value : a.value ≡ b.value = cc in
    λ i. record { name = name i; form = form i; value = value i }

pub attr_form : IsForm kind.Attr Attr attr_shown no_options no_values attr_with always_whole no_attr
attr_form = record {
  kind = λ a. refl;
  judged = λ a. refl;
  distinct = refl;
  key_first = λ f h. let is : AttrName ≡ f = cc in (AttrType ∷ AttrValue ∷ [], ap (λ g. g ∷ AttrType ∷ AttrValue ∷ []) is);
  set = λ f v a. refl;
  own = (λ v a. refl, (λ v a. refl, (λ v a. refl, tt)));
  others = attr_others;
  same_options = λ f v a. refl;
  same_values = λ f v a. refl;
  stays_whole = λ f v a h. refl;
  key_named = λ f h. let is : AttrName ≡ f = cc in subst (λ g. IsOfNames (field_rule g)) is tt;
  puts_options = λ o os a x h. absurd (cc);
  puts_value = λ v front rest a x h. absurd (nothing_at front rest v h);
  is_nothing = refl;
  shows_nothing = shows_no_attr;
  no_options = refl;
  no_values = refl;
  whole_nothing = refl;
  same = λ a b ha hb h os vs. same_attr a b h;
}

-- datasets, each the text of its name
abbrev pub dataset_shown : List ℕ → Field → List ℕ
dataset_shown d DatasetName = d
dataset_shown d field = []

dataset_others : (f g : Field) (v : List ℕ) (a : List ℕ) → (g ≡ f) ⊎ (dataset_shown (dataset_with f v a) g ≡ dataset_shown a g)
dataset_others DatasetName DatasetName v a = inl refl
dataset_others DatasetName g v a = inr refl
dataset_others f g v a = inr refl

shows_no_dataset : (f : Field) → dataset_shown [] f ≡ []
shows_no_dataset DatasetName = refl
shows_no_dataset f = refl

pub dataset_form : IsForm kind.Dataset Dataset dataset_shown no_options no_values dataset_with always_whole []
unfolding entry_allowed fields_fit
dataset_form = record {
  kind = λ a. refl;
  judged = λ a. refl;
  distinct = refl;
  key_first = λ f h. let is : DatasetName ≡ f = cc in ([], ap (λ g. g ∷ []) is);
  set = λ f v a. refl;
  own = (λ v a. refl, tt);
  others = dataset_others;
  same_options = λ f v a. refl;
  same_values = λ f v a. refl;
  stays_whole = λ f v a h. refl;
  key_named = λ f h. let is : DatasetName ≡ f = cc in subst (λ g. IsOfNames (field_rule g)) is tt;
  puts_options = λ o os a x h. absurd (cc);
  puts_value = λ v front rest a x h. absurd (nothing_at front rest v h);
  is_nothing = refl;
  shows_nothing = shows_no_dataset;
  no_options = refl;
  no_values = refl;
  whole_nothing = refl;
  same = λ a b ha hb h os vs. (cc);
}
