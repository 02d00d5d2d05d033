-- What each kind's row keeps to, and how what holds of each row holds of each kind and each resource.
use Rattle.std.proofs.Common.{◌≡◌, ◌+◌, ℕ, Bool, List, [], ◌∷◌, ◌++◌, length, Option, Some, Result, true, codes, refl, ap, ◌∙◌, arith, length-append}
use Rattle.std.specs.Prelude.{option_map, remove, slice_get, slice_set, unwrap_or}
use Rattle.std.specs.List.{flat_map, list_all, sum_by}
use Rattle.std.proofs.lemmas.List.Concat.{length-flat_map}
use Rattle.std.proofs.lemmas.Slice.Eq.{bytes_eq-Decides}
use Rattle.config_terms.specs.declared.fault.ConfigFault.{ConfigFault}
use Rattle.config_terms.specs.declared.fields.Field.{Field}
use Rattle.config_terms.specs.declared.terms.Attr.{Attr}
use Rattle.config_terms.specs.declared.terms.Fs.{Fs}
use Rattle.config_terms.specs.declared.terms.Kind.{Kind}
use Rattle.config_terms.specs.declared.terms.Kind.TheVariants as kind
use Rattle.config_terms.specs.declared.terms.Net.{Net}
use Rattle.config_terms.specs.declared.terms.Rctl.{Rctl}
use Rattle.config_terms.specs.declared.terms.Resource.{Resource}
use Rattle.config_terms.specs.declared.terms.Resource.TheVariants as resource
use Rattle.config_terms.specs.Allowed.{is_taken, options_passed}
use Rattle.config_terms.specs.Edits.{empty, with_field, without_list}
use Rattle.config_terms.specs.Fields.{kind_of, kinds, resource_shown}
use Rattle.config_terms.specs.Matches.{has_all, only_place}
use Rattle.config_terms.specs.Texts.{resource_text}
use Rattle.zn_base.specs.declared.values.Pair.{Pair}
use Rattle.zone_config.specs.declared.terms.Contents.{Contents}
use Rattle.zone_config.specs.declared.terms.Property.{Property}
use Rattle.zone_config.specs.declared.terms.Property.TheVariants.{Zonepath, Brand, Autoboot, Bootargs, Pool, Limitpriv, SchedulingClass, IpType, Hostid, FsAllowed}
use Rattle.zone_config.specs.Export.{export_text, kind_text, property_line}
use Rattle.zone_config.specs.Kinds.{Row, attr_row, by_kind, by_resource, dataset_row, device_row, fs_row, net_row, rctl_row}
use Rattle.zone_config.specs.Property.{properties, shown}
use Rattle.zone_config.specs.Removal.{resource_at}
use Rattle.zone_config.specs.Resources.{added, count_of, found, has_taken, has_taken_but, kind_passed, most_passed, removed, replaced, text_at}
use Rattle.zone_config.specs.Sound.{AreSound, HasSoundResources, count}
use Rattle.zone_config.proofs.Lists.{all-at}
use Rattle.zone_config.proofs.SameEntries.{Tells, attr-Decides, fs-Decides, net-Decides, rctl-Decides}

-- the properties of the one are those of the other
pub record SameProperties (c d : Contents) : Type 0 where
  pub shown : (q : Property) → shown q d ≡ shown q c
  pub zonepath : d.zonepath ≡ c.zonepath

-- the resources of one configuration, with the properties of another
abbrev pub with_properties : Contents → Contents → Contents
with_properties c d = record d {
  zonepath = c.zonepath;
  brand = c.brand;
  autoboot = c.autoboot;
  bootargs = c.bootargs;
  pool = c.pool;
  limitpriv = c.limitpriv;
  class = c.class;
  ip = c.ip;
  hostid = c.hostid;
  fs_allowed = c.fs_allowed;
}

-- what a configuration shows depends on its properties alone
shown-alone : (q : Property) (c d : Contents) → shown q (with_properties c d) ≡ shown q c
shown-alone Zonepath c d = refl
shown-alone Brand c d = refl
shown-alone Autoboot c d = refl
shown-alone Bootargs c d = refl
shown-alone Pool c d = refl
shown-alone Limitpriv c d = refl
shown-alone SchedulingClass c d = refl
shown-alone IpType c d = refl
shown-alone Hostid c d = refl
shown-alone FsAllowed c d = refl

-- the export text, part by part
pub export_text-length : (c : Contents) → length (export_text c) ≡ 10 + length (flat_map (property_line c) properties) + length (flat_map (kind_text c) kinds)
unfolding export_text
export_text-length c = length-append (codes "create -b" ++ 10 ∷ [] ++ flat_map (property_line c) properties) (flat_map (kind_text c) kinds) ∙ ap (λ n. n + length (flat_map (kind_text c) kinds)) (length-append (codes "create -b\n") (flat_map (property_line c) properties))

texts-length : (c : Contents) → length (export_text c) ≡ 10 + length (flat_map (property_line c) properties) + sum_by (λ k. length (kind_text c k)) kinds
texts-length c = export_text-length c ∙ ap (λ n. 10 + length (flat_map (property_line c) properties) + n) (length-flat_map (kind_text c) kinds)

-- a kind and its resources are known by their row
pub record IsKnown {A : Type 0} (row : Row A) : Type 1 where
  pub of_kind : (B : Type 0) (make : (A : Type 0) → Row A → B) → by_kind row.kind make ≡ make A row
  pub of_resource : (B : Type 0) (make : (A : Type 0) → Row A → A → B) (x : A) → by_resource (row.make x) make ≡ make A row x
  pub says : (F : (B : Type 0) → Row B → Type 0) → by_kind row.kind F → F A row
  pub kind : (x : A) → kind_of (row.make x) ≡ row.kind
  pub shown : (x : A) → resource_shown (row.make x) ≡ row.shown x
  pub text : (x : A) → resource_text (row.make x) ≡ row.text x
  pub tells : Tells row.same
  pub place : (i : ℕ) × (slice_get kinds i ≡ Some row.kind)
  pub nothing : kind_of (empty row.kind) ≡ row.kind
  pub edited : (f : Field) (text : List ℕ) (x : A) → kind_of (with_field f text (row.make x)) ≡ row.kind
  pub unlisted : (x : A) → kind_of (without_list (row.make x)) ≡ row.kind

-- the list of a kind is a part of a configuration, and no matter of the properties
pub record IsPart {A : Type 0} (row : Row A) : Type 0 where
  pub listed : (xs : List A) (c : Contents) → row.list (row.put xs c) ≡ xs
  pub again : (xs ys : List A) (c : Contents) → row.put xs (row.put ys c) ≡ row.put xs c
  pub unchanged : (c : Contents) → row.put (row.list c) c ≡ c
  pub apart : (c d : Contents) → row.list (with_properties d c) ≡ row.list c

-- what every row keeps to: and where another list is put, it is counted and printed in place of the one that was there, and
-- all else is as it was
pub record IsLawful {A : Type 0} (row : Row A) : Type 1 where
  pub known : IsKnown row
  pub part : IsPart row
  pub counted : (xs : List A) (c : Contents) → count (row.put xs c) + length (row.list c) ≡ count c + length xs
  pub measured : (xs : List A) (c : Contents)
      → length (export_text (row.put xs c)) + length (flat_map row.text (row.list c)) ≡ length (export_text c) + length (flat_map row.text xs)
  pub properties : (xs : List A) (c : Contents) → SameProperties c (row.put xs c)
  pub put_sound : (xs : List A) (c : Contents) → HasSoundResources c → AreSound row xs → (k : Kind) → by_kind k (λ B other. AreSound other (other.list (row.put xs c)))

fs-put_sound : (xs : List Fs) (c : Contents) → HasSoundResources c → AreSound fs_row xs → (k : Kind) → by_kind k (λ B other. AreSound other (other.list (record c { fs = xs })))
fs-put_sound xs c s own kind.Fs = own
fs-put_sound xs c s own k = s.kinds k

fs_lawful : IsLawful fs_row
unfolding count
fs_lawful = record {
  known = record { of_kind = λ B make. refl; of_resource = λ B make x. refl; says = λ F own. own; kind = λ x. refl; shown = λ x. refl; text = λ x. refl; tells = fs-Decides; place = (0, refl); nothing = refl; edited = λ f text x. refl; unlisted = λ x. refl };
  part = record { listed = λ xs c. refl; again = λ xs ys c. refl; unchanged = λ c. refl; apart = λ c d. refl };
  counted = λ xs c. omega arith;
  measured = λ xs c. omega (arith, texts-length c, texts-length (record c { fs = xs }));
  properties = λ xs c. record { shown = λ q. shown-alone q c (record c { fs = xs }); zonepath = refl };
  put_sound = fs-put_sound;
}

net-put_sound : (xs : List Net) (c : Contents) → HasSoundResources c → AreSound net_row xs → (k : Kind) → by_kind k (λ B other. AreSound other (other.list (record c { net = xs })))
net-put_sound xs c s own kind.Net = own
net-put_sound xs c s own k = s.kinds k

net_lawful : IsLawful net_row
unfolding count
net_lawful = record {
  known = record { of_kind = λ B make. refl; of_resource = λ B make x. refl; says = λ F own. own; kind = λ x. refl; shown = λ x. refl; text = λ x. refl; tells = net-Decides; place = (1, refl); nothing = refl; edited = λ f text x. refl; unlisted = λ x. refl };
  part = record { listed = λ xs c. refl; again = λ xs ys c. refl; unchanged = λ c. refl; apart = λ c d. refl };
  counted = λ xs c. omega arith;
  measured = λ xs c. omega (arith, texts-length c, texts-length (record c { net = xs }));
  properties = λ xs c. record { shown = λ q. shown-alone q c (record c { net = xs }); zonepath = refl };
  put_sound = net-put_sound;
}

device-put_sound : (xs : List (List ℕ)) (c : Contents) → HasSoundResources c → AreSound device_row xs → (k : Kind) → by_kind k (λ B other. AreSound other (other.list (record c { device = xs })))
device-put_sound xs c s own kind.Device = own
device-put_sound xs c s own k = s.kinds k

device_lawful : IsLawful device_row
unfolding count
device_lawful = record {
  known = record { of_kind = λ B make. refl; of_resource = λ B make x. refl; says = λ F own. own; kind = λ x. refl; shown = λ x. refl; text = λ x. refl; tells = bytes_eq-Decides; place = (2, refl); nothing = refl; edited = λ f text x. refl; unlisted = λ x. refl };
  part = record { listed = λ xs c. refl; again = λ xs ys c. refl; unchanged = λ c. refl; apart = λ c d. refl };
  counted = λ xs c. omega arith;
  measured = λ xs c. omega (arith, texts-length c, texts-length (record c { device = xs }));
  properties = λ xs c. record { shown = λ q. shown-alone q c (record c { device = xs }); zonepath = refl };
  put_sound = device-put_sound;
}

rctl-put_sound : (xs : List Rctl) (c : Contents) → HasSoundResources c → AreSound rctl_row xs → (k : Kind) → by_kind k (λ B other. AreSound other (other.list (record c { rctl = xs })))
rctl-put_sound xs c s own kind.Rctl = own
rctl-put_sound xs c s own k = s.kinds k

rctl_lawful : IsLawful rctl_row
unfolding count
rctl_lawful = record {
  known = record { of_kind = λ B make. refl; of_resource = λ B make x. refl; says = λ F own. own; kind = λ x. refl; shown = λ x. refl; text = λ x. refl; tells = rctl-Decides; place = (3, refl); nothing = refl; edited = λ f text x. refl; unlisted = λ x. refl };
  part = record { listed = λ xs c. refl; again = λ xs ys c. refl; unchanged = λ c. refl; apart = λ c d. refl };
  counted = λ xs c. omega arith;
  measured = λ xs c. omega (arith, texts-length c, texts-length (record c { rctl = xs }));
  properties = λ xs c. record { shown = λ q. shown-alone q c (record c { rctl = xs }); zonepath = refl };
  put_sound = rctl-put_sound;
}

attr-put_sound : (xs : List Attr) (c : Contents) → HasSoundResources c → AreSound attr_row xs → (k : Kind) → by_kind k (λ B other. AreSound other (other.list (record c { attr = xs })))
attr-put_sound xs c s own kind.Attr = own
attr-put_sound xs c s own k = s.kinds k

attr_lawful : IsLawful attr_row
unfolding count
attr_lawful = record {
  known = record { of_kind = λ B make. refl; of_resource = λ B make x. refl; says = λ F own. own; kind = λ x. refl; shown = λ x. refl; text = λ x. refl; tells = attr-Decides; place = (4, refl); nothing = refl; edited = λ f text x. refl; unlisted = λ x. refl };
  part = record { listed = λ xs c. refl; again = λ xs ys c. refl; unchanged = λ c. refl; apart = λ c d. refl };
  counted = λ xs c. omega arith;
  measured = λ xs c. omega (arith, texts-length c, texts-length (record c { attr = xs }));
  properties = λ xs c. record { shown = λ q. shown-alone q c (record c { attr = xs }); zonepath = refl };
  put_sound = attr-put_sound;
}

dataset-put_sound : (xs : List (List ℕ)) (c : Contents) → HasSoundResources c → AreSound dataset_row xs → (k : Kind) → by_kind k (λ B other. AreSound other (other.list (record c { dataset = xs })))
dataset-put_sound xs c s own kind.Dataset = own
dataset-put_sound xs c s own k = s.kinds k

dataset_lawful : IsLawful dataset_row
unfolding count
dataset_lawful = record {
  known = record { of_kind = λ B make. refl; of_resource = λ B make x. refl; says = λ F own. own; kind = λ x. refl; shown = λ x. refl; text = λ x. refl; tells = bytes_eq-Decides; place = (5, refl); nothing = refl; edited = λ f text x. refl; unlisted = λ x. refl };
  part = record { listed = λ xs c. refl; again = λ xs ys c. refl; unchanged = λ c. refl; apart = λ c d. refl };
  counted = λ xs c. omega arith;
  measured = λ xs c. omega (arith, texts-length c, texts-length (record c { dataset = xs }));
  properties = λ xs c. record { shown = λ q. shown-alone q c (record c { dataset = xs }); zonepath = refl };
  put_sound = dataset-put_sound;
}

-- what holds of the kind of each row holds of each kind
pub each_kind : (P : Kind → Type 0) → ((A : Type 0) (row : Row A) → IsLawful row → P row.kind) → (k : Kind) → P k
each_kind P each kind.Fs = each Fs fs_row fs_lawful
each_kind P each kind.Net = each Net net_row net_lawful
each_kind P each kind.Device = each (List ℕ) device_row device_lawful
each_kind P each kind.Rctl = each Rctl rctl_row rctl_lawful
each_kind P each kind.Attr = each Attr attr_row attr_lawful
each_kind P each kind.Dataset = each (List ℕ) dataset_row dataset_lawful

-- what holds of the resources of each row holds of each resource
pub each_resource : (P : Resource → Type 0) → ((A : Type 0) (row : Row A) → IsLawful row → (x : A) → P (row.make x)) → (r : Resource) → P r
each_resource P each (resource.Fs f) = each Fs fs_row fs_lawful f
each_resource P each (resource.Net n) = each Net net_row net_lawful n
each_resource P each (resource.Device m) = each (List ℕ) device_row device_lawful m
each_resource P each (resource.Rctl r) = each Rctl rctl_row rctl_lawful r
each_resource P each (resource.Attr a) = each Attr attr_row attr_lawful a
each_resource P each (resource.Dataset d) = each (List ℕ) dataset_row dataset_lawful d

-- what is said of each row is said by each kind
pub all_kinds : (F : (A : Type 0) → Row A → Type 0) → ((A : Type 0) (row : Row A) → IsLawful row → F A row) → (k : Kind) → by_kind k F
all_kinds F each kind.Fs = each Fs fs_row fs_lawful
all_kinds F each kind.Net = each Net net_row net_lawful
all_kinds F each kind.Device = each (List ℕ) device_row device_lawful
all_kinds F each kind.Rctl = each Rctl rctl_row rctl_lawful
all_kinds F each kind.Attr = each Attr attr_row attr_lawful
all_kinds F each kind.Dataset = each (List ℕ) dataset_row dataset_lawful

-- what is true of all that are listed is true of each kind
pub all_of_kinds : (test : Kind → Bool) → list_all test kinds ≡ true → (k : Kind) → test k ≡ true
all_of_kinds test h = each_kind (λ k. test k ≡ true) (λ A row law. all-at test kinds law.known.place.0 row.kind h law.known.place.1)

-- what is said of a kind, and of a resource of it, by its row
module _ {A : Type 0} (row : Row A) (law : IsLawful row) (c : Contents) where
  pub count_of-row : count_of row.kind c ≡ length (row.list c)
  count_of-row = law.known.of_kind ℕ (λ B other. length (other.list c))

  pub removed-row : (place : ℕ) → removed row.kind place c ≡ option_map (λ x. (row.make x, row.put (remove (row.list c) place) c)) (slice_get (row.list c) place)
  removed-row place = law.known.of_kind (Option (Resource × Contents)) (λ B other. option_map (λ x. (other.make x, other.put (remove (other.list c) place) c)) (slice_get (other.list c) place))

  pub text_at-row : (place : ℕ) → text_at place row.kind c ≡ option_map row.text (slice_get (row.list c) place)
  text_at-row place = law.known.of_kind (Option (List ℕ)) (λ B other. option_map other.text (slice_get (other.list c) place))

  pub found-row : (wanted : List Pair) → found row.kind wanted c ≡ only_place (λ x. has_all row.kind wanted (row.shown x)) (row.list c)
  found-row wanted = law.known.of_kind (Result ℕ ConfigFault) (λ B other. only_place (λ x. has_all other.kind wanted (other.shown x)) (other.list c))

  pub resource_at-row : (place : ℕ) → resource_at row.kind place c ≡ unwrap_or (option_map row.make (slice_get (row.list c) place)) (empty row.kind)
  resource_at-row place = law.known.of_kind Resource (λ B other. unwrap_or (option_map other.make (slice_get (other.list c) place)) (empty other.kind))

  pub added-row : (x : A) → added (row.make x) c ≡ row.put (row.list c ++ x ∷ []) c
  added-row = law.known.of_resource Contents (λ B other y. other.put (other.list c ++ y ∷ []) c)

  pub replaced-row : (place : ℕ) (x : A) → replaced place (row.make x) c ≡ row.put (slice_set (row.list c) place x) c
  replaced-row place = law.known.of_resource Contents (λ B other y. other.put (slice_set (other.list c) place y) c)

  pub has_taken-row : (x : A) → has_taken (row.make x) c ≡ is_taken row.shown row.kind x (row.list c)
  has_taken-row = law.known.of_resource Bool (λ B other y. is_taken other.shown other.kind y (other.list c))

  pub has_taken_but-row : (place : ℕ) (x : A) → has_taken_but place (row.make x) c ≡ is_taken row.shown row.kind x (remove (row.list c) place)
  has_taken_but-row place = law.known.of_resource Bool (λ B other y. is_taken other.shown other.kind y (remove (other.list c) place))

  pub kind_passed-row : (x : A) → kind_passed (row.make x) c ≡ most_passed row.most (length (row.list c)) (options_passed (row.make x))
  kind_passed-row x = law.known.of_resource (Option ℕ) (λ B other y. most_passed other.most (length (other.list c)) (options_passed (row.make x))) x

  pub sound-row : HasSoundResources c → AreSound row (row.list c)
  sound-row s = law.known.says (λ B other. AreSound other (other.list c)) (s.kinds row.kind)
