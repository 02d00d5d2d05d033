-- What is wrong with a configuration before it can be installed: all flaws, in their order.
use Rattle.std.specs.Prelude.{ℕ, List, [], ◌∷◌, ◌++◌, Bool, false, not, length, ◌&&◌, ◌||◌, ◌==◌, Option, Some, None, Result, Ok, Err, codes, is_some, if◌then◌else◌}
use Rattle.std.specs.List.{flat_map, list_any}
use Rattle.std.specs.Str.{bytes_eq}
use Rattle.zn_base.specs.Answers.{AnswersUnless}
use Rattle.zn_base.specs.Path.{is_path}
use Rattle.config_terms.specs.declared.fields.Field.TheVariants.{FsDir, FsSpecial, FsType, NetPhysical, DeviceMatch, RctlName, AttrName, AttrType, AttrValue, DatasetName}
use Rattle.config_terms.specs.declared.fields.Named.{Named}
use Rattle.config_terms.specs.declared.fields.Named.TheVariants.{One, Many}
use Rattle.config_terms.specs.declared.terms.Attr as attr
use Rattle.config_terms.specs.declared.terms.Fs as fs
use Rattle.config_terms.specs.declared.terms.IpType.{IpType}
use Rattle.config_terms.specs.declared.terms.IpType.TheVariants.{Shared, Exclusive}
use Rattle.config_terms.specs.declared.terms.Kind.{Kind}
use Rattle.config_terms.specs.declared.terms.Kind.TheVariants as kind
use Rattle.config_terms.specs.declared.terms.Net as net
use Rattle.config_terms.specs.declared.terms.Rctl as rctl
use Rattle.zone_config.specs.declared.terms.Contents.{Contents}
use Rattle.config_verify.specs.declared.flaw.Flaw.{Flaw}
use Rattle.config_verify.specs.declared.flaw.Flaw.TheVariants.{Memory, NoZonepath, MissingProperty, NetForm, BadAddress, SameDir, UnknownBrand, AttrForm}
use Rattle.config_verify.specs.Values.{is_address, is_of_form, is_plain_address, without_prefix}

abbrev pub is_unset : List ℕ → Bool
is_unset text = length text == 0

-- a flaw where a test fails
abbrev pub unless : Bool → Flaw → List Flaw
unless holds flaw = if holds then [] else flaw ∷ []

-- a property of a resource that has to be set
abbrev pub needed : Bool → Kind → Named → List Flaw
needed is_set k name = unless is_set (MissingProperty k name)

abbrev pub needs_text : List ℕ → Kind → Named → List Flaw
needs_text text k name = needed (not (is_unset text)) k name

-- the flaws of each of a list, given those before it
abbrev pub each_behind : {A : Type 0} → (List A → A → List Flaw) → List A → List A → List Flaw
each_behind flaws before [] = []
each_behind flaws before (x ∷ xs) = flaws before x ++ each_behind flaws (before ++ x ∷ []) xs

-- a loopback mount wants the path of what it mounts
unfoldable pub has_special : fs.Fs → Bool
has_special f = not (is_unset f.special) && (not (bytes_eq f.fstype (codes "lofs")) || is_path f.special)

abbrev pub is_that : List ℕ → Option (List ℕ) → Bool
is_that dir None = false
is_that dir (Some path) = bytes_eq path dir

abbrev pub has_dir : List ℕ → fs.Fs → Bool
has_dir dir f = is_that dir f.dir

-- a mount on the zone's root or where an earlier one is
abbrev pub dir_flaws : List fs.Fs → Option (List ℕ) → List Flaw
dir_flaws before None = []
dir_flaws before (Some dir) = unless (not (bytes_eq dir (codes "/") || list_any (has_dir dir) before)) (SameDir dir)

unfoldable pub flaws_of_fs : List fs.Fs → fs.Fs → List Flaw
flaws_of_fs before f =
    needed (is_some f.dir) kind.Fs (One FsDir)
    ++ (needed (has_special f) kind.Fs (One FsSpecial)
    ++ (needs_text f.fstype kind.Fs (One FsType)
    ++ dir_flaws before f.dir))

-- what a net takes for its zone alone: an interface, or in a shared zone an address
abbrev pub claimed : IpType → net.Net → List ℕ
claimed Exclusive n = n.physical
claimed Shared n = without_prefix n.address

-- a shared zone's net has an address and no other that it may take, an exclusive zone's has no address
abbrev pub has_form : IpType → net.Net → Bool
has_form Shared n = not (is_unset n.address) && is_unset n.allowed
has_form Exclusive n = is_unset n.address

unfoldable pub is_claimed : IpType → List net.Net → net.Net → Bool
is_claimed ip before n = not (is_unset (claimed ip n)) && list_any (λ m. bytes_eq (claimed ip m) (claimed ip n)) before

abbrev pub form_flaws : IpType → List net.Net → net.Net → List Flaw
form_flaws ip before n = unless (has_form ip n && not (is_claimed ip before n)) (NetForm (length before))

abbrev pub needs_address : (List ℕ → Bool) → List ℕ → List Flaw
needs_address is_right text = unless (is_unset text || is_right text) (BadAddress text)

unfoldable pub flaws_of_net : IpType → List net.Net → net.Net → List Flaw
flaws_of_net ip before n =
    needs_text n.physical kind.Net (One NetPhysical)
    ++ (form_flaws ip before n
    ++ (needs_address is_address n.address
    ++ (needs_address is_address n.allowed
    ++ needs_address is_plain_address n.defrouter)))

unfoldable pub flaws_of_device : List ℕ → List Flaw
flaws_of_device device = needs_text device kind.Device (One DeviceMatch)

unfoldable pub flaws_of_rctl : rctl.Rctl → List Flaw
flaws_of_rctl r =
    needs_text r.name kind.Rctl (One RctlName) ++ needed (not (length r.values == 0)) kind.Rctl Many

unfoldable pub flaws_of_attr : attr.Attr → List Flaw
flaws_of_attr a =
    needs_text a.name kind.Attr (One AttrName)
    ++ (needs_text a.form kind.Attr (One AttrType)
    ++ (needs_text a.value kind.Attr (One AttrValue)
    ++ unless (is_of_form a.form a.value) (AttrForm a.name)))

unfoldable pub flaws_of_dataset : List ℕ → List Flaw
flaws_of_dataset dataset = needs_text dataset kind.Dataset (One DatasetName)

abbrev pub joined : List (List Flaw) → List Flaw
joined [] = []
joined (flaws ∷ groups) = flaws ++ joined groups

-- the flaws of resources, by their kinds
abbrev pub resource_flaws : Contents → List Flaw
resource_flaws c =
    joined (
    each_behind flaws_of_fs [] c.fs
    ∷ each_behind (flaws_of_net c.ip) [] c.net
    ∷ flat_map flaws_of_device c.device
    ∷ flat_map flaws_of_rctl c.rctl
    ∷ flat_map flaws_of_attr c.attr
    ∷ flat_map flaws_of_dataset c.dataset
    ∷ [])

-- all flaws: of the zonepath, the brand, and each resource by its kind
unfoldable pub flaws : List (List ℕ) → Contents → List Flaw
flaws brands c =
    unless (is_some c.zonepath) NoZonepath
    ++ (unless (list_any (bytes_eq c.brand) brands) (UnknownBrand c.brand)
    ++ resource_flaws c)

-- those that no list of brands changes
abbrev pub other_flaws : Contents → List Flaw
other_flaws c = unless (is_some c.zonepath) NoZonepath ++ resource_flaws c

-- the first of some flaws, where there is one
abbrev pub first : List Flaw → Result (Unit {0}) Flaw
first [] = Ok tt
first (flaw ∷ flaws) = Err flaw

-- an answer is the first of some flaws, or Ok where there is none, or that memory ran out
pub record Finds (flaws : List Flaw) (answer : Result (Unit {0}) Flaw) : Type 0 where
  pub answers : AnswersUnless Memory (first flaws) answer
