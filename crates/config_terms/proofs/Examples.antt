-- What the definitions say of some values and resources.
use Rattle.std.proofs.Common.{◌≡◌, ℕ, List, [], ◌∷◌, true, false, Some, None, Ok, Err, codes, replicate, refl}
use Rattle.std.specs.Fmt.{digits}
use Rattle.std.specs.List.{list_all, list_any}
use Rattle.zn_base.specs.declared.values.Pair.{Pair}
use Rattle.zn_base.specs.declared.values.Value.TheVariants.{Simple, Complex, List as Items}
use Rattle.config_terms.specs.declared.fault.ConfigFault.TheVariants.{UnknownProperty, BadValue, NoMatch, SeveralMatch, TooMany}
use Rattle.config_terms.specs.declared.fields.Field.TheVariants.{FsSpecial, FsRaw, FsType, NetAddress, NetAllowed, NetPhysical, NetDefrouter, DeviceMatch, RctlName, AttrName, AttrType, AttrValue, DatasetName}
use Rattle.config_terms.specs.declared.rules.Rule.TheVariants as rule
use Rattle.config_terms.specs.declared.terms.Kind.TheVariants as kind
use Rattle.config_terms.specs.declared.terms.Resource.TheVariants.{Fs, Net, Device, Rctl, Attr, Dataset}
use Rattle.config_terms.specs.declared.terms.Fs as fs
use Rattle.config_terms.specs.declared.terms.Net as net
use Rattle.config_terms.specs.declared.terms.Rctl as rctl
use Rattle.config_terms.specs.Numbers.{number_of}
use Rattle.zn_base.specs.Decimals.{decimal_of}
use Rattle.config_terms.specs.Rules.{obeys, fits}
use Rattle.config_terms.specs.Fields.{field_rule, net_shown, rctl_shown, text_shown}
use Rattle.config_terms.specs.Texts.{is_bare_byte, setting, limit_text, limit_line, limit_lines, options_text, options_line, settings, entry_text, resource_text}
use Rattle.config_terms.specs.Allowed.{fields_fit, entry_allowed, is_allowed, is_taken}
use Rattle.config_terms.specs.Matches.{has_all, only_place}
use Rattle.config_terms.specs.Edits.{empty, options_edited, list_edited, with_property, without_property, with_value, without_value}

least : number_of (codes "1") ≡ Some 1
unfolding decimal_of
least = refl

greatest : number_of (codes "18446744073709551615") ≡ Some 18446744073709551615
unfolding decimal_of
greatest = refl

too_great : number_of (codes "18446744073709551616") ≡ None
unfolding decimal_of
too_great = refl

leading_zero : number_of (codes "01") ≡ None
unfolding decimal_of
leading_zero = refl

no_number : number_of (codes "0") ≡ None
unfolding decimal_of
no_number = refl

sign : number_of (codes "+1") ≡ None
unfolding decimal_of
sign = refl

longest : obeys rule.Simple (replicate 1023 97) ≡ true
unfolding obeys
longest = refl

too_long : obeys rule.Simple (replicate 1024 97) ≡ false
unfolding obeys
too_long = refl

quote : obeys rule.Simple (codes "a\"b") ≡ false
unfolding obeys
quote = refl

empty_unsets : obeys rule.Simple [] ≡ true
unfolding obeys
empty_unsets = refl

empty_path : obeys rule.RootedPath [] ≡ false
unfolding obeys
empty_path = refl

root : obeys rule.RootedPath (codes "/") ≡ true
unfolding obeys
root = refl

not_root : obeys rule.OwnPath (codes "/") ≡ false
unfolding obeys
not_root = refl

host : obeys rule.HostId (codes "80f0c086") ≡ true
unfolding obeys
host = refl

no_host : obeys rule.HostId (codes "ffffffff") ≡ false
unfolding obeys
no_host = refl

large_digit : obeys rule.HostId (codes "A0") ≡ false
unfolding obeys
large_digit = refl

longest_host : obeys rule.HostId (codes "fffffff0") ≡ true
unfolding obeys
longest_host = refl

too_long_host : obeys rule.HostId (replicate 9 48) ≡ false
unfolding obeys
too_long_host = refl

longest_name : obeys rule.ShortName (replicate 32 97) ≡ true
unfolding obeys
longest_name = refl

too_long_name : obeys rule.ShortName (replicate 33 97) ≡ false
unfolding obeys
too_long_name = refl

longest_type : obeys rule.TypeWord (replicate 15 97) ≡ true
unfolding obeys
longest_type = refl

too_long_type : obeys rule.TypeWord (replicate 16 97) ≡ false
unfolding obeys
too_long_type = refl

longest_names : list_all (λ r. obeys r (replicate 63 97)) (rule.ControlName ∷ rule.AttributeName ∷ []) ≡ true
unfolding obeys
longest_names = refl

too_long_names : list_any (λ r. obeys r (replicate 64 97)) (rule.ControlName ∷ rule.AttributeName ∷ []) ≡ false
unfolding obeys
too_long_names = refl

forms : list_all (obeys rule.AttributeForm) (codes "int" ∷ codes "uint" ∷ codes "boolean" ∷ codes "string" ∷ []) ≡ true
unfolding obeys
forms = refl

longest_option : obeys rule.OptionWord (replicate 63 97) ≡ true
unfolding obeys
longest_option = refl

too_long_option : obeys rule.OptionWord (replicate 64 97) ≡ false
unfolding obeys
too_long_option = refl

no_option : obeys rule.OptionWord [] ≡ false
unfolding obeys
no_option = refl

zone_name : obeys rule.AttributeName (codes "zonename") ≡ false
unfolding obeys
zone_name = refl

other_name : obeys rule.AttributeName (codes "myzone") ≡ true
unfolding obeys
other_name = refl

dash_first : obeys rule.AttributeName (codes "-a") ≡ false
unfolding obeys
dash_first = refl

dash_in_control : obeys rule.ControlName (codes "-a") ≡ true
unfolding obeys
dash_in_control = refl

-- the properties that take a simple value, and those that don't
simple_fields : list_all (λ f. obeys (field_rule f) (codes "a b"))
    (FsSpecial ∷ FsRaw ∷ NetAddress ∷ NetAllowed ∷ NetPhysical ∷ NetDefrouter ∷ DeviceMatch ∷ AttrValue ∷ DatasetName ∷ []) ≡ true
unfolding obeys
simple_fields = refl

other_fields : list_any (λ f. obeys (field_rule f) (codes "a b")) (FsType ∷ RctlName ∷ AttrName ∷ AttrType ∷ []) ≡ false
unfolding obeys
other_fields = refl

all_bare : setting (codes "pool") (codes "azAZ09_-./:,*?!@+%") ≡ codes "set pool=azAZ09_-./:,*?!@+%\n"
unfolding setting
all_bare = refl

none_bare : list_any is_bare_byte (codes " \"#$&'();<=>[\\]^`{|}~") ≡ false
none_bare = refl

bare : setting (codes "special") (codes "/usr") ≡ codes "set special=/usr\n"
unfolding setting
bare = refl

quoted : setting (codes "value") (codes "web team") ≡ codes "set value=\"web team\"\n"
unfolding setting
quoted = refl

unset : setting (codes "value") [] ≡ []
unfolding setting
unset = refl

usr : fs.Fs
usr = record { dir = Some (codes "/usr"); special = codes "/usr"; raw = []; fstype = codes "lofs"; options = codes "ro" ∷ codes "nodevices" ∷ [] }

usr_printed : resource_text (Fs usr) ≡ codes "add fs\nset dir=/usr\nset special=/usr\nset type=lofs\nadd options [ro,nodevices]\nend\n"
unfolding usr setting options_text options_line limit_lines settings entry_text
usr_printed = refl

raw_printed : resource_text (Fs (record usr { dir = None; raw = codes "/dev/rdsk/c0"; options = [] }))
    ≡ codes "add fs\nset special=/usr\nset raw=/dev/rdsk/c0\nset type=lofs\nend\n"
unfolding usr setting options_line limit_lines settings entry_text
raw_printed = refl

link : net.Net
link = record { address = codes "10.0.0.1/24"; allowed = codes "10.0.0.0/8"; physical = codes "net0"; defrouter = codes "10.0.0.254" }

link_printed : resource_text (Net link)
    ≡ codes "add net\nset address=10.0.0.1/24\nset allowed-address=10.0.0.0/8\nset physical=net0\nset defrouter=10.0.0.254\nend\n"
unfolding link setting options_line limit_lines settings entry_text
link_printed = refl

device_printed : resource_text (Device (codes "/dev/d[0-3]")) ≡ codes "add device\nset match=\"/dev/d[0-3]\"\nend\n"
unfolding setting options_line limit_lines settings entry_text
device_printed = refl

dataset_printed : resource_text (Dataset (codes "tank/web")) ≡ codes "add dataset\nset name=tank/web\nend\n"
unfolding setting options_line limit_lines settings entry_text
dataset_printed = refl

shares : rctl.Rctl
shares = record { name = codes "zone.cpu-shares"; values = record { limit = 20; deny = false } ∷ record { limit = 3; deny = true } ∷ [] }

shares_printed : resource_text (Rctl shares)
    ≡ codes "add rctl\nset name=zone.cpu-shares\nadd value (priv=privileged,limit=20,action=none)\nadd value (priv=privileged,limit=3,action=deny)\nend\n"
unfolding digits shares setting options_line limit_text limit_line limit_lines settings entry_text
shares_printed = refl

owner_printed : resource_text (Attr (record { name = codes "owner"; form = codes "string"; value = codes "web team" }))
    ≡ codes "add attr\nset name=owner\nset type=string\nset value=\"web team\"\nend\n"
unfolding setting options_line limit_lines settings entry_text
owner_printed = refl

nothing_printed : resource_text (empty kind.Dataset) ≡ codes "add dataset\nend\n"
unfolding setting options_line limit_lines settings entry_text
nothing_printed = refl

usr_allowed : is_allowed (Fs usr) ≡ true
unfolding usr obeys fits fields_fit entry_allowed
usr_allowed = refl

no_limit_allowed : is_allowed (Rctl (record { name = codes "zone.max-lwps"; values = record { limit = 0; deny = true } ∷ [] })) ≡ false
unfolding obeys fits fields_fit entry_allowed
no_limit_allowed = refl

pair : List ℕ → List ℕ → Pair
pair name value = record { name = name; value = value }

several : only_place (λ m. has_all kind.Device (pair (codes "match") (codes "/dev/a") ∷ []) (text_shown m)) (codes "/dev/a" ∷ codes "/dev/b" ∷ codes "/dev/a" ∷ [])
    ≡ Err (SeveralMatch 2)
unfolding pair only_place
several = refl

one : only_place (λ m. has_all kind.Device (pair (codes "match") (codes "/dev/b") ∷ []) (text_shown m)) (codes "/dev/a" ∷ codes "/dev/b" ∷ []) ≡ Ok 1
unfolding pair only_place
one = refl

no_such_property : only_place (λ m. has_all kind.Device (pair (codes "name") (codes "/dev/b") ∷ []) (text_shown m)) (codes "/dev/b" ∷ []) ≡ Err NoMatch
unfolding pair only_place
no_such_property = refl

-- a name that is there already, an unset one counted; links have no name
taken : is_taken rctl_shown kind.Rctl shares (record shares { values = [] } ∷ []) ≡ true
unfolding shares
taken = refl

unset_taken : is_taken text_shown kind.Dataset [] (codes "tank" ∷ [] ∷ []) ≡ true
unset_taken = refl

links_alike : is_taken net_shown kind.Net link (link ∷ []) ≡ false
unfolding link
links_alike = refl

dir_set : with_property (codes "dir") (Simple (codes "/a")) (empty kind.Fs) ≡ Ok (Fs (record { dir = Some (codes "/a"); special = []; raw = []; fstype = []; options = [] }))
unfolding obeys with_property
dir_set = refl

dir_not_unset : with_property (codes "dir") (Simple []) (empty kind.Fs) ≡ Err BadValue
unfolding obeys with_property
dir_not_unset = refl

value_unset : with_property (codes "value") (Simple []) (Attr (record { name = []; form = []; value = codes "x" })) ≡ Ok (empty kind.Attr)
unfolding obeys with_property
value_unset = refl

unknown_name : with_property (codes "match") (Simple []) (empty kind.Fs) ≡ Err UnknownProperty
unfolding obeys with_property
unknown_name = refl

one_option : with_property (codes "options") (Simple (codes "ro")) (Fs usr) ≡ Ok (Fs (record usr { options = codes "ro" ∷ [] }))
unfolding usr obeys options_edited list_edited with_property
one_option = refl

no_options : with_property (codes "options") (Simple []) (Fs usr) ≡ Ok (Fs (record usr { options = [] }))
unfolding usr obeys options_edited list_edited with_property
no_options = refl

most_options : with_property (codes "options") (Items (replicate 32 (codes "ro"))) (Fs usr) ≡ Ok (Fs (record usr { options = replicate 32 (codes "ro") }))
unfolding usr obeys options_edited list_edited with_property
most_options = refl

too_many_options : with_property (codes "options") (Items (replicate 33 (codes "ro"))) (Fs usr) ≡ Err (TooMany 32)
unfolding usr obeys options_edited list_edited with_property
too_many_options = refl

added_past_the_limit : with_value (codes "options") (Items (replicate 31 (codes "ro"))) (Fs usr) ≡ Err (TooMany 32)
unfolding usr obeys options_edited list_edited with_value
added_past_the_limit = refl

no_list : with_value (codes "value") (Simple (codes "x")) (empty kind.Attr) ≡ Err UnknownProperty
unfolding with_value
no_list = refl

first_equal_removed : without_value (codes "options") (Items (codes "ro" ∷ [])) (Fs (record usr { options = codes "ro" ∷ codes "rw" ∷ codes "ro" ∷ [] }))
    ≡ Ok (Fs (record usr { options = codes "rw" ∷ codes "ro" ∷ [] }))
unfolding usr obeys options_edited list_edited without_value
first_equal_removed = refl

one_of_two_there : without_value (codes "options") (Items (codes "ro" ∷ codes "ro" ∷ [])) (Fs usr) ≡ Err NoMatch
unfolding usr obeys options_edited list_edited without_value
one_of_two_there = refl

limit : List ℕ → List ℕ → List Pair
limit number action = pair (codes "priv") (codes "privileged") ∷ pair (codes "limit") number ∷ pair (codes "action") action ∷ []

value_put : with_property (codes "value") (Complex (limit (codes "7") (codes "deny"))) (Rctl shares) ≡ Ok (Rctl (record shares { values = record { limit = 7; deny = true } ∷ [] }))
unfolding shares pair limit decimal_of list_edited with_property
value_put = refl

value_removed : without_value (codes "value") (Complex (limit (codes "20") (codes "none"))) (Rctl shares) ≡ Ok (Rctl (record shares { values = record { limit = 3; deny = true } ∷ [] }))
unfolding shares pair limit decimal_of list_edited without_value
value_removed = refl

other_action_there : without_value (codes "value") (Complex (limit (codes "20") (codes "deny"))) (Rctl shares) ≡ Err NoMatch
unfolding shares pair limit decimal_of list_edited without_value
other_action_there = refl

other_action : with_value (codes "value") (Complex (limit (codes "7") (codes "signal"))) (empty kind.Rctl) ≡ Err BadValue
unfolding pair limit list_edited with_value
other_action = refl

other_order : with_value (codes "value") (Complex (pair (codes "limit") (codes "7") ∷ pair (codes "priv") (codes "privileged") ∷ pair (codes "action") (codes "deny") ∷ [])) (empty kind.Rctl) ≡ Err BadValue
unfolding pair list_edited with_value
other_order = refl

cleared : without_property (codes "value") (Rctl shares) ≡ Ok (Rctl (record shares { values = [] }))
unfolding shares without_property
cleared = refl
