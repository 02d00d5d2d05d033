-- What a rule allows is printable, and so is each line of a sound configuration.
use Rattle.std.proofs.Common.{◌≡◌, ◌≤◌, ◌+◌, ℕ, suc, Bool, true, false, cond, not, ◌&&◌, List, [], ◌∷◌, ◌++◌, length, Option, Some, None, Err, refl, ap, sym, subst, ◌∙◌, arith, nat_lt, codes, inl, inr}
use Rattle.std.specs.Prelude.{◌==◌, nat_le, is_ok, map}
use Rattle.std.specs.List.{flat_map, list_all, list_any, position_or_len, slice_split, onto_first}
use Rattle.std.specs.Str.{bytes_eq}
use Rattle.std.proofs.lemmas.Bool.{and_parts, or_cases}
use Rattle.std.proofs.lemmas.Bool.Decides.{nat_tests}
use Rattle.std.proofs.lemmas.Slice.Eq.{bytes_eq-Decides}
use Rattle.zn_base.specs.declared.path.PathFault.TheVariants.{NotAbsolute, PathLong}
use Rattle.zn_base.specs.Names.{is_name_byte}
use Rattle.zn_base.specs.Path.{first_bad, first_bad_below_root, is_component, is_component_byte, is_path, is_slash, path_from_root, path_unless}
use Rattle.zn_base.specs.Text.{is_text, is_text_byte}
use Rattle.config_terms.specs.Allowed.{entry_allowed, fields_fit, is_allowed, is_allowed_limit, is_kept_path}
use Rattle.config_terms.specs.Fields.{field_name, field_rule, fields_of, fs_shown, kind_of, kinds, resource_options, resource_shown, resource_values}
use Rattle.config_terms.specs.Numbers.{is_limit}
use Rattle.config_terms.specs.declared.fields.Field.{Field}
use Rattle.config_terms.specs.declared.fields.Field.TheVariants.{FsDir, FsSpecial, FsRaw, FsType, NetAddress, NetAllowed, NetPhysical, NetDefrouter, DeviceMatch, RctlName, AttrName, AttrType, AttrValue, DatasetName}
use Rattle.config_terms.specs.declared.terms.Kind.{Kind}
use Rattle.config_terms.specs.declared.terms.Kind.TheVariants as kind
use Rattle.config_terms.specs.declared.terms.Limit.{Limit}
use Rattle.config_terms.specs.declared.terms.Resource.{Resource}
use Rattle.config_terms.specs.declared.terms.Resource.TheVariants.{Fs}
use Rattle.export_read.proofs.Again.{IsPlain, none_of}
use Rattle.export_read.specs.Commands.{entry_commands, kind_commands, property_commands, resource_commands, script, where_any, where_set}
use Rattle.export_read.specs.Reading.{is_comma, is_equals}
use Rattle.export_read.specs.declared.command.Command.{Command}
use Rattle.export_read.specs.declared.command.Command.TheVariants.{End, Value}
use Rattle.zone_config.proofs.Rows.{IsLawful, each_kind, sound-row}
use Rattle.zone_config.specs.Kinds.{Row}
use Rattle.zone_config.specs.Property.{properties, property_name, property_rule, shown}
use Rattle.zone_config.specs.Sound.{HasSoundResources, IsSound}
use Rattle.zone_config.specs.declared.terms.Contents.{Contents}
use Rattle.zone_config.specs.declared.terms.Property.{Property}
use Rattle.zone_config.specs.declared.terms.Property.TheVariants.{Zonepath, Brand, Autoboot, Bootargs, Pool, Limitpriv, SchedulingClass, IpType, Hostid, FsAllowed}
use Rattle.config_terms.specs.Rules.{fits, begins_in, is_alphanumeric, is_hex_byte, is_one_of, is_option_byte, is_run, is_simple_byte, obeys}
use Rattle.config_terms.specs.declared.rules.Rule.{Rule}
use Rattle.config_terms.specs.declared.rules.Rule.TheVariants.{RootedPath, OwnPath, Flag, ShortName, Simple, IpWay, HostId, Number, TypeWord, OptionWord, ControlName, AttributeName, AttributeForm}

none_bad : (xs : List ℕ) → list_all is_text_byte xs ≡ true → position_or_len (λ b. not (is_text_byte b)) xs ≡ length xs
none_bad [] h = refl
none_bad (b ∷ xs) h =
    let h : (is_text_byte b ≡ true) × (list_all is_text_byte xs ≡ true) = and_parts (is_text_byte b) (list_all is_text_byte xs) h in
    rw h.0 (let rest = none_bad xs h.1 in omega arith)

-- few printable bytes are a text
pub is_text-bytes : (xs : List ℕ) → list_all is_text_byte xs ≡ true → length xs ≤ 4200 → is_text xs ≡ true
is_text-bytes xs h short =
    let past : nat_lt (length xs) (length xs) ≡ false = grind (arith, nat_tests) in
    let long : nat_lt 4200 (length xs) ≡ false = grind (arith, nat_tests) in
    rw (none_bad xs h) (rw past (rw long refl))

-- bytes of one class are of another that has it
pub all_in : (class other : ℕ → Bool) (bytes : List ℕ) → ((b : ℕ) → class b ≡ true → other b ≡ true) → list_all class bytes ≡ true → list_all other bytes ≡ true
all_in class other [] within h = refl
all_in class other (b ∷ bytes) within h =
    let h : (class b ≡ true) × (list_all class bytes ≡ true) = and_parts (class b) (list_all class bytes) h in
    rw (within b h.0) (all_in class other bytes within h.1)

name_byte : (b : ℕ) → is_name_byte b ≡ true → is_text_byte b ≡ true
name_byte b h = grind (arith, nat_tests)

option_byte : (b : ℕ) → is_option_byte b ≡ true → is_text_byte b ≡ true
option_byte b h = grind (arith, nat_tests)

simple_byte : (b : ℕ) → is_simple_byte b ≡ true → is_text_byte b ≡ true
simple_byte b h = grind (arith, nat_tests)

hex_byte : (b : ℕ) → is_hex_byte b ≡ true → is_text_byte b ≡ true
hex_byte b h = grind (arith, nat_tests)

letter : (b : ℕ) → is_alphanumeric b ≡ true → is_text_byte b ≡ true
letter b h = grind (arith, nat_tests)

run_text : (class : ℕ → Bool) (low high : ℕ) (v : List ℕ) → ((b : ℕ) → class b ≡ true → is_text_byte b ≡ true) → high ≤ 4200 → is_run class low high v ≡ true → is_text v ≡ true
run_text class low high v within small h =
    let a : ((nat_le low (length v) && nat_le (length v) high) ≡ true) × (list_all class v ≡ true) = and_parts _ _ h in
    let b : (nat_le low (length v) ≡ true) × (nat_le (length v) high ≡ true) = and_parts _ _ a.0 in
    is_text-bytes v (all_in class is_text_byte v within a.1) (grind (arith, nat_tests))

word_text : (words : List (List ℕ)) (v : List ℕ) → list_all is_text words ≡ true → is_one_of words v ≡ true → is_text v ≡ true
word_text [] v h is = absurd (cc)
word_text (w ∷ words) v h is =
    let h : (is_text w ≡ true) × (list_all is_text words ≡ true) = and_parts (is_text w) (list_all is_text words) h in
    elim (or_cases (bytes_eq v w) (list_any (bytes_eq v) words) is) as (λ _. is_text v ≡ true) [
      | inl same ↦ ap is_text ((bytes_eq-Decides v w).0 same) ∙ h.0
      | inr other ↦ word_text words v h.1 other
    ]

component_byte : (b : ℕ) → is_component_byte b ≡ true → is_text_byte b ≡ true
component_byte b h = grind (arith, nat_tests)

slash_text : (b : ℕ) → is_slash b ≡ true → is_text_byte b ≡ true
slash_text b h = grind (arith, nat_tests)

none_found : (place : ℕ) (parts : List (List ℕ)) → first_bad place parts ≡ None → list_all (list_all is_component_byte) parts ≡ true
none_found place [] h = refl
none_found place (part ∷ parts) h =
    elim (is_component part) as (λ v. is_component part ≡ v → cond v (first_bad (place + length part + 1) parts) (Some place) ≡ None → list_all (list_all is_component_byte) (part ∷ parts) ≡ true) [
      | true ↦ λ good none.
          let c : ((list_all is_component_byte part && not (length part == 0) && not (bytes_eq part (codes "."))) ≡ true) × (not (bytes_eq part (codes "..")) ≡ true) = and_parts _ _ good in
          let b : ((list_all is_component_byte part && not (length part == 0)) ≡ true) × (not (bytes_eq part (codes ".")) ≡ true) = and_parts _ _ c.0 in
          let a : (list_all is_component_byte part ≡ true) × (not (length part == 0) ≡ true) = and_parts _ _ b.0 in
          rw a.0 (none_found (place + length part + 1) parts none)
      | false ↦ λ bad some. absurd (cc)
    ] refl h

parts_text : (bytes : List ℕ) → list_all (list_all is_component_byte) (slice_split is_slash bytes) ≡ true → list_all is_text_byte bytes ≡ true
parts_text [] h = refl
parts_text (b ∷ bytes) h =
    elim (is_slash b) as (λ v. is_slash b ≡ v → list_all (list_all is_component_byte) (cond v ([] ∷ slice_split is_slash bytes) (onto_first b (slice_split is_slash bytes))) ≡ true → (is_text_byte b && list_all is_text_byte bytes) ≡ true) [
      | true ↦ λ slash rest. rw (slash_text b slash) (parts_text bytes rest)
      | false ↦ λ other rest. let d = onto (slice_split is_slash bytes) rest in rw (component_byte b d.0) (parts_text bytes d.1)
    ] refl h
  where
    onto : (parts : List (List ℕ)) → list_all (list_all is_component_byte) (onto_first b parts) ≡ true → (is_component_byte b ≡ true) × (list_all (list_all is_component_byte) parts ≡ true)
    onto [] h = let a : ((is_component_byte b && true) ≡ true) × (true ≡ true) = and_parts _ _ h in let c : (is_component_byte b ≡ true) × (true ≡ true) = and_parts _ _ a.0 in (c.0, refl)
    onto (part ∷ parts) h =
        let a : ((is_component_byte b && list_all is_component_byte part) ≡ true) × (list_all (list_all is_component_byte) parts ≡ true) = and_parts _ _ h in
        let c : (is_component_byte b ≡ true) × (list_all is_component_byte part ≡ true) = and_parts _ _ a.0 in
        (c.0, rw c.1 a.1)

rooted_text : (bytes : List ℕ) → is_ok (path_from_root bytes) ≡ true → list_all is_text_byte bytes ≡ true
rooted_text [] h = absurd (cc)
rooted_text (b ∷ bytes) h =
    elim (is_slash b) as (λ v. is_slash b ≡ v → is_ok (cond v (path_unless (first_bad_below_root bytes) (b ∷ bytes)) (Err NotAbsolute)) ≡ true → (is_text_byte b && list_all is_text_byte bytes) ≡ true) [
      | true ↦ λ slash ok. rw (slash_text b slash) (below bytes ok)
      | false ↦ λ other ok. absurd (cc)
    ] refl h
  where
    good : (o : Option ℕ) (all : List ℕ) → is_ok (path_unless o all) ≡ true → o ≡ None
    good None all h = refl
    good (Some place) all h = absurd (cc)

    below : (rest : List ℕ) → is_ok (path_unless (first_bad_below_root rest) (b ∷ bytes)) ≡ true → list_all is_text_byte rest ≡ true
    below [] h = refl
    below (c ∷ rest) h = parts_text (c ∷ rest) (none_found 1 (slice_split is_slash (c ∷ rest)) (good (first_bad 1 (slice_split is_slash (c ∷ rest))) (b ∷ bytes) h))

path_printable : (v : List ℕ) → is_path v ≡ true → is_text v ≡ true
path_printable v h =
    elim (nat_lt 1023 (length v)) as (λ b. nat_lt 1023 (length v) ≡ b → is_ok (cond b (Err PathLong) (path_from_root v)) ≡ true → is_text v ≡ true) [
      | true ↦ λ long ok. absurd (cc)
      | false ↦ λ short ok. is_text-bytes v (rooted_text v ok) (grind (arith, nat_tests))
    ] refl h

-- no property of a table is a number alone
abbrev pub IsOfText : Rule → Type 0
IsOfText Number = ⊥
IsOfText rule = Unit {0}

first_holds : (a b : Bool) → (a && b) ≡ true → a ≡ true
first_holds a b h = let h : (a ≡ true) × (b ≡ true) = and_parts a b h in h.0

-- what a rule allows is a text
pub obeys-text : (rule : Rule) (v : List ℕ) → IsOfText rule → obeys rule v ≡ true → is_text v ≡ true
unfolding obeys
obeys-text RootedPath v t h = path_printable v h
obeys-text OwnPath v t h = let h : (is_path v ≡ true) × (not (bytes_eq v (codes "/")) ≡ true) = and_parts _ _ h in path_printable v h.0
obeys-text Flag v t h = word_text (codes "true" ∷ codes "false" ∷ []) v refl h
obeys-text ShortName v t h = run_text is_name_byte 0 32 v name_byte (omega arith) h
obeys-text Simple v t h = run_text is_simple_byte 0 1023 v simple_byte (omega arith) h
obeys-text IpWay v t h = word_text (codes "shared" ∷ codes "exclusive" ∷ []) v refl h
obeys-text HostId v t h = let h : (is_run is_hex_byte 0 8 v ≡ true) × (not (bytes_eq v (codes "ffffffff")) ≡ true) = and_parts _ _ h in run_text is_hex_byte 0 8 v hex_byte (omega arith) h.0
obeys-text Number v t h = absurd t
obeys-text TypeWord v t h = run_text is_alphanumeric 1 15 v letter (omega arith) h
obeys-text OptionWord v t h = run_text is_option_byte 1 63 v option_byte (omega arith) h
obeys-text ControlName v t h = run_text is_name_byte 1 63 v name_byte (omega arith) h
obeys-text AttributeName v t h =
    let named : (is_run is_name_byte 1 63 v && begins_in is_alphanumeric v) ≡ true = first_holds _ _ h in
    run_text is_name_byte 1 63 v name_byte (omega arith) (first_holds _ _ named)
obeys-text AttributeForm v t h = word_text (codes "int" ∷ codes "uint" ∷ codes "boolean" ∷ codes "string" ∷ []) v refl h

-- each command of some is plain
abbrev pub ArePlain : List Command → Type 0
ArePlain [] = Unit {0}
ArePlain (x ∷ xs) = IsPlain x × ArePlain xs

pub plain-append : (xs ys : List Command) → ArePlain xs → ArePlain ys → ArePlain (xs ++ ys)
plain-append [] ys a b = b
plain-append (x ∷ xs) ys a b = (a.0, plain-append xs ys a.1 b)

plain-each : {A : Type 0} (commands : A → List Command) (good : A → Bool) → ((x : A) → good x ≡ true → ArePlain (commands x)) → (xs : List A) → list_all good xs ≡ true → ArePlain (flat_map commands xs)
plain-each commands good each [] h = tt
plain-each commands good each (x ∷ xs) h =
    let h : (good x ≡ true) × (list_all good xs ≡ true) = and_parts (good x) (list_all good xs) h in
    plain-append (commands x) (flat_map commands xs) (each x h.0) (plain-each commands good each xs h.1)

-- a row of a table: its name is printable and has no sign, and its rule is one of texts
abbrev IsRow : List ℕ → Rule → Type 0
IsRow name rule = (list_any is_equals name ≡ false) × (is_text name ≡ true) × IsOfText rule

-- a value that is set obeys its rule
pub fits-set : (rule : Rule) (b : ℕ) (v : List ℕ) → fits rule (b ∷ v) ≡ true → obeys rule (b ∷ v) ≡ true
unfolding fits
fits-set rule b v h =
    let some : (suc (length v) == 0) ≡ false = grind (arith, nat_tests) in
    rw some at h

row_plain : (name : List ℕ) (rule : Rule) (v : List ℕ) → IsRow name rule → fits rule v ≡ true → ArePlain (where_set name v)
row_plain name rule [] row h = tt
row_plain name rule (b ∷ v) row h = ((row.0, row.1, obeys-text rule (b ∷ v) row.2 (fits-set rule b v h)), tt)

property_row : (p : Property) → IsRow (property_name p) (property_rule p)
property_row Zonepath = (refl, refl, tt)
property_row Brand = (refl, refl, tt)
property_row Autoboot = (refl, refl, tt)
property_row Bootargs = (refl, refl, tt)
property_row Pool = (refl, refl, tt)
property_row Limitpriv = (refl, refl, tt)
property_row SchedulingClass = (refl, refl, tt)
property_row IpType = (refl, refl, tt)
property_row Hostid = (refl, refl, tt)
property_row FsAllowed = (refl, refl, tt)

field_row : (f : Field) → IsRow (field_name f) (field_rule f)
field_row FsDir = (refl, refl, tt)
field_row FsSpecial = (refl, refl, tt)
field_row FsRaw = (refl, refl, tt)
field_row FsType = (refl, refl, tt)
field_row NetAddress = (refl, refl, tt)
field_row NetAllowed = (refl, refl, tt)
field_row NetPhysical = (refl, refl, tt)
field_row NetDefrouter = (refl, refl, tt)
field_row DeviceMatch = (refl, refl, tt)
field_row RctlName = (refl, refl, tt)
field_row AttrName = (refl, refl, tt)
field_row AttrType = (refl, refl, tt)
field_row AttrValue = (refl, refl, tt)
field_row DatasetName = (refl, refl, tt)

pub field_of_text : (f : Field) → IsOfText (field_rule f)
field_of_text f = let row = field_row f in row.2

option_no_comma : (b : ℕ) → is_option_byte b ≡ true → is_comma b ≡ false
option_no_comma b h = grind (arith, nat_tests)

option_plain : (o : List ℕ) → obeys OptionWord o ≡ true → (is_text o ≡ true) × (list_any is_comma o ≡ false)
unfolding obeys
option_plain o h =
    let a : ((nat_le 1 (length o) && nat_le (length o) 63) ≡ true) × (list_all is_option_byte o ≡ true) = and_parts _ _ h in
    (run_text is_option_byte 1 63 o option_byte (omega arith) h, none_of is_option_byte is_comma o option_no_comma a.1)

options_plain : (options : List (List ℕ)) → list_all (obeys OptionWord) options ≡ true → (list_all is_text options ≡ true) × (list_any (list_any is_comma) options ≡ false)
options_plain [] h = (refl, refl)
options_plain (o ∷ options) h =
    let h : (obeys OptionWord o ≡ true) × (list_all (obeys OptionWord) options ≡ true) = and_parts _ _ h in
    let first = option_plain o h.0 in
    let rest = options_plain options h.1 in
    (rw first.0 rest.0, rw first.1 rest.1)

any_plain : (options : List (List ℕ)) → list_all (obeys OptionWord) options ≡ true → ArePlain (where_any options)
any_plain [] h = tt
any_plain (o ∷ options) h = (options_plain (o ∷ options) h, tt)

values_plain : (values : List Limit) → list_all is_allowed_limit values ≡ true → ArePlain (map (λ v. Value v) values)
values_plain [] h = tt
values_plain (v ∷ values) h = let h : (is_limit v.limit ≡ true) × (list_all is_allowed_limit values ≡ true) = and_parts _ _ h in (h.0, values_plain values h.1)

pub plain-entry : (k : Kind) (shown : Field → List ℕ) (options : List (List ℕ)) (values : List Limit) → entry_allowed k shown options values ≡ true → ArePlain (entry_commands k shown options values)
unfolding entry_allowed fields_fit
plain-entry k shown options values h =
    let h : ((list_all (λ f. fits (field_rule f) (shown f)) (fields_of k) && list_all (obeys OptionWord) options) ≡ true) × (list_all is_allowed_limit values ≡ true) = and_parts _ _ h in
    let g : (list_all (λ f. fits (field_rule f) (shown f)) (fields_of k) ≡ true) × (list_all (obeys OptionWord) options ≡ true) = and_parts _ _ h.0 in (
      tt,
      plain-append _ _ (plain-each (λ f. where_set (field_name f) (shown f)) (λ f. fits (field_rule f) (shown f)) (λ f fit. row_plain (field_name f) (field_rule f) (shown f) (field_row f) fit) (fields_of k) g.0)
          (plain-append (where_any options) (map (λ v. Value v) values ++ End ∷ []) (any_plain options g.1) (plain-append (map (λ v. Value v) values) (End ∷ []) (values_plain values h.1) (tt, tt))),
    )

plain-resource : (r : Resource) → is_allowed r ≡ true → ArePlain (resource_commands r)
plain-resource (Fs f) h = plain-entry _ _ _ _ (let g : (is_kept_path f.dir ≡ true) × (entry_allowed kind.Fs (fs_shown f) f.options [] ≡ true) = and_parts _ _ h in g.1)
plain-resource r h = plain-entry (kind_of r) (resource_shown r) (resource_options r) (resource_values r) h

plain-row : (A : Type 0) (row : Row A) → IsLawful row → (c : Contents) → HasSoundResources c → ArePlain (kind_commands c row.kind)
plain-row A row law c s =
    let plain = plain-each (λ x. resource_commands (row.make x)) (λ x. is_allowed (row.make x)) (λ x. plain-resource (row.make x)) (row.list c) (sound-row row law c s).each in
    subst ArePlain (sym (law.known.of_kind (List Command) (λ B other. flat_map (λ x. resource_commands (other.make x)) (other.list c)))) plain

-- each line of a sound configuration says its command
pub plain-script : (c : Contents) → IsSound c → ArePlain (script c)
unfolding script
plain-script c s =
    (tt, plain-append _ _ (all_properties properties) (all_kinds kinds))
  where
    all_properties : (ps : List Property) → ArePlain (flat_map (property_commands c) ps)
    all_properties [] = tt
    all_properties (p ∷ ps) = plain-append (property_commands c p) (flat_map (property_commands c) ps) (row_plain (property_name p) (property_rule p) (shown p c) (property_row p) (s.properties.values p)) (all_properties ps)

    all_kinds : (ks : List Kind) → ArePlain (flat_map (kind_commands c) ks)
    all_kinds [] = tt
    all_kinds (k ∷ ks) = plain-append (kind_commands c k) (flat_map (kind_commands c) ks) (each_kind (λ k. ArePlain (kind_commands c k)) (λ A row law. plain-row A row law c s.resources) k) (all_kinds ks)
