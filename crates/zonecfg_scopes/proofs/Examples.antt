-- What the definitions say of some subcommands, and of the lines that they show.
use Rattle.std.proofs.Common.{◌≡◌, ℕ, List, [], ◌∷◌, true, false, None, Some, Ok, Err, codes, refl}
use Rattle.std.specs.Fmt.{digits}
use Rattle.zonecfg_lex.specs.declared.fault.LexFault.TheVariants.{NoValue, OpenQuote}
use Rattle.zn_base.specs.declared.values.Value.TheVariants.{Simple, List as Items}
use Rattle.zonecfg_lex.specs.Tokens.{part_tokens_of, role_of}
use Rattle.zonecfg_lex.specs.Value.{value_of}
use Rattle.zonecfg_scopes.specs.declared.command.Command.TheVariants.{Blank, Add, Append, Create, Info, Remove, RemoveItem, Revert, Select, Set}
use Rattle.zonecfg_scopes.specs.declared.command.EditReply.TheVariants.{Lines}
use Rattle.zonecfg_scopes.specs.declared.command.ListProperty.TheVariants.{Options}
use Rattle.zonecfg_scopes.specs.declared.command.Topic.TheVariants.{Everything, Resources, Setting}
use Rattle.zonecfg_scopes.specs.declared.fault.EditFault.TheVariants.{Lex, UnknownCommand, Usage}
use Rattle.config_terms.specs.declared.terms.Kind.TheVariants.{Attr, Fs, Net, Rctl}
use Rattle.config_terms.specs.Edits as edits
use Rattle.config_terms.specs.Rules.{obeys}
use Rattle.config_terms.specs.Texts.{limit_text, options_text, setting}
use Rattle.zone_config.specs.declared.terms.Alias.TheVariants.{CpuShares, MaxLwps}
use Rattle.zone_config.specs.declared.terms.Contents.{Contents}
use Rattle.zone_config.specs.declared.terms.Property.TheVariants.{Bootargs, Brand, Pool}
use Rattle.zone_config.specs.declared.terms.Setting.TheVariants.{Aliased, Kept}
use Rattle.zone_config.specs.Edits.{with_property}
use Rattle.zone_config.specs.Export.{export_text}
use Rattle.zone_config.specs.Property.{setting_named}
use Rattle.zone_config.specs.Property as property
use Rattle.zonecfg_scopes.specs.Commands.{verb_named}
use Rattle.zonecfg_scopes.specs.Edited.{Edited, after_lines, line_answer, opened_on}
use Rattle.zonecfg_scopes.specs.Forms.{command_of, form_of}
use Rattle.zonecfg_scopes.specs.Info.{alias_lines, all_lines, entry_lines, export_lines, field_lines, help_line, info_lines, kind_lines, limit_line, options_line, set_line, topic_lines}
use Rattle.zonecfg_scopes.specs.Open.{Whole}
use Rattle.zonecfg_scopes.specs.Scopes.{made}

blank : command_of (codes " ") ≡ Ok Blank
unfolding command_of part_tokens_of role_of
blank = refl

forced_and_bare : command_of (codes "create -F -b") ≡ Ok (Create true true)
unfolding command_of form_of part_tokens_of role_of verb_named
forced_and_bare = refl

bare : command_of (codes " create -b") ≡ Ok (Create false true)
unfolding command_of form_of part_tokens_of role_of verb_named
bare = refl

bare_and_forced : command_of (codes "create -b -F") ≡ Err Usage
unfolding command_of form_of part_tokens_of role_of verb_named
bare_and_forced = refl

unforced : command_of (codes "revert") ≡ Ok (Revert false)
unfolding command_of form_of part_tokens_of role_of verb_named
unforced = refl

assigned : command_of (codes "set a = \"b c\"") ≡ Ok (Set (codes "a") (Simple (codes "b c")))
unfolding command_of form_of part_tokens_of role_of value_of verb_named
assigned = refl

unassigned : command_of (codes "set a=") ≡ Err (Lex (NoValue 6))
unfolding command_of form_of part_tokens_of role_of value_of verb_named
unassigned = refl

assigned_twice : command_of (codes "set a=b \"c\"") ≡ Err (Lex (NoValue 8))
unfolding command_of form_of part_tokens_of role_of value_of verb_named
assigned_twice = refl

added : command_of (codes "add attr") ≡ Ok (Add Attr)
unfolding command_of form_of part_tokens_of role_of verb_named
added = refl

appended : command_of (codes "add options [ro]") ≡ Ok (Append Options (Items (codes "ro" ∷ [])))
unfolding command_of form_of part_tokens_of role_of value_of verb_named
appended = refl

nothing_appended : command_of (codes "add value") ≡ Err (Lex (NoValue 9))
unfolding command_of form_of part_tokens_of role_of value_of verb_named
nothing_appended = refl

selected : command_of (codes "select fs dir=/a") ≡ Ok (Select (record { kind = Fs; pairs = record { name = codes "dir"; value = codes "/a" } ∷ [] }))
unfolding command_of form_of part_tokens_of role_of verb_named
selected = refl

nothing_selected : command_of (codes "select fs") ≡ Err Usage
unfolding command_of form_of part_tokens_of role_of verb_named
nothing_selected = refl

value_missing : command_of (codes "select ufs a dir=") ≡ Err (Lex (NoValue 17))
unfolding command_of form_of part_tokens_of role_of verb_named
value_missing = refl

value_malformed : command_of (codes "remove -F fs dir=[a]") ≡ Err (Lex (NoValue 17))
unfolding command_of form_of part_tokens_of role_of verb_named
value_malformed = refl

list_matched : command_of (codes "select attr value=a") ≡ Err Usage
unfolding command_of form_of part_tokens_of role_of verb_named
list_matched = refl

all_removed : command_of (codes "remove -F net") ≡ Ok (Remove true (record { kind = Net; pairs = [] }))
unfolding command_of form_of part_tokens_of role_of verb_named
all_removed = refl

item_removed : command_of (codes "remove options a") ≡ Ok (RemoveItem Options (Simple (codes "a")))
unfolding command_of form_of part_tokens_of role_of value_of verb_named
item_removed = refl

shown : command_of (codes "info brand") ≡ Ok (Info (Setting (Kept Brand)))
unfolding command_of form_of part_tokens_of role_of setting_named verb_named
shown = refl

unknown_shown : command_of (codes "info zonename") ≡ Err Usage
unfolding command_of form_of part_tokens_of role_of setting_named verb_named
unknown_shown = refl

unknown : command_of (codes "#add fs") ≡ Err UnknownCommand
unfolding command_of form_of part_tokens_of role_of verb_named
unknown = refl

quoted : command_of (codes "\"add\" fs") ≡ Err UnknownCommand
unfolding command_of form_of part_tokens_of role_of verb_named
quoted = refl

open_quote : command_of (codes "set pool=\"a") ≡ Err (Lex (OpenQuote 9))
unfolding command_of form_of part_tokens_of role_of verb_named
open_quote = refl

-- an editor of the zone `web` after lines
after : List (List ℕ) → Edited
after lines = after_lines lines (opened_on (codes "web") None)

helped : line_answer (codes "help") (after []) ≡ Ok (Lines (codes "add cancel clear commit create delete end exit export help info remove revert select set verify" ∷ []))
unfolding after command_of form_of help_line made part_tokens_of role_of verb_named
helped = refl

pool_shown : line_answer (codes "info pool") (after (codes "create -b" ∷ codes "set pool=p1" ∷ [])) ≡ Ok (Lines (codes "pool: p1" ∷ []))
unfolding after command_of export_text form_of info_lines made obeys part_tokens_of role_of setting setting_named topic_lines value_of verb_named with_property
pool_shown = refl

autoboot_shown : line_answer (codes "info autoboot") (after (codes "create -b" ∷ codes "set autoboot=true" ∷ [])) ≡ Ok (Lines (codes "autoboot: true" ∷ []))
unfolding after command_of export_text form_of info_lines made obeys part_tokens_of role_of setting setting_named topic_lines value_of verb_named with_property
autoboot_shown = refl

scope_shown : line_answer (codes "info") (after (codes "create -b" ∷ codes "add fs" ∷ codes "set dir=/a" ∷ [])) ≡ Ok (Lines (codes "fs:" ∷ codes "    dir: /a" ∷ []))
unfolding after command_of edits.with_property entry_lines field_lines form_of info_lines made obeys options_line part_tokens_of role_of set_line value_of verb_named
scope_shown = refl

exported : export_lines (Whole property.blank) ≡ codes "create -b" ∷ codes "set autoboot=false" ∷ codes "set ip-type=shared" ∷ []
unfolding export_lines export_text setting
exported = refl

blank_shown : info_lines Everything (codes "web") (Whole property.blank) ≡ codes "zonename: web" ∷ codes "zonepath: " ∷ codes "brand: " ∷ codes "autoboot: false" ∷ codes "bootargs: "
    ∷ codes "pool: " ∷ codes "limitpriv: " ∷ codes "scheduling-class: " ∷ codes "ip-type: shared" ∷ codes "hostid: " ∷ codes "fs-allowed: " ∷ []
unfolding all_lines info_lines kind_lines topic_lines
blank_shown = refl

unset_shown : info_lines (Setting (Kept Pool)) (codes "web") (Whole property.blank) ≡ codes "pool: " ∷ []
unfolding info_lines topic_lines
unset_shown = refl

shown_unquoted : info_lines (Setting (Kept Bootargs)) (codes "web") (Whole (record property.blank { bootargs = codes "-m verbose" })) ≡ codes "bootargs: -m verbose" ∷ []
unfolding info_lines topic_lines
shown_unquoted = refl

with_fs : Contents
with_fs = record property.blank { fs = record { dir = Some (codes "/a"); special = codes "/b"; raw = []; fstype = codes "lofs"; options = codes "ro" ∷ codes "nodevices" ∷ [] } ∷ [] }

options_shown : info_lines (Resources Fs) (codes "web") (Whole with_fs) ≡ codes "fs:" ∷ codes "    dir: /a" ∷ codes "    special: /b" ∷ codes "    type: lofs" ∷ codes "    options: [ro,nodevices]" ∷ []
unfolding entry_lines field_lines info_lines kind_lines options_line options_text set_line topic_lines with_fs
options_shown = refl

-- an rctl with the name of an alias's, in another form
with_shares : Contents
with_shares = record property.blank { rctl = record { name = codes "zone.cpu-shares"; values = record { limit = 10; deny = false } ∷ record { limit = 20; deny = true } ∷ [] } ∷ [] }

shares : List (List ℕ)
shares = codes "rctl:" ∷ codes "    name: zone.cpu-shares" ∷ codes "    value: (priv=privileged,limit=10,action=none)" ∷ codes "    value: (priv=privileged,limit=20,action=deny)" ∷ []

values_shown : info_lines (Resources Rctl) (codes "web") (Whole with_shares) ≡ shares
unfolding digits entry_lines field_lines info_lines kind_lines limit_line limit_text options_line set_line shares topic_lines with_shares
values_shown = refl

alias_shown : info_lines (Setting (Aliased CpuShares)) (codes "web") (Whole with_shares) ≡ shares
unfolding alias_lines digits entry_lines field_lines info_lines limit_line limit_text options_line set_line shares topic_lines with_shares
alias_shown = refl

no_alias_shown : info_lines (Setting (Aliased MaxLwps)) (codes "web") (Whole with_shares) ≡ []
unfolding alias_lines info_lines topic_lines with_shares
no_alias_shown = refl
