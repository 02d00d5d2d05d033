-- The subcommand that a line spells, or why it is none: a row for each word (zonecfg(8), SUBCOMMANDS).
use Rattle.std.specs.Prelude.{ℕ, List, [], ◌∷◌, Bool, not, ◌&&◌, length, Option, Some, None, Result, Ok, Err, is_some, codes, if◌then◌else◌}
use Rattle.std.specs.List.{list_any}
use Rattle.config_terms.specs.declared.terms.Kind.{Kind}
use Rattle.config_terms.specs.Fields.{kind_named}
use Rattle.zonecfg_lex.specs.declared.fault.LexFault.{LexFault}
use Rattle.zonecfg_lex.specs.declared.fault.LexFault.TheVariants.{NoValue}
use Rattle.zonecfg_lex.specs.declared.token.Token.{Token}
use Rattle.zn_base.specs.declared.values.Pair.{Pair}
use Rattle.zn_base.specs.declared.values.Value.{Value}
use Rattle.zonecfg_lex.specs.Tokens.{is_equals, is_word, part_tokens_of, text_of}
use Rattle.zonecfg_lex.specs.Value.{given_texts, paired, value_of}
use Rattle.zonecfg_scopes.specs.declared.command.Command.{Command}
use Rattle.zonecfg_scopes.specs.declared.command.Command.TheVariants.{Blank, Add, Append, Cancel, Clear, Commit, Create, Delete, End, Exit, Export, Help, Info, Remove, RemoveItem, Revert, Select, Set, Verify}
use Rattle.zonecfg_scopes.specs.declared.command.ListProperty.{ListProperty}
use Rattle.zonecfg_scopes.specs.declared.command.Matching.{Matching}
use Rattle.zonecfg_scopes.specs.declared.command.Topic.{Topic}
use Rattle.zonecfg_scopes.specs.declared.command.Topic.TheVariants.{Everything}
use Rattle.zonecfg_scopes.specs.declared.fault.EditFault.{EditFault}
use Rattle.zonecfg_scopes.specs.declared.fault.EditFault.TheVariants.{Lex, UnknownCommand, Usage}
use Rattle.zonecfg_scopes.specs.declared.verb.Verb.{Verb}
use Rattle.zonecfg_scopes.specs.declared.verb.Verb.TheVariants as verb
use Rattle.zonecfg_scopes.specs.Commands.{list_named, topic_named, verb_named}
use Rattle.zonecfg_scopes.specs.Faults.{lexed}
use Rattle.zonecfg_scopes.specs.Words.{are_pairs, behind_flag, first_value_missed, has_flag, said}

-- what stands with nothing after it
abbrev pub alone : {A : Type 0} → List Token → A → Result A EditFault
alone [] it = Ok it
alone ts it = Err Usage

-- a subcommand that ends with a value
abbrev pub with_value : (Value → Command) → Result Value LexFault → Result Command EditFault
with_value command (Ok value) = Ok (command value)
with_value command (Err fault) = Err (lexed fault)

-- `[-F]` and nothing more: whether it is given
abbrev pub force_of : List ℕ → List Token → Result Bool EditFault
force_of line ts = alone (behind_flag (codes "-F") line ts) (has_flag (codes "-F") line ts)

-- a subcommand with the `-F` that was read
abbrev pub with_force : (Bool → Command) → Result Bool EditFault → Result Command EditFault
with_force command (Ok force) = Ok (command force)
with_force command (Err fault) = Err fault

-- `create [-F] [-b]`
abbrev pub create_of : List ℕ → List Token → Result Command EditFault
create_of line ts =
    let rest = behind_flag (codes "-F") line ts in
    alone (behind_flag (codes "-b") line rest) (Create (has_flag (codes "-F") line ts) (has_flag (codes "-b") line rest))

abbrev pub add_by : Option ListProperty → Option Kind → List ℕ → List Token → Result Command EditFault
add_by (Some list) kind line ts = with_value (Append list) (value_of line ts)
add_by None (Some kind) line ts = alone ts (Add kind)
add_by None None line ts = Err Usage

-- `add KIND`, `add options VALUE`, `add value VALUE`
abbrev pub add_of : List ℕ → List Token → Result Command EditFault
add_of line [] = Err Usage
add_of line (t ∷ ts) = add_by (list_named (said line t)) (kind_named (said line t)) line ts

-- `clear NAME`
abbrev pub clear_of : List ℕ → List Token → Result Command EditFault
clear_of line (t ∷ []) = if is_word t.kind then Ok (Clear (text_of line t)) else Err Usage
clear_of line ts = Err Usage

-- `set NAME=VALUE`
abbrev pub set_of : List ℕ → List Token → Result Command EditFault
set_of line (name ∷ sign ∷ ts) =
    if is_word name.kind && is_equals sign.kind then with_value (Set (text_of line name)) (value_of line ts) else Err Usage
set_of line ts = Err Usage

-- `info`, `info NAME`, `info KIND`
abbrev pub info_by : Option Topic → Result Command EditFault
info_by (Some topic) = Ok (Info topic)
info_by None = Err Usage

abbrev pub info_of : List ℕ → List Token → Result Command EditFault
info_of line [] = Ok (Info Everything)
info_of line (t ∷ []) = info_by (topic_named (said line t))
info_of line ts = Err Usage

-- a pair that names no list
abbrev pub names_list : Pair → Bool
names_list p = is_some (list_named p.name)

abbrev pub matching_by : Option Kind → List ℕ → List Token → Result Matching EditFault
matching_by None line ts = Err Usage
matching_by (Some kind) line ts =
    let pairs = paired (given_texts line ts) in
    if are_pairs ts && not (list_any names_list pairs) then Ok (record { kind = kind; pairs = pairs }) else Err Usage

-- a missing value comes before every other fault of the form
abbrev pub unless_missed : Option ℕ → Result Matching EditFault → Result Matching EditFault
unless_missed (Some place) matching = Err (Lex (NoValue place))
unless_missed None matching = matching

-- `KIND` and pairs `NAME=VALUE`, of which none names a list
abbrev pub matching_of : List ℕ → List Token → Result Matching EditFault
matching_of line [] = Err Usage
matching_of line (t ∷ ts) = unless_missed (first_value_missed (length line) ts) (matching_by (kind_named (said line t)) line ts)

abbrev pub select_by : Result Matching EditFault → Result Command EditFault
select_by (Err fault) = Err fault
select_by (Ok matching) = elim matching.pairs [ [] ↦ Err Usage | _ ∷ _ ↦ Ok (Select matching) ]

-- `remove [-F] KIND` and pairs
abbrev pub remove_by : Bool → Result Matching EditFault → Result Command EditFault
remove_by force (Err fault) = Err fault
remove_by force (Ok matching) = Ok (Remove force matching)

abbrev pub remove_matching : List ℕ → List Token → Result Command EditFault
remove_matching line ts = remove_by (has_flag (codes "-F") line ts) (matching_of line (behind_flag (codes "-F") line ts))

abbrev pub remove_item_or : Option ListProperty → List ℕ → List Token → Result Command EditFault → Result Command EditFault
remove_item_or (Some list) line ts other = with_value (RemoveItem list) (value_of line ts)
remove_item_or None line ts other = other

-- `remove options VALUE`, `remove value VALUE`, `remove [-F] KIND` and pairs
abbrev pub remove_of : List ℕ → List Token → Result Command EditFault
remove_of line [] = Err Usage
remove_of line (t ∷ ts) = remove_item_or (list_named (said line t)) line ts (remove_matching line (t ∷ ts))

-- the form of each word
unfoldable pub form_of : Verb → List ℕ → List Token → Result Command EditFault
form_of verb.Add line ts = add_of line ts
form_of verb.Cancel line ts = alone ts Cancel
form_of verb.Clear line ts = clear_of line ts
form_of verb.Commit line ts = alone ts Commit
form_of verb.Create line ts = create_of line ts
form_of verb.Delete line ts = with_force Delete (force_of line ts)
form_of verb.End line ts = alone ts End
form_of verb.Exit line ts = with_force Exit (force_of line ts)
form_of verb.Export line ts = alone ts Export
form_of verb.Help line ts = alone ts Help
form_of verb.Info line ts = info_of line ts
form_of verb.Remove line ts = remove_of line ts
form_of verb.Revert line ts = with_force Revert (force_of line ts)
form_of verb.Select line ts = select_by (matching_of line ts)
form_of verb.Set line ts = set_of line ts
form_of verb.Verify line ts = alone ts Verify

abbrev pub form_by : Option Verb → List ℕ → List Token → Result Command EditFault
form_by None line ts = Err UnknownCommand
form_by (Some verb) line ts = form_of verb line ts

abbrev pub spelled_by : List ℕ → List Token → Result Command EditFault
spelled_by line [] = Ok Blank
spelled_by line (t ∷ ts) = form_by (verb_named (said line t)) line ts

abbrev pub read_by : List ℕ → Result (List Token) LexFault → Result Command EditFault
read_by line (Ok ts) = spelled_by line ts
read_by line (Err fault) = Err (lexed fault)

-- the subcommand that a line spells, or its first fault
unfoldable pub command_of : List ℕ → Result Command EditFault
command_of line = read_by line (part_tokens_of line)
