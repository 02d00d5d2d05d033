-- The command that a line may say. It is read loosely: whether the line is the command's own is for the reader of the
-- whole text to see, who compares it with what is printed.
use Rattle.std.specs.Prelude.{ℕ, List, [], ◌∷◌, length, take, drop, ◌-◌, Bool, ◌==◌, ◌&&◌, Option, Some, None, codes, if◌then◌else◌}
use Rattle.std.specs.List.{after_first, before_first, list_all, slice_split}
use Rattle.std.specs.Option.{option_map}
use Rattle.std.specs.Str.{bytes_eq}
use Rattle.zn_base.specs.Text.{is_text}
use Rattle.config_terms.specs.Fields.{kind_named}
use Rattle.config_terms.specs.Numbers.{number_of}
use Rattle.export_read.specs.declared.command.Command.{Command}
use Rattle.export_read.specs.declared.command.Command.TheVariants.{Create, Set, Open, Options, Value, End}

abbrev pub is_equals : ℕ → Bool
is_equals b = b == 61

abbrev pub is_comma : ℕ → Bool
is_comma b = b == 44

-- what follows a front
abbrev pub behind : List ℕ → List ℕ → Option (List ℕ)
behind front bytes = if bytes_eq (take (length front) bytes) front then Some (drop (length front) bytes) else None

abbrev pub without_last : List ℕ → List ℕ
without_last bytes = take (length bytes - 1) bytes

-- a value without its quotes
abbrev pub unquoted : List ℕ → List ℕ
unquoted [] = []
unquoted (b ∷ bytes) = if b == 34 then without_last bytes else b ∷ bytes

abbrev pub set_of : List ℕ → List ℕ → Option Command
set_of name value = if is_text name && is_text value then Some (Set name value) else None

-- `NAME=VALUE`
abbrev pub setting_of : List ℕ → Option Command
setting_of bytes = set_of (before_first is_equals bytes) (unquoted (after_first is_equals bytes))

-- pieces that are texts
abbrev pub texts_among : List (List ℕ) → Option (List (List ℕ))
texts_among pieces = if list_all is_text pieces then Some pieces else None

-- `OPTION,..]`
abbrev pub options_of : List ℕ → Option Command
options_of bytes = option_map (λ options. Options options) (texts_among (slice_split is_comma (without_last bytes)))

-- `N,action=A)`
abbrev pub limit_of : List ℕ → Option Command
limit_of bytes =
    option_map (λ n. Value (record { limit = n; deny = bytes_eq (after_first is_comma bytes) (codes "action=deny)") }))
    (number_of (before_first is_comma bytes))

abbrev pub opening_of : List ℕ → Option Command
opening_of bytes = option_map (λ kind. Open kind) (kind_named bytes)

-- the command that a line says, if it says one
unfoldable pub command_of : List ℕ → Option Command
command_of line =
    if bytes_eq line (codes "create -b") then Some Create
    else (if bytes_eq line (codes "end") then Some End
    else elim (behind (codes "set ") line) [
      | Some bytes ↦ setting_of bytes
      | None ↦
          elim (behind (codes "add options [") line) [
            | Some bytes ↦ options_of bytes
            | None ↦
                elim (behind (codes "add value (priv=privileged,limit=") line) [
                  | Some bytes ↦ limit_of bytes
                  | None ↦
                      elim (behind (codes "add ") line) [ Some bytes ↦ opening_of bytes | None ↦ None ]
                ]
          ]
    ])
