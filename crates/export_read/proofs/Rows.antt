-- The lines of a sound configuration's text are those of its script.
use Rattle.std.proofs.Common.{◌≡◌, ◌<◌, ◌+◌, ◌^◌, suc, ℕ, Bool, true, false, cond, not, ◌&&◌, List, [], ◌∷◌, ◌++◌, length, Some, None, refl, ap, sym, ◌∙◌, arith, append-nil, codes, nat_lt}
use Rattle.std.specs.Prelude.{map, decimal, is_ok}
use Rattle.std.specs.Char.{is_ascii_digit}
use Rattle.std.specs.List.{flat_map, list_all, position_or_len}
use Rattle.std.proofs.lemmas.Bool.{and_parts, or_from}
use Rattle.std.proofs.lemmas.Bool.Decides.{nat_tests}
use Rattle.std.proofs.lemmas.Fmt.{digits_decimal}
use Rattle.std.proofs.lemmas.List.Folds.{list_any-append}
use Rattle.zn_base.specs.Text.{is_text, is_text_byte, text_unless}
use Rattle.config_terms.specs.Fields.{kind_name}
use Rattle.config_terms.specs.Numbers.{is_limit}
use Rattle.config_terms.specs.Texts.{action, is_bare_byte, limit_text, options_text, value_text}
use Rattle.config_terms.specs.declared.terms.Kind.{Kind}
use Rattle.config_terms.specs.declared.terms.Kind.TheVariants as kind
use Rattle.config_terms.specs.declared.terms.Limit.{Limit}
use Rattle.export_read.proofs.Again.{IsPlain, command_again, none_of, own}
use Rattle.export_read.proofs.Cuts.{AreLines, IsOneLine, lines_of-ended}
use Rattle.export_read.proofs.Printable.{ArePlain, plain-script}
use Rattle.export_read.proofs.Texts.{text-script, text_of}
use Rattle.export_read.specs.Commands.{line_of, script}
use Rattle.zn_base.specs.Lines.{is_newline, lines_of}
use Rattle.export_read.specs.Lines.{ended}
use Rattle.export_read.specs.Reading.{command_of}
use Rattle.export_read.specs.Saying.{LinesSayTheirCommands}
use Rattle.export_read.specs.declared.command.Command.{Command}
use Rattle.export_read.specs.declared.command.Command.TheVariants.{Create, Set, Open, Options, Value, End}
use Rattle.zone_config.specs.Export.{export_text}
use Rattle.zone_config.specs.Sound.{IsSound}
use Rattle.zone_config.specs.declared.terms.Contents.{Contents}

none_bad : (xs : List ℕ) → nat_lt (position_or_len (λ b. not (is_text_byte b)) xs) (length xs) ≡ false → list_all is_text_byte xs ≡ true
none_bad [] h = refl
none_bad (b ∷ xs) h =
    elim (is_text_byte b) as (λ v. nat_lt (cond (not (not v)) (1 + position_or_len (λ b. not (is_text_byte b)) xs) 0) (suc (length xs)) ≡ false → (v && list_all is_text_byte xs) ≡ true) [
      | true ↦ λ g. none_bad xs (grind (arith, nat_tests))
      | false ↦ λ g. absurd (grind (arith, nat_tests))
    ] h

-- each byte of a text is printable
text_bytes : (xs : List ℕ) → is_text xs ≡ true → list_all is_text_byte xs ≡ true
text_bytes xs h =
    elim (nat_lt (position_or_len (λ b. not (is_text_byte b)) xs) (length xs)) as (λ v. nat_lt (position_or_len (λ b. not (is_text_byte b)) xs) (length xs) ≡ v
    → is_ok (text_unless (cond v (Some (position_or_len (λ b. not (is_text_byte b)) xs)) None) xs) ≡ true → list_all is_text_byte xs ≡ true) [
      | true ↦ λ e g. absurd (cc)
      | false ↦ λ e g. none_bad xs e
    ] refl h

printable_no_newline : (b : ℕ) → is_text_byte b ≡ true → is_newline b ≡ false
printable_no_newline b h = grind (arith, nat_tests)

digit_no_newline : (b : ℕ) → is_ascii_digit b ≡ true → is_newline b ≡ false
digit_no_newline b h = grind (arith, nat_tests)

text_line : (xs : List ℕ) → is_text xs ≡ true → IsOneLine xs
text_line xs h = none_of is_text_byte is_newline xs printable_no_newline (text_bytes xs h)

both : (xs ys : List ℕ) → IsOneLine xs → IsOneLine ys → IsOneLine (xs ++ ys)
both xs ys a b = list_any-append is_newline xs ys ∙ or_from _ _ a b

value_line : (v : List ℕ) → IsOneLine v → IsOneLine (value_text v)
value_line v h = elim (list_all is_bare_byte v) as (λ b. IsOneLine (cond b v (34 ∷ v ++ 34 ∷ []))) [ true ↦ h | false ↦ both v (34 ∷ []) h refl ]

kind_line : (k : Kind) → IsOneLine (kind_name k)
kind_line kind.Fs = refl
kind_line kind.Net = refl
kind_line kind.Device = refl
kind_line kind.Rctl = refl
kind_line kind.Attr = refl
kind_line kind.Dataset = refl

more_line : (os : List (List ℕ)) → list_all is_text os ≡ true → IsOneLine (flat_map (λ x. 44 ∷ x) os)
more_line [] h = refl
more_line (o ∷ os) h =
    let h : (is_text o ≡ true) × (list_all is_text os ≡ true) = and_parts _ _ h in
    both o (flat_map (λ x. 44 ∷ x) os) (text_line o h.0) (more_line os h.1)

options_one_line : (o : List ℕ) (os : List (List ℕ)) → list_all is_text (o ∷ os) ≡ true → IsOneLine (options_text (o ∷ os))
unfolding options_text
options_one_line o os h =
    let h : (is_text o ≡ true) × (list_all is_text os ≡ true) = and_parts _ _ h in
    both o (flat_map (λ x. 44 ∷ x) os ++ codes "]") (text_line o h.0) (both (flat_map (λ x. 44 ∷ x) os) (codes "]") (more_line os h.1) refl)

action_line : (d : Bool) → IsOneLine (codes ",action=" ++ (action d ++ codes ")"))
action_line true = refl
action_line false = refl

limit_line_whole : (v : Limit) → is_limit v.limit ≡ true → IsOneLine (limit_text v)
unfolding limit_text
limit_line_whole v h =
    let to : v.limit < 2 ^ 64 = grind (arith, nat_tests) in
    both (decimal v.limit) (codes ",action=" ++ (action v.deny ++ codes ")")) (none_of is_ascii_digit is_newline (decimal v.limit) digit_no_newline (digits_decimal own v.limit to)) (action_line v.deny)

-- a command's line is one
plain_line : (x : Command) → IsPlain x → IsOneLine (line_of x)
plain_line Create h = refl
plain_line (Set name value) h = both name (codes "=" ++ value_text value) (text_line name h.1) (value_line value (text_line value h.2))
plain_line (Open k) h = kind_line k
plain_line (Options []) h = absurd h
plain_line (Options (o ∷ os)) h = options_one_line o os h.0
plain_line (Value v) h = limit_line_whole v h
plain_line End h = refl

pub plain_lines : (xs : List Command) → ArePlain xs → AreLines (map line_of xs)
plain_lines [] h = tt
plain_lines (x ∷ xs) h = (plain_line x h.0, plain_lines xs h.1)

pub ended-map : (xs : List Command) → ended (map line_of xs) ≡ text_of xs
ended-map [] = refl
ended-map (x ∷ xs) = ap (λ l. (line_of x ++ 10 ∷ []) ++ l) (ended-map xs)

-- the lines of a sound configuration's text
pub lines-script : (c : Contents) → IsSound c → lines_of (export_text c) ≡ map line_of (script c)
lines-script c sound =
    ap lines_of (sym (text-script c) ∙ sym (ended-map (script c)) ∙ sym (append-nil (ended (map line_of (script c)))))
    ∙ lines_of-ended (map line_of (script c)) [] (plain_lines (script c) (plain-script c sound)) ∙ append-nil (map line_of (script c))

say_commands : (xs : List Command) → ArePlain xs → map command_of (map line_of xs) ≡ map (λ x. Some x) xs
say_commands [] h = refl
say_commands (x ∷ xs) h = ap (λ o. o ∷ map command_of (map line_of xs)) (command_again x h.0) ∙ ap (λ l. Some x ∷ l) (say_commands xs h.1)

-- and what they say
pub says_script : LinesSayTheirCommands
says_script c sound = record { lines = lines-script c sound; commands = ap (map command_of) (lines-script c sound) ∙ say_commands (script c) (plain-script c sound) }
