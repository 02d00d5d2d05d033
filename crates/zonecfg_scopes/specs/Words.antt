-- What the tokens of a subcommand say.
use Rattle.std.specs.Prelude.{ℕ, List, [], ◌∷◌, Bool, true, false, ◌&&◌, Option, Some, None, if◌then◌else◌}
use Rattle.std.specs.Str.{bytes_eq}
use Rattle.zonecfg_lex.specs.declared.token.Token.{Token}
use Rattle.zonecfg_lex.specs.Tokens.{is_equals, is_word, text_of}
use Rattle.zonecfg_lex.specs.Value.{gives_text}

-- the word that a token is, or nothing where it is none
abbrev pub said : List ℕ → Token → List ℕ
said line t = if is_word t.kind then text_of line t else []

-- whether a flag stands first
abbrev pub has_flag : List ℕ → List ℕ → List Token → Bool
has_flag flag line [] = false
has_flag flag line (t ∷ ts) = bytes_eq (said line t) flag

-- what follows a flag, where it stands first
abbrev pub behind_flag : List ℕ → List ℕ → List Token → List Token
behind_flag flag line [] = []
behind_flag flag line (t ∷ ts) = if bytes_eq (said line t) flag then ts else t ∷ ts

-- a word with an equals sign after it
abbrev pub begins_pair : List Token → Bool
begins_pair (name ∷ sign ∷ ts) = is_word name.kind && is_equals sign.kind
begins_pair ts = false

-- where no text stands third: there, or at the end of the line
abbrev pub no_text_third : ℕ → List Token → Option ℕ
no_text_third end (name ∷ sign ∷ value ∷ ts) = if gives_text value then None else Some value.start
no_text_third end ts = Some end

abbrev pub value_missed : ℕ → List Token → Option ℕ
value_missed end ts = if begins_pair ts then no_text_third end ts else None

abbrev pub or_else : Option ℕ → Option ℕ → Option ℕ
or_else (Some place) other = Some place
or_else None other = other

-- the first place where a word and an equals sign have no text after them
abbrev pub first_value_missed : ℕ → List Token → Option ℕ
first_value_missed end [] = None
first_value_missed end (t ∷ ts) = or_else (value_missed end (t ∷ ts)) (first_value_missed end ts)

-- nothing but pairs: a word, an equals sign and a text, again and again
abbrev pub are_pairs : List Token → Bool
are_pairs [] = true
are_pairs (name ∷ sign ∷ value ∷ ts) = is_word name.kind && is_equals sign.kind && gives_text value && are_pairs ts
are_pairs ts = false
