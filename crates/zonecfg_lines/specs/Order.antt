-- Which subcommands may stand only at the end of a line.
use Rattle.std.specs.Prelude.{ℕ, List, [], ◌∷◌, Bool, true, false, ◌&&◌, ◌||◌, Result, Ok, codes}
use Rattle.std.specs.Str.{bytes_eq}
use Rattle.zonecfg_lex.specs.declared.fault.LexFault.{LexFault}
use Rattle.zonecfg_lex.specs.declared.token.Token.{Token}
use Rattle.zonecfg_lex.specs.Tokens.{part_tokens_of}
use Rattle.zonecfg_scopes.specs.Words.{said}

-- the words that may begin only the last subcommand of a line
abbrev pub is_ending : List ℕ → Bool
is_ending word = bytes_eq word (codes "commit") || bytes_eq word (codes "delete") || bytes_eq word (codes "exit")

abbrev pub begins_ending : List ℕ → Result (List Token) LexFault → Bool
begins_ending text (Ok (t ∷ ts)) = is_ending (said text t)
begins_ending text read = false

-- a subcommand that begins with such a word
unfoldable pub ends_line : List ℕ → Bool
ends_line text = begins_ending text (part_tokens_of text)

abbrev pub is_any_left : List (List ℕ) → Bool
is_any_left [] = false
is_any_left (text ∷ texts) = true

-- such a one stands with another after it
abbrev pub has_misplaced : List (List ℕ) → Bool
has_misplaced [] = false
has_misplaced (text ∷ texts) = (ends_line text && is_any_left texts) || has_misplaced texts
