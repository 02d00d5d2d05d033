-- What the definitions say of some lines.
use Rattle.std.proofs.Common.{◌≡◌, [], ◌∷◌, Ok, Err, codes, refl}
use Rattle.zonecfg_lex.specs.declared.fault.LexFault.TheVariants.{OpenQuote, StrayByte, OpenBracket, NoValue}
use Rattle.zonecfg_lex.specs.declared.token.TokenKind.TheVariants.{Word, Quoted, Equals, Comma, Open, Close, ListOpen, ListClose, Semi}
use Rattle.zn_base.specs.declared.values.Value.TheVariants.{Simple, Complex, List as Items}
use Rattle.zonecfg_lex.specs.Tokens.{part_tokens_of, role_of, token, tokens_of}
use Rattle.zonecfg_lex.specs.Parts.{parts_of, span}
use Rattle.zonecfg_lex.specs.Value.{value_of}

words : tokens_of (codes "set a=b") ≡ Ok (token Word 0 3 ∷ token Word 4 5 ∷ token Equals 5 6 ∷ token Word 6 7 ∷ [])
unfolding tokens_of part_tokens_of role_of
words = refl

quote_ends_word : tokens_of (codes "a\"b c\"d") ≡ Ok (token Word 0 1 ∷ token Quoted 1 5 ∷ token Word 6 7 ∷ [])
unfolding tokens_of part_tokens_of role_of
quote_ends_word = refl

bracket_in_word : tokens_of (codes "a[b] [c,d]") ≡ Ok (token Word 0 4 ∷ token ListOpen 5 6 ∷ token Word 6 7 ∷ token Comma 7 8 ∷ token Word 8 9 ∷ token ListClose 9 10 ∷ [])
unfolding tokens_of part_tokens_of role_of
bracket_in_word = refl

round_ends_word : tokens_of (codes "a(b=\";\")") ≡ Ok (token Word 0 1 ∷ token Open 1 2 ∷ token Word 2 3 ∷ token Equals 3 4 ∷ token Quoted 4 6 ∷ token Close 7 8 ∷ [])
unfolding tokens_of part_tokens_of role_of
round_ends_word = refl

comma_in_word : tokens_of (codes "a,b;#c") ≡ Ok (token Word 0 3 ∷ token Semi 3 4 ∷ token Word 4 6 ∷ [])
unfolding tokens_of part_tokens_of role_of
comma_in_word = refl

comment : tokens_of (codes " # \"(") ≡ Ok []
unfolding tokens_of part_tokens_of role_of
comment = refl

no_comment : part_tokens_of (codes " #a") ≡ Ok (token Word 1 3 ∷ [])
unfolding part_tokens_of role_of
no_comment = refl

open_quote : tokens_of (codes "a \"b)") ≡ Err (OpenQuote 2)
unfolding tokens_of part_tokens_of role_of
open_quote = refl

tab_in_quote : tokens_of (codes "a \"b\tc\"") ≡ Err (StrayByte 4)
unfolding tokens_of part_tokens_of role_of
tab_in_quote = refl

open_quote_before_tab : tokens_of (codes "a \"b\tc") ≡ Err (OpenQuote 2)
unfolding tokens_of part_tokens_of role_of
open_quote_before_tab = refl

closing_alone : tokens_of (codes "a ]") ≡ Err (StrayByte 2)
unfolding tokens_of part_tokens_of role_of
closing_alone = refl

round_closing_in_word : tokens_of (codes "a)\"") ≡ Err (StrayByte 1)
unfolding tokens_of part_tokens_of role_of
round_closing_in_word = refl

nested : tokens_of (codes "(a=[b)") ≡ Err (StrayByte 3)
unfolding tokens_of part_tokens_of role_of
nested = refl

open_bracket_first : tokens_of (codes " (a;b") ≡ Err (OpenBracket 1)
unfolding tokens_of part_tokens_of role_of
open_bracket_first = refl

open_bracket_before_quote : tokens_of (codes "[a\"]") ≡ Err (OpenBracket 0)
unfolding tokens_of part_tokens_of role_of
open_bracket_before_quote = refl

semicolon_in_bracket : tokens_of (codes "[a;b] (") ≡ Err (StrayByte 2)
unfolding tokens_of part_tokens_of role_of
semicolon_in_bracket = refl

parted : parts_of (codes "a ;; b\";\" ; ") ≡ Ok (span 0 2 ∷ span 4 10 ∷ [])
unfolding parts_of tokens_of part_tokens_of role_of
parted = refl

pairs : value_of (codes "(a=b,c=\"d e\")") (token Open 0 1 ∷ token Word 1 2 ∷ token Equals 2 3 ∷ token Word 3 4 ∷ token Comma 4 5 ∷ token Word 5 6 ∷ token Equals 6 7 ∷ token Quoted 7 11 ∷ token Close 12 13 ∷ [])
    ≡ Ok (Complex (record { name = codes "a"; value = codes "b" } ∷ record { name = codes "c"; value = codes "d e" } ∷ []))
unfolding value_of
pairs = refl

no_pair : value_of (codes "()") (token Open 0 1 ∷ token Close 1 2 ∷ []) ≡ Err (NoValue 1)
unfolding value_of
no_pair = refl

no_item : value_of (codes "[]") (token ListOpen 0 1 ∷ token ListClose 1 2 ∷ []) ≡ Ok (Items [])
unfolding value_of
no_item = refl

cut_short : value_of (codes "[a, ") (token ListOpen 0 1 ∷ token Word 1 2 ∷ token Comma 2 3 ∷ []) ≡ Err (NoValue 4)
unfolding value_of
cut_short = refl

empty_text : value_of (codes " \"\"") (token Quoted 1 2 ∷ []) ≡ Ok (Simple [])
unfolding value_of
empty_text = refl
