-- The tokens of a line, or its first fault from the left.
use Rattle.std.specs.Prelude.{ℕ, List, [], ◌∷◌, ◌+◌, Bool, true, false, nat_le, nat_lt, ◌&&◌, ◌||◌, ◌==◌, ◌≤◌, ◌<◌, Option, Some, None, Result, Ok, Err, if◌then◌else◌, slice_range}
use Rattle.zn_base.specs.Text.{is_text_byte}
use Rattle.zonecfg_lex.specs.declared.fault.LexFault.{LexFault}
use Rattle.zonecfg_lex.specs.declared.fault.LexFault.TheVariants.{Memory, OpenQuote, StrayByte, OpenBracket, NoValue}
use Rattle.zonecfg_lex.specs.declared.scope.Role.{Role}
use Rattle.zonecfg_lex.specs.declared.scope.Role.TheVariants.{Blank, Letter, Sign, Quote, Stray}
use Rattle.zonecfg_lex.specs.declared.scope.Scope.{Scope}
use Rattle.zonecfg_lex.specs.declared.scope.Scope.TheVariants.{Between, InWord, Round, Square}
use Rattle.zonecfg_lex.specs.declared.token.TokenKind.{TokenKind}
use Rattle.zonecfg_lex.specs.declared.token.TokenKind.TheVariants.{Word, Quoted, Equals, Comma, Open, Close, ListOpen, ListClose, Semi}
use Rattle.zonecfg_lex.specs.declared.token.Token.{Token}

-- a space or a tab
abbrev pub is_blank : ℕ → Bool
is_blank b = b == 32 || b == 9

-- the bytes that begin a quote or a bracket, end one, or part subcommands
abbrev pub is_mark : ℕ → Bool
is_mark b = b == 34 || b == 59 || b == 40 || b == 41 || b == 91 || b == 93

-- the first byte other than a blank is `#`
abbrev pub is_comment : List ℕ → Bool
is_comment [] = false
is_comment (b ∷ bytes) = if is_blank b then is_comment bytes else b == 35

-- inside a word outside brackets `;` and `(` end it, and `)` is stray
abbrev pub role_in_word : ℕ → Role
role_in_word b =
    if b == 59 then Sign Semi else (if b == 40 then Sign Open else (if b == 41 then Stray else Letter))

-- between words outside brackets `[` begins a list, and `]` is stray
abbrev pub role_between : ℕ → Role
role_between b = if b == 91 then Sign ListOpen else (if b == 93 then Stray else role_in_word b)

-- inside a bracket commas part, one byte closes, and the other marks are stray
abbrev pub role_in_bracket : ℕ → TokenKind → ℕ → Role
role_in_bracket closing kind b =
    if b == 44 then Sign Comma else (if b == closing then Sign kind else (if is_mark b then Stray else Letter))

-- what a printable byte other than a space, a quote and `=` is
abbrev pub printable_role : Scope → ℕ → Role
printable_role Between b = role_between b
printable_role InWord b = role_in_word b
printable_role (Round place) b = role_in_bracket 41 Close b
printable_role (Square place) b = role_in_bracket 93 ListClose b

-- what a byte outside quotes is
unfoldable pub role_of : Scope → ℕ → Role
role_of scope b =
    if is_blank b then Blank
    else (if b == 34 then Quote
    else (if b == 61 then Sign Equals
    else (if nat_le 33 b && nat_le b 126 then printable_role scope b else Stray)))

-- where what follows a word byte stands
abbrev pub in_word : Scope → Scope
in_word Between = InWord
in_word scope = scope

-- where what follows any other byte stands, but for brackets
abbrev pub out_of_word : Scope → Scope
out_of_word InWord = Between
out_of_word scope = scope

-- where what follows a sign at a place stands: brackets open and close
abbrev pub behind_sign : Scope → TokenKind → ℕ → Scope
behind_sign scope Open place = Round place
behind_sign scope ListOpen place = Square place
behind_sign scope Close place = Between
behind_sign scope ListClose place = Between
behind_sign scope kind place = out_of_word scope

-- where what follows a byte of this role at a place stands
abbrev pub behind : Scope → Role → ℕ → Scope
behind scope Letter place = in_word scope
behind scope (Sign kind) place = behind_sign scope kind place
behind scope role place = out_of_word scope

-- the place of the quote that is open after a byte of this role
abbrev pub quote_behind : Role → ℕ → Option ℕ
quote_behind Quote place = Some place
quote_behind role place = None

abbrev pub token : TokenKind → ℕ → ℕ → Token
token kind start end = record { kind = kind; start = start; end = end }

abbrev pub word : ℕ → ℕ → Token
word start end = token Word start end

abbrev pub is_word : TokenKind → Bool
is_word Word = true
is_word kind = false

abbrev pub is_equals : TokenKind → Bool
is_equals Equals = true
is_equals kind = false

-- a word byte at a place joins the word that begins right after it, or is a word of its own
abbrev pub with_word_byte : ℕ → List Token → List Token
with_word_byte place [] = word place (place + 1) ∷ []
with_word_byte place (t ∷ ts) =
    if is_word t.kind && (t.start == place + 1) then word place t.end ∷ ts else word place (place + 1) ∷ t ∷ ts

-- what a function makes of what was read; a fault stays
abbrev pub result_map : {A B : Type 0} → (A → B) → Result A LexFault → Result B LexFault
result_map f (Ok read) = Ok (f read)
result_map f (Err fault) = Err fault

-- where a fault counts
abbrev pub place_of : LexFault → ℕ
place_of Memory = 0
place_of (OpenQuote place) = place
place_of (StrayByte place) = place
place_of (OpenBracket place) = place
place_of (NoValue place) = place

-- the stray byte at a place, if there is one, unless what was read after it has a fault that counts before it
abbrev pub or_stray : Option ℕ → Result (List Token) LexFault → Result (List Token) LexFault
or_stray None read = read
or_stray (Some place) (Ok ts) = Err (StrayByte place)
or_stray (Some place) (Err fault) = if nat_lt (place_of fault) place then Err fault else Err (StrayByte place)

-- a byte of this role at a place, before what was read after it
abbrev pub before_read : Role → ℕ → Result (List Token) LexFault → Result (List Token) LexFault
before_read Blank place read = read
before_read Letter place read = result_map (with_word_byte place) read
before_read (Sign kind) place read = result_map (λ ts. token kind place (place + 1) ∷ ts) read
before_read Quote place read = read
before_read Stray place read = or_stray (Some place) read

-- what is open at the end of a line, a bracket before a quote in it
abbrev pub open_at_end : Option ℕ → Scope → Option LexFault
open_at_end quote (Round place) = Some (OpenBracket place)
open_at_end quote (Square place) = Some (OpenBracket place)
open_at_end (Some place) scope = Some (OpenQuote place)
open_at_end None scope = None

abbrev pub nothing_unless : Option LexFault → Result (List Token) LexFault
nothing_unless (Some fault) = Err fault
nothing_unless None = Ok []

-- the tokens of what stands from a place on, inside the quote that begins at a place or inside none
abbrev pub tokens_from : Option ℕ → Scope → ℕ → List ℕ → Result (List Token) LexFault
tokens_from quote scope place [] = nothing_unless (open_at_end quote scope)
tokens_from (Some start) scope place (b ∷ bytes) =
    if b == 34 then result_map (λ ts. token Quoted start place ∷ ts) (tokens_from None scope (place + 1) bytes)
    else or_stray (if is_text_byte b then None else Some place) (tokens_from (Some start) scope (place + 1) bytes)
tokens_from None scope place (b ∷ bytes) =
    let role = role_of scope b in
    before_read role place (tokens_from (quote_behind role place) (behind scope role place) (place + 1) bytes)

-- the tokens of one part of a line, in which `#` begins a word, or its first fault
unfoldable pub part_tokens_of : List ℕ → Result (List Token) LexFault
part_tokens_of part = tokens_from None Between 0 part

-- the tokens of a line, or its first fault; a comment has none
unfoldable pub tokens_of : List ℕ → Result (List Token) LexFault
tokens_of line = if is_comment line then Ok [] else part_tokens_of line

-- what a token is in its line; a quoted one begins with its quote
abbrev pub text_of : List ℕ → Token → List ℕ
text_of line t = slice_range line t.start t.end

-- a token of a line that has n bytes
pub record IsWithin (n : ℕ) (t : Token) : Type 0 where
  pub ordered : t.start ≤ t.end
  pub inside : t.end ≤ n

-- tokens from a place on, none empty, each ending at or before the next one's start
abbrev pub AreRisingFrom : ℕ → List Token → Type 0
AreRisingFrom place [] = Unit {0}
AreRisingFrom place (t ∷ ts) = (place ≤ t.start) × (t.start < t.end) × AreRisingFrom t.end ts

abbrev pub AreRising : List Token → Type 0
AreRising ts = AreRisingFrom 0 ts
