-- The subcommands of a line: the texts of its parts, and the tokens of each.
use Rattle.std.specs.Prelude.{◌≡◌, ◌≤◌, ℕ, List, [], ◌∷◌, ◌++◌, ◌-◌, suc, Bool, true, false, length, map, take, drop, Result, Ok, if◌then◌else◌}
use Rattle.zonecfg_lex.specs.declared.fault.LexFault.{LexFault}
use Rattle.zonecfg_lex.specs.declared.token.Token.{Token}
use Rattle.zonecfg_lex.specs.Parts.{is_semi, parts_of, span_text}
use Rattle.zonecfg_lex.specs.Tokens.{part_tokens_of, result_map, token}

-- the texts of the parts of a line, or its first fault
unfoldable pub subcommands_of : List ℕ → Result (List (List ℕ)) LexFault
subcommands_of line = result_map (map (span_text line)) (parts_of line)

-- a token, as it counts from a place before it
abbrev pub counted_from : ℕ → Token → Token
counted_from place t = token t.kind (t.start - place) (t.end - place)

-- where the part of the next token begins
abbrev pub part_start : ℕ → Token → ℕ
part_start start t = if is_semi t.kind then t.end else start

-- tokens, each as it counts from the begin of its part, the first of them in a part that begins at a place
abbrev pub counted_in_parts : ℕ → List Token → List Token
counted_in_parts start [] = []
counted_in_parts start (t ∷ ts) = counted_from start t ∷ counted_in_parts (part_start start t) ts

abbrev pub text_if : Bool → List ℕ → List (List ℕ)
text_if held text = if held then text ∷ [] else []

-- the texts of the parts that such tokens make of a text; the first part holds a token before them or not
abbrev pub texts_from : Bool → List ℕ → List Token → List (List ℕ)
texts_from held text [] = text_if held text
texts_from held text (t ∷ ts) =
    if is_semi t.kind then text_if held (take t.start text) ++ texts_from false (drop t.end text) ts else texts_from true text ts

-- tokens are what a part is read as, where there are some
abbrev pub AreRead : List ℕ → List Token → Type 0
AreRead part [] = Unit {0}
AreRead part (t ∷ ts) = part_tokens_of part ≡ Ok (t ∷ ts)

-- a semicolon ends the part of the tokens before it in a text
pub record EndsPart (text : List ℕ) (before : List Token) (t : Token) : Type 0 where
  pub ordered : t.start ≤ t.end
  pub inside : t.end ≤ length text
  pub read : AreRead (take t.start text) before

-- each part that tokens make of a text is read as its tokens; those before them are of the first part
abbrev pub ReadsInParts : List ℕ → List Token → List Token → Type 0
ReadsInParts text before [] = AreRead text before
ReadsInParts text before (t ∷ ts) =
    (is_semi t.kind ≡ true → EndsPart text before t × ReadsInParts (drop t.end text) [] ts)
    × (is_semi t.kind ≡ false → ReadsInParts text (before ++ t ∷ []) ts)

-- the text of a part, where it holds a token
abbrev pub part_text : List ℕ → List Token → List (List ℕ)
part_text text [] = []
part_text text (t ∷ ts) = text ∷ []

-- how many tokens stand before the first semicolon
abbrev pub before_semi : List Token → ℕ
before_semi [] = 0
before_semi (t ∷ ts) = if is_semi t.kind then 0 else suc (before_semi ts)
