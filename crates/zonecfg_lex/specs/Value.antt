-- The value that tokens are: a text, pairs in round brackets, or a list in square ones.
use Rattle.std.specs.Prelude.{ℕ, List, [], ◌∷◌, ◌+◌, ◌<◌, ◌≤◌, Bool, IsTrue, true, false, length, filter, map, Option, Some, None, Result, Ok, Err, if◌then◌else◌, slice_range}
use Rattle.zn_base.specs.Text.{is_text}
use Rattle.zonecfg_lex.specs.declared.fault.LexFault.{LexFault}
use Rattle.zonecfg_lex.specs.declared.fault.LexFault.TheVariants.{NoValue}
use Rattle.zonecfg_lex.specs.declared.grammar.Stage.{Stage}
use Rattle.zonecfg_lex.specs.declared.grammar.Stage.TheVariants.{Start, Name, Sign, Given, Parted, First, Item, Listed, Done}
use Rattle.zonecfg_lex.specs.declared.token.Token.{Token}
use Rattle.zonecfg_lex.specs.declared.token.TokenKind.{TokenKind}
use Rattle.zonecfg_lex.specs.declared.token.TokenKind.TheVariants.{Word, Quoted, Equals, Comma, Open, Close, ListOpen, ListClose}
use Rattle.zn_base.specs.declared.values.Pair.{Pair}
use Rattle.zn_base.specs.declared.values.Value.{Value}
use Rattle.zn_base.specs.declared.values.Value.TheVariants.{Simple, Complex, List as Items}

-- what may follow a token in a value, and how it goes on then
abbrev pub stage_behind : Stage → TokenKind → Option Stage
stage_behind Start Word = Some Done
stage_behind Start Quoted = Some Done
stage_behind Start Open = Some Name
stage_behind Start ListOpen = Some First
stage_behind Name Word = Some Sign
stage_behind Sign Equals = Some Given
stage_behind Given Word = Some Parted
stage_behind Given Quoted = Some Parted
stage_behind Parted Comma = Some Name
stage_behind Parted Close = Some Done
stage_behind First Word = Some Listed
stage_behind First Quoted = Some Listed
stage_behind First ListClose = Some Done
stage_behind Item Word = Some Listed
stage_behind Item Quoted = Some Listed
stage_behind Listed Comma = Some Item
stage_behind Listed ListClose = Some Done
stage_behind stage kind = None

-- a value that is not complete at the end of its line
abbrev pub misfit_at_end : ℕ → Stage → Option ℕ
misfit_at_end end Done = None
misfit_at_end end stage = Some end

-- the place of the first token that can't go on, or the end of the line where tokens are missing
abbrev pub first_misfit : ℕ → Stage → List Token → Option ℕ
first_misfit end stage [] = misfit_at_end end stage
first_misfit end stage (t ∷ ts) = elim (stage_behind stage t.kind) [ None ↦ Some t.start | Some next ↦ first_misfit end next ts ]

abbrev pub is_quoted : TokenKind → Bool
is_quoted Quoted = true
is_quoted kind = false

-- a token that gives a text
abbrev pub gives_text : Token → Bool
gives_text t = elim t.kind [ Word ↦ true | Quoted ↦ true | _ ↦ false ]

-- where the text of a token begins: after its quote, if it has one
abbrev pub text_start : Token → ℕ
text_start t = if is_quoted t.kind then t.start + 1 else t.start

-- the text that a token gives
abbrev pub given_text : List ℕ → Token → List ℕ
given_text line t = slice_range line (text_start t) t.end

-- the texts that some tokens give
abbrev pub given_texts : List ℕ → List Token → List (List ℕ)
given_texts line ts = map (given_text line) (filter gives_text ts)

-- texts in pairs
abbrev pub paired : List (List ℕ) → List Pair
paired (name ∷ value ∷ texts) = record { name = name; value = value } ∷ paired texts
paired texts = []

-- the value that fitting tokens are, by the first of them
abbrev pub made_value : List ℕ → List Token → Value
made_value line [] = Items []
made_value line (t ∷ ts) = elim t.kind [ Open ↦ Complex (paired (given_texts line ts)) | ListOpen ↦ Items (given_texts line ts) | _ ↦ Simple (given_text line t) ]

abbrev pub value_unless : Option ℕ → Value → Result Value LexFault
value_unless (Some place) value = Err (NoValue place)
value_unless None value = Ok value

-- the value that tokens of a line are, or where they stop being one
unfoldable pub value_of : List ℕ → List Token → Result Value LexFault
value_of line ts = value_unless (first_misfit (length line) Start ts) (made_value line ts)

-- a token of a line that has a byte and gives a text
pub record IsReadable (line : List ℕ) (t : Token) : Type 0 where
  pub filled : t.start < t.end
  pub inside : t.end ≤ length line
  pub printable : IsTrue (is_text (given_text line t))
