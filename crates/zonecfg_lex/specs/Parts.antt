-- The parts of a line: what stands between its semicolons, where that holds a token.
use Rattle.std.specs.Prelude.{ℕ, List, [], ◌∷◌, Bool, true, false, nat_le, ◌&&◌, ◌≤◌, ◌<◌, length, filter, Result, if◌then◌else◌, slice_range}
use Rattle.std.specs.List.{list_any}
use Rattle.zonecfg_lex.specs.declared.fault.LexFault.{LexFault}
use Rattle.zonecfg_lex.specs.declared.token.Span.{Span}
use Rattle.zonecfg_lex.specs.declared.token.Token.{Token}
use Rattle.zonecfg_lex.specs.declared.token.TokenKind.{TokenKind}
use Rattle.zonecfg_lex.specs.declared.token.TokenKind.TheVariants.{Semi}
use Rattle.zonecfg_lex.specs.Tokens.{result_map, tokens_of}

abbrev pub is_semi : TokenKind → Bool
is_semi Semi = true
is_semi kind = false

abbrev pub span : ℕ → ℕ → Span
span start end = record { start = start; end = end }

-- the spans from a place to an end that the semicolons among some tokens part
abbrev pub spans_between : ℕ → ℕ → List Token → List Span
spans_between start end [] = span start end ∷ []
spans_between start end (t ∷ ts) =
    if is_semi t.kind then span start t.start ∷ spans_between t.end end ts else spans_between start end ts

-- whether one of some tokens lies in a span
abbrev pub holds_one : List Token → Span → Bool
holds_one ts s = list_any (λ t. nat_le s.start t.start && nat_le t.end s.end) ts

-- the parts of a line, or its first fault
unfoldable pub parts_of : List ℕ → Result (List Span) LexFault
parts_of line = result_map (λ ts. filter (holds_one ts) (spans_between 0 (length line) ts)) (tokens_of line)

-- what a span is in its line
abbrev pub span_text : List ℕ → Span → List ℕ
span_text line s = slice_range line s.start s.end

-- a span of a line that has n bytes
pub record IsSpanWithin (n : ℕ) (s : Span) : Type 0 where
  pub ordered : s.start ≤ s.end
  pub inside : s.end ≤ n

-- spans from a place on, none empty, each ending at or before the next one's start
abbrev pub SpansRiseFrom : ℕ → List Span → Type 0
SpansRiseFrom place [] = Unit {0}
SpansRiseFrom place (s ∷ ss) = (place ≤ s.start) × (s.start < s.end) × SpansRiseFrom s.end ss

abbrev pub SpansRise : List Span → Type 0
SpansRise ss = SpansRiseFrom 0 ss
