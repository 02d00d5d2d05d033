-- What reading one line says.
use Rattle.std.specs.Prelude.{◌≡◌, ◌<◌, ◌≤◌, ◌+◌, ◌++◌, ◌⊎◌, ℕ, List, [], ◌∷◌, length, true, false, Option, IfSome}
use Rattle.std.specs.List.{after_first, before_first}
use Rattle.std.specs.Io.KnownBytes.{IsAtEnd}
use Rattle.std.specs.Option.{option_map}
use Rattle.zn_io.specs.Streams.{before_known}
use Rattle.zn_base.specs.Lines.{is_newline, lines_of}
use Rattle.input_lines.specs.Lines.{has_newline}
use Rattle.input_lines.specs.declared.lines.Got.{Got}
use Rattle.input_lines.specs.declared.lines.Got.TheVariants.{Line, End, TooLong}
use Rattle.input_lines.specs.declared.lines.Part.{Part}
use Rattle.input_lines.specs.declared.lines.Part.TheVariants.{Ends, GoesOn, Overlong}

-- the lines to come, of what was read ahead and what the source has left
abbrev pub lines_left : List ℕ → Option (List ℕ) → Option (List (List ℕ))
lines_left ahead left = option_map lines_of (before_known ahead left)

-- the first of some lines has more than 4,096 bytes
abbrev pub FirstIsLong : List (List ℕ) → Type 0
FirstIsLong [] = ⊥
FirstIsLong (line ∷ lines) = 4096 < length line

-- one call gave the next line, or found that there is none, or that it is too long
abbrev pub GivesLine : Got → List ℕ → Option (List (List ℕ)) → Option (List (List ℕ)) → Type 0
GivesLine Line line old new = (old ≡ option_map (λ lines. line ∷ lines) new) × (length line ≤ 4096)
GivesLine End line old new = IfSome old (λ lines. lines ≡ [])
GivesLine TooLong line old new = IfSome old FirstIsLong

-- a line was taken off some bytes, with its newline, or as the last one without
pub record TakesLine (line : List ℕ) (old new : Option (List ℕ)) : Type 0 where
  pub clean : has_newline line ≡ false
  pub ended : (old ≡ before_known (line ++ 10 ∷ []) new) ⊎ ((old ≡ before_known line new) × (0 < length line) × IsAtEnd new)

abbrev pub TakesBytes : Got → List ℕ → Option (List ℕ) → Option (List ℕ) → Type 0
TakesBytes Line line old new = TakesLine line old new
TakesBytes End line old new = Unit {0}
TakesBytes TooLong line old new = Unit {0}

-- what stands before a newline was moved onto a line
pub record MovesPart (line new_line ahead new_ahead : List ℕ) : Type 0 where
  pub joined : new_line ≡ line ++ before_first is_newline ahead
  pub rest : new_ahead ≡ after_first is_newline ahead
  pub short : length new_line ≤ 4096

-- it was moved, and ends the line or does not, or it would make the line too long
abbrev pub TakesPart : Part → List ℕ → List ℕ → List ℕ → List ℕ → Type 0
TakesPart Ends line new_line ahead new_ahead = MovesPart line new_line ahead new_ahead × (has_newline ahead ≡ true)
TakesPart GoesOn line new_line ahead new_ahead = MovesPart line new_line ahead new_ahead × (has_newline ahead ≡ false)
TakesPart Overlong line new_line ahead new_ahead = 4096 < length line + length (before_first is_newline ahead)
