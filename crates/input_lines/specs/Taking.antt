-- What a command has taken of its source when it ends.
use Rattle.std.specs.Prelude.{◌≡◌, ◌≤◌, ◌⊎◌, ◌++◌, ℕ, List, [], length, false, Option, Some}
use Rattle.zn_io.specs.Streams.{before_known}
use Rattle.input_lines.specs.Lines.{AreWhole, has_newline}

-- of some bytes the beginning of a line was taken, and then at most one piece, which is what one call of `read` may give
pub record TakesPiece (old new : Option (List ℕ)) : Type 0 where
  pub begun : List ℕ
  pub clean : has_newline begun ≡ false
  pub short : length begun ≤ 4096
  pub piece : List ℕ
  pub small : length piece ≤ 4096
  pub taken : old ≡ before_known (begun ++ piece) new

-- no more than the beginning of a line was taken
abbrev pub BeginsLine : Option (List ℕ) → Option (List ℕ) → Type 0
BeginsLine old new = (takes : TakesPiece old new) × (takes.piece ≡ [])

-- of an input lines were taken that don't end the run, the beginning of one more, and at most one piece. So what is taken
-- beyond the line that ends the run, or beyond its 4,097th byte, is less than a piece. Only a last line, with nothing
-- after it, may lack its newline
pub record TakesLines (GoesOn : List ℕ → Type 0) (input left : Option (List ℕ)) : Type 0 where
  pub lines : List ℕ
  pub to_come : List ℕ
  pub whole : AreWhole lines ⊎ (to_come ≡ [])
  pub going : GoesOn lines
  pub all : input ≡ Some (lines ++ to_come)
  pub taken : TakesPiece (Some to_come) left

-- the same where the source failed: nothing was taken after the beginning of a line
abbrev pub TakesNoMore : {GoesOn : List ℕ → Type 0} {input left : Option (List ℕ)} → TakesLines GoesOn input left → Type 0
TakesNoMore takes = takes.taken.piece ≡ []
