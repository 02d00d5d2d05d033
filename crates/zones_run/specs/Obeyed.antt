-- Lines of `export` that are obeyed, and what was taken of its source.
use Rattle.std.specs.Prelude.{◌≡◌, ◌≤◌, ℕ, List, [], ◌∷◌, length, All, Option, Result, Ok}
use Rattle.zn_base.specs.Lines.{lines_of}
use Rattle.zonecfg_scopes.specs.Open.{Open, Nothing}
use Rattle.zonecfg_scopes.specs.Turns.{goes_on}
use Rattle.zones_run.specs.declared.refusal.Refusal.{Refusal}
use Rattle.zones_run.specs.Subcommands.{edit_of}
use Rattle.input_lines.specs.Taking.{TakesLines, TakesNoMore}

-- what lines make of what is open, one after another, up to the first that is refused
abbrev pub lines_in_turn : List (List ℕ) → Open → Result Open Refusal
lines_in_turn [] o = Ok o
lines_in_turn (line ∷ lines) o = goes_on (edit_of line o) (lines_in_turn lines)

-- lines that don't end `export`: none is past a limit, and each is obeyed
pub record AreObeyed (lines : List (List ℕ)) : Type 0 where
  pub few : length lines ≤ 200000
  pub short : All (λ line. length line ≤ 4096) lines
  pub opened : Open
  pub obeyed : lines_in_turn lines Nothing ≡ Ok opened

-- `export` has taken lines that don't end it, the beginning of one more, and at most one piece
abbrev pub ObeysLines : (input left : Option (List ℕ)) → Type 0
ObeysLines input left = TakesLines (λ bytes. AreObeyed (lines_of bytes)) input left

-- the same where the source failed
abbrev pub ObeysRead : (input left : Option (List ℕ)) → Type 0
ObeysRead input left = (takes : ObeysLines input left) × TakesNoMore takes
