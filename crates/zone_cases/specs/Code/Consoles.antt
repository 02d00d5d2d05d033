-- What becomes of a zone's console, by the code's edits, as the definitions have it.
use Rattle.std.specs.Prelude.{◌≡◌, ℕ, List, [], ◌∷◌, Bool, true, false, Option, is_some, unwrap_or}
use Rattle.console_link.specs.Consoles.{Console, new_console}
use Rattle.zone_cases.specs.State.Edits as edits
use Rattle.zone_cases.specs.State.Edits.{Edit, Of_console, edit_console}
use Rattle.zone_cases.specs.declared.cases.ConsoleEdit.{ConsoleEdit}
use Rattle.zone_cases.specs.declared.cases.ConsoleEdit.TheVariants.{Hold, Leave, Line, Nothing, Take}

-- a zone that has none yet has one as new
abbrev pub console_in : Option Console → Console
console_in o = unwrap_or o new_console

abbrev pub console_edits : ConsoleEdit → List Edit
console_edits Nothing = []
console_edits Hold = Of_console edits.Hold ∷ []
console_edits Take = Of_console edits.Take ∷ []
console_edits Leave = Of_console edits.Leave ∷ []
console_edits (Line line) = Of_console (edits.Line line) ∷ []

-- what that makes of a console
abbrev pub console_after : Option ℕ → ConsoleEdit → Console → Console
console_after n Nothing c = c
console_after n Hold c = edit_console n edits.Hold c
console_after n Take c = edit_console n edits.Take c
console_after n Leave c = edit_console n edits.Leave c
console_after n (Line line) c = edit_console n (edits.Line line) c

-- one that a session begins at, or that is written to, takes memory
abbrev pub wants_console : ConsoleEdit → Bool
wants_console Hold = true
wants_console (Line line) = true
wants_console edit = false

abbrev pub HasConsole : ConsoleEdit → Option Console → Type 0
HasConsole edit o = wants_console edit ≡ true → is_some o ≡ true
