-- The console of one zone, by zcons(4D): what was written to it, as far as it is kept, and the session that has it.
use Rattle.std.specs.Prelude.{ℕ, List, [], ◌∷◌, ◌++◌, Option, Some, None, Bool, not, ◌||◌, ◌==◌, is_some, length, Result, Ok, Err, if◌then◌else◌}
use Rattle.circular_buffer.specs.Buffer.{keep_last}
use Rattle.console_link.specs.declared.faults.ConsoleFault.{ConsoleFault}
use Rattle.console_link.specs.declared.faults.ConsoleFault.TheVariants.{Taken}
use Rattle.console_link.specs.declared.limits.TheConstants.{OUTPUT_MAX}

pub record Console : Type 0 where
  -- what is kept and was not taken, in the order in which it was written
  pub output : List ℕ
  -- the session that is attached
  pub holder : Option ℕ

abbrev pub new_console : Console
new_console = record { output = []; holder = None }

-- of old and new bytes the last ones are kept
abbrev pub written : List ℕ → Console → Console
written bytes c = record c { output = keep_last OUTPUT_MAX (c.output ++ bytes) }

-- a text and a newline
abbrev pub line_of : List ℕ → List ℕ
line_of text = text ++ 10 ∷ []

-- a line that the attached session types, by zlogin(1): an empty one writes nothing
abbrev pub typed : List ℕ → Console → Console
typed line c = if length line == 0 then c else written (line_of line) c

abbrev pub emptied : Console → Console
emptied c = record c { output = [] }

-- one session is attached at most
abbrev pub attach_answer : Console → Result (Unit {0}) ConsoleFault
attach_answer c = if is_some c.holder then Err Taken else Ok tt

abbrev pub attached : ℕ → Console → Console
attached session c = record c { holder = Some session }

abbrev pub detached : Console → Console
detached c = record c { holder = None }

abbrev pub is_in_use : Console → Bool
is_in_use c = not (length c.output == 0) || is_some c.holder
