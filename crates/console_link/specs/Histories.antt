-- What is done to a console, one thing after another.
use Rattle.std.specs.Prelude.{ℕ, List, [], ◌∷◌, ◌++◌, Bool, true, false, ◌&&◌, is_some, length, nat_le, if◌then◌else◌}
use Rattle.std.specs.List.{flat_map}
use Rattle.console_link.specs.Consoles.{Console, attached, detached, emptied, written}
use Rattle.console_link.specs.declared.limits.TheConstants.{OUTPUT_MAX}

pub data Event : Type 0 where
  Write : List ℕ → Event
  -- the output is taken, or thrown away
  Empty : Event
  Attach : ℕ → Event
  Detach : Event

-- a session is attached only where none is
abbrev pub after_event : Event → Console → Console
after_event (Write bytes) c = written bytes c
after_event Empty c = emptied c
after_event (Attach session) c = if is_some c.holder then c else attached session c
after_event Detach c = detached c

abbrev pub after : List Event → Console → Console
after [] c = c
after (e ∷ es) c = after es (after_event e c)

abbrev pub written_by : Event → List ℕ
written_by (Write bytes) = bytes
written_by _ = []

abbrev pub bytes_written : List Event → List ℕ
bytes_written es = flat_map written_by es

abbrev pub taken_by : Event → Console → List ℕ
taken_by Empty c = c.output
taken_by _ c = []

abbrev pub bytes_taken : List Event → Console → List ℕ
bytes_taken [] c = []
bytes_taken (e ∷ es) c = taken_by e c ++ bytes_taken es (after_event e c)

-- whether all that was kept and what is written fit, each time
abbrev pub fits : Event → Console → Bool
fits (Write bytes) c = nat_le (length (c.output ++ bytes)) OUTPUT_MAX
fits _ c = true

abbrev pub all_fit : List Event → Console → Bool
all_fit [] c = true
all_fit (e ∷ es) c = fits e c && all_fit es (after_event e c)

abbrev pub leaves_output : Event → Bool
leaves_output Empty = false
leaves_output _ = true

abbrev pub leaves_holder : Event → Bool
leaves_holder Detach = false
leaves_holder _ = true
