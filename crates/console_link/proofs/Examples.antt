-- What the definitions say of some consoles.
use Rattle.std.proofs.Common.{◌≡◌, [], ◌∷◌, ◌++◌, List, Ok, Err, Some, codes, false, map, refl, true}
use Rattle.circular_buffer.specs.Buffer.{keep_last}
use Rattle.console_link.specs.Consoles.{Console, attach_answer, detached, emptied, is_in_use, line_of, new_console, typed}
use Rattle.console_link.specs.Histories.{Attach, Detach, Empty, Event, Write, after}
use Rattle.console_link.specs.declared.faults.ConsoleFault.TheVariants.{Taken}

-- session 2 has a console to which something was written
abbrev busy : Console
busy = record { output = codes "login:"; holder = Some 2 }

last_three : map (keep_last 3) (codes "abcde" ∷ codes "abc" ∷ codes "ab" ∷ []) ≡ codes "cde" ∷ codes "abc" ∷ codes "ab" ∷ []
last_three = refl

-- an empty line writes nothing, and another one comes with a newline
types : map (λ line. (typed line busy).output) (codes "" ∷ codes "root" ∷ []) ≡ codes "login:" ∷ (codes "login:root" ++ 10 ∷ []) ∷ []
types = refl

attaches : map attach_answer (busy ∷ detached busy ∷ new_console ∷ []) ≡ Err Taken ∷ Ok tt ∷ Ok tt ∷ []
attaches = refl

in_use : map is_in_use (busy ∷ detached busy ∷ emptied busy ∷ new_console ∷ []) ≡ true ∷ true ∷ true ∷ false ∷ []
in_use = refl

-- session 3 comes while session 2 is attached, and again after it has left
abbrev shift : List Event
shift = Attach 2 ∷ Write (line_of (codes "up")) ∷ Empty ∷ Attach 3 ∷ Write (codes "a") ∷ Detach ∷ Attach 3 ∷ Write (codes "b") ∷ []

after_shift : after shift new_console ≡ record { output = codes "ab"; holder = Some 3 }
after_shift = refl
