-- The scripts of a run.
use Rattle.std.specs.Prelude.{◌≡◌, ℕ, ◌+◌, ◌==◌, List, [], ◌∷◌, if◌then◌else◌}
use Rattle.zone_threads.specs.declared.run.Script.{Script}
use Rattle.threads_tests.specs.declared.toy.Line.{Line}

-- the lines of the script of a session, where there is one
abbrev pub lines_of : List (Script Line) → ℕ → List Line
lines_of [] s = []
lines_of (x ∷ xs) s = if x.session == s then x.lines.items else lines_of xs s

-- the sessions of the scripts are this number, the next one, and so on
abbrev pub Numbered : ℕ → List (Script Line) → Type 0
Numbered n [] = Unit {0}
Numbered n (x ∷ xs) = (x.session ≡ n) × Numbered (n + 1) xs
