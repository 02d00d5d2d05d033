use Rattle.std.proofs.Common.{◌≡◌, length}
use Rattle.zone_threads.proofs.live.run_scripts.Given as goal

-- as many zones as cells, and what they share as it came
abbrev pub ghosts-started : goal.ghosts-started
ghosts-started g a = record { zones = length a.cells.items; shared = λ m. m ≡ a.shared }
