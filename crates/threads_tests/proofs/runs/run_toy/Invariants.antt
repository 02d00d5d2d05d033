use Rattle.threads_tests.specs.Runs.{lines_of}
use Rattle.threads_tests.proofs.runs.run_toy.Given as goal

-- each session has the lines of its script
abbrev pub ghosts-run : goal.ghosts-run
ghosts-run g a = record { lines = lines_of a.scripts.now }
