use Rattle.zone_threads.proofs.live.started.Given as goal

-- the turn that was made
abbrev pub ghosts-placed : goal.ghosts-placed
ghosts-placed g a = record { turn = a.turn }
