use Rattle.zone_threads.specs.Notes.{notes_of}
use Rattle.zone_threads.proofs.zone.Zone.event.Given as goal

-- what the zone did since the last give, and whether it is marked
abbrev pub ghosts-give_notes : goal.ghosts-give_notes
ghosts-give_notes g a = record { entries = notes_of a._place a._done.now a._marked }
