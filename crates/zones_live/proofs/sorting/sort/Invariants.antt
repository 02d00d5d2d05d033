use Rattle.zones_live.specs.Sorting.{Sorts}
use Rattle.zones_live.proofs.sorting.sort.Given as goal

-- the events so far are sorted
abbrev pub invariant-loop-event : goal.invariant-loop-event
invariant-loop-event l = Sorts l.yielded l.sorted
