use Rattle.std.proofs.Common.{◌≡◌, ◌-◌, ℕ, drop, take, vec_len}
use Rattle.std.specs.List.{All}
use Rattle.zone_threads.specs.Folds.{folded}
use Rattle.zone_threads.specs.Scripts.{TallyOf, noted}
use Rattle.zone_threads.specs.declared.tally.Progress.{Progress}
use Rattle.zone_threads.proofs.tally.note_rest.Given as goal

abbrev pub invariant-loop-i : goal.invariant-loop-i
invariant-loop-i g l = (vec_len l.tally ≡ vec_len l.fn.tally)
    × ((t : ℕ → Progress) → All (λ (e : g.row.M-Entry.Denot). g.M.Zoned.machine.by e ≡ l.place) (drop l.from l.entries.items) → TallyOf l.fn.tally.items t → TallyOf l.tally.items (folded (noted g.M.Zoned.machine) t (take (l.i - l.from) (drop l.from l.entries.items))))
