use Rattle.std.proofs.Common.{◌≡◌, ◌++◌, take}
use Rattle.zone_machine.specs.Code.Shown_zones.{shown_entries}
use Rattle.zone_machine.proofs.machine.global_steps.push_zones.Given as goal

abbrev pub invariant-loop-at : goal.invariant-loop-at
invariant-loop-at l = l.lines ≡ l.fn.lines ++ shown_entries l.options l.shown (take l.at l.shared.rows.entries)
