use Rattle.std.proofs.Common.{◌≡◌, ◌++◌, take}
use Rattle.zone_machine.specs.Code.Listed.{told_entries}
use Rattle.zone_machine.proofs.machine.parts.Parts.push_zones.Given as goal

abbrev pub invariant-loop-at : goal.invariant-loop-at
invariant-loop-at l = l.lines ≡ l.fn.lines ++ told_entries l.options l.self (take l.at l.self.shared.rows.entries)
