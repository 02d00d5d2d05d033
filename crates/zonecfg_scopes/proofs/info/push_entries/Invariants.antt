use Rattle.std.proofs.Common.{◌≡◌, ◌++◌, take}
use Rattle.std.specs.List.{flat_map}
use Rattle.zonecfg_scopes.specs.Info.{entry_lines}
use Rattle.zonecfg_scopes.proofs.info.push_entries.Given as goal

abbrev pub invariant-loop-entry : goal.invariant-loop-entry
invariant-loop-entry g l = l.out ≡ l.fn.out ++ flat_map (λ e. entry_lines l.kind (g.T.Entry.shown e) (g.T.Entry.options e) (g.T.Entry.values e)) (take l.entry-index l.entries)
