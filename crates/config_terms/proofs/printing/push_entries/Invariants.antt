use Rattle.std.proofs.Common.{◌≡◌, ◌++◌, take}
use Rattle.std.specs.List.{flat_map}
use Rattle.config_terms.specs.Texts.{entry_text}
use Rattle.config_terms.proofs.printing.push_entries.Given as goal

abbrev pub invariant-loop-entry : goal.invariant-loop-entry
invariant-loop-entry g l =
    l.out.items ≡ l.fn.out.items ++ flat_map (λ e. entry_text l.kind (g.T.Entry.shown e) (g.T.Entry.options e) (g.T.Entry.values e)) (take l.entry-index l.entries)
