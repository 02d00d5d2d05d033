use Rattle.std.proofs.Common.{◌≡◌, ◌+◌, ◌≤◌, IfSome}
use Rattle.zn_io.specs.Streams.{before_known}
use Rattle.zones_run.proofs.ExportRuns.{Obeys}
use Rattle.std.specs.Option.{option_map}
use Rattle.input_lines.specs.Reading.{lines_left}
use Rattle.zones_run.specs.Exporting.{edited, exported}
use Rattle.zones_run.proofs.export.edit_lines.Given as goal

-- what the lines to come amount to, over what is open, is what the whole input amounts to
abbrev pub invariant-loop-before : goal.invariant-loop-before
invariant-loop-before g l =
    let left = g.S.Source.left in
    record {
      same : option_map (edited (l.before + 1) l.editor.opened) (lines_left l.ahead (left l.source)) ≡ option_map exported (left l.fn.source);
      obeyed : IfSome (left l.fn.source) (Obeys l.before l.editor.opened (before_known l.ahead (left l.source)));
      later : g.S.Source.faults l.fn.source ≤ g.S.Source.faults l.source;
    }
