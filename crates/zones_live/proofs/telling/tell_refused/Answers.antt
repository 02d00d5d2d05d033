use Rattle.std.proofs.Common.{[], Option, subst, sym, ℕ}
use Rattle.zones_run.specs.Run.{TellsLine}
use Rattle.zones_run.specs.declared.outcome.Complaint.TheVariants.{FirstRefusedEntry}
use Rattle.zones_run.proofs.Telling.{line_complained}
use Rattle.zones_live.specs.Records.{told_refused}
use Rattle.zones_live.proofs.telling.tell_refused.Goals as goal

pub returns-in-Some-clause-line : goal.returns-in-Some-clause-line
returns-in-Some-clause-line g c =
    let e = c.complain.ensures in
    subst (λ (o : Option ℕ). TellsLine (told_refused [] o).err c.complain.result (g.E.Sink.holds c.args.err.now) (g.E.Sink.holds c.complain.new.err) (g.E.Sink.faults c.args.err.now) (g.E.Sink.faults c.complain.new.err)) (sym c.in-Some.is)
    (line_complained c.complain.result (FirstRefusedEntry c.in-Some.number) _ _ _ _ e.statuses e.refused e.line e.told)
