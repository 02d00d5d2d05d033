use Rattle.zones_run.specs.declared.fault.RunFault.TheVariants.{Write}
use Rattle.zones_run.proofs.Telling.{line_failed}
use Rattle.zones_run.proofs.run.write_report.Goals as goal

pub returns-in-Err-clause-line : goal.returns-in-Err-clause-line
returns-in-Err-clause-line g c = line_failed c.args.report.now.err.items Write c.fail-in-Err.result _ _ _ _ c.fail-in-Err.ensures.status (λ f. (c.fail-in-Err.ensures.write f).1)
