use Rattle.std.proofs.Common.{length}
use Rattle.zone_cases.specs.Session.Lines.{words}
use Rattle.zone_cases.proofs.session.lines.+are_args.Given as goal

abbrev pub decreases-are_args : goal.decreases-are_args
decreases-are_args l = length (words l.text.now)
