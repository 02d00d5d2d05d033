use Rattle.std.proofs.Common.{◌≡◌, Some, subst, sym}
use Rattle.console_link.proofs.Kept.{holder_stays}
use Rattle.console_link.specs.Histories.{after}
use Rattle.console_link.proofs.laws.a_console_has_one_holder.Goals as goal

pub returns-clause-stays : goal.returns-clause-stays
returns-clause-stays c = λ es d session held h. subst (λ holder. (after es (record { output = d.output; holder = holder })).holder ≡ Some session) (sym held) (holder_stays es d.output session h)
