use Rattle.std.proofs.Common.{ap, false, ◌∙◌}
use Rattle.kernel_objects.specs.Kernel.{entered}
use Rattle.zone_cases.proofs.session.logins.login_process.Goals as goal

pub returns : goal.returns
returns c = c.entering.ensures 0 ∙ ap (λ name. entered c.args.kernel.now name false 0) c.in_ok-name.ensures
