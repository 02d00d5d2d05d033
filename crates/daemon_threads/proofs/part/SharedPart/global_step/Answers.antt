use Rattle.std.proofs.Common.{ap, refl, subst, sym, ◌∙◌}
use Rattle.daemon_threads.proofs.Results.{if_ok}
use Rattle.daemon_threads.proofs.Stepping.{global-answers}
use Rattle.daemon_threads.specs.Goods.{Goods}
use Rattle.daemon_threads.specs.Parts.{Stands, commons}
use Rattle.daemon_threads.proofs.part.SharedPart.global_step.Goals as goal

pub returns-clause-step : goal.returns-clause-step
returns-clause-step g c =
    let m : Goods g.row.D.Denot = record { shared = c.self.inside.shared; shown = c.self.inside.shown; bank = c.self.inside.bank } in
    let n : Goods g.row.D.Denot = record { shared = c.global_step.new.shared; shown = c.self.inside.shown; bank = c.self.inside.bank } in
    if_ok c.global_step.result _ _
    (λ entry step sound S before stands of.
    global-answers g.D.Disk.view g.N.Names.view before S c.args.event entry m n step refl refl (ap (λ k. k.bank.sound) c.self.view_is ∙ sound) (subst (λ k. Stands g.D.Disk.view g.N.Names.view before k (commons S)) (sym c.self.view_is) stands) of)
    c.global_step.ensures.ok
