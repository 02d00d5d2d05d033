use Rattle.std.proofs.Common.{◌∙◌, arith, sym}
use Rattle.std.proofs.lemmas.Bool.{not-true}
use Rattle.zoneadmd_steps.proofs.Byte_order.{put_between, put_last}
use Rattle.zoneadmd_steps.proofs.plans.goes_behind.Goals as goal

pub returns-then-at-dirs-2-clause-put : goal.returns-then-at-dirs-2-clause-put
returns-then-at-dirs-2-clause-put c = λ last.
    put_last c.args.dir.now c.args.dirs.now c.args.at c.index-dirs-at.result c.if-at-dirs-2.true c.requires c.index-dirs-at.is (sym c.precedes.ensures ∙ c.if-not-precedes.false)

pub returns-else-at-dirs-2-clause-put : goal.returns-else-at-dirs-2-clause-put
returns-else-at-dirs-2-clause-put c = λ behind.
    put_between c.args.dir.now c.args.dirs.now c.args.at c.index-dirs-at.result c.index-dirs-at-else-at-dirs-2.result (omega (arith, c.if-at-dirs.false, c.if-at-dirs-2.false)) c.requires c.index-dirs-at.is c.index-dirs-at-else-at-dirs-2.is
    (sym c.precedes.ensures ∙ c.if-not-precedes.false) (sym c.precedes-else-at-dirs-2.ensures ∙ not-true c.precedes-else-at-dirs-2.result behind)
