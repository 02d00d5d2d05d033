use Rattle.std.proofs.Common.{ap, subst, sym, ◌∙◌}
use Rattle.zn_io.proofs.Moments.{weaker}
use Rattle.zone_machine.proofs.Opening.{has-commits, kept-holds, same-bodies, same-rows}
use Rattle.zone_machine.specs.Code.Cells.{Stands}
use Rattle.zone_machine.specs.Machine.{opening}
use Rattle.zone_machine.specs.Machine.Images.{Holds}
use Rattle.zone_machine.proofs.machine.Machine.open.Goals as goal

pub returns-in-Ok-open-clause-begins : goal.returns-in-Ok-open-clause-begins
returns-in-Ok-open-clause-begins g c =
    let leave = c.in-Ok-open.ensures.leave in let R = leave.commits in let bank = c.into_parts-bank.ensures.bank in
    let is = has-commits _ _ _ _ R c.record_count-records.ensures c.used-used.ensures.counted (sym leave.say.texts ∙ sym (ap (λ b. b.records) bank)) (sym leave.are ∙ sym c.into_parts-bank.ensures.rows) in
    (R, record { parts = subst (λ t. Stands (opening t R) c.opened.result) c.in-Ok.ensures (c.opened.ensures.stands R is.rows_are is.count is.bytes); bodies = is.bodies_are })

pub returns-in-Ok-open-clause-stands : goal.returns-in-Ok-open-clause-stands
returns-in-Ok-open-clause-stands g c = λ keeps R h.
    let reads = (g.D.Disk.view c.args.disk).reads in let store = c.in-Ok-open.store in let one = c.opens_store_one_way.ensures in
    let stores = c.in-Ok-open.ensures.answers keeps in let bank = c.into_parts-bank.ensures.bank in
    let is = has-commits _ _ _ _ R c.record_count-records.ensures c.used-used.ensures.counted
    (same-bodies one reads store.bank.records store.rows R stores h ∙ sym (ap (λ b. b.records) bank)) (same-rows one reads store.bank.records store.rows R stores h ∙ sym c.into_parts-bank.ensures.rows) in
    record { parts = subst (λ t. Stands (opening t R) c.opened.result) c.in-Ok.ensures (c.opened.ensures.stands R is.rows_are is.count is.bytes); bodies = is.bodies_are }

pub returns-in-Ok-open-clause-any_moment : goal.returns-in-Ok-open-clause-any_moment
returns-in-Ok-open-clause-any_moment g c = λ R is.
    rw c.into_parts-bank.ensures.bank (weaker (g.D.Disk.view c.args.disk) (g.D.Disk.view c.in-Ok-open.store.bank.disk) _ (Holds R) (kept-holds (g.D.Disk.view c.args.disk) R is) (c.in-Ok-open.ensures.any_moment is.keeps))
