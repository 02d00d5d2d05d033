use Rattle.std.proofs.Common.{◌≡◌, ◌⊎◌, inl, inr, sym}
use Rattle.zn_io.proofs.Moments.{weaker}
use Rattle.zone_machine.proofs.Opening.{has-commits, kept-holds, never-refused, ready-holds, ready-stores, same-bodies, same-rows}
use Rattle.commit_journal.specs.declared.fault.StoreFault.TheVariants.{DiskFault, Memory}
use Rattle.zone_machine.specs.Machine.Images.{Holds}
use Rattle.zone_machine.proofs.machine.Machine.restart.Goals as goal

pub returns-in-Ok-clause-begins : goal.returns-in-Ok-clause-begins
returns-in-Ok-clause-begins g c = λ S stands.
    let leave = c.in-Ok.ensures.zones.leave in let R = leave.commits in
    let is = has-commits _ _ _ _ R c.record_count-records.ensures c.used-used.ensures.counted (sym leave.say.texts) (sym leave.are) in
    (R, record { parts = c.restart.ensures.stands S R stands is.rows_are is.count is.bytes; bodies = is.bodies_are })

pub returns-in-Ok-clause-stands : goal.returns-in-Ok-clause-stands
returns-in-Ok-clause-stands g c = λ keeps S stands.
    let v = g.D.Disk.view c.args.self.now.bank.disk in let m = c.args.self.now in let one = c.opens_store_one_way.ensures in
    let now = (g.met.D.Disk.sound m.bank.disk).reads_now keeps in
    let holds : Holds S.commits v.reads = ready-holds S m.bank m.parts.shared v stands.bodies stands.parts.shared c.requires.ready keeps v.reads now in
    let stores = c.in-Ok.ensures.answers keeps in
    let is = has-commits _ _ _ _ S.commits c.record_count-records.ensures c.used-used.ensures.counted (same-bodies one v.reads _ _ S.commits stores holds) (same-rows one v.reads _ _ S.commits stores holds) in
    record { parts = c.restart.ensures.stands S S.commits stands.parts is.rows_are is.count is.bytes; bodies = is.bodies_are }

pub returns-in-Ok-clause-any_moment : goal.returns-in-Ok-clause-any_moment
returns-in-Ok-clause-any_moment g c = λ R is.
    let v = g.D.Disk.view c.args.self.now.bank.disk in
    weaker v (g.D.Disk.view c.reopen.new.bank.disk) _ (Holds R) (kept-holds v R is) (c.reopen.ensures.any_moment is.keeps)

pub returns-in-Err-clause-refuses : goal.returns-in-Err-clause-refuses
returns-in-Err-clause-refuses g c = λ keeps.
    let m = c.args.self.now in let v = g.D.Disk.view m.bank.disk in
    let now = (g.met.D.Disk.sound m.bank.disk).reads_now keeps in
    let stores = ready-stores m.bank m.parts.shared v c.requires.ready keeps v.reads now in
    elim (c.in-Err.ensures.answers keeps) as (λ _. (c.in-Err.fault ≡ Memory) ⊎ (c.in-Err.fault ≡ DiskFault)) [
      | inl is ↦ inl is
      | inr (inl is) ↦ inr is
      | inr (inr opens) ↦ absurd (never-refused c.opens_store_one_way.ensures _ _ v.reads c.in-Err.fault stores opens)
    ]
