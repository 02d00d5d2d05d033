use Rattle.std.proofs.Common.{refl, ap, sym, true, ◌∙◌}
use Rattle.zone_machine.proofs.Standing.{begun-shared}
use Rattle.zone_machine.proofs.machine.shared.Shared.restart.Goals as goal

pub returns-clause-stands : goal.returns-clause-stands
returns-clause-stands c = λ S R shared rows serial used.
    begun-shared (record { kernel = c.restart.new.self; claims = c.restart-2.new.self; sessions = c.new.result; rows = c.args.rows; serial = c.args.serial; used = c.args.used; started = true; ups = c.new-2.result; brands = c.args.self.now.brands }) S.brands
    R S.declared true c.restart.ensures.pids c.restart.ensures.zids c.restart-2.ensures.holders c.new.ensures c.new-2.ensures.empty rows serial used c.restart.ensures.last_pid c.restart.ensures.last_zid
    (ap (λ k. k.declared) shared ∙ (λ i. record { items = sym c.restart-2.ensures.declared i; devices = sym c.restart.ensures.devices i })) (sym (ap (λ k. k.brands) shared)) refl
