use Rattle.std.proofs.Common.{[], false, refl, ap, sym}
use Rattle.commit_journal.specs.Zones.{rows_of}
use Rattle.zone_machine.proofs.Standing.{begun-shared}
use Rattle.zone_cases.specs.State.Declarations.{none_declared}
use Rattle.zone_machine.proofs.machine.shared.Shared.new.Goals as goal

pub returns-clause-stands : goal.returns-clause-stands
returns-clause-stands c = begun-shared (record { kernel = c.new.result; claims = c.new-2.result; sessions = c.new-3.result; rows = c.new-4.result; serial = 0; used = 1; started = false; ups = c.new-5.result; brands = c.args.brands }) c.args.brands
    [] none_declared false c.new.ensures.pids c.new.ensures.zids c.new-2.ensures.holders c.new-3.ensures c.new-5.ensures.empty (sym (ap rows_of c.new-4.ensures.empty)) refl refl c.new.ensures.last_pid c.new.ensures.last_zid
    (λ i. record { items = sym c.new-2.ensures.declared i; devices = sym c.new.ensures.devices i }) refl refl
