use Rattle.std.proofs.Common.{◌≡◌, None, ap, bytes_eq, sym}
use Rattle.std.specs.Map.{lookup}
use Rattle.zn_base.specs.Names.{Name}
use Rattle.zone_cases.specs.Code.Cells.{world_or_empty}
use Rattle.zone_cases.specs.State.{stored}
use Rattle.zone_machine.proofs.machine.parts.Parts.restart.Goals as goal

pub returns-clause-stands : goal.returns-clause-stands
returns-clause-stands c = λ S R stands rows serial used.
    let none : (z : Name) → lookup (bytes_eq z) c.new.result.entries ≡ None = λ z. ap (lookup (bytes_eq z)) c.new.ensures.empty in
    record {
      worlds = λ z. ap (world_or_empty (record { stored = stored z R; declared = S.declared; brands = S.brands })) (sym (none z));
      shared = c.restart.ensures.stands S R stands.shared rows serial used;
    }
