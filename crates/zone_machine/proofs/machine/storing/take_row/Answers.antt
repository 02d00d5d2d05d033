use Rattle.std.proofs.Common.{◌≡◌, ◌∙◌, None, ap, length, sym}
use Rattle.std.specs.Prelude.{bytes_eq}
use Rattle.std.specs.Map.{lookup}
use Rattle.commit_journal.proofs.Zones.{without_is}
use Rattle.commit_journal.specs.Stored.{without}
use Rattle.commit_journal.specs.Store.{change_text}
use Rattle.commit_journal.specs.Zones.{rows_of}
use Rattle.zone_machine.proofs.Doing_laws.{does_removal}
use Rattle.zone_machine.proofs.machine.storing.take_row.Goals as goal

pub returns-clause-does : goal.returns-clause-does
returns-clause-does c =
    let z = c.args.zone in let s = c.args.shared.now in
    let bytes : c.body_length.result ≡ length (change_text z None) = c.body_length.ensures.same in
    let rows : rows_of c.shift_remove.new.self.entries ≡ without z (rows_of s.rows.entries) =
    ap rows_of c.shift_remove.ensures.entries ∙ without_is z s.rows.entries (ap (lookup (bytes_eq z)) (sym c.shift_remove.ensures.entries) ∙ c.shift_remove.ensures.updates.1) in
    rw bytes (does_removal z c.args.cell.now s (record s { rows = c.shift_remove.new.self }) rows c.shift_remove.ensures.updates.1)
