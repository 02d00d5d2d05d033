use Rattle.std.proofs.Common.{◌≡◌, ◌∙◌, ap, length, sym}
use Rattle.std.specs.Borrow.{Bor}
use Rattle.std.specs.Option.{option_map}
use Rattle.commit_journal.proofs.Lengths.{body_length}
use Rattle.commit_journal.specs.Journal.{fits_after}
use Rattle.commit_journal.specs.Store.{change_text}
use Rattle.commit_journal.specs.declared.records.Row.{Row}
use Rattle.zone_machine.proofs.machine.records.write_row.Goals as goal

pub append_record-requires-clause-room : goal.append_record-requires-clause-room
append_record-requires-clause-room g c =
    let z = c.args.zone.now in let row = option_map (λ (r : Bor Row). r.now) c.args.row in
    let used : c.args.bank.now.used ≡ c.args.shared.now.used = sym c.used-used.ensures.used ∙ c.used-used.ensures.counted ∙ sym c.requires.ready.used in
    ap (λ n. fits_after n (length (change_text z row))) used ∙ ap (fits_after c.args.shared.now.used) (body_length z row) ∙ c.requires.room.1
