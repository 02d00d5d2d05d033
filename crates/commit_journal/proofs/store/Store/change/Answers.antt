use Rattle.std.proofs.Common.{◌≡◌, ap, rules, sym, ◌∙◌}
use Rattle.commit_journal.specs.Zones.{rows_of}
use Rattle.commit_journal.proofs.Kept.{on_err_both}
use Rattle.commit_journal.proofs.store.Store.change.Goals as goal

pub returns-in_err-zone-clause-fault_same : goal.returns-in_err-zone-clause-fault_same
returns-in_err-zone-clause-fault_same g c =
    let bank = c.in_err-zone.ensures.same in
    let zones = ap rows_of c.write.ensures.zones in
    let records : c.write.new.bank.records ≡ c.args.self.now.bank.records = search (bank, rules) in
    let rows : rows_of c.write.new.zones.entries ≡ c.args.self.now.rows = search (zones, rules) in
    on_err_both c.from_residual.result records rows
