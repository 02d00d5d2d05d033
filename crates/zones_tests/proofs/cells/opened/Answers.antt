use Rattle.std.proofs.Common.{◌≡◌, List, [], ℕ, true, ap, sym, subst}
use Rattle.zn_io.specs.Disk.{View}
use Rattle.zone_disk.specs.Bank.{Account}
use Rattle.zone_disk.specs.Image.{IsUnformatted, Stands, used_by}
use Rattle.brand_hooks.specs.Brands.{Tabled}
use Rattle.commit_journal.specs.Store.{HasZones}
use Rattle.commit_journal.specs.Stored.{Rows}
use Rattle.commit_journal.specs.Zones.{rows_of}
use Rattle.commit_journal.proofs.Kept.{zones_none}
use Rattle.zone_machine.specs.Code.Cells.{SharedOf}
use Rattle.zone_machine.specs.Code.Records.{IsReady}
use Rattle.zone_machine.specs.Machine.{opening}
use Rattle.zone_machine.specs.Machine.Common.{common}
use Rattle.zone_machine.specs.declared.machine.shared.Shared.{Shared}
use Rattle.zones_tests.proofs.cells.opened.Goals as goal

-- a bank without records is ready for what zones share where none is stored
no_records : {D : Type 0} (v : View) (b : Account D) (s : Shared) (brands : List Tabled) → b.sound ≡ true → b.records ≡ []
    → SharedOf s (common (opening brands [])) → (v.Keeps → (image : List ℕ) → v.Now image → Stands image b.records)
    → IsReady v b s
no_records v b s brands sound none shared settled =
    let rows : rows_of s.rows.entries ≡ [] = sym (ap (λ k. k.rows) shared) in
    let zones : HasZones [] (rows_of s.rows.entries) = subst (λ (rows : Rows). HasZones [] rows) (sym rows) zones_none in
    record {
      sound = sound;
      zones = subst (λ (bodies : List (List ℕ)). HasZones bodies (rows_of s.rows.entries)) (sym none) zones;
      used = subst (λ (bodies : List (List ℕ)). s.used ≡ used_by bodies) (sym none) (sym (ap (λ k. k.used) shared));
      settled = settled;
    }

pub returns-in-Ok : goal.returns-in-Ok
returns-in-Ok c =
    let blank = subst (λ (image : List ℕ). IsUnformatted image) (sym c.in_ok-empty_disk.ensures) tt in
    let none = c.in-Ok.ensures.empty tt blank in
    no_records _ c.in-Ok.bank c.new.result _ c.in-Ok.ensures.sound none c.new.ensures.stands (λ _. c.in-Ok.ensures.lasts tt)
