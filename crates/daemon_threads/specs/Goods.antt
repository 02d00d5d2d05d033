-- What the zones share, to contracts.
use Rattle.std.specs.Prelude.{◌≡◌, List, true, false}
use Rattle.brand_hooks.specs.Brands.{Tabled}
use Rattle.zn_io.specs.Disk.{View}
use Rattle.zn_io.specs.Streams.{Rose}
use Rattle.zone_disk.specs.Bank.{Account}
use Rattle.zone_machine.specs.Code.Cells.{common_in}
use Rattle.zone_machine.specs.Code.Records.{IsReady, Passes}
use Rattle.zone_machine.specs.declared.machine.shared.Shared.{Shared}
use Rattle.zone_machine.specs.declared.machine.shown.ShownZones.{ShownZones}

-- what more than one zone may ask, what the zones show of themselves, and the bank
pub record Goods (D : Type 0) : Type 0 where
  pub shared : Shared
  pub shown : ShownZones
  pub bank : Account D

-- the brands are these, and a bank that may be written is ready. Its disk, which was another view when the sessions began, keeps to its
-- model if it did then, and if the bank may not be written its count of faults rose since
pub record IsUsable {D : Type 0} (since v : View) (brands : List Tabled) (s : Shared) (b : Account D) : Type 0 where
  pub brands_are : (common_in s).brands ≡ brands
  pub ready : b.sound ≡ true → IsReady v b s
  pub passes : Passes since v
  pub rose : b.sound ≡ false → Rose since.faults v.faults
