-- What the code's needs ask, and what the pools know by the shared part, as the definitions have it.
use Rattle.std.specs.Prelude.{List, [], ◌∷◌, ℕ, length, Bool, false, Option, Some, None, bytes_eq, not, ◌&&◌}
use Rattle.datalink_table.specs.Claims.{pool_of}
use Rattle.datalink_table.specs.Shared.{allows}
use Rattle.zone_machine.specs.Code.Cells.{is_up_in, row_in}
use Rattle.zone_pools.specs.Asked.{A_path, A_pid, A_serial, A_source, A_zid, A_zone, An_item, Asked}
use Rattle.zone_machine.specs.declared.machine.needs.Need.{Need}
use Rattle.zone_machine.specs.declared.machine.needs.Need.TheVariants.{Item, Moved, Nothing, Pid, Zid, Record, NewZone, Source}
use Rattle.zn_base.specs.Names.{Name}
use Rattle.kernel_objects.specs.Shared.{pid_used, zid_used}
use Rattle.zone_pools.specs.Pools.{Pools}
use Rattle.commit_journal.specs.Journal.{body_size, fits_after}
use Rattle.commit_journal.specs.Zones.{rows_of}
use Rattle.zone_machine.specs.Machine.Pools.{is_installed, is_path, kind_of, of_kind, path_taken}
use Rattle.commit_journal.specs.declared.records.Record as records
use Rattle.zone_machine.specs.declared.machine.shared.Shared.{Shared}

-- a record whose length doesn't hang on its number
abbrev pub sized : ℕ → Asked
sized size = A_serial (λ n. size)

abbrev pub asked_by : Need → List Asked
asked_by Nothing = []
asked_by Pid = A_pid ∷ []
asked_by Zid = A_zid ∷ []
asked_by (Record size) = sized size ∷ []
asked_by (Moved path size) = A_path path.now ∷ sized size ∷ []
asked_by (NewZone path size) = A_zone ∷ A_path path.now ∷ sized size ∷ []
asked_by (Item c) = An_item (pool_of c.now.kind) c.now.item ∷ []
asked_by (Source z) = A_source z.now ∷ []

-- a stored zone other than z has the path
abbrev pub takes_path : Name → List ℕ → Option (Name × records.Record) → Bool
takes_path z path None = false
takes_path z path (Some e) = not (bytes_eq z e.0) && is_path path e.1.config.zonepath

-- what the pools know, by the shared part
abbrev pub pools_in : Shared → Pools
pools_in s = record {
  pid_used = pid_used s.kernel;
  zid_used = zid_used s.kernel;
  last_pid = s.kernel.last_pid;
  last_zid = s.kernel.last_zid;
  zones = length (rows_of s.rows.entries);
  path_taken = path_taken (rows_of s.rows.entries);
  serial = s.serial;
  may_store = λ z size. fits_after s.used (body_size z size);
  may_hold = λ z pool item. of_kind (λ c. allows z c s.claims) (kind_of pool) item;
  may_clone = λ z. is_installed (row_in z s) && not (is_up_in s z);
}
