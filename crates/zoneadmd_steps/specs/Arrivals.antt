-- What comes with a grant: nothing else can make these. A process, an id and a record take their number from there.
use Rattle.std.specs.Prelude.{ℕ, Option, Some, None, length}
use Rattle.datalink_table.specs.declared.claims.Claim.{Claim}
use Rattle.kernel_objects.specs.Processes.{Process}
use Rattle.kernel_objects.specs.declared.objects.Id.{Id}
use Rattle.commit_journal.specs.Bodies.{stored_text}
use Rattle.commit_journal.specs.declared.records.Record.{Record}
use Rattle.zone_pools.specs.Asked.{A_serial, Asked}

pub data Comes : Type 0 where
  A_process : Process → Comes
  An_id : Id → Comes
  A_claim : Claim → Comes
  A_record : (ℕ → Option Record) → Comes
  No_thing : Comes

-- what is asked for a record: its number, and room in the store for what is stored under that number
abbrev pub record_asked : (ℕ → Option Record) → Asked
record_asked row = A_serial (λ n. length (stored_text (row n)))

-- what came, with its number
pub data Arrival : Type 0 where
  New_process : Process → Arrival
  New_id : Id → Arrival
  New_claim : Claim → Arrival
  New_record : Option Record → Arrival
  No_new_thing : Arrival

abbrev pub arrived : Comes → ℕ → Arrival
arrived (A_process p) n = New_process (record p { pid = n })
arrived (An_id i) n = New_id (record i { zid = n })
arrived (A_claim c) n = New_claim c
arrived (A_record row) n = New_record (row n)
arrived No_thing n = No_new_thing

-- what comes to the kernel, which is the first that an event does, and what is stored
abbrev pub in_kernel : Option Arrival → Option Arrival
in_kernel (Some (New_process p)) = Some (New_process p)
in_kernel (Some (New_id i)) = Some (New_id i)
in_kernel (Some (New_claim c)) = Some (New_claim c)
in_kernel _ = None

abbrev pub in_store : Option Arrival → Option Arrival
in_store (Some (New_record row)) = Some (New_record row)
in_store _ = None
