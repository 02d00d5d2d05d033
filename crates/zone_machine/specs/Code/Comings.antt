-- What comes to the kernel with a number, as the definitions have it.
use Rattle.std.specs.Prelude.{ℕ, Bool, true, false, Option, Some, None, Result, Ok}
use Rattle.kernel_objects.specs.Kernel.{new_id}
use Rattle.kernel_objects.specs.Processes.{process_of}
use Rattle.zone_pools.specs.declared.grant.Pool.{Pool}
use Rattle.zoneadmd_steps.specs.Arrivals.{Arrival, New_claim, New_id, New_process}
use Rattle.zone_machine.specs.declared.machine.comings.Newcomer.{Newcomer}
use Rattle.zone_machine.specs.declared.machine.comings.Newcomer.TheVariants.{Claim, Id, Process}

abbrev pub newcome : Newcomer → Result ℕ Pool → Option Arrival
newcome (Process p) (Ok n) = Some (New_process (process_of (n, p.now)))
newcome Id (Ok n) = Some (New_id (new_id n))
newcome (Claim c) (Ok n) = Some (New_claim c.now)
newcome _ _ = None

-- whether it is a claim
abbrev pub is_claim : Newcomer → Bool
is_claim (Claim c) = true
is_claim _ = false
