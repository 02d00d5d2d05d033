-- What mount(2) and umount(2) refuse, as the code's cases have it.
use Rattle.std.proofs.Common.{◌≡◌, ◌⊎◌, ◌&&◌, ◌∙◌, ℕ, Err, IfOk, List, Ok, Option, Result, ap, inl, inr, sym, true}
use Rattle.std.specs.Prelude.{◌≢◌}
use Rattle.std.specs.declared.alloc.AllocError.{AllocError}
use Rattle.kernel_objects.specs.Processes.{Process, may_mount}
use Rattle.loopback_mounts.specs.Places.{special_at}
use Rattle.loopback_mounts.specs.Types.{may_mount_type}
use Rattle.loopback_mounts.specs.declared.faults.MountFault.{MountFault}
use Rattle.loopback_mounts.specs.declared.faults.MountFault.TheVariants.{Memory}
use Rattle.loopback_mounts.specs.declared.mount.MountEntry.{MountEntry}
use Rattle.process_calls.specs.declared.call.MountCall.{MountCall}
use Rattle.zone_cases.specs.Calls.{mount_refusal, mounts, tells_place}
use Rattle.zone_cases.specs.Code.Cases.{decision_of}
use Rattle.zone_cases.specs.declared.cases.Case.{Case}
use Rattle.zone_cases.specs.declared.cases.Case.TheVariants.{Says}
use Rattle.zone_cases.specs.declared.replies.Head.TheVariants.{Refused}
use Rattle.zoneadmd_steps.specs.declared.desks.Desk.{Desk}

-- a fault that is no want of memory is what the definition says
module _ (r : Result Case AllocError) (said : Result (List ℕ) MountFault) (fault : MountFault) (unless : (fault ≡ Memory) ⊎ (said ≡ Err fault)) where
  pub refused_place : IfOk r (λ c. c ≡ Says (Refused (mount_refusal fault))) → IfOk r (λ c. fault ≢ Memory) → IfOk r (λ c. (d : Desk) → tells_place said ≡ decision_of d c)
  refused_place is other = at_result r is other unless
    where
      at_result : (r : Result Case AllocError) → IfOk r (λ c. c ≡ Says (Refused (mount_refusal fault))) → IfOk r (λ c. fault ≢ Memory) → (fault ≡ Memory) ⊎ (said ≡ Err fault)
          → IfOk r (λ c. (d : Desk) → tells_place said ≡ decision_of d c)
      at_result (Err e) is other u = tt
      at_result (Ok c) is other (inl memory) = absurd (other memory)
      at_result (Ok c) is other (inr same) = λ d. ap tells_place same ∙ ap (decision_of d) (sym is)

module _ (r : Result Case AllocError) (Q : Process → Type 0) (allowed : Option (List ℕ)) (m : MountCall) (ms : List MountEntry) (fault : MountFault)
    (may : (p : Process) → Q p → true ≡ (may_mount p && may_mount_type allowed m.fstype)) (unless : (fault ≡ Memory) ⊎ (special_at ms m.fstype m.special ≡ Err fault)) where
  pub refused_mount : IfOk r (λ c. c ≡ Says (Refused (mount_refusal fault))) → IfOk r (λ c. fault ≢ Memory) → IfOk r (λ c. (d : Desk) (p : Process) → Q p → mounts p allowed m ms ≡ decision_of d c)
  refused_mount is other = at_result r is other unless
    where
      at_result : (r : Result Case AllocError) → IfOk r (λ c. c ≡ Says (Refused (mount_refusal fault))) → IfOk r (λ c. fault ≢ Memory) → (fault ≡ Memory) ⊎ (special_at ms m.fstype m.special ≡ Err fault)
          → IfOk r (λ c. (d : Desk) (p : Process) → Q p → mounts p allowed m ms ≡ decision_of d c)
      at_result (Err e) is other u = tt
      at_result (Ok c) is other (inl memory) = absurd (other memory)
      at_result (Ok c) is other (inr same) = λ d p there. rw (sym (may p there), same) (ap (decision_of d) (sym is))
