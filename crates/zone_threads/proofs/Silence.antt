-- Entries that change nothing of how far sessions are.
use Rattle.std.proofs.Common.{◌≡◌, ℕ, Bool, Option, Some, None, true, false, ap, refl}
use Rattle.std.specs.Prelude.{◌==◌, ◌&&◌}
use Rattle.zone_threads.specs.Scripts.{awaits_after, ends_ticket, progress_one}
use Rattle.zone_threads.specs.declared.machine.Said.{Said}
use Rattle.zone_threads.specs.declared.machine.Told.{Told}
use Rattle.zone_threads.specs.declared.tally.Progress.{Progress}
use Rattle.zone_threads.specs.declared.tally.Ticket.{Ticket}

none_answered : (said : Said) → ((n : ℕ) → ends_ticket n said ≡ false) → (p : ℕ) (o : Option Ticket) → awaits_after p said o ≡ o
none_answered said none p None = refl
none_answered said none p (Some ticket) = rw (at_place (ticket.place == p)) refl
  where
    at_place : (b : Bool) → (b && ends_ticket ticket.number said) ≡ false
    at_place false = refl
    at_place true = none ticket.number

-- a turn that answers no ticket
pub unanswered : (told : Told) → told.session ≡ 0 → ((n : ℕ) → ends_ticket n told.said ≡ false) → (s p : ℕ) (t : Progress) → progress_one s t p told ≡ t
unfolding progress_one
unanswered told turn none s p t = simp turn (ap (λ o. record t { awaits = o }) (none_answered told.said none p t.awaits))
