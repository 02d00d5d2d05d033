-- What the definitions give is a history.
use Rattle.std.proofs.Common.{◌≡◌, ◌∷◌, [], List, true, refl}
use Rattle.std.proofs.lemmas.Bool.{and_from}
use Rattle.zone_pools.proofs.Same_laws.{grant-Decides}
use Rattle.zone_pools.specs.declared.grant.Grant.{Grant}
use Rattle.zone_machine.proofs.Same_laws.{reply-Decides, subject-Decides}
use Rattle.zone_machine.specs.Machine.Histories.{any_grant, entry_at, history, is_history, is_legal, is_told, run}
use Rattle.zone_machine.specs.Machine.{one, subject}
use Rattle.zone_machine.specs.Machine.Pools.{allowed}
use Rattle.zone_cases.specs.State.{State}
use Rattle.zone_cases.specs.declared.events.Event.{Event}

pub told-entry_at : (S : State) (e : Event) (g : Grant) → is_told S (entry_at S e g) ≡ true
told-entry_at S e g = and_from _ _ ((subject-Decides (subject S e) (subject S e)).1 refl) ((reply-Decides (one S e g).reply (one S e g).reply).1 refl)

pub legal-history : (S : State) (es : List Event) → is_legal S (history S es) ≡ true
legal-history S [] = refl
legal-history S (e ∷ es) =
    and_from _ _ (and_from _ _ (told-entry_at S e (allowed S e)) ((grant-Decides (allowed S e) (allowed S e)).1 refl)) (legal-history (one S e (allowed S e)).state es)

pub history-run : (S : State) (es : List (Event × Grant)) → is_history any_grant S (run S es) ≡ true
history-run S [] = refl
history-run S (e ∷ es) = and_from _ _ (and_from _ _ (told-entry_at S e.0 e.1) refl) (history-run (one S e.0 e.1).state es)
