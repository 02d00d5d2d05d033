-- The entries of a zone and of the whole system, run again without the others, are these entries.
use Rattle.std.proofs.Common.{◌≡◌, ◌∷◌, [], List, Bool, true, false, ap, refl, sym, ◌∙◌}
use Rattle.std.proofs.lemmas.Bool.{false≢true}
use Rattle.zn_base.specs.Names.{Name}
use Rattle.zone_pools.proofs.Owned_laws.{same_true}
use Rattle.zone_pools.specs.declared.grant.Grant.{Grant}
use Rattle.zone_machine.proofs.Own_worlds.{leaves, reply-whole, reply-world}
use Rattle.zone_machine.specs.Machine.Histories.{asked, concerns, entry_at, only, run}
use Rattle.zone_machine.specs.Machine.{one, subject}
use Rattle.zone_cases.specs.State.{State}
use Rattle.zone_cases.specs.declared.events.Event.{Event}
use Rattle.zone_cases.specs.declared.events.Subject.{Subject}
use Rattle.zone_cases.specs.declared.events.Subject.TheVariants.{Zone, Global, Whole}
use Rattle.zone_views.proofs.Purge.{Agree, kept_step, subjects}

-- in states that agree on z an event that concerns z makes one entry
pub same-entry : (z : Name) (S T : State) (e : Event) (g : Grant) → Agree z S T → concerns z (subject S e) ≡ true → entry_at T e g ≡ entry_at S e g
same-entry z S T e g a h = λ i. record { event = e; subject = same i; grant = g; reply = reply i }
  where
    same : subject T e ≡ subject S e
    same = subjects z S T e a h

    at_subject : (s : Subject) → subject S e ≡ s → concerns z s ≡ true → (one T e g).reply ≡ (one S e g).reply
    at_subject (Zone y) is h = let mine : subject S e ≡ Zone z = is ∙ ap Zone (sym (same_true z y h)) in reply-world z T S e g (same ∙ mine) mine (sym a.world)
    at_subject Global is h = absurd (false≢true h)
    at_subject Whole is h = reply-whole T S e g (same ∙ is) is (sym (ap (λ w. w.declared) a.world))

    reply : (one T e g).reply ≡ (one S e g).reply
    reply = at_subject (subject S e) refl h

pub again : (z : Name) (es : List (Event × Grant)) (S T : State) → Agree z S T → run T (asked (only z (run S es))) ≡ only z (run S es)
again z [] S T a = refl
again z (e ∷ es) S T a = at_test (λ S T a. again z es S T a) (concerns z (subject S e.0)) refl
  where
    at_test : ((S T : State) → Agree z S T → run T (asked (only z (run S es))) ≡ only z (run S es))
        → (b : Bool) → concerns z (subject S e.0) ≡ b → run T (asked (only z (run S (e ∷ es)))) ≡ only z (run S (e ∷ es))
    at_test ih true h =
        let first = same-entry z S T e.0 e.1 a h in
        let more = ih (one S e.0 e.1).state (one T e.0 e.1).state (kept_step z S T e.0 e.1 a h).0 in
        rw h (λ i. first i ∷ more i)
    at_test ih false h =
        let agree : Agree z (one S e.0 e.1).state T = record { world = leaves z S e.0 e.1 h ∙ a.world; purged = a.purged } in
        rw h (ih (one S e.0 e.1).state T agree)
