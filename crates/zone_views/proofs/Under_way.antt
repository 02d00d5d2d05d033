-- A request under way comes after an event.
use Rattle.std.proofs.Common.{◌≡◌, ◌∷◌, [], ◌∙◌, ◌||◌, Bool, List, Option, None, Some, true, false, ap, refl, sym}
use Rattle.std.proofs.lemmas.Bool.{false≢true}
use Rattle.std.specs.Option.{is_none}
use Rattle.zn_base.specs.Names.{Name}
use Rattle.zone_pools.specs.declared.grant.Grant.{Grant}
use Rattle.brand_hooks.specs.Brands.{Tabled}
use Rattle.commit_journal.specs.declared.records.Commit.{Commit}
use Rattle.zone_machine.proofs.Local_laws.{local-common, not-local}
use Rattle.zoneadmd_steps.proofs.Of_turns.{none-under-way}
use Rattle.zoneadmd_steps.specs.Desks.{Job}
use Rattle.zone_machine.specs.Machine.Common.{common}
use Rattle.zone_machine.specs.Machine.Histories.{after, after_entry}
use Rattle.zone_machine.specs.Machine.Local.{is_local}
use Rattle.zone_machine.specs.Machine.{one, one_of, opening, subject, whole}
use Rattle.zone_cases.specs.State.{State}
use Rattle.zone_cases.specs.State.Worlds.{objects_of, world}
use Rattle.zone_cases.specs.declared.events.Entry.{Entry}
use Rattle.zone_cases.specs.declared.events.Event.{Event}
use Rattle.zone_cases.specs.declared.events.Event.TheVariants.{Process as Call_of, Restart, Session, System, Turn}
use Rattle.zone_cases.specs.declared.events.Subject.{Subject}
use Rattle.zone_cases.specs.declared.events.Subject.TheVariants.{Global, Whole, Zone}

-- where a request of z is under way, an event has come
abbrev has_begun : Name → State → Bool
has_begun z S = S.started || is_none (S.desks z).job

begun-one : (z : Name) (S : State) (e : Event) (g : Grant) → has_begun z S ≡ true → has_begun z (one S e g).state ≡ true
unfolding one
begun-one z S e g h = at_subject (subject S e)
  where
    at_event : (e : Event) → has_begun z (whole e S) ≡ true
    at_event (Session n text) = h
    at_event (Turn y) = h
    at_event (Call_of y pid c) = h
    at_event (System what) = h
    at_event Restart = refl

    at_subject : (s : Subject) → has_begun z (one_of s S e g).state ≡ true
    at_subject (Zone y) = refl
    at_subject Global = refl
    at_subject Whole = at_event e

begun-after : (z : Name) (S : State) (h : List Entry) → has_begun z S ≡ true → has_begun z (after S h) ≡ true
begun-after z S [] is = is
begun-after z S (e ∷ h) is = begun-after z (after_entry S e) h (begun-one z S e.event e.grant is)

local-leaves : (z : Name) (S : State) (e : Entry) → has_begun z S ≡ true → is_local z (world z S) e ≡ true → common (one S e.event e.grant).state ≡ common S
local-leaves z S e begun h = at_start S.started refl begun
  where
    none : (job : Option Job) → is_none job ≡ true → job ≡ None
    none None e = refl
    none (Some j) e = absurd (false≢true e)

    at_start : (b : Bool) → S.started ≡ b → (b || is_none (S.desks z).job) ≡ true → common (one S e.event e.grant).state ≡ common S
    at_start true is idle = local-common z S e h ∙ ap (λ b. record (common S) { started = b }) (sym is)
    at_start false is idle =
        let far = none-under-way S.brands (objects_of (world z S)) (S.desks z) (none (S.desks z).job idle) in
        absurd (false≢true (sym (not-local z (world z S) e far) ∙ h))

pub local-leaves-history : (z : Name) (brands : List Tabled) (commits : List Commit) (h : List Entry) (e : Entry) → is_local z (world z (after (opening brands commits) h)) e ≡ true
    → (let S = after (opening brands commits) h in common (one S e.event e.grant).state ≡ common S)
local-leaves-history z brands commits h e local = local-leaves z (after (opening brands commits) h) e (begun-after z (opening brands commits) h refl) local
