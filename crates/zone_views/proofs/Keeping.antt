-- What each zone's world keeps under the zone's own events holds after any history.
use Rattle.std.proofs.Common.{◌≡◌, ◌∷◌, [], List, Bool, Some, true, false, refl, subst, sym}
use Rattle.std.specs.Prelude.{bytes_eq, if◌then◌else◌}
use Rattle.zn_base.specs.Names.{Name}
use Rattle.zone_pools.proofs.Owned_laws.{same_self}
use Rattle.zone_pools.specs.declared.grant.Grant.{Grant}
use Rattle.zone_machine.proofs.Own_worlds.{world-one}
use Rattle.zone_machine.specs.Machine.Histories.{after, after_entry, world_by}
use Rattle.zone_machine.specs.Machine.{decide, restarted_world, session_number, subject, whole_world}
use Rattle.zone_cases.specs.State.Declarations.{Declared, declaring}
use Rattle.zone_cases.specs.State.Decisions.{act_of, acts_world}
use Rattle.zone_cases.specs.State.Worlds.{World, doing, view_of, world}
use Rattle.zone_cases.specs.State.{At, Doing, State}
use Rattle.zone_cases.specs.declared.events.Entry.{Entry}
use Rattle.zone_cases.specs.declared.events.Event.{Event}
use Rattle.zone_cases.specs.declared.events.Event.TheVariants.{Process as Call_of, Restart, Session, System, Turn}
use Rattle.zone_cases.specs.declared.events.Subject.{Subject}
use Rattle.zone_cases.specs.declared.events.Subject.TheVariants.{Zone, Global, Whole}

-- what a session does that is in z
pub doing_at : (z : Name) (d : Doing) → doing z (At z d) ≡ Some d
doing_at z d = simp (same_self z) refl

module _ (P : World → Type 0) (keeps : (z : Name) (w : World) (e : Event) (g : Grant) → P w → P (acts_world (session_number e) (act_of (decide (view_of z w) e) g) w))
    (declares : (w : World) (d : Declared) → P w → P (record w { declared = d })) (restarts : (w : World) → P w → P (restarted_world w)) where
  of_whole : (w : World) (e : Event) → P w → P (whole_world e w)
  of_whole w (Session n text) h = declares w w.declared h
  of_whole w (Turn z) h = declares w w.declared h
  of_whole w (Call_of z pid c) h = declares w w.declared h
  of_whole w (System what) h = declares w (declaring what w.declared) h
  of_whole w Restart h = restarts w h

  kept-by : (z : Name) (s : Subject) (w : World) (e : Event) (g : Grant) → P w → P (world_by s z w e g)
  kept-by z Global w e g h = h
  kept-by z Whole w e g h = of_whole w e h
  kept-by z (Zone y) w e g h = at_test (bytes_eq z y)
    where
      at_test : (b : Bool) → P (if b then acts_world (session_number e) (act_of (decide (view_of z w) e) g) w else w)
      at_test true = keeps z w e g h
      at_test false = h

  -- of one zone, or of each
  pub kept-of : (z : Name) (S : State) (h : List Entry) → P (world z S) → P (world z (after S h))
  kept-of z S [] is = is
  kept-of z S (e ∷ h) is = kept-of z (after_entry S e) h (subst P (sym (world-one z S e.event e.grant)) (kept-by z (subject S e.event) (world z S) e.event e.grant is))

  pub kept-after : (S : State) (h : List Entry) → ((z : Name) → P (world z S)) → (z : Name) → P (world z (after S h))
  kept-after S h is z = kept-of z S h (is z)
