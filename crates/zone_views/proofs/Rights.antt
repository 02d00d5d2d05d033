-- What is stored of a zone stays right, and what its sessions edit stays sound.
use Rattle.std.proofs.Common.{◌≡◌, ◌+◌, ℕ, List, Bool, Option, Some, None, true, false, refl, subst, sym}
use Rattle.std.specs.Prelude.{IfSome}
use Rattle.std.specs.Option.{option_map}
use Rattle.zn_base.specs.Names.{Name}
use Rattle.brand_hooks.specs.Brands.{tabled_names}
use Rattle.commit_journal.specs.declared.records.Record.{Record}
use Rattle.zone_config.specs.Sound.{IsSound}
use Rattle.zone_config.specs.declared.terms.Contents.{Contents}
use Rattle.zone_pools.specs.declared.grant.Grant.{Grant}
use Rattle.zonecfg_scopes.specs.Edited.{Edited, opened_on}
use Rattle.zoneadmd_steps.specs.Arrivals.{Arrival, New_record}
use Rattle.zoneadmd_steps.specs.Objects.{Object_edit, Process_goes, Processes_go}
use Rattle.zone_machine.proofs.Turned_laws.{turn_act}
use Rattle.zone_machine.specs.Code.Works.{turned_act}
use Rattle.zone_cases.specs.Session.Commits.{base_now, base_of, committed_record, said_to}
use Rattle.zone_cases.specs.State.{At_console, Awaiting, Doing, Editing, Logged_in}
use Rattle.zone_cases.specs.State.Decisions.{acts_world, after_came_world, ticket_ended}
use Rattle.zone_cases.specs.State.Edits.{Edit, Of_objects, comes_world, console_gone_world, edit_world, edits_world, keeps_console, login_ended, logins_ended}
use Rattle.zone_cases.specs.State.Worlds.{World, view_of}
use Rattle.zone_views.proofs.Deciding.{Alone_says, Attaches, Called, Calls, Comes, Consoled, Consoles, Detaches, Does, Drops, Edits, Enters, Forks, Goes, Is_seated, Leaves_off, Opens, Puts, Records, Remounts, Removes, Renames, Saying, Says, Seat, Seated, Session_says, Stores, Takes, Tells, Unseated, Writes, kept_turn}
use Rattle.zone_views.proofs.Seating.{kept-gone, kept-here, kept-sweep, login-ends, logins-end, ticket-ends}
use Rattle.zone_views.proofs.Sound_edits.{IsBaseSound, IsOpenSound, alone-sound, config-sound, line-sound, opened-sound}
use Rattle.zone_views.specs.Storable.{IsRight}

abbrev pub EditsSound : Option Doing → Type 0
EditsSound None = Unit {0}
EditsSound (Some (Awaiting t)) = Unit {0}
EditsSound (Some (Editing e)) = IsOpenSound e.opened
EditsSound (Some (Logged_in pid escape)) = Unit {0}
EditsSound (Some (At_console escape)) = Unit {0}

abbrev AllSound : World → Type 0
AllSound w = (n : ℕ) → EditsSound (w.sessions n)

pub record RightWorld (w : World) : Type 0 where
  pub stored : IfSome w.stored IsRight
  pub sessions : (n : ℕ) → EditsSound (w.sessions n)

base-right : (stored : Option Record) → IfSome stored IsRight → IsBaseSound (option_map base_of stored)
base-right None h = tt
base-right (Some row) h = h.config

committed-right : (z : Name) (stored : Option Record) (config : Contents) (m : ℕ) → IfSome stored IsRight → IsSound config → IsRight (committed_record z stored config m)
committed-right z None config m h s = record { state = refl; config = s }
committed-right z (Some row) config m h s = record { state = h.state; config = s }

gone-right : (keeps : Bool) (w : World) → RightWorld w → RightWorld (console_gone_world keeps w)
gone-right true w h = h
gone-right false w h = record { stored = h.stored; sessions = kept-gone EditsSound tt false w h.sessions }

objects-sound : (e : Object_edit) (w : World) → AllSound w → AllSound (edit_world None (Of_objects e) w)
objects-sound (Processes_go p) w h = kept-sweep EditsSound tt logins_ended logins-end w.sessions h
objects-sound (Process_goes pid) w h = kept-sweep EditsSound tt (login_ended pid) (login-ends pid) w.sessions h
objects-sound e w h = h

comes-sound : (c : Arrival) (w : World) → AllSound w → AllSound (comes_world c w)
comes-sound (New_record row) w h = kept-gone EditsSound tt (keeps_console row) (record w { stored = row }) h
comes-sound c w h = h

module _ (z : Name) (w : World) (h : RightWorld w) where
  base-sound : IsBaseSound (base_now (view_of z w))
  unfolding view_of
  base-sound = base-right w.stored h.stored

  said-sound : (k : ℕ) (e : Edited) (text : List ℕ) → w.sessions k ≡ Some (Editing e) → IsOpenSound (said_to (view_of z w) e text).edited.opened
  said-sound k e text there = line-sound (base_now (view_of z w)) (tabled_names (view_of z w).world.brands) base-sound text e (subst EditsSound there (h.sessions k))

  saying-sound : (k : ℕ) (config : Contents) → Saying z w k config → IsSound config
  saying-sound k config (Alone_says text shown) =
      let v = view_of z w in
      config-sound _ config (alone-sound (base_now v) (tabled_names v.world.brands) base-sound text (opened_on v.zone (base_now v)) (opened-sound v.zone (base_now v) base-sound)) shown
  saying-sound k config (Session_says e text there shown) = config-sound _ config (said-sound k e text there) shown

  seat-sound : (k : ℕ) (d : Option Doing) → Seat z w k d → EditsSound d
  seat-sound k _ (Leaves_off e there) = tt
  seat-sound k _ (Opens base is idle) = opened-sound z base (subst IsBaseSound (sym is) (base-right w.stored h.stored))
  seat-sound k _ (Says e text there) = said-sound k e text there
  seat-sound k _ (Stores e text config m there ends shown) = said-sound k e text there

  seated-right : (k : ℕ) (es : List Edit) → Seated z w k es → (v : World) → RightWorld v → RightWorld (edits_world (Some k) es v)
  seated-right k _ Unseated v is = is
  seated-right k _ (Is_seated d s) v is = record { stored = is.stored; sessions = kept-here EditsSound k d v.sessions (seat-sound k d s) is.sessions }

  called-right : (n : Option ℕ) (c : Option Arrival) (es : List Edit) → Called w n c es → RightWorld (edits_world n es (after_came_world c w))
  called-right _ _ _ (Forks n parent pid p name is) = record { stored = h.stored; sessions = h.sessions }
  called-right _ _ _ (Enters k pid name escape running idle) = record { stored = h.stored; sessions = kept-here EditsSound k (Some (Logged_in pid escape)) w.sessions tt h.sessions }
  called-right _ _ _ (Comes k pid name running) = record { stored = h.stored; sessions = h.sessions }
  called-right _ _ _ (Goes n pid) = record { stored = h.stored; sessions = kept-sweep EditsSound tt (login_ended pid) (login-ends pid) w.sessions h.sessions }
  called-right _ _ _ (Renames n pid name) = record { stored = h.stored; sessions = h.sessions }
  called-right _ _ _ (Drops n pid number) = record { stored = h.stored; sessions = h.sessions }

  consoled-right : (n : Option ℕ) (es : List Edit) → Consoled w n es → RightWorld (edits_world n es w)
  consoled-right _ _ (Writes n text) = record { stored = h.stored; sessions = h.sessions }
  consoled-right _ _ (Takes n) = record { stored = h.stored; sessions = h.sessions }
  consoled-right _ _ (Attaches k escape idle free) = record { stored = h.stored; sessions = kept-here EditsSound k (Some (At_console escape)) w.sessions tt h.sessions }
  consoled-right _ _ (Detaches k escape there) = record { stored = h.stored; sessions = kept-here EditsSound k None w.sessions tt h.sessions }

  recorded-right : (stored : Option Record) (config : Contents) (m : ℕ) → w.stored ≡ stored → IsSound config → RightWorld (record w { stored = Some (committed_record z stored config m) })
  recorded-right stored config m is s = record { stored = committed-right z stored config m (subst (λ o. IfSome o IsRight) is h.stored) s; sessions = h.sessions }

  pub does-right : (n : Option ℕ) (c : Option Arrival) (es : List Edit) → Does z w n c es → RightWorld (edits_world n es (after_came_world c w))
  does-right _ _ _ (Tells n) = h
  does-right _ _ _ (Edits k es s) = seated-right k es s w h
  does-right _ _ _ (Records k stored config m es is says s) =
      let row = committed_record z stored config m in let keeps = keeps_console (Some row) in
      seated-right k es s (console_gone_world keeps (record w { stored = Some row })) (gone-right keeps (record w { stored = Some row }) (recorded-right stored config m is (saying-sound k config says)))
  does-right _ _ _ (Removes k row es is c none s) =
      seated-right k es s (console_gone_world false (record w { stored = None })) (gone-right false (record w { stored = None }) (record { stored = tt; sessions = h.sessions }))
  does-right _ _ _ (Puts k r row is idle room) = record { stored = h.stored; sessions = kept-here EditsSound k (Some (Awaiting (w.desk.last + 1))) w.sessions tt h.sessions }
  does-right _ _ _ (Calls n c es called) = called-right n c es called
  does-right _ _ _ (Remounts n e mounted) = record { stored = h.stored; sessions = h.sessions }
  does-right _ _ _ (Consoles n es consoled) = consoled-right n es consoled

-- what a turn leaves of the sessions
pub turned-sound : (w : World) (g : Grant) → ((n : ℕ) → EditsSound (w.sessions n)) → (n : ℕ) → EditsSound ((acts_world None (turned_act (turn_act w g)) w).sessions n)
turned-sound w g h = kept_turn AllSound objects-sound (λ d w h. h) (λ t w h. kept-sweep EditsSound tt (ticket_ended t) (ticket-ends t) w.sessions h) comes-sound (turn_act w g) w h
