-- What an event leaves of the brands, and what a local turn leaves of what a zone shows and of what is stored.
use Rattle.std.proofs.Common.{◌≡◌, ◌∷◌, ◌++◌, [], ℕ, List, Bool, Option, Some, None, true, false, map, refl, ap, sym, subst, ◌∙◌}
use Rattle.std.specs.Prelude.{bytes_eq}
use Rattle.std.specs.List.{list_all}
use Rattle.std.proofs.lemmas.Bool.{false≢true}
use Rattle.kernel_objects.specs.Kernel.{zid_of}
use Rattle.kernel_objects.specs.declared.objects.Id.{Id}
use Rattle.zn_base.specs.Names.{Name}
use Rattle.zone_pools.proofs.Owned_laws.{same_true}
use Rattle.zone_pools.specs.Firsts.{first_of}
use Rattle.zone_pools.specs.declared.grant.Grant.{Grant}
use Rattle.zone_cases.specs.Session.Lines.{line_of}
use Rattle.zone_cases.specs.State.{State}
use Rattle.zone_cases.specs.State.Decisions.{Act, act_of, acts_world, after_came_world, sweeps, turned}
use Rattle.zone_cases.specs.State.Edits.{Edit, Of_objects, Set_desk, console_gone_world, edit, edit_world, edits, edits_world, keeps_console}
use Rattle.zone_cases.specs.State.Worlds.{World, view_of, world}
use Rattle.zone_cases.specs.declared.events.Entry.{Entry}
use Rattle.zone_cases.specs.declared.events.Event.{Event}
use Rattle.zone_cases.specs.declared.events.Event.TheVariants.{Process as Call_of, Restart, Session, System, Turn}
use Rattle.zone_cases.specs.declared.events.Subject.{Subject}
use Rattle.zone_cases.specs.declared.events.Subject.TheVariants.{Global, Whole, Zone}
use Rattle.zone_machine.proofs.Local_laws.{Local, local-one, local-turn, world-after}
use Rattle.zone_machine.proofs.Own_worlds.{leaves, world-one}
use Rattle.zone_machine.specs.Machine.{Answered, decide, one, session_number, session_subject, subject, whole_world}
use Rattle.zone_machine.specs.Machine.Histories.{after_entry, concerns, world_by}
use Rattle.zone_machine.specs.Machine.Local.{is_local}
use Rattle.zone_machine.specs.Shown.{shown}
use Rattle.zoneadmd_steps.specs.Arrivals.{Arrival, New_claim, New_id, New_process, New_record, No_new_thing}
use Rattle.zoneadmd_steps.specs.Desks.{Desk}
use Rattle.zoneadmd_steps.specs.Local.{is_of_own}
use Rattle.zoneadmd_steps.specs.Turns.{Turned}
use Rattle.zoneadmd_steps.specs.Objects.{Devices_are, Ids_change, Object_edit, Of_mounts, Processes_go, ids_after, keeping_zid}
use Rattle.zone_machine.proofs.Local_laws.{subject-turn}

-- the brands stay
brands-edit : (n : Option ℕ) (e : Edit) (w : World) → (edit_world n e w).brands ≡ w.brands
brands-edit n (Of_objects (Processes_go p)) w = refl
brands-edit n _ w = refl

brands-edits : (n : Option ℕ) (es : List Edit) (w : World) → (edits_world n es w).brands ≡ w.brands
brands-edits n [] w = refl
brands-edits n (e ∷ es) w = brands-edits n es (edit_world n e w) ∙ brands-edit n e w

brands-gone : (keeps : Bool) (w : World) → (console_gone_world keeps w).brands ≡ w.brands
brands-gone true w = refl
brands-gone false w = refl

brands-came : (came : Option Arrival) (w : World) → (after_came_world came w).brands ≡ w.brands
brands-came None w = refl
brands-came (Some (New_process p)) w = refl
brands-came (Some (New_id i)) w = refl
brands-came (Some (New_claim c)) w = refl
brands-came (Some (New_record row)) w = brands-gone (keeps_console row) (record w { stored = row })
brands-came (Some No_new_thing) w = refl

brands-acts : (n : Option ℕ) (a : Act) (w : World) → (acts_world n a w).brands ≡ w.brands
brands-acts n a w = brands-edits n a.effect.edits (after_came_world a.came w) ∙ brands-came a.came w

brands-whole : (e : Event) (w : World) → (whole_world e w).brands ≡ w.brands
brands-whole (Session n text) w = refl
brands-whole (Turn z) w = refl
brands-whole (Call_of z pid c) w = refl
brands-whole (System what) w = refl
brands-whole Restart w = refl

pub brands-by : (s : Subject) (z : Name) (w : World) (e : Event) (g : Grant) → (world_by s z w e g).brands ≡ w.brands
brands-by (Zone y) z w e g = at_zone (bytes_eq z y) refl
  where
    at_zone : (b : Bool) → bytes_eq z y ≡ b → (world_by (Zone y) z w e g).brands ≡ w.brands
    at_zone true is = rw is (brands-acts (session_number e) (act_of (decide (view_of z w) e) g) w)
    at_zone false is = rw is refl
brands-by Global z w e g = refl
brands-by Whole z w e g = brands-whole e w

pub brands-one : (S : State) (e : Event) (g : Grant) → (one S e g).state.brands ≡ S.brands
brands-one S e g = ap (λ (w : World). w.brands) (world-one [] S e g) ∙ brands-by (subject S e) [] (world [] S) e g

-- an id keeps its number
zid-change : (f : Id → Id) (ids : List Id) → zid_of (first_of (map (keeping_zid f) ids)) ≡ zid_of (first_of ids)
zid-change f [] = refl
zid-change f (i ∷ ids) = refl

zid-after : (es : List Object_edit) (ids : List Id) → list_all is_of_own es ≡ true → zid_of (first_of (ids_after es ids)) ≡ zid_of (first_of ids)
zid-after [] ids own = refl
zid-after (Of_mounts e ∷ es) ids own = zid-after es ids own
zid-after (Devices_are ds ∷ es) ids own = zid-after es ids own
zid-after (Ids_change f ∷ es) ids own = zid-after es (map (keeping_zid f) ids) own ∙ zid-change f ids
zid-after (_ ∷ es) ids own = absurd (false≢true own)

-- a local turn of z leaves what each zone shows
pub shown-local : (z : Name) (S : State) (e : Entry) → is_local z (world z S) e ≡ true → (y : Name) → shown (after_entry S e) y ≡ shown S y
shown-local z S e local y = at_zone (bytes_eq y z) refl
  where
    found : (t : Turned) × Local z (world z S) e t
    found = local-turn z (world z S) e local

    own : shown (after_entry S e) z ≡ shown S z
    own =
        let l = found.1 in let t = found.0 in
        ap (λ (w : World). record { active = w.desk.active; id = zid_of (first_of w.ids) }) (world-after z S e t l)
        ∙ λ i. record { active = l.stays.active i; id = zid-after t.objects (world z S).ids l.stays.own i }

    whose : subject S e.event ≡ Zone z
    whose = ap (subject S) found.1.event ∙ subject-turn S z

    at_zone : (b : Bool) → bytes_eq y z ≡ b → shown (after_entry S e) y ≡ shown S y
    at_zone true is = subst (λ x. shown (after_entry S e) x ≡ shown S x) (sym (same_true y z is)) own
    at_zone false is = ap (λ (w : World). record { active = w.desk.active; id = zid_of (first_of w.ids) }) (leaves y S e.event e.grant (ap (concerns y) whose ∙ is))

-- and all records
commits-edit : (z : Name) (n : Option ℕ) (e : Edit) (S : State) → (edit z n e S).commits ≡ S.commits
unfolding edit
commits-edit z n (Of_objects (Processes_go p)) S = refl
commits-edit z n _ S = refl

commits-edits : (z : Name) (n : Option ℕ) (es : List Edit) (S : State) → (edits z n es S).commits ≡ S.commits
commits-edits z n [] S = refl
commits-edits z n (e ∷ es) S = commits-edits z n es (edit z n e S) ∙ commits-edit z n e S

pub commits-local : (z : Name) (S : State) (e : Entry) → is_local z (world z S) e ≡ true → (after_entry S e).commits ≡ S.commits
commits-local z S e local =
    let found = local-turn z (world z S) e local in
    ap (λ (r : Answered). r.state.commits) (local-one z S e found.0 found.1) ∙ commits-edits z None (turned found.0).edits S

-- and all processes, and what each session does; so each line stays whose it was
record Holds_all (S T : State) : Type 0 where
  processes : T.processes ≡ S.processes
  sessions : T.sessions ≡ S.sessions

holds-edits : (z : Name) (es : List Object_edit) (d : Desk) (S : State) → list_all is_of_own es ≡ true → Holds_all S (edits z None (map Of_objects es ++ Set_desk d ∷ []) S)
unfolding edit
holds-edits z [] d S own = record { processes = refl; sessions = refl }
holds-edits z (Of_mounts e ∷ es) d S own = let rest = holds-edits z es d (edit z None (Of_objects (Of_mounts e)) S) own in record { processes = rest.processes; sessions = rest.sessions }
holds-edits z (Devices_are ds ∷ es) d S own = let rest = holds-edits z es d (edit z None (Of_objects (Devices_are ds)) S) own in record { processes = rest.processes; sessions = rest.sessions }
holds-edits z (Ids_change f ∷ es) d S own = let rest = holds-edits z es d (edit z None (Of_objects (Ids_change f)) S) own in record { processes = rest.processes; sessions = rest.sessions }
holds-edits z (_ ∷ es) d S own = absurd (false≢true own)

pub whose-local : (z : Name) (S : State) (e : Entry) → is_local z (world z S) e ≡ true → (n : ℕ) (text : List ℕ) → subject (after_entry S e) (Session n text) ≡ subject S (Session n text)
unfolding subject
whose-local z S e local n text =
    let found = local-turn z (world z S) e local in let t = found.0 in let l = found.1 in
    let rest = holds-edits z t.objects t.desk S l.stays.own in
    let processes : (after_entry S e).processes ≡ S.processes =
    ap (λ (r : Answered). r.state.processes) (local-one z S e t l) ∙ (ap (λ o. (edits z None (map Of_objects t.objects ++ Set_desk t.desk ∷ sweeps o) S).processes) l.stays.ended ∙ rest.processes) in
    let sessions : (after_entry S e).sessions ≡ S.sessions =
    ap (λ (r : Answered). r.state.sessions) (local-one z S e t l) ∙ (ap (λ o. (edits z None (map Of_objects t.objects ++ Set_desk t.desk ∷ sweeps o) S).sessions) l.stays.ended ∙ rest.sessions) in
    λ i. session_subject (line_of text) (processes i) (sessions i n)
