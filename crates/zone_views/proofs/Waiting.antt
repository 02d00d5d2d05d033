-- A session that waits for a ticket waits for one that its zone's daemon still has to answer, after any history; and a request is of
-- a zone that is stored.
use Rattle.std.proofs.Common.{◌≡◌, ◌≢◌, ◌||◌, ◌⊎◌, ◌+◌, ◌∷◌, ◌++◌, [], ◌∙◌, ℕ, List, Bool, Option, Some, None, Result, Ok as Right, Err, true, false, ap, inl, inr, map, nat_eq, not, refl, subst, sym}
use Rattle.std.specs.Prelude.{is_some, unwrap_or, if◌then◌else◌}
use Rattle.std.specs.List.{list_any}
use Rattle.std.proofs.lemmas.Bool.{and_from, eq-eqb, eqb-true, false≢true}
use Rattle.zn_base.specs.Names.{Name}
use Rattle.brand_hooks.specs.Brands.{Tabled, answer_of}
use Rattle.brand_hooks.specs.declared.table.HookAnswer.{HookAnswer}
use Rattle.brand_hooks.specs.declared.table.HookAnswer.TheVariants.{Proceed, Refuse}
use Rattle.commit_journal.specs.declared.records.Commit.{Commit}
use Rattle.commit_journal.specs.declared.records.Record.{Record}
use Rattle.config_terms.specs.declared.fault.ConfigFault.{ConfigFault}
use Rattle.loopback_mounts.specs.Mounts.{is_at, is_held, mount_at}
use Rattle.zone_config.specs.declared.terms.Contents.{Contents}
use Rattle.zone_pools.specs.Decisions as decisions
use Rattle.zone_pools.specs.Firsts.{is_nil}
use Rattle.zone_pools.specs.Decisions.{Just}
use Rattle.zone_pools.specs.Owned_lists.{Go}
use Rattle.zone_pools.specs.declared.grant.Grant.{Grant}
use Rattle.zoneadmd_steps.specs.Arrivals.{Arrival, New_record}
use Rattle.zoneadmd_steps.specs.Configs.{root_dir, with_zonepath}
use Rattle.zoneadmd_steps.specs.Desks.{Desk, Fails, Goes as Goes_on, Job, Stage, has_request, with_request}
use Rattle.zoneadmd_steps.specs.Objects.{Object_edit, Objects, Of_mounts, Process_goes, Processes_go}
use Rattle.zoneadmd_steps.specs.Plans.{kind_of, refusal}
use Rattle.zoneadmd_steps.specs.Turns.{A_claim_left, A_mount, A_step, Next, Nothing_left, Seen, Turn_decision, Turned, begin, finish, hooked, local_job, local_next, local_stage, local_step, local_turn, local_undo, new_path, next, next_request, or_shared, over, record_config, shared_next, shared_stage, shared_step, shared_turn, started, stuck, turn, undo_edits, undone}
use Rattle.zoneadmd_steps.specs.declared.requests.Outcome.{Outcome}
use Rattle.zoneadmd_steps.specs.declared.requests.Outcome.TheVariants.{Done}
use Rattle.zoneadmd_steps.specs.declared.requests.Request.{Request}
use Rattle.zoneadmd_steps.specs.declared.requests.Request.TheVariants as request
use Rattle.zoneadmd_steps.specs.declared.requests.Step.{Step}
use Rattle.zoneadmd_steps.specs.declared.requests.Step.TheVariants.{Hook, Record as Record_step, Moved, Source, Zid, Root, Mounted, Claimed, Init}
use Rattle.zoneadmd_steps.specs.declared.requests.TurnReply.TheVariants.{Idle as No_work}
use Rattle.zone_cases.specs.State.{At, At_console, Awaiting, Doing, Editing, Logged_in}
use Rattle.zone_cases.specs.State.Decisions.{act_of, acts_world, after_came_world, says, sweeps, ticket_ended}
use Rattle.zone_cases.specs.State.Edits.{Edit, Of_objects, Set_desk, comes_world, console_gone_world, edit_world, edits_world, keeps_console, login_ended, logins_ended, swept_doing}
use Rattle.zone_cases.specs.State.Worlds.{World, doing, objects_of, seen_of, view_of, world}
use Rattle.zone_cases.specs.Session.Commits.{committed_record}
use Rattle.zone_cases.specs.declared.events.Entry.{Entry}
use Rattle.zone_cases.specs.declared.events.Event.{Event}
use Rattle.zone_cases.specs.declared.events.Event.TheVariants.{Turn}
use Rattle.zone_cases.specs.declared.replies.Head.TheVariants.{Turned as Told}
use Rattle.zone_machine.proofs.Local_laws.{busy-turn}
use Rattle.zone_machine.proofs.Turned_laws.{In, in-act, stored_after, turn_act}
use Rattle.zone_machine.specs.Code.Works.{turned_act}
use Rattle.zone_machine.specs.Machine.{decide, one, opening, session_number}
use Rattle.zone_machine.specs.Machine.Histories.{after}
use Rattle.zone_machine.specs.Machine.Local.{job_has_record}
use Rattle.zone_views.proofs.Deciding.{Attaches, Called, Calls, Comes, Consoled, Consoles, Detaches, Does, Drops, Edits, Enters, Forks, Goes, Is_seated, Leaves_off, Opens as Opens_editor, Puts, Records, Remounts, Removes, Renames, Says, Seat, Seated, Stores, Takes, Tells, Unseated, Writes, of_any, of_turned}
use Rattle.zone_views.proofs.Keeping.{doing_at, kept-after}
use Rattle.zone_views.proofs.Seating.{kept-gone, kept-here, kept-sweep, login-ends, logins-end}
use Rattle.zone_views.specs.Tickets.{is_open, is_under_way}

-- each ticket that was open stays so, or ends
abbrev StaysOpen : (d e : Desk) → (ended : Option ℕ) → Type 0
StaysOpen d e ended = (u : ℕ) → is_open u d ≡ true → (is_open u e ≡ true) ⊎ (ended ≡ Some u)

-- a request is of a stored zone
abbrev OfStored : Desk → Option Record → Type 0
OfStored d row = has_request d ≡ true → is_some row ≡ true

-- what a turn keeps
abbrev Answers : Option Record → Desk → Option Arrival → Turned → Type 0
Answers row d c t = StaysOpen d t.desk t.ended × OfStored t.desk (stored_after c row)

abbrev AnswersIn : Option Record → Desk → Turn_decision → Type 0
AnswersIn row d decision = In (Answers row d) decision

-- whether a ticket waits
abbrev waits : ℕ → List (ℕ × Request) → Bool
waits u rs = list_any (λ r. nat_eq u r.0) rs

-- a turn of a stored zone
module _ (o : Objects) (declared : List (List ℕ)) (brands : List Tabled) (row : Record) (d : Desk) where
  abbrev v : Seen
  v = record { desk = d; objects = o; stored = Some row; declared = declared; brands = brands }

  abbrev AnswersBoth : Turn_decision → Option Turned → Type 0
  AnswersBoth shared local = AnswersIn (Some row) d (or_shared shared local)

  abbrev Answered : Turned → Type 0
  Answered t = Answers (Some row) d None t

  answers_if : (b : Bool) (t u : Turned) → Answered t → Answered u → Answered (if b then t else u)
  answers_if true t u h k = h
  answers_if false t u h k = k

  -- nothing changes on the desk
  still : Answered (stuck d)
  still = (λ u h. inl h, λ h. refl)

  -- the ticket of a request, and those that wait then, are all that were open
  module _ (waiting : List (ℕ × Request)) (t : ℕ) (all : (u : ℕ) → is_open u d ≡ true → (nat_eq u t || waits u waiting) ≡ true) where
    answers_finish : (outcome : Outcome) → Answered (finish (record d { waiting = waiting }) t outcome)
    answers_finish outcome = (λ u h. at_ticket u (nat_eq u t) refl (all u h), λ h. refl)
      where
        at_ticket : (u : ℕ) (b : Bool) → nat_eq u t ≡ b → (b || waits u waiting) ≡ true → (waits u waiting ≡ true) ⊎ (Some t ≡ Some u)
        at_ticket u true e h = inr (ap Some (sym (eqb-true u t e)))
        at_ticket u false e h = inl h

    answers_begin : (r : Request) → Answered (begin brands (record d { waiting = waiting }) t r row)
    answers_begin r = at_outcome (refusal brands (kind_of r) (unwrap_or d.active row.state) row.config)
      where
        at_outcome : (outcome : Option Outcome) → Answered (started brands (record d { waiting = waiting }) t r (unwrap_or d.active row.state) row outcome)
        at_outcome None = (λ u h. inl (all u h), λ h. refl)
        at_outcome (Some outcome) = answers_finish outcome

  -- a request under way
  module _ (j : Job) (is : d.job ≡ Some j) where
    its : (u : ℕ) → is_open u d ≡ true → (nat_eq u j.ticket || waits u d.waiting) ≡ true
    its u h = subst (λ (job : Option Job). (is_under_way u job || waits u d.waiting) ≡ true) is h

    -- it goes on
    on : (u : ℕ) → is_open u d ≡ true → ((nat_eq u j.ticket || waits u d.waiting) ≡ true) ⊎ (None ≡ Some u)
    on u h = inl (its u h)

    answers_config : (rest : List Step) (path : List ℕ) (r : Result Contents ConfigFault) → AnswersIn (Some row) d (record_config d j rest path row r)
    answers_config rest path (Err fault) = (on, λ h. refl)
    answers_config rest path (Right config) = (λ pool. (on, λ h. refl), λ n. (on, λ h. refl))

    answers_step : (rest : List Step) (s : Step) → AnswersBoth (shared_step v j rest s) (local_step brands o d j rest s)
    answers_step rest (Hook change) = at_answer (answer_of brands j.brand change)
      where
        at_answer : (answer : HookAnswer) → Answered (hooked d j rest change answer)
        at_answer Proceed = (on, λ h. refl)
        at_answer (Refuse code) = (on, λ h. refl)
    answers_step rest (Record_step s) = (λ pool. (on, λ h. refl), λ n. (on, λ h. refl))
    answers_step rest Moved = answers_config rest (new_path j.request) (with_zonepath (new_path j.request) row.config)
    answers_step rest (Source z) = (λ pool. (on, λ h. refl), λ n. (on, λ h. refl))
    answers_step rest (Zid id) = (λ pool. (on, λ h. refl), λ n. (on, λ h. refl))
    answers_step rest (Claimed c) = (λ pool. (on, λ h. refl), λ n. (on, λ h. refl))
    answers_step rest (Init pid) = (λ pool. (on, λ h. refl), λ n. (on, λ h. refl))
    answers_step rest _ = (on, λ h. refl)

    answers_over : (r : Request) → AnswersIn (Some row) d (over brands d j (Some row) r)
    answers_over (request.Reboot args) = answers_begin d.waiting j.ticket its (request.Boot args)
    answers_over _ = answers_finish d.waiting j.ticket its Done

    answers_next : (n : Next) → AnswersBoth (shared_next v j n) (local_next brands o d j n)
    answers_next Nothing_left = answers_over j.request
    answers_next (A_step s rest) = answers_step rest s
    answers_next (A_mount m left) = answers_if m.held (stuck d) _ still ((on, λ h. refl))
    answers_next (A_claim_left c left) = (on, λ h. refl)

    -- a step back
    answers_undo : (outcome : Outcome) (rest : List Step) (s : Step) → AnswersBoth (Just (undone d j outcome rest (undo_edits s) s)) (local_undo o d j outcome rest s)
    answers_undo outcome rest Root = answers_if (is_held (mount_at root_dir o.mounts)) (stuck d) (undone d j outcome rest (Of_mounts (Go (is_at root_dir)) ∷ []) Root) still ((on, λ h. refl))
    answers_undo outcome rest (Mounted dir) = answers_if (is_held (mount_at dir o.mounts)) (stuck d) (undone d j outcome rest (Of_mounts (Go (is_at dir)) ∷ []) (Mounted dir)) still ((on, λ h. refl))
    answers_undo outcome rest _ = (on, λ h. refl)

    answers_stage : (stage : Stage) → AnswersBoth (shared_stage v j stage) (local_stage brands o d j stage)
    answers_stage (Goes_on left) = answers_next (next o left)
    answers_stage (Fails outcome []) = answers_finish d.waiting j.ticket its outcome
    answers_stage (Fails outcome (s ∷ rest)) = answers_undo outcome rest s

  answers_request : d.job ≡ None → (waiting : List (ℕ × Request)) → d.waiting ≡ waiting → AnswersIn (Some row) d (next_request brands d waiting (Some row))
  answers_request none [] is = (λ u h. inl h, λ h. refl)
  answers_request none (r ∷ rs) is = answers_begin rs r.0 (λ u h. subst (λ ws. waits u ws ≡ true) is (subst (λ (job : Option Job). (is_under_way u job || waits u d.waiting) ≡ true) none h)) r.1

  answers_job : (job : Option Job) → d.job ≡ job → AnswersBoth (shared_turn v job) (local_job brands o d job)
  answers_job None is = answers_request is d.waiting refl
  answers_job (Some j) is = answers_stage j is j.stage

  answers_stored : AnswersIn (Some row) d (turn v)
  unfolding turn local_turn
  answers_stored = answers_job d.job refl

-- a zone that isn't stored has no request, so nothing changes
answers_nothing : (o : Objects) (declared : List (List ℕ)) (brands : List Tabled) (d : Desk) → OfStored d None
    → AnswersIn None d (turn (record { desk = d; objects = o; stored = None; declared = declared; brands = brands }))
unfolding turn local_turn
answers_nothing o declared brands d h = at_job d.job d.waiting h
  where
    at_job : (job : Option Job) (waiting : List (ℕ × Request)) → (let e = record d { job = job; waiting = waiting } in OfStored e None
        → AnswersIn None e (or_shared (shared_turn (record { desk = e; objects = o; stored = None; declared = declared; brands = brands }) job) (local_job brands o e job)))
    at_job (Some j) waiting h = absurd (false≢true (h refl))
    at_job None (r ∷ rs) h = absurd (false≢true (h refl))
    at_job None [] h = (λ u h. inl h, h)

answers_turn : (o : Objects) (declared : List (List ℕ)) (brands : List Tabled) (row : Option Record) (d : Desk) → OfStored d row
    → AnswersIn row d (turn (record { desk = d; objects = o; stored = row; declared = declared; brands = brands }))
answers_turn o declared brands None d h = answers_nothing o declared brands d h
answers_turn o declared brands (Some row) d h = answers_stored o declared brands row d

-- a session waits for a ticket that is open on this desk
abbrev IsOpen : Desk → Option Doing → Type 0
IsOpen d None = Unit {0}
IsOpen d (Some (Awaiting t)) = is_open t d ≡ true
IsOpen d (Some (Editing e)) = Unit {0}
IsOpen d (Some (Logged_in pid escape)) = Unit {0}
IsOpen d (Some (At_console escape)) = Unit {0}

record Served (w : World) : Type 0 where
  stored : OfStored w.desk w.stored
  tickets : (k : ℕ) → IsOpen w.desk (w.sessions k)

comes_open : (e : Desk) (c : Arrival) (w : World) → ((k : ℕ) → IsOpen e (w.sessions k)) → (k : ℕ) → IsOpen e ((comes_world c w).sessions k)
comes_open e (New_record row) w h = kept-gone (IsOpen e) tt (keeps_console row) (record w { stored = row }) h
comes_open e c w h = h

-- a turn that leaves this desk: who waits for a ticket that ended is idle again
module _ (d e : Desk) where
  none_ended : StaysOpen d e None → (o : Option Doing) → IsOpen d o → IsOpen e o
  none_ended all None h = tt
  none_ended all (Some (Awaiting u)) h = at_open (all u h)
    where
      at_open : (is_open u e ≡ true) ⊎ (None ≡ Some u) → is_open u e ≡ true
      at_open (inl stays) = stays
      at_open (inr ended) = absurd (cc)
  none_ended all (Some (Editing c)) h = tt
  none_ended all (Some (Logged_in p escape)) h = tt
  none_ended all (Some (At_console escape)) h = tt

  one_ended : (t : ℕ) → StaysOpen d e (Some t) → (o : Option Doing) → IsOpen d o → IsOpen e (swept_doing (ticket_ended t) o)
  one_ended t all None h = tt
  one_ended t all (Some (Awaiting u)) h = at_ticket (nat_eq t u) refl (all u h)
    where
      at_ticket : (b : Bool) → nat_eq t u ≡ b → (is_open u e ≡ true) ⊎ (Some t ≡ Some u) → IsOpen e (if b then None else Some (Awaiting u))
      at_ticket true is h = tt
      at_ticket false is (inl stays) = stays
      at_ticket false is (inr ended) = let same : t ≡ u = cc in absurd (false≢true (sym is ∙ eq-eqb t u same))
  one_ended t all (Some (Editing c)) h = tt
  one_ended t all (Some (Logged_in p escape)) h = tt
  one_ended t all (Some (At_console escape)) h = tt

  edits_open : (es : List Object_edit) (ended : Option ℕ) → StaysOpen d e ended → (w : World) → ((k : ℕ) → IsOpen d (w.sessions k)) → (k : ℕ) → IsOpen e ((edits_world None (map Of_objects es ++ Set_desk e ∷ sweeps ended) w).sessions k)
  edits_open [] None all w h k = none_ended all (w.sessions k) (h k)
  edits_open [] (Some t) all w h k = one_ended t all (w.sessions k) (h k)
  edits_open (Processes_go p ∷ es) ended all w h k = edits_open es ended all (edit_world None (Of_objects (Processes_go p)) w) (kept-sweep (IsOpen d) tt logins_ended logins-end w.sessions h) k
  edits_open (Process_goes pid ∷ es) ended all w h k = edits_open es ended all (edit_world None (Of_objects (Process_goes pid)) w) (kept-sweep (IsOpen d) tt (login_ended pid) (login-ends pid) w.sessions h) k
  edits_open (x ∷ es) ended all w h k = edits_open es ended all (edit_world None (Of_objects x) w) h k

turned_open : (a : decisions.Act Arrival Turned) (w : World) → StaysOpen w.desk a.effect.desk a.effect.ended → ((k : ℕ) → IsOpen w.desk (w.sessions k))
    → (k : ℕ) → IsOpen a.effect.desk ((acts_world None (turned_act a) w).sessions k)
turned_open a w all h = at_came a.came
  where
    at_came : (c : Option Arrival) → (k : ℕ) → IsOpen a.effect.desk ((acts_world None (turned_act (record a { came = c })) w).sessions k)
    at_came None = edits_open w.desk a.effect.desk a.effect.objects a.effect.ended all w h
    at_came (Some c) = edits_open w.desk a.effect.desk a.effect.objects a.effect.ended all (comes_world c w) (comes_open w.desk c w h)

turn_served : (w : World) (g : Grant) → Served w → Served (acts_world None (turned_act (turn_act w g)) w)
turn_served w g h =
    let answers = in-act (Answers w.stored w.desk) (turn (seen_of w)) g (answers_turn (objects_of w) w.declared.devices w.brands w.stored w.desk h.stored) in
    let v = acts_world None (turned_act (turn_act w g)) w in record {
      stored = of_turned (λ row ms d. OfStored d row) w g answers.1;
      tickets = of_turned (λ row ms d. (k : ℕ) → IsOpen d (v.sessions k)) w g (turned_open (turn_act w g) w answers.0 h.tickets);
    }

-- a request that waits leaves open what is open, and its own ticket is open
waits_more : (u : ℕ) (waiting : List (ℕ × Request)) (r : ℕ × Request) → (waits u waiting ≡ true) ⊎ (u ≡ r.0) → waits u (waiting ++ r ∷ []) ≡ true
waits_more u [] r (inl h) = absurd (false≢true h)
waits_more u [] r (inr same) = rw (eq-eqb u r.0 same) refl
waits_more u (x ∷ waiting) r h = at_head (waits_more u waiting r) (nat_eq u x.0) h
  where
    at_head : ((waits u waiting ≡ true) ⊎ (u ≡ r.0) → waits u (waiting ++ r ∷ []) ≡ true) → (b : Bool) → ((b || waits u waiting) ≡ true) ⊎ (u ≡ r.0) → (b || waits u (waiting ++ r ∷ [])) ≡ true
    at_head more true h = refl
    at_head more false h = more h

put_open : (d : Desk) (r : Request) (o : Option Doing) → IsOpen d o → IsOpen (with_request d r) o
put_open d r None h = tt
put_open d r (Some (Awaiting u)) h = at_job (is_under_way u d.job) h
  where
    at_job : (b : Bool) → (b || waits u d.waiting) ≡ true → (b || waits u (d.waiting ++ (d.last + 1, r) ∷ [])) ≡ true
    at_job true h = refl
    at_job false h = waits_more u d.waiting (d.last + 1, r) (inl h)
put_open d r (Some (Editing c)) h = tt
put_open d r (Some (Logged_in p escape)) h = tt
put_open d r (Some (At_console escape)) h = tt

new_open : (d : Desk) (r : Request) → is_open (d.last + 1) (with_request d r) ≡ true
new_open d r = at_job (is_under_way (d.last + 1) d.job)
  where
    at_job : (b : Bool) → (b || waits (d.last + 1) (d.waiting ++ (d.last + 1, r) ∷ [])) ≡ true
    at_job true = refl
    at_job false = waits_more (d.last + 1) d.waiting (d.last + 1, r) (inr refl)

-- any other event
module _ (z : Name) (w : World) (h : Served w) where
  seat_open : (k : ℕ) (e : Desk) (d : Option Doing) → Seat z w k d → IsOpen e d
  seat_open k e _ (Opens_editor base is idle) = tt
  seat_open k e _ (Leaves_off c there) = tt
  seat_open k e _ (Says c text there) = tt
  seat_open k e _ (Stores c text config m there ends shown) = tt

  seated_served : (k : ℕ) (es : List Edit) → Seated z w k es → (v : World) → Served v → Served (edits_world (Some k) es v)
  seated_served k _ Unseated v is = is
  seated_served k _ (Is_seated d s) v is = record { stored = is.stored; tickets = kept-here (IsOpen v.desk) k d v.sessions (seat_open k v.desk d s) is.tickets }

  called_served : (n : Option ℕ) (c : Option Arrival) (es : List Edit) → Called w n c es → Served (edits_world n es (after_came_world c w))
  called_served _ _ _ (Forks n parent pid p name is) = record { stored = h.stored; tickets = h.tickets }
  called_served _ _ _ (Enters k pid name escape running idle) = record { stored = h.stored; tickets = kept-here (IsOpen w.desk) k (Some (Logged_in pid escape)) w.sessions tt h.tickets }
  called_served _ _ _ (Comes k pid name running) = record { stored = h.stored; tickets = h.tickets }
  called_served _ _ _ (Goes n pid) = record { stored = h.stored; tickets = kept-sweep (IsOpen w.desk) tt (login_ended pid) (login-ends pid) w.sessions h.tickets }
  called_served _ _ _ (Renames n pid name) = record { stored = h.stored; tickets = h.tickets }
  called_served _ _ _ (Drops n pid number) = record { stored = h.stored; tickets = h.tickets }

  consoled_served : (n : Option ℕ) (es : List Edit) → Consoled w n es → Served (edits_world n es w)
  consoled_served _ _ (Writes n text) = record { stored = h.stored; tickets = h.tickets }
  consoled_served _ _ (Takes n) = record { stored = h.stored; tickets = h.tickets }
  consoled_served _ _ (Attaches k escape idle free) = record { stored = h.stored; tickets = kept-here (IsOpen w.desk) k (Some (At_console escape)) w.sessions tt h.tickets }
  consoled_served _ _ (Detaches k escape there) = record { stored = h.stored; tickets = kept-here (IsOpen w.desk) k None w.sessions tt h.tickets }

  recorded_served : (row : Record) (keeps : Bool) → Served (console_gone_world keeps (record w { stored = Some row }))
  recorded_served row true = record { stored = λ r. refl; tickets = h.tickets }
  recorded_served row false = record { stored = λ r. refl; tickets = kept-gone (IsOpen w.desk) tt false w h.tickets }

  removed_served : has_request w.desk ≡ false → Served (console_gone_world false (record w { stored = None }))
  removed_served none = record { stored = λ r. absurd (false≢true (sym none ∙ r)); tickets = kept-gone (IsOpen w.desk) tt false w h.tickets }

  does_served : (n : Option ℕ) (c : Option Arrival) (es : List Edit) → Does z w n c es → Served (edits_world n es (after_came_world c w))
  does_served _ _ _ (Tells n) = h
  does_served _ _ _ (Edits k es s) = seated_served k es s w h
  does_served _ _ _ (Records k stored config m es is says s) =
      let row = committed_record z stored config m in let keeps = keeps_console (Some row) in
      seated_served k es s (console_gone_world keeps (record w { stored = Some row })) (recorded_served row keeps)
  does_served _ _ _ (Removes k row es is c none s) = seated_served k es s (console_gone_world false (record w { stored = None })) (removed_served none)
  does_served _ _ _ (Puts k r row is idle room) = record {
    stored = λ q. ap is_some is;
    tickets = kept-here (IsOpen (with_request w.desk r)) k (Some (Awaiting (w.desk.last + 1))) w.sessions (new_open w.desk r) (λ j. put_open w.desk r (w.sessions j) (h.tickets j));
  }
  does_served _ _ _ (Calls n c es called) = called_served n c es called
  does_served _ _ _ (Remounts n e mounted) = record { stored = h.stored; tickets = h.tickets }
  does_served _ _ _ (Consoles n es consoled) = consoled_served n es consoled

served-event : (z : Name) (w : World) (e : Event) (g : Grant) → Served w → Served (acts_world (session_number e) (act_of (decide (view_of z w) e) g) w)
served-event z w e g h = of_any z w Served (λ v is. does_served z v is) h g (turn_served w g h) e

served : (z : Name) (brands : List Tabled) (commits : List Commit) (h : List Entry) → Served (world z (after (opening brands commits) h))
served z brands commits h =
    kept-after Served served-event (λ w d h. record { stored = h.stored; tickets = h.tickets }) (λ w h. record { stored = λ r. absurd (false≢true r); tickets = λ k. tt })
    (opening brands commits) h (λ z. record { stored = λ r. absurd (false≢true r); tickets = λ k. tt }) z

record-if : (under waits row : Bool) → ((under || waits) ≡ true → row ≡ true) → (not under || row) ≡ true
record-if true waits row f = f refl
record-if false waits row f = refl

-- a request under way is of a stored zone
pub record-history : (z : Name) (brands : List Tabled) (commits : List Commit) (h : List Entry) → job_has_record (world z (after (opening brands commits) h)) ≡ true
record-history z brands commits h =
    let w = world z (after (opening brands commits) h) in record-if (is_some w.desk.job) (not (is_nil w.desk.waiting)) (is_some w.stored) (served z brands commits h).stored

pub open-history : (z : Name) (brands : List Tabled) (commits : List Commit) (h : List Entry) (n ticket : ℕ)
    → (let S = after (opening brands commits) h in S.sessions n ≡ At z (Awaiting ticket) → is_open ticket (S.desks z) ≡ true)
open-history z brands commits h n ticket is =
    let S = after (opening brands commits) h in subst (IsOpen (S.desks z)) (ap (doing z) is ∙ doing_at z (Awaiting ticket)) ((served z brands commits h).tickets n)

-- a zone with an open ticket has a request
has_open : (t : ℕ) (d : Desk) → is_open t d ≡ true → has_request d ≡ true
has_open t d h = at_job d.job d.waiting h
  where
    at_job : (job : Option Job) (waiting : List (ℕ × Request)) → (is_under_way t job || waits t waiting) ≡ true → has_request (record d { job = job; waiting = waiting }) ≡ true
    at_job (Some j) waiting h = refl
    at_job None (r ∷ rs) h = refl
    at_job None [] h = absurd (false≢true h)

pub awake-history : (z : Name) (brands : List Tabled) (commits : List Commit) (h : List Entry) (n ticket : ℕ) (g : Grant)
    → (let S = after (opening brands commits) h in S.sessions n ≡ At z (Awaiting ticket) → (one S (Turn z) g).reply ≢ says (Told No_work))
awake-history z brands commits h n ticket g is =
    let S = after (opening brands commits) h in let has = has_open ticket (S.desks z) (open-history z brands commits h n ticket is) in
    busy-turn z S g (and_from _ _ ((served z brands commits h).stored has) has)
