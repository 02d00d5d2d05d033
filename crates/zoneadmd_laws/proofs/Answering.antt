-- What one turn of a request under way answers.
use Rattle.brand_hooks.specs.Brands.{Tabled, answer_of, place_of}
use Rattle.brand_hooks.specs.declared.change.Change.{Change}
use Rattle.brand_hooks.specs.declared.table.HookAnswer.TheVariants.{Proceed, Refuse}
use Rattle.brand_hooks.specs.declared.table.HookAnswer.{HookAnswer}
use Rattle.commit_journal.specs.declared.records.Record.{Record}
use Rattle.config_terms.specs.declared.fault.ConfigFault.{ConfigFault}
use Rattle.kernel_objects.specs.Processes.{count_of}
use Rattle.loopback_mounts.specs.Mounts.{is_at, is_held, mount_at}
use Rattle.std.proofs.Common.{Result, Ok, Err}
use Rattle.std.proofs.Common.{◌≡◌, ◌⊎◌, ℕ, List, [], ◌∷◌, Bool, true, false, is_some, length, Option, Some, None, if◌then◌else◌, sym, refl, inl, inr, true≢false}
use Rattle.zn_base.specs.declared.state.ZoneState.{ZoneState}
use Rattle.zone_config.specs.declared.terms.Contents.{Contents}
use Rattle.zone_pools.specs.Decisions.{Ask, Just}
use Rattle.zone_pools.specs.Owned_lists.{Go}
use Rattle.zone_pools.specs.declared.grant.Grant.TheVariants.{Nothing, Number, Yes, Denied}
use Rattle.zone_pools.specs.declared.grant.Grant.{Grant}
use Rattle.zone_pools.specs.declared.grant.Pool.TheVariants.{Store}
use Rattle.zone_pools.specs.declared.grant.Pool.{Pool}
use Rattle.zoneadmd_laws.specs.Afters.{After, after, come, done}
use Rattle.zoneadmd_laws.specs.Items.{given}
use Rattle.zoneadmd_laws.specs.Shapes.{only_ends}
use Rattle.zoneadmd_laws.specs.Trails.{bare, is_done}
use Rattle.zoneadmd_steps.specs.Arrivals.{arrived}
use Rattle.zoneadmd_steps.specs.Configs.{devices_by, root_dir, with_zonepath}
use Rattle.zoneadmd_steps.specs.Desks.{Desk, Fails, Goes, Job, Progress, Stage}
use Rattle.zoneadmd_steps.specs.Objects.{Of_mounts, zid_of}
use Rattle.zoneadmd_steps.specs.Plans.{kept_of}
use Rattle.zoneadmd_steps.specs.Turns.{A_step, Next, Seen, Turn_decision, finish, hooked, local_next, local_turn, local_undo, new_path, next, or_shared, record_config, record_moved, record_state, shared_next, size_in, stuck, turn, undo_edits, undone, with_step}
use Rattle.zoneadmd_steps.specs.declared.requests.Outcome.TheVariants as outcome
use Rattle.zoneadmd_steps.specs.declared.requests.Outcome.{Outcome}
use Rattle.zoneadmd_steps.specs.declared.requests.Request.{Request}
use Rattle.zoneadmd_steps.specs.declared.requests.Step.TheVariants as step
use Rattle.zoneadmd_steps.specs.declared.requests.Step.{Step}
use Rattle.zoneadmd_steps.specs.declared.requests.TurnReply.TheVariants.{Stepped, Failed, Undone, Stuck, Finished}

-- what a job keeps as it begins, a job by its parts, and a zone with it under way
abbrev pub Kept : Type 0
Kept = Option ℕ × Contents

abbrev pub J : ℕ → Request → Kept → Progress → Stage → Job
J t r c done stage = record { ticket = t; request = r; brand = c.0; config = c.1; done = done; stage = stage }

-- what a request keeps of a configuration
abbrev pub kept_now : List Tabled → Request → Contents → Kept
kept_now brands r c = (place_of c.brand brands, kept_of r c)

abbrev pub at_job : Seen → Job → Seen
at_job w j = record w { desk = record w.desk { job = Some j } }

pub is_at_job : (w : Seen) (j : Job) → w.desk.job ≡ Some j → w ≡ at_job w j
is_at_job w j h = λ i. record w { desk = record w.desk { job = h i } }

-- what a turn decides by what is next
abbrev pub on_next : Seen → Job → Next → Turn_decision
on_next w j n = or_shared (shared_next w j n) (local_next w.brands w.objects w.desk j n)

pub turn_goes : (w : Seen) (t : ℕ) (r : Request) (c : Kept) (done : Progress) (left : List Step)
    → let j = J t r c done (Goes left) in let v = at_job w j in turn v ≡ on_next v j (next v.objects left)
unfolding turn local_turn
turn_goes w t r c done left = refl

-- a step is done
pub record Did (j : Job) (s : Step) (rest : List Step) (a : After) : Type 0 where
  pub shown : Step
  pub same : bare shown ≡ bare s
  pub reply : a.reply ≡ Stepped shown
  pub job : a.seen.desk.job ≡ Some (record j { done = with_step shown j.done; stage = Goes rest })

-- a step failed
pub record Did_fail (j : Job) (a : After) : Type 0 where
  pub outcome : Outcome
  pub fault : is_done outcome ≡ false
  pub reply : a.reply ≡ Failed j.done.place outcome
  pub job : a.seen.desk.job ≡ Some (record j { done = record j.done { made = [] }; stage = Fails outcome j.done.made })

abbrev pub Dids : Job → Step → List Step → After → Type 0
Dids j s rest a = Did j s rest a ⊎ Did_fail j a

-- what a decision does and leaves is so, whatever is granted
abbrev pub In : (After → Type 0) → Seen → Turn_decision → Type 0
In P w (Just e) = P (done e w)
In P w (Ask c asked denied given) = ((p : Pool) → P (done (denied p) w)) × ((n : ℕ) → P (done (given n) (come (Some (arrived c n)) w)))

pub in_after : (P : After → Type 0) (w : Seen) (d : Turn_decision) (g : Grant) → In P w d → P (after d g w)
in_after P w (Just e) g h = h
in_after P w (Ask c asked denied given) (Number n) h = h.1 n
in_after P w (Ask c asked denied given) Yes h = h.1 0
in_after P w (Ask c asked denied given) (Denied p) h = h.0 p
in_after P w (Ask c asked denied given) Nothing h = h.0 Store

abbrev did : (j : Job) (s shown : Step) (rest : List Step) (a : After) → bare shown ≡ bare s → a.reply ≡ Stepped shown → a.seen.desk.job ≡ Some (record j { done = with_step shown j.done; stage = Goes rest }) → Dids j s rest a
did j s shown rest a e r h = inl (record { shown = shown; same = e; reply = r; job = h })

abbrev didn't : (j : Job) (s : Step) (rest : List Step) (o : Outcome) (a : After) → is_done o ≡ false → a.reply ≡ Failed j.done.place o → a.seen.desk.job ≡ Some (record j { done = record j.done { made = [] }; stage = Fails o j.done.made }) → Dids j s rest a
didn't j s rest o a f r h = inr (record { outcome = o; fault = f; reply = r; job = h })

hooked_did : (d : Desk) (j : Job) (rest : List Step) (change : Change) (answer : HookAnswer) (w : Seen)
    → In (Dids j (step.Hook change) rest) w (Just (hooked d j rest change answer))
hooked_did d j rest change Proceed w = did j (step.Hook change) (step.Hook change) rest _ refl refl refl
hooked_did d j rest change (Refuse code) w = didn't j (step.Hook change) rest (outcome.HookRefused code) _ refl refl refl

state_did : (d : Desk) (j : Job) (rest : List Step) (s : ZoneState) (row : Option Record) (w : Seen) → is_some row ≡ true
    → In (Dids j (step.Record s) rest) w (record_state d j rest s row)
state_did d j rest s None w h = absurd (true≢false (sym h))
state_did d j rest s (Some row) w h = (λ p. didn't j (step.Record s) rest (outcome.Denied p) _ refl refl refl, λ n. did j (step.Record s) (step.Record s) rest _ refl refl refl)

moved_did : (d : Desk) (j : Job) (rest : List Step) (path : List ℕ) (row : Option Record) (w : Seen) → is_some row ≡ true
    → In (Dids j step.Moved rest) w (record_moved d j rest path row)
moved_did d j rest path None w h = absurd (true≢false (sym h))
moved_did d j rest path (Some row) w h = at_config (with_zonepath path row.config)
  where
    at_config : (c : Result Contents ConfigFault) → In (Dids j step.Moved rest) w (record_config d j rest path row c)
    at_config (Err f) = didn't j step.Moved rest (outcome.TooLarge (size_in f)) _ refl refl refl
    at_config (Ok config) = (λ p. didn't j step.Moved rest (outcome.Denied p) _ refl refl refl, λ n. did j step.Moved step.Moved rest _ refl refl refl)

-- a step of a plan: its turn shows it, or it failed
pub step_did : (w : Seen) (j : Job) (s : Step) (rest : List Step) → is_some w.stored ≡ true
    → In (Dids j s rest) w (on_next w j (A_step s rest))
step_did w j (step.Hook change) rest h = hooked_did w.desk j rest change (answer_of w.brands j.brand change) w
step_did w j (step.Record s) rest h = state_did w.desk j rest s w.stored w h
step_did w j step.Moved rest h = moved_did w.desk j rest (new_path j.request) w.stored w h
step_did w j (step.Source z) rest h = (λ p. didn't j (step.Source z) rest (outcome.Denied p) _ refl refl refl, λ n. did j (step.Source z) (step.Source z) rest _ refl refl refl)
step_did w j (step.Zid o) rest h = (λ p. didn't j (step.Zid o) rest (outcome.Denied p) _ refl refl refl, λ n. did j (step.Zid o) (step.Zid (Some n)) rest _ refl refl refl)
step_did w j (step.Claimed c) rest h = (λ p. didn't j (step.Claimed c) rest (outcome.Denied p) _ refl refl refl, λ n. did j (step.Claimed c) (step.Claimed c) rest _ refl refl refl)
step_did w j (step.Init o) rest h = (λ p. didn't j (step.Init o) rest (outcome.Denied p) _ refl refl refl, λ n. did j (step.Init o) (step.Init (Some n)) rest _ refl refl refl)
step_did w j (step.Devices o) rest h = let ds = devices_by j.config w.declared in did j (step.Devices o) (step.Devices (Some (length ds))) rest _ refl refl refl
step_did w j (step.Kill o) rest h = did j (step.Kill o) (step.Kill (Some (count_of w.objects.processes))) rest _ refl refl refl
step_did w j (step.ZidBack o) rest h = did j (step.ZidBack o) (step.ZidBack (zid_of w.objects.ids)) rest _ refl refl refl
step_did w j s rest h = did j s s rest _ refl refl refl

-- a request whose failure is undone: one step back, or a held mount, or the end
pub record Undid (j : Job) (o : Outcome) (s : Step) (rest : List Step) (a : After) : Type 0 where
  pub reply : a.reply ≡ Undone s
  pub job : a.seen.desk.job ≡ Some (record j { stage = Fails o rest })

pub record Stands (j : Job) (a : After) : Type 0 where
  pub reply : a.reply ≡ Stuck
  pub job : a.seen.desk.job ≡ Some j

pub record Ended (o : Outcome) (t : ℕ) (a : After) : Type 0 where
  pub reply : a.reply ≡ Finished t o
  pub job : a.seen.desk.job ≡ None

abbrev pub Undoes : Job → Outcome → Step → List Step → After → Type 0
Undoes j o s rest a = Undid j o s rest a ⊎ Stands j a

abbrev pub on_undo : Seen → Job → Outcome → List Step → Step → Turn_decision
on_undo w j o rest s = or_shared (Just (undone w.desk j o rest (undo_edits s) s)) (local_undo w.objects w.desk j o rest s)

mount_undone : (w : Seen) (j : Job) (o : Outcome) (rest : List Step) (dir : List ℕ) (s : Step) (b : Bool) → w.desk.job ≡ Some j
    → Undoes j o s rest (done (if b then stuck w.desk else undone w.desk j o rest (Of_mounts (Go (is_at dir)) ∷ []) s) w)
mount_undone w j o rest dir s true h = inr (record { reply = refl; job = h })
mount_undone w j o rest dir s false h = inl (record { reply = refl; job = refl })

pub step_undone : (w : Seen) (j : Job) (o : Outcome) (s : Step) (rest : List Step) → w.desk.job ≡ Some j → In (Undoes j o s rest) w (on_undo w j o rest s)
step_undone w j o step.Root rest h = mount_undone w j o rest root_dir step.Root (is_held (mount_at root_dir w.objects.mounts)) h
step_undone w j o (step.Mounted dir) rest h = mount_undone w j o rest dir (step.Mounted dir) (is_held (mount_at dir w.objects.mounts)) h
step_undone w j o s rest h = inl (record { reply = refl; job = refl })

pub turn_undoes : (w : Seen) (t : ℕ) (r : Request) (c : Kept) (done : Progress) (o : Outcome) (s : Step) (rest : List Step)
    → let j = J t r c done (Fails o (s ∷ rest)) in let v = at_job w j in turn v ≡ on_undo v j o rest s
unfolding turn local_turn
turn_undoes w t r c done o s rest = refl

pub turn_ends : (w : Seen) (t : ℕ) (r : Request) (c : Kept) (done : Progress) (o : Outcome)
    → let v = at_job w (J t r c done (Fails o [])) in turn v ≡ Just (finish v.desk t o)
unfolding turn local_turn
turn_ends w t r c done o = refl

-- processes, mounts and claims stay
pub record Still (w : Seen) (a : After) : Type 0 where
  pub processes : a.seen.objects.processes ≡ w.objects.processes
  pub mounts : a.seen.objects.mounts ≡ w.objects.mounts
  pub claims : a.seen.objects.claims ≡ w.objects.claims

abbrev still : (w : Seen) (a : After) → a.seen.objects.processes ≡ w.objects.processes → a.seen.objects.mounts ≡ w.objects.mounts → a.seen.objects.claims ≡ w.objects.claims → Still w a
still w a p m c = record { processes = p; mounts = m; claims = c }

hooked_still : (d : Desk) (j : Job) (rest : List Step) (change : Change) (answer : HookAnswer) (w : Seen) → In (Still w) w (Just (hooked d j rest change answer))
hooked_still d j rest change Proceed w = still w _ refl refl refl
hooked_still d j rest change (Refuse code) w = still w _ refl refl refl

state_still : (d : Desk) (j : Job) (rest : List Step) (s : ZoneState) (row : Option Record) (w : Seen) → In (Still w) w (record_state d j rest s row)
state_still d j rest s None w = still w _ refl refl refl
state_still d j rest s (Some row) w = (λ p. still w _ refl refl refl, λ n. still w _ refl refl refl)

moved_still : (d : Desk) (j : Job) (rest : List Step) (path : List ℕ) (row : Option Record) (w : Seen) → In (Still w) w (record_moved d j rest path row)
moved_still d j rest path None w = still w _ refl refl refl
moved_still d j rest path (Some row) w = at_config (with_zonepath path row.config)
  where
    at_config : (c : Result Contents ConfigFault) → In (Still w) w (record_config d j rest path row c)
    at_config (Err f) = still w _ refl refl refl
    at_config (Ok config) = (λ p. still w _ refl refl refl, λ n. still w _ refl refl refl)

pub step_still : (w : Seen) (j : Job) (s : Step) (rest : List Step) → only_ends (s ∷ rest) ≡ true
    → In (Still w) w (on_next w j (A_step s rest))
step_still w j (step.Hook change) rest h = hooked_still w.desk j rest change (answer_of w.brands j.brand change) w
step_still w j (step.Record s) rest h = state_still w.desk j rest s w.stored w
step_still w j step.Moved rest h = moved_still w.desk j rest (new_path j.request) w.stored w
step_still w j (step.Source z) rest h = (λ p. still w _ refl refl refl, λ n. still w _ refl refl refl)
step_still w j (step.Zid o) rest h = (λ p. still w _ refl refl refl, λ n. still w _ refl refl refl)
step_still w j step.Root rest h = absurd (true≢false (sym h))
step_still w j (step.Mounted dir) rest h = absurd (true≢false (sym h))
step_still w j (step.Claimed c) rest h = absurd (true≢false (sym h))
step_still w j (step.Init o) rest h = absurd (true≢false (sym h))
step_still w j (step.Kill o) rest h = absurd (true≢false (sym h))
step_still w j s rest h = still w _ refl refl refl
