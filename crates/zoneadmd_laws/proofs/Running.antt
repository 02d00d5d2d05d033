-- What the turns of a request tell, by one induction over the turns.
use Rattle.brand_hooks.specs.Brands.{Tabled}
use Rattle.commit_journal.specs.declared.records.Record.{Record}
use Rattle.datalink_table.specs.declared.claims.Claim.{Claim}
use Rattle.kernel_objects.specs.Processes.{count_of}
use Rattle.loopback_mounts.specs.Mounts.{in_order, is_at, last_of}
use Rattle.loopback_mounts.specs.declared.mount.MountEntry.{MountEntry}
use Rattle.std.proofs.Common.{◌≡◌, ℕ, List, [], ◌∷◌, ◌++◌, map, Bool, true, false, is_some, Option, Some, None, if◌then◌else◌, ap, sym, refl, subst, ◌∙◌, inl, inr, true≢false}
use Rattle.zn_base.specs.declared.state.ZoneState.TheVariants.{Ready, Incomplete}
use Rattle.zn_base.specs.declared.state.ZoneState.{ZoneState}
use Rattle.zone_config.specs.declared.terms.Contents.{Contents}
use Rattle.zone_pools.specs.Decisions.{Just, act_of}
use Rattle.zone_pools.specs.Owned_lists.{Go, but_last}
use Rattle.zone_pools.specs.declared.grant.Grant.{Grant}
use Rattle.zoneadmd_laws.proofs.Answering.{Did, Did_fail, Dids, Ended, In, J, Kept, Stands, Still, Undoes, at_job, in_after, is_at_job, kept_now, on_next, step_did, step_still, step_undone, turn_ends, turn_goes, turn_undoes}
use Rattle.zoneadmd_laws.proofs.Telling.{all_gone, bare_with, last_goes, last_some, onto_last, onto_last_same, tells_cons, tells_failed, tells_nil}
use Rattle.zoneadmd_laws.specs.Afters.{After, after, come, done}
use Rattle.zoneadmd_laws.specs.Lists.{onto}
use Rattle.zoneadmd_laws.specs.Shapes.{kills_first, only_ends}
use Rattle.zoneadmd_laws.specs.Trails.{All_done, Either, Ends, Goes_on, IsFront, IsOneOf, Killed_first, Later, Moment, Tells, bare, bare_progress, bare_reply, dirs_of, in_full, is_kill, is_stuck, result, told}
use Rattle.zoneadmd_steps.specs.Arrivals.{Arrival, arrived}
use Rattle.zoneadmd_steps.specs.Configs.{claims_of, fs_dirs}
use Rattle.zoneadmd_steps.specs.Desks.{Fails, Goes, Job, Progress, Stage, state_now}
use Rattle.zoneadmd_steps.specs.Objects.{Of_mounts}
use Rattle.zoneadmd_steps.specs.Plans.{kind_of, plan, refusal}
use Rattle.zoneadmd_steps.specs.Turns.{A_claim_left, A_mount, A_step, Next, Nothing_left, Seen, Turn_decision, advance, claim_or, finish, mount_or, next, no_progress, over, started, stuck, turn, with_step}
use Rattle.zoneadmd_steps.specs.declared.requests.Outcome.TheVariants.{Done}
use Rattle.zoneadmd_steps.specs.declared.requests.Outcome.{Outcome}
use Rattle.zoneadmd_steps.specs.declared.requests.Request.TheVariants as request
use Rattle.zoneadmd_steps.specs.declared.requests.Request.{Request}
use Rattle.zoneadmd_steps.specs.declared.requests.RequestKind.TheVariants as kind
use Rattle.zoneadmd_steps.specs.declared.requests.Step.TheVariants as step
use Rattle.zoneadmd_steps.specs.declared.requests.Step.{Step}
use Rattle.zoneadmd_steps.specs.declared.requests.TurnReply.TheVariants.{Began, Stepped, Failed, Undone, Stuck, Finished}
use Rattle.zoneadmd_steps.specs.declared.requests.TurnReply.{TurnReply}

-- what is told of a moment
abbrev tells_of : List Moment → TurnReply → List TurnReply
tells_of ms r = if is_stuck r then told ms else bare_reply r ∷ told ms

pub told_next : (m : Moment) (ms : List Moment) (r : TurnReply) → (result m).reply ≡ r → is_stuck r ≡ false → told (m ∷ ms) ≡ bare_reply r ∷ told ms
told_next m ms r e h = ap (tells_of ms) e ∙ ap (λ b. if b then told ms else bare_reply r ∷ told ms) h

told_stuck : (m : Moment) (ms : List Moment) → (result m).reply ≡ Stuck → told (m ∷ ms) ≡ told ms
told_stuck m ms e = ap (tells_of ms) e

pub killed_next : (ds : List (List ℕ)) (cs : List Claim) (m : Moment) (ms : List Moment) (r : TurnReply) → (result m).reply ≡ r → is_kill r ≡ false → Killed_first ds cs ms → Killed_first ds cs (m ∷ ms)
killed_next ds cs m ms r e h k = subst (λ b. Either b ((ds ≡ dirs_of (result m).seen.objects.mounts) × (cs ≡ onto (result m).seen.objects.claims [])) (Killed_first ds cs ms)) (sym (ap is_kill e ∙ h)) k

killed_here : (ds : List (List ℕ)) (cs : List Claim) (m : Moment) (ms : List Moment) (r : TurnReply) → (result m).reply ≡ r → is_kill r ≡ true → (ds ≡ dirs_of (result m).seen.objects.mounts) × (cs ≡ onto (result m).seen.objects.claims []) → Killed_first ds cs (m ∷ ms)
killed_here ds cs m ms r e h k = subst (λ b. Either b ((ds ≡ dirs_of (result m).seen.objects.mounts) × (cs ≡ onto (result m).seen.objects.claims [])) (Killed_first ds cs ms)) (sym (ap is_kill e ∙ h)) k

-- a turn leaves the brands
come_brands : (o : Option Arrival) (v : Seen) → (come o v).brands ≡ v.brands
come_brands None v = refl
come_brands (Some a) v = refl

pub brands_stay : (d : Turn_decision) (g : Grant) (v : Seen) → (after d g v).seen.brands ≡ v.brands
brands_stay d g v = come_brands (act_of arrived d g).came v

-- what a turn does where a job is under way
at_moment : (m : Moment) (j : Job) (P : After → Type 0) → m.seen.desk.job ≡ Some j → In P (at_job m.seen j) (turn (at_job m.seen j)) → P (result m)
at_moment m j P h p = subst (λ v. P (after (turn v) m.grant v)) (sym (is_at_job m.seen j h)) (in_after P (at_job m.seen j) (turn (at_job m.seen j)) m.grant p)

-- once a request is over there are no more turns of it
ended : (w : Seen) (ms : List Moment) → w.desk.job ≡ None → Goes_on w ms → ms ≡ []
ended w [] h go = refl
ended w (m ∷ ms) h go = absurd (true≢false (sym go.1 ∙ ap is_some (go.0.job ∙ h)))

pub told_ended : (m : Moment) (ms : List Moment) (t : ℕ) (o : Outcome) → Ended o t (result m) → Goes_on (result m).seen ms → told (m ∷ ms) ≡ Finished t o ∷ []
told_ended m ms t o is go = told_next m ms (Finished t o) is.reply refl ∙ ap (λ ms. Finished t o ∷ told ms) (ended (result m).seen ms is.job go)

pub killed_ended : (ds : List (List ℕ)) (cs : List Claim) (m : Moment) (ms : List Moment) (t : ℕ) (o : Outcome) → Ended o t (result m) → Goes_on (result m).seen ms → Killed_first ds cs (m ∷ ms)
killed_ended ds cs m ms t o is go = killed_next ds cs m ms (Finished t o) is.reply refl (subst (Killed_first ds cs) (sym (ended (result m).seen ms is.job go)) tt)

-- the turns after a failure
record Undo_told (t : ℕ) (o : Outcome) (us : List Step) (ms : List Moment) : Type 0 where
  front : IsFront (told ms) (map Undone (map bare us) ++ Finished t o ∷ [])
  killed : (ds : List (List ℕ)) (cs : List Claim) → Killed_first ds cs ms

undo_told : (ms : List Moment) (w : Seen) (t : ℕ) (r : Request) (c : Kept) (dn : Progress) (o : Outcome) (us : List Step)
    → w.desk.job ≡ Some (J t r c dn (Fails o us)) → Goes_on w ms → Undo_told t o us ms
undo_told [] w t r c dn o us h go = record { front = (_, refl); killed = λ ds cs. tt }
undo_told (m ∷ ms) w t r c dn o [] h go =
    let j = J t r c dn (Fails o []) in
    let is : Ended o t (result m) = at_moment m j (Ended o t) (go.0.job ∙ h) (subst (In (Ended o t) (at_job m.seen j)) (sym (turn_ends m.seen t r c dn o)) (record { reply = refl; job = refl })) in
    record {
      front = ([], ap (λ rs. rs ++ []) (told_ended m ms t o is go.2));
      killed = λ ds cs. killed_ended ds cs m ms t o is go.2;
    }
undo_told (m ∷ ms) w t r c dn o (s ∷ rest) h go =
    let j = J t r c dn (Fails o (s ∷ rest)) in
    by_case
    (at_moment m j (Undoes j o s rest) (go.0.job ∙ h) (subst (In (Undoes j o s rest) (at_job m.seen j)) (sym (turn_undoes m.seen t r c dn o s rest)) (step_undone (at_job m.seen j) j o s rest refl)))
    (λ us h. undo_told ms (result m).seen t r c dn o us h go.2)
  where
    by_case : Undoes (J t r c dn (Fails o (s ∷ rest))) o s rest (result m)
        → ((us : List Step) → (result m).seen.desk.job ≡ Some (J t r c dn (Fails o us)) → Undo_told t o us ms) → Undo_told t o (s ∷ rest) (m ∷ ms)
    by_case (inl x) f =
        let more = f rest x.job in
        record {
          front = (more.front.0, ap (λ rs. rs ++ more.front.0) (told_next m ms (Undone s) x.reply refl) ∙ ap (λ rs. Undone (bare s) ∷ rs) more.front.1);
          killed = λ ds cs. killed_next ds cs m ms (Undone s) x.reply refl (more.killed ds cs);
        }
    by_case (inr x) f =
        let more = f (s ∷ rest) x.job in
        record {
          front = (more.front.0, ap (λ rs. rs ++ more.front.0) (told_stuck m ms x.reply) ∙ more.front.1);
          killed = λ ds cs. killed_next ds cs m ms Stuck x.reply refl (more.killed ds cs);
        }

-- what a failed step tells
fails_told : (m : Moment) (ms : List Moment) (t : ℕ) (r : Request) (c : Kept) (dn : Progress) (stage : Stage) (s : Step) (rest : List Step) (L : List TurnReply → Type 0)
    → (x : Did_fail (J t r c dn stage) (result m)) → Undo_told t x.outcome dn.made ms
    → Tells t (bare_progress dn) (s ∷ rest) L (told (m ∷ ms))
fails_told m ms t r c dn stage s rest L x more =
    tells_failed t (bare_progress dn) s rest L x.outcome (told (m ∷ ms)) x.fault (
      more.front.0,
      ap (λ rs. rs ++ more.front.0) (told_next m ms (Failed dn.place x.outcome) x.reply refl)
          ∙ ap (λ rs. Failed dn.place x.outcome ∷ rs) more.front.1,
    )

-- where a request stands: its processes are gone, or they go before its mounts and claims do
abbrev pub Mode : Bool → Seen → List Step → Type 0
Mode true w left = (only_ends left ≡ true) × (w.objects.processes ≡ [])
Mode false w left = kills_first left ≡ true

pub record Told_so (brands : List Tabled) (all : List Moment) (gone : Bool) (w : Seen) (t : ℕ) (r : Request) (dn : Progress) (left : List Step) (ms : List Moment) : Type 0 where
  pub ds : List (List ℕ)
  pub cs : List Claim
  pub known : gone ≡ true → (ds ≡ dirs_of w.objects.mounts) × (cs ≡ onto w.objects.claims [])
  pub killed : gone ≡ false → Killed_first ds cs ms
  pub tells : Tells t (bare_progress dn) (in_full ds cs left) (Later brands all t r) (told ms)

abbrev pub Told_from : List Tabled → List Moment → List Moment → Type 0
Told_from brands all ms = ((k : Moment) → IsOneOf k ms → IsOneOf k all) → (gone : Bool) (w : Seen) → w.brands ≡ brands → (t : ℕ) (r : Request) (c : Kept) (dn : Progress) (left : List Step)
    → w.desk.job ≡ Some (J t r c dn (Goes left)) → Mode gone w left → Goes_on w ms → Told_so brands all gone w t r dn left ms

-- each plan is so: mounts and claims go only after the processes
mounts_kill : (ds : List (List ℕ)) (rest : List Step) → kills_first rest ≡ true → kills_first (map step.Mounted ds ++ rest) ≡ true
mounts_kill [] rest h = h
mounts_kill (d ∷ ds) rest h = mounts_kill ds rest h

claims_kill : (cs : List Claim) (rest : List Step) → kills_first rest ≡ true → kills_first (map step.Claimed cs ++ rest) ≡ true
claims_kill [] rest h = h
claims_kill (c ∷ cs) rest h = claims_kill cs rest h

boots_kill : (ds : List (List ℕ)) (cs : List Claim) (xs ys : List Step) → kills_first (xs ++ ys) ≡ true → kills_first ((map step.Mounted ds ++ (map step.Claimed cs ++ xs)) ++ ys) ≡ true
boots_kill [] [] xs ys h = h
boots_kill [] (c ∷ cs) xs ys h = boots_kill [] cs xs ys h
boots_kill (d ∷ ds) cs xs ys h = boots_kill ds cs xs ys h

pub plan_kills : (r : Request) (s : ZoneState) (c : Contents) → kills_first (plan r s c) ≡ true
plan_kills request.Uninstall Incomplete c = refl
plan_kills request.Uninstall s c = refl
plan_kills request.Ready s c = mounts_kill (fs_dirs c) _ (claims_kill (claims_of c) _ refl)
plan_kills (request.Boot args) Ready c = refl
plan_kills (request.Boot args) s c = boots_kill (fs_dirs c) (claims_of c) _ _ refl
plan_kills r s c = refl

-- a request begins
pub record Begun (t : ℕ) (r : Request) (c : Kept) (steps : List Step) (a : After) : Type 0 where
  pub reply : a.reply ≡ Began t (kind_of r)
  pub job : a.seen.desk.job ≡ Some (J t r c no_progress (Goes steps))

-- what is told where a plan is over
record Over_told (brands : List Tabled) (all : List Moment) (t : ℕ) (r : Request) (ms : List Moment) : Type 0 where
  ds : List (List ℕ)
  cs : List Claim
  killed : Killed_first ds cs ms
  later : Later brands all t r (told ms)

over_ended : (m : Moment) (ms : List Moment) (t : ℕ) → Ended Done t (result m) → Goes_on (result m).seen ms → IsFront (told (m ∷ ms)) (Finished t Done ∷ [])
over_ended m ms t is go = ([], ap (λ rs. rs ++ []) (told_ended m ms t Done is go))

kill_bare : (s : Step) → is_kill (Stepped s) ≡ is_kill (Stepped (bare s))
kill_bare (step.Kill o) = refl
kill_bare _ = refl

module _ (brands : List Tabled) (all : List Moment) (m : Moment) (ms : List Moment) (t : ℕ) (r : Request) (c : Kept) (dn : Progress) (left0 : List Step)
    (here : m.seen.desk.job ≡ Some (J t r c dn (Goes left0))) (stored : is_some m.seen.stored ≡ true)
    (bs : m.seen.brands ≡ brands) (order : in_order m.seen.objects.mounts ≡ true)
    (go : Goes_on (result m).seen ms) (within : (k : Moment) → IsOneOf k (m ∷ ms) → IsOneOf k all) (more : Told_from brands all ms) where
  abbrev j : Job
  j = J t r c dn (Goes left0)

  abbrev v : Seen
  v = at_job m.seen j

  abbrev after_m : Seen
  after_m = (result m).seen

  stay : after_m.brands ≡ brands
  stay = brands_stay (turn m.seen) m.grant m.seen ∙ bs

  -- what the turn does, where this is next
  by_next : (n : Next) (P : After → Type 0) → next v.objects left0 ≡ n → In P v (on_next v j n) → P (result m)
  by_next n P e p = at_moment m j P here (subst (In P v) (sym (turn_goes m.seen t r c dn left0 ∙ ap (on_next v j) e)) p)

  -- a step is done
  step_told : (ds : List (List ℕ)) (cs : List Claim) (s : Step) (rest : List Step) (x : Did j s rest (result m)) → Tells t (bare_progress (with_step x.shown dn)) (in_full ds cs rest) (Later brands all t r) (told ms)
      → Tells t (bare_progress dn) (bare s ∷ in_full ds cs rest) (Later brands all t r) (told (m ∷ ms))
  step_told ds cs s rest x is =
      subst (λ b. Tells t (bare_progress dn) (b ∷ in_full ds cs rest) (Later brands all t r) (told (m ∷ ms))) x.same
      (subst (Tells t (bare_progress dn) (bare x.shown ∷ in_full ds cs rest) (Later brands all t r)) (sym (told_next m ms (Stepped x.shown) x.reply refl))
      (tells_cons t (bare_progress dn) (in_full ds cs rest) (Later brands all t r) (bare x.shown) (told ms)
      (subst (λ p. Tells t p (in_full ds cs rest) (Later brands all t r) (told ms)) (sym (bare_with x.shown dn)) is)))

  -- a step failed
  fail_undone : (x : Did_fail j (result m)) → Undo_told t x.outcome dn.made ms
  fail_undone x = undo_told ms after_m t r c (record dn { made = [] }) x.outcome dn.made x.job go

  step_fails : (ds : List (List ℕ)) (cs : List Claim) (s : Step) (rest : List Step) → (x : Did_fail j (result m))
      → Tells t (bare_progress dn) (bare s ∷ in_full ds cs rest) (Later brands all t r) (told (m ∷ ms))
  step_fails ds cs s rest x = fails_told m ms t r c dn (Goes left0) (bare s) (in_full ds cs rest) (Later brands all t r) x (fail_undone x)

  -- a plan is over
  by_over : (row : Option Record) (r' : Request) (P : After → Type 0) → r ≡ r' → m.seen.stored ≡ row → next v.objects left0 ≡ Nothing_left → In P v (over brands v.desk j row r') → P (result m)
  by_over row r' P er e n p = by_next Nothing_left P n (subst (In P v) (sym (λ i. over (bs i) v.desk j (e i) (er i))) p)

  over_ends : (row : Option Record) (r' : Request) → over brands v.desk j row r' ≡ Just (finish v.desk t Done) → r ≡ r' → m.seen.stored ≡ row → next v.objects left0 ≡ Nothing_left → Ended Done t (result m)
  over_ends row r' is er e n = by_over row r' (Ended Done t) er e n (subst (In (Ended Done t) v) (sym is) (record { reply = refl; job = refl }))

  over_well : (row : Option Record) (r' : Request) → over brands v.desk j row r' ≡ Just (finish v.desk t Done) → r ≡ r' → m.seen.stored ≡ row → next v.objects left0 ≡ Nothing_left
      → ((rs : List TurnReply) → Ends t rs → Later brands all t r' rs) → Over_told brands all t r' (m ∷ ms)
  over_well row r' is er e n l =
      let is' = over_ends row r' is er e n in
      record { ds = []; cs = []; killed = killed_ended [] [] m ms t Done is' go; later = l (told (m ∷ ms)) (over_ended m ms t is' go) }

  over_now : (row : Option Record) (r' : Request) → r ≡ r' → m.seen.stored ≡ row → next v.objects left0 ≡ Nothing_left → Over_told brands all t r' (m ∷ ms)
  over_now None r' er e n = absurd (true≢false (sym stored ∙ ap is_some e))
  over_now (Some row) (request.Reboot args) er e n = at_refusal (refusal brands kind.Boot (state_now row v.desk) row.config) refl
    where
      at_refusal : (o : Option Outcome) → refusal brands kind.Boot (state_now row v.desk) row.config ≡ o → Over_told brands all t (request.Reboot args) (m ∷ ms)
      at_refusal (Some o) eo =
          let is = by_over (Some row) (request.Reboot args) (Ended o t) er e n (subst (λ x. In (Ended o t) v (Just (started brands v.desk t (request.Boot args) (state_now row v.desk) row x))) (sym eo) (record { reply = refl; job = refl })) in
          record {
            ds = [];
            cs = [];
            killed = killed_ended [] [] m ms t o is go;
            later = ([], [], m, row, within m (inl refl), e, inl (o, eo, ([], ap (λ rs. rs ++ []) (told_ended m ms t o is go))));
          }
      at_refusal None eo =
          let s = state_now row v.desk in
          let steps = plan (request.Boot args) s row.config in
          let is = by_over (Some row) (request.Reboot args) (Begun t (request.Boot args) (kept_now brands (request.Boot args) row.config) steps) er e n
          (subst (λ x. In (Begun t (request.Boot args) (kept_now brands (request.Boot args) row.config) steps) v (Just (started brands v.desk t (request.Boot args) s row x))) (sym eo) (record { reply = refl; job = refl })) in
          let rest = more (λ k is. within k (inr is)) false after_m stay t (request.Boot args) (kept_now brands (request.Boot args) row.config) no_progress steps is.job (plan_kills (request.Boot args) s row.config) go in
          record {
            ds = rest.ds;
            cs = rest.cs;
            killed = killed_next rest.ds rest.cs m ms (Began t kind.Boot) is.reply refl (rest.killed refl);
            later = (rest.ds, rest.cs, m, row, within m (inl refl), e, inr (told ms, eo, told_next m ms (Began t kind.Boot) is.reply refl, rest.tells));
          }
  over_now (Some row) r' er e n = over_well (Some row) r' refl er e n (λ rs h. h)

  -- a step before the processes are gone
  kills_step : (s : Step) (rest left : List Step) → next v.objects left0 ≡ A_step s rest → kills_first rest ≡ true → is_kill (Stepped (bare s)) ≡ false
      → ((ds : List (List ℕ)) (cs : List Claim) → in_full ds cs left ≡ bare s ∷ in_full ds cs rest) → Told_so brands all false m.seen t r dn left (m ∷ ms)
  kills_step s rest left e h k full = by_case (by_next (A_step s rest) (Dids j s rest) e (step_did v j s rest stored))
    where
      by_case : Dids j s rest (result m) → Told_so brands all false m.seen t r dn left (m ∷ ms)
      by_case (inl x) =
          let is = more (λ k is. within k (inr is)) false after_m stay t r c (with_step x.shown dn) rest x.job h go in
          record {
            ds = is.ds;
            cs = is.cs;
            known = λ f. absurd (true≢false (sym f));
            killed = λ f. killed_next is.ds is.cs m ms (Stepped x.shown) x.reply (kill_bare x.shown ∙ ap (λ b. is_kill (Stepped b)) x.same ∙ k) (is.killed refl);
            tells = subst (λ steps. Tells t (bare_progress dn) steps (Later brands all t r) (told (m ∷ ms))) (sym (full is.ds is.cs)) (step_told is.ds is.cs s rest x is.tells);
          }
      by_case (inr x) = record {
        ds = [];
        cs = [];
        known = λ f. absurd (true≢false (sym f));
        killed = λ f. killed_next [] [] m ms (Failed dn.place x.outcome) x.reply refl ((fail_undone x).killed [] []);
        tells = subst (λ steps. Tells t (bare_progress dn) steps (Later brands all t r) (told (m ∷ ms))) (sym (full [] [])) (step_fails [] [] s rest x);
      }

  -- the kill
  kill_step : (o : Option ℕ) (rest : List Step) → next v.objects left0 ≡ A_step (step.Kill o) rest → only_ends rest ≡ true → Told_so brands all false m.seen t r dn (step.Kill o ∷ rest) (m ∷ ms)
  kill_step o rest e h =
      let x = by_next (A_step (step.Kill o) rest) (Did j (step.Kill o) rest) e (record { shown = step.Kill (Some (count_of v.objects.processes)); same = refl; reply = refl; job = refl }) in
      let none = by_next (A_step (step.Kill o) rest) (λ a. a.seen.objects.processes ≡ []) e (all_gone v.objects.processes) in
      let is = more (λ k is. within k (inr is)) true after_m stay t r c (with_step x.shown dn) rest x.job (h, none) go in
      record {
        ds = is.ds;
        cs = is.cs;
        known = λ f. absurd (true≢false (sym f));
        killed = λ f. killed_here is.ds is.cs m ms (Stepped x.shown) x.reply (kill_bare x.shown ∙ ap (λ b. is_kill (Stepped b)) x.same) (is.known refl);
        tells = step_told is.ds is.cs (step.Kill o) rest x is.tells;
      }

  -- a plan whose processes are not gone yet
  kills_at : (left : List Step) → left0 ≡ left → kills_first left ≡ true → Told_so brands all false m.seen t r dn left (m ∷ ms)
  kills_at [] e h =
      let is = over_now m.seen.stored r refl refl (ap (next v.objects) e) in
      record { ds = is.ds; cs = is.cs; known = λ f. absurd (true≢false (sym f)); killed = λ f. is.killed; tells = All_done (told (m ∷ ms)) refl is.later }
  kills_at (step.Unmount d ∷ rest) e h = absurd (true≢false (sym h))
  kills_at (step.Release d ∷ rest) e h = absurd (true≢false (sym h))
  kills_at (step.Kill o ∷ rest) e h = kill_step o rest (ap (next v.objects) e) h
  kills_at (s ∷ rest) e h = kills_step s rest (s ∷ rest) (ap (next v.objects) e) h refl (λ ds cs. refl)

  -- the mounts and claims that stand, the latest first
  abbrev D : List (List ℕ)
  D = dirs_of v.objects.mounts

  abbrev C : List Claim
  C = onto v.objects.claims []

  abbrev Tells_all : List Step → Type 0
  Tells_all steps = Tells t (bare_progress dn) steps (Later brands all t r) (told (m ∷ ms))

  -- a step after the processes are gone
  ends_step : (s : Step) (rest : List Step) → next v.objects left0 ≡ A_step s rest → only_ends (s ∷ rest) ≡ true → only_ends rest ≡ true → m.seen.objects.processes ≡ []
      → Tells_all (bare s ∷ in_full D C rest)
  ends_step s rest e h h' none = by_case (by_next (A_step s rest) (Dids j s rest) e (step_did v j s rest stored))
    where
      kept : Still v (result m)
      kept = by_next (A_step s rest) (Still v) e (step_still v j s rest h)

      by_case : Dids j s rest (result m) → Tells_all (bare s ∷ in_full D C rest)
      by_case (inl x) =
          let is = more (λ k is. within k (inr is)) true after_m stay t r c (with_step x.shown dn) rest x.job (h', kept.processes ∙ none) go in
          let known = is.known refl in
          step_told D C s rest x (subst (λ (p : List (List ℕ) × List Claim). Tells t (bare_progress (with_step x.shown dn)) (in_full p.0 p.1 rest) (Later brands all t r) (told ms))
          (λ i. ((known.0 ∙ ap dirs_of kept.mounts) i, (known.1 ∙ ap (λ cs. onto cs []) kept.claims) i)) is.tells)
      by_case (inr x) = step_fails D C s rest x

  ends_over : next v.objects left0 ≡ Nothing_left → Tells_all []
  ends_over e = All_done (told (m ∷ ms)) refl (over_now m.seen.stored r refl refl e).later

  -- a mount goes, or it is held
  mount_goes : (d : Option (List ℕ)) (rest : List Step) (l : MountEntry) → last_of v.objects.mounts ≡ Some l → next v.objects left0 ≡ A_mount l (step.Unmount d ∷ rest) → only_ends rest ≡ true → only_ends left0 ≡ true → m.seen.objects.processes ≡ []
      → in_full D C left0 ≡ in_full D C (step.Unmount d ∷ rest) → Tells_all (in_full D C left0)
  mount_goes d rest l last e h h0 none full = at_held l.held refl
    where
      decides : (b : Bool) (P : After → Type 0) → l.held ≡ b → P (done (if b then stuck v.desk else advance v.desk j (step.Unmount d ∷ rest) (Of_mounts (Go (is_at l.mount.dir)) ∷ []) (step.Unmount (Some l.mount.dir))) v) → P (result m)
      decides b P eb p = by_next (A_mount l (step.Unmount d ∷ rest)) P e (subst (λ b. P (done (if b then stuck v.desk else advance v.desk j (step.Unmount d ∷ rest) (Of_mounts (Go (is_at l.mount.dir)) ∷ []) (step.Unmount (Some l.mount.dir))) v)) (sym eb) p)

      at_held : (b : Bool) → l.held ≡ b → Tells_all (in_full D C left0)
      at_held true eb =
          let x = decides true (Stands j) eb (record { reply = refl; job = refl }) in
          let kept = decides true (Still v) eb (record { processes = refl; mounts = refl; claims = refl }) in
          let is = more (λ k is. within k (inr is)) true after_m stay t r c dn left0 x.job (h0, kept.processes ∙ none) go in
          let known = is.known refl in
          subst (Tells t (bare_progress dn) (in_full D C left0) (Later brands all t r)) (sym (told_stuck m ms x.reply))
          (subst (λ (p : List (List ℕ) × List Claim). Tells t (bare_progress dn) (in_full p.0 p.1 left0) (Later brands all t r) (told ms))
          (λ i. ((known.0 ∙ ap dirs_of kept.mounts) i, (known.1 ∙ ap (λ cs. onto cs []) kept.claims) i)) is.tells)
      at_held false eb =
          let left = step.Unmount d ∷ rest in
          let s = step.Unmount (Some l.mount.dir) in
          let x = decides false (Did j s left) eb (record { shown = s; same = refl; reply = refl; job = refl }) in
          let processes = decides false (λ a. a.seen.objects.processes ≡ v.objects.processes) eb refl in
          let mounts = decides false (λ a. a.seen.objects.mounts ≡ but_last v.objects.mounts) eb (last_goes v.objects.mounts l order last) in
          let claims = decides false (λ a. a.seen.objects.claims ≡ v.objects.claims) eb refl in
          let is = more (λ k is. within k (inr is)) true after_m stay t r c (with_step x.shown dn) left x.job (h, processes ∙ none) go in
          let known = is.known refl in
          let D' = dirs_of (but_last v.objects.mounts) in
          subst Tells_all (sym (full ∙ ap (λ ds. in_full ds C left) (onto_last (λ m. m.mount.dir) v.objects.mounts l [] last)))
          (step_told D' C s left x (subst (λ (p : List (List ℕ) × List Claim). Tells t (bare_progress (with_step x.shown dn)) (in_full p.0 p.1 left) (Later brands all t r) (told ms))
          (λ i. ((known.0 ∙ ap dirs_of mounts) i, (known.1 ∙ ap (λ cs. onto cs []) claims) i)) is.tells))

  claim_goes : (o : Option Claim) (rest : List Step) (l : Claim) → last_of v.objects.claims ≡ Some l → next v.objects left0 ≡ A_claim_left l (step.Release o ∷ rest) → only_ends rest ≡ true → m.seen.objects.processes ≡ []
      → in_full D C left0 ≡ in_full D C (step.Release o ∷ rest) → Tells_all (in_full D C left0)
  claim_goes o rest l last e h none full =
      let left = step.Release o ∷ rest in
      let s = step.Release (Some l) in
      let n = A_claim_left l left in
      let x = by_next n (Did j s left) e (record { shown = s; same = refl; reply = refl; job = refl }) in
      let processes = by_next n (λ a. a.seen.objects.processes ≡ v.objects.processes) e refl in
      let mounts = by_next n (λ a. a.seen.objects.mounts ≡ v.objects.mounts) e refl in
      let claims = by_next n (λ a. a.seen.objects.claims ≡ but_last v.objects.claims) e refl in
      let is = more (λ k is. within k (inr is)) true after_m stay t r c (with_step x.shown dn) left x.job (h, processes ∙ none) go in
      let known = is.known refl in
      let C' = onto (but_last v.objects.claims) [] in
      subst Tells_all (sym (full ∙ ap (λ cs. in_full D cs left) (onto_last_same v.objects.claims l last)))
      (step_told D C' s left x (subst (λ (p : List (List ℕ) × List Claim). Tells t (bare_progress (with_step x.shown dn)) (in_full p.0 p.1 left) (Later brands all t r) (told ms))
      (λ i. ((known.0 ∙ ap dirs_of mounts) i, (known.1 ∙ ap (λ cs. onto cs []) claims) i)) is.tells))

  -- a plan whose processes are gone
  ends_at : (left : List Step) → next v.objects left0 ≡ next v.objects left → in_full D C left0 ≡ in_full D C left → only_ends left ≡ true → only_ends left0 ≡ true → m.seen.objects.processes ≡ [] → Tells_all (in_full D C left0)
  ends_at [] e full h h0 none = subst Tells_all (sym full) (ends_over e)
  ends_at (step.Unmount d ∷ rest) e full h h0 none = at_mounts v.objects.mounts refl (ends_at rest)
    where
      at_mounts : (xs : List MountEntry) → v.objects.mounts ≡ xs
          → (next v.objects left0 ≡ next v.objects rest → in_full D C left0 ≡ in_full D C rest → only_ends rest ≡ true → only_ends left0 ≡ true → m.seen.objects.processes ≡ [] → Tells_all (in_full D C left0))
          → Tells_all (in_full D C left0)
      at_mounts [] em f =
          let gone : D ≡ [] = ap dirs_of em in
          f (e ∙ ap (λ o. mount_or (step.Unmount d ∷ rest) (next v.objects rest) o) (ap last_of em))
          (full ∙ (λ i. map (λ d. step.Unmount (Some d)) (gone i) ++ in_full [] C rest) ∙ ap (λ ds. in_full ds C rest) (sym gone)) h h0 none
      at_mounts (x ∷ xs) em f =
          let l = last_some x xs in
          let last = ap last_of em ∙ l.1 in
          mount_goes d rest l.0 last (e ∙ ap (λ o. mount_or (step.Unmount d ∷ rest) (next v.objects rest) o) last) h h0 none full
  ends_at (step.Release o ∷ rest) e full h h0 none = at_claims v.objects.claims refl (ends_at rest)
    where
      at_claims : (xs : List Claim) → v.objects.claims ≡ xs
          → (next v.objects left0 ≡ next v.objects rest → in_full D C left0 ≡ in_full D C rest → only_ends rest ≡ true → only_ends left0 ≡ true → m.seen.objects.processes ≡ [] → Tells_all (in_full D C left0))
          → Tells_all (in_full D C left0)
      at_claims [] ec f =
          let gone : C ≡ [] = ap (λ cs. onto cs []) ec in
          f (e ∙ ap (λ o'. claim_or (step.Release o ∷ rest) (next v.objects rest) o') (ap last_of ec))
          (full ∙ (λ i. map (λ c. step.Release (Some c)) (gone i) ++ in_full D [] rest) ∙ ap (λ cs. in_full D cs rest) (sym gone)) h h0 none
      at_claims (x ∷ xs) ec f =
          let l = last_some x xs in
          let last = ap last_of ec ∙ l.1 in
          claim_goes o rest l.0 last (e ∙ ap (λ o'. claim_or (step.Release o ∷ rest) (next v.objects rest) o') last) h none full
  ends_at (step.Root ∷ rest) e full h h0 none = absurd (true≢false (sym h))
  ends_at (step.Mounted d ∷ rest) e full h h0 none = absurd (true≢false (sym h))
  ends_at (step.Claimed d ∷ rest) e full h h0 none = absurd (true≢false (sym h))
  ends_at (step.Init o ∷ rest) e full h h0 none = absurd (true≢false (sym h))
  ends_at (step.Kill o ∷ rest) e full h h0 none = absurd (true≢false (sym h))
  ends_at (s ∷ rest) e full h h0 none = subst Tells_all (sym full) (ends_step s rest e h h none)

-- each turn of a request tells the next of what its plan tells
pub run_told : (brands : List Tabled) (all : List Moment) (ms : List Moment) → Told_from brands all ms
run_told brands all [] within gone w b t r c dn left h mode go = record {
  ds = dirs_of w.objects.mounts;
  cs = onto w.objects.claims [];
  known = λ e. (refl, refl);
  killed = λ e. tt;
  tells = tells_nil t (bare_progress dn) _ (Later brands all t r);
}
run_told brands all (m ∷ ms) within true w b t r c dn left h mode go =
    let quiet = go.0.quiet mode.1 in
    let ds = ap (λ ds. onto ds []) quiet.1 in
    let cs = ap (λ cs. onto cs []) go.0.claims in
    record {
      ds = dirs_of w.objects.mounts;
      cs = onto w.objects.claims [];
      known = λ e. (refl, refl);
      killed = λ e. absurd (true≢false e);
      tells = subst (λ (p : List (List ℕ) × List Claim). Tells t (bare_progress dn) (in_full p.0 p.1 left) (Later brands all t r) (told (m ∷ ms))) (λ i. (ds i, cs i))
          (ends_at brands all m ms t r c dn left (go.0.job ∙ h) go.0.stored (go.0.brands ∙ b) go.0.order go.2 within (run_told brands all ms) left refl refl mode.0 mode.0 quiet.0);
    }
run_told brands all (m ∷ ms) within false w b t r c dn left h mode go =
    let is = kills_at brands all m ms t r c dn left (go.0.job ∙ h) go.0.stored (go.0.brands ∙ b) go.0.order go.2 within (run_told brands all ms) left refl mode in
    record { ds = is.ds; cs = is.cs; known = λ e. absurd (true≢false (sym e)); killed = is.killed; tells = is.tells }
