-- A halt stays one to its end.
use Rattle.brand_hooks.specs.Brands.{answer_of}
use Rattle.brand_hooks.specs.declared.change.Change.{Change}
use Rattle.brand_hooks.specs.declared.table.HookAnswer.TheVariants.{Proceed, Refuse}
use Rattle.brand_hooks.specs.declared.table.HookAnswer.{HookAnswer}
use Rattle.commit_journal.specs.declared.records.Record.{Record}
use Rattle.datalink_table.specs.declared.claims.Claim.{Claim}
use Rattle.loopback_mounts.specs.Mounts.{last_of}
use Rattle.loopback_mounts.specs.declared.mount.MountEntry.{MountEntry}
use Rattle.std.proofs.Common.{◌≡◌, ◌⊎◌, ◌∷◌, [], ◌&&◌, ℕ, List, Bool, Option, Some, None, true, false, inl, inr, refl, subst, sym}
use Rattle.std.proofs.lemmas.Bool.{and_from, and_parts, false≢true}
use Rattle.std.specs.List.{list_all}
use Rattle.zn_base.specs.declared.state.ZoneState.TheVariants.{Ready}
use Rattle.zone_pools.specs.Decisions.{Just}
use Rattle.zone_pools.specs.Firsts.{is_nil}
use Rattle.zone_pools.specs.declared.grant.Grant.{Grant}
use Rattle.zoneadmd_laws.proofs.Answering.{In, J, Kept, at_job, in_after, is_at_job, on_next}
use Rattle.zoneadmd_laws.specs.Afters.{After, after}
use Rattle.zoneadmd_steps.specs.Desks.{Desk, Fails, Goes, Job, Progress, Stage, state_now}
use Rattle.zoneadmd_steps.specs.Halts.{is_halt, is_halt_first, is_halting, is_of_halt}
use Rattle.zoneadmd_steps.specs.Plans.{kind_of, made_after, refusal}
use Rattle.zoneadmd_steps.specs.Turns.{A_claim_left, A_mount, A_step, Next, Nothing_left, Seen, claim_or, hooked, local_turn, mount_or, next, next_request, over, started, turn, unmount_last}
use Rattle.zoneadmd_steps.specs.declared.requests.Outcome.{Outcome}
use Rattle.zoneadmd_steps.specs.declared.requests.Request.TheVariants as request
use Rattle.zoneadmd_steps.specs.declared.requests.Request.{Request}
use Rattle.zoneadmd_steps.specs.declared.requests.Step.TheVariants as step
use Rattle.zoneadmd_steps.specs.declared.requests.Step.{Step}

-- it is over, or goes on
abbrev pub So : After → Type 0
So a = (a.seen.desk.job ≡ None) ⊎ (is_halting a.seen.desk ≡ true)

-- what is next, and what is left then, are of a halt
abbrev Next_so : Next → Type 0
Next_so (A_step s rest) = (is_of_halt s ≡ true) × (list_all is_of_halt rest ≡ true)
Next_so (A_mount m left) = list_all is_of_halt left ≡ true
Next_so (A_claim_left c left) = list_all is_of_halt left ≡ true
Next_so Nothing_left = Unit {0}

mount_so : (left : List Step) (n : Next) (m : Option MountEntry) → list_all is_of_halt left ≡ true → Next_so n → Next_so (mount_or left n m)
mount_so left n None l h = h
mount_so left n (Some m) l h = l

claim_so : (left : List Step) (n : Next) (c : Option Claim) → list_all is_of_halt left ≡ true → Next_so n → Next_so (claim_or left n c)
claim_so left n None l h = h
claim_so left n (Some c) l h = l

next_so : (w : Seen) (left : List Step) → list_all is_of_halt left ≡ true → Next_so (next w.objects left)
next_so w [] h = tt
next_so w (step.Unmount d ∷ rest) h = mount_so (step.Unmount d ∷ rest) (next w.objects rest) (last_of w.objects.mounts) h (next_so w rest h)
next_so w (step.Release c ∷ rest) h = claim_so (step.Release c ∷ rest) (next w.objects rest) (last_of w.objects.claims) h (next_so w rest h)
next_so w (s ∷ rest) h = and_parts (is_of_halt s) (list_all is_of_halt rest) h

-- none of its steps is undone
kept_nil : (s : Step) (made : List Step) → is_of_halt s ≡ true → is_nil made ≡ true → is_nil (made_after s made) ≡ true
kept_nil (step.Hook c) made o h = h
kept_nil (step.State Ready) made o h = refl
kept_nil (step.State s) made o h = h
kept_nil (step.Kill n) made o h = h
kept_nil (step.Unmount d) made o h = h
kept_nil (step.Release c) made o h = h
kept_nil step.Clear made o h = h
kept_nil (step.ZidBack n) made o h = h
kept_nil _ made o h = absurd (false≢true o)

module _ (w : Seen) (j : Job) (halt : is_halt j.request ≡ true) (nil : is_nil j.done.made ≡ true) (now : is_halting w.desk ≡ true) where
  goes_on : (shown : Step) (rest : List Step) → is_of_halt shown ≡ true → list_all is_of_halt rest ≡ true → (is_halt j.request && (is_nil (made_after shown j.done.made) && list_all is_of_halt rest)) ≡ true
  goes_on shown rest o l = and_from (is_halt j.request) _ halt (and_from (is_nil (made_after shown j.done.made)) (list_all is_of_halt rest) (kept_nil shown j.done.made o nil) l)

  hooked_so : (rest : List Step) (change : Change) (answer : HookAnswer) → list_all is_of_halt rest ≡ true → In So w (Just (hooked w.desk j rest change answer))
  hooked_so rest change Proceed l = inr (goes_on (step.Hook change) rest refl l)
  hooked_so rest change (Refuse code) l = inr (and_from (is_halt j.request) (is_nil j.done.made) halt nil)

  step_so : (s : Step) (rest : List Step) → is_of_halt s ≡ true → list_all is_of_halt rest ≡ true → In So w (on_next w j (A_step s rest))
  step_so (step.Hook change) rest o l = hooked_so rest change (answer_of w.brands j.brand change) l
  step_so (step.State s) rest o l = inr (goes_on (step.State s) rest refl l)
  step_so (step.Kill n) rest o l = inr (goes_on (step.Kill n) rest refl l)
  step_so (step.Unmount d) rest o l = inr (goes_on (step.Unmount d) rest refl l)
  step_so (step.Release c) rest o l = inr (goes_on (step.Release c) rest refl l)
  step_so step.Clear rest o l = inr (goes_on step.Clear rest refl l)
  step_so (step.ZidBack n) rest o l = inr (goes_on (step.ZidBack n) rest refl l)
  step_so _ rest o l = absurd (false≢true o)

  over_so : (r : Request) (row : Option Record) → is_halt r ≡ true → In So w (over w.brands w.desk j row r)
  over_so request.Halt (Some row) h = inl refl
  over_so request.Halt None h = inl refl
  over_so _ row h = absurd (false≢true h)

  unmount_so : (left : List Step) (m : MountEntry) (held : Bool) → list_all is_of_halt left ≡ true → In So w (Just (unmount_last w.desk j left (record m { held = held })))
  unmount_so left m true l = inr now
  unmount_so left m false l = inr (goes_on (step.Unmount (Some m.mount.dir)) left refl l)

  on_next_so : (n : Next) → Next_so n → In So w (on_next w j n)
  on_next_so Nothing_left h = over_so j.request w.stored halt
  on_next_so (A_step s rest) h = step_so s rest h.0 h.1
  on_next_so (A_mount m left) h = unmount_so left m m.held h
  on_next_so (A_claim_left c left) h = inr (goes_on (step.Release (Some c)) left refl h)

stage_so : (w : Seen) (t : ℕ) (r : Request) (c : Kept) (dn : Progress) (stage : Stage) → let v = at_job w (J t r c dn stage) in is_halting v.desk ≡ true → In So v (turn v)
unfolding turn local_turn
stage_so w t r c dn (Goes left) h =
    let j = J t r c dn (Goes left) in let v = at_job w j in let a = and_parts (is_halt r) (is_nil dn.made && list_all is_of_halt left) h in
    let b = and_parts (is_nil dn.made) (list_all is_of_halt left) a.1 in
    on_next_so v j a.0 b.0 h (next v.objects left) (next_so v left b.1)
stage_so w t r c dn (Fails o []) h = inl refl
stage_so w t r c dn (Fails o (s ∷ rest)) h =
    let a = and_parts (is_halt r) (is_nil dn.made && false) h in
    absurd (false≢true ((and_parts (is_nil dn.made) false a.1).1))

begin_so : (w : Seen) (d : Desk) (t : ℕ) (r : Request) (row : Record) (o : Option Outcome) → is_halt r ≡ true → In So w (Just (started w.brands d t r (state_now row d) row o))
begin_so w d t request.Halt row None h = inr refl
begin_so w d t request.Halt row (Some o) h = inl refl
begin_so w d t _ row o h = absurd (false≢true h)

waiting_so : (w : Seen) (ws : List (ℕ × Request)) (row : Option Record) → w.desk.job ≡ None → is_halt_first ws ≡ true → In So w (next_request w.brands w.desk ws row)
waiting_so w [] row e h = absurd (false≢true h)
waiting_so w (first ∷ ws) None e h = inl e
waiting_so w (first ∷ ws) (Some row) e h = begin_so w (record w.desk { waiting = ws }) first.0 first.1 row (refusal w.brands (kind_of first.1) (state_now row w.desk) row.config) h

pub halting : (w : Seen) (g : Grant) → is_halting w.desk ≡ true → So (after (turn w) g w)
unfolding turn local_turn
halting w g h = at_job_of w.desk.job refl
  where
    at_job_of : (o : Option Job) → w.desk.job ≡ o → So (after (turn w) g w)
    at_job_of (Some j) e =
        let same = is_at_job w j e in
        subst (λ v. So (after (turn v) g v)) (sym same)
        (in_after So (at_job w j) (turn (at_job w j)) g (stage_so w j.ticket j.request (j.brand, j.config) j.done j.stage (subst (λ v. is_halting v.desk ≡ true) same h)))
    at_job_of None e =
        let v = record w { desk = record w.desk { job = None } } in
        let same : w ≡ v = λ i. record w { desk = record w.desk { job = e i } } in
        subst (λ v. So (after (turn v) g v)) (sym same) (in_after So v (turn v) g (waiting_so v v.desk.waiting v.stored refl (subst (λ v. is_halting v.desk ≡ true) same h)))
