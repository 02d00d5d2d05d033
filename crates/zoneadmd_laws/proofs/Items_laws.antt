-- Each turn answers the next item.
use Rattle.brand_hooks.specs.Brands.{Tabled, answer_of}
use Rattle.brand_hooks.specs.declared.change.Change.{Change}
use Rattle.brand_hooks.specs.declared.table.HookAnswer.TheVariants.{Proceed, Refuse}
use Rattle.brand_hooks.specs.declared.table.HookAnswer.{HookAnswer}
use Rattle.commit_journal.specs.declared.records.Record.{Record}
use Rattle.config_terms.specs.declared.fault.ConfigFault.{ConfigFault}
use Rattle.loopback_mounts.specs.Mounts.{is_at, is_held, mount_at}
use Rattle.loopback_mounts.specs.declared.mount.MountEntry.{MountEntry}
use Rattle.std.proofs.Common.{Result, Ok, Err}
use Rattle.std.proofs.Common.{◌≡◌, ℕ, List, [], ◌∷◌, Bool, true, false, is_some, Option, Some, None, Result, Ok, Err, if◌then◌else◌, ap, sym, refl, subst, inl, inr, true≢false}
use Rattle.zn_base.specs.declared.state.ZoneState.{ZoneState}
use Rattle.zone_config.specs.declared.terms.Contents.{Contents}
use Rattle.zone_pools.specs.Decisions.{Ask, Just, granted, number_in}
use Rattle.zone_pools.specs.Owned_lists.{Go}
use Rattle.zone_pools.specs.declared.grant.Grant.{Grant}
use Rattle.zone_pools.specs.declared.grant.Pool.{Pool}
use Rattle.zoneadmd_laws.proofs.Answering.{J, Kept, at_job, is_at_job, on_next, on_undo}
use Rattle.zoneadmd_laws.proofs.Locally.{at_rest, is_plain, next_plain}
use Rattle.zoneadmd_laws.proofs.Trailing.{refusal_fault}
use Rattle.zoneadmd_laws.specs.Afters.{After, after, come, done}
use Rattle.zoneadmd_laws.specs.Items.{A_begin, A_step_back, Answers, given, item, next_item, over_item, waiting_item}
use Rattle.zoneadmd_steps.specs.Arrivals.{arrived}
use Rattle.zoneadmd_steps.specs.Configs.{root_dir, with_zonepath}
use Rattle.zoneadmd_steps.specs.Desks.{Desk, Fails, Goes, Job, Progress, Stage, state_now}
use Rattle.zoneadmd_steps.specs.Objects.{Of_mounts}
use Rattle.zoneadmd_steps.specs.Plans.{kind_of, refusal}
use Rattle.zoneadmd_steps.specs.Turns.{A_claim_left, A_mount, A_step, Next, Nothing_left, Seen, Turn_decision, hooked, local_turn, new_path, next, next_request, over, record_config, record_moved, record_state, started, stuck, turn, undone, unmount_last}
use Rattle.zoneadmd_steps.specs.declared.requests.Outcome.{Outcome}
use Rattle.zoneadmd_steps.specs.declared.requests.Request.TheVariants as request
use Rattle.zoneadmd_steps.specs.declared.requests.Request.{Request}
use Rattle.zoneadmd_steps.specs.declared.requests.Step.TheVariants as step
use Rattle.zoneadmd_steps.specs.declared.requests.Step.{Step}
use Rattle.zoneadmd_steps.specs.declared.requests.TurnReply.TheVariants as reply

-- the same as In, with the grant
abbrev Under : Grant → (After → Type 0) → Seen → Turn_decision → Type 0
Under g P w (Just e) = P (done e w)
Under g P w (Ask c asked denied given) = ((p : Pool) → P (done (denied p) w)) × ((n : ℕ) → number_in g ≡ Ok n → P (done (given n) (come (Some (arrived c n)) w)))

under_after : (g : Grant) (P : After → Type 0) (w : Seen) (d : Turn_decision) → Under g P w d → P (after d g w)
under_after g P w (Just e) h = h
under_after g P w (Ask c asked denied given) h = go (number_in g) refl
  where
    go : (r : Result ℕ Pool) → number_in g ≡ r → P (let a = granted arrived c denied given r in done a.effect (come a.came w))
    go (Ok n) e = h.1 n e
    go (Err p) e = h.0 p

module _ (brands : List Tabled) (v : Seen) (g : Grant) where
  start_right : (d : Desk) (t : ℕ) (r : Request) (s : ZoneState) (row : Record) (o : Option Outcome) → refusal brands (kind_of r) s row.config ≡ o → Answers v g (A_begin t r) (done (started brands d t r s row o) v).reply
  start_right d t r s row None e = inl refl
  start_right d t r s row (Some o) e = inr (o, refusal_fault brands (kind_of r) s row.config o e, refl)

  waiting_right : (rs : List (ℕ × Request)) (row : Option Record) → is_some row ≡ true → Under g (λ a. Answers v g (waiting_item rs) a.reply) v (next_request brands v.desk rs row)
  waiting_right [] row h = refl
  waiting_right (r ∷ rs) None h = absurd (true≢false (sym h))
  waiting_right (r ∷ rs) (Some row) h = start_right (record v.desk { waiting = rs }) r.0 r.1 (state_now row v.desk) row _ refl

module _ (v : Seen) (g : Grant) (j : Job) (stored : is_some v.stored ≡ true) where
  abbrev Right_at : Next → After → Type 0
  Right_at n a = Answers v g (next_item j n) a.reply

  hook_right : (rest : List Step) (c : Change) (answer : HookAnswer) → Under g (Right_at (A_step (step.Hook c) rest)) v (Just (hooked v.desk j rest c answer))
  hook_right rest c Proceed = inl refl
  hook_right rest c (Refuse code) = inr (inl (_, refl, refl))

  state_right : (rest : List Step) (s : ZoneState) (row : Option Record) → is_some row ≡ true → Under g (Right_at (A_step (step.Record s) rest)) v (record_state v.desk j rest s row)
  state_right rest s None h = absurd (true≢false (sym h))
  state_right rest s (Some row) h = (λ p. inr (inl (_, refl, refl)), λ n e. inl refl)

  moved_right : (rest : List Step) (path : List ℕ) (row : Option Record) → is_some row ≡ true → Under g (Right_at (A_step step.Moved rest)) v (record_moved v.desk j rest path row)
  moved_right rest path None h = absurd (true≢false (sym h))
  moved_right rest path (Some row) h = at_config (with_zonepath path row.config)
    where
      at_config : (c : Result Contents ConfigFault) → Under g (Right_at (A_step step.Moved rest)) v (record_config v.desk j rest path row c)
      at_config (Err f) = inr (inl (_, refl, refl))
      at_config (Ok config) = (λ p. inr (inl (_, refl, refl)), λ n e. inl refl)

  step_right : (s : Step) (rest : List Step) → is_plain (A_step s rest) ≡ true → Under g (Right_at (A_step s rest)) v (on_next v j (A_step s rest))
  step_right (step.Hook c) rest h = hook_right rest c (answer_of v.brands j.brand c)
  step_right (step.Record s) rest h = state_right rest s v.stored stored
  step_right step.Moved rest h = moved_right rest (new_path j.request) v.stored stored
  step_right (step.Source z) rest h = (λ p. inr (inl (_, refl, refl)), λ n e. inl refl)
  step_right (step.Zid o) rest h = (λ p. inr (inl (_, refl, refl)), λ n e. inl (ap (λ r. reply.Stepped (step.Zid (given r))) (sym e)))
  step_right (step.Claimed c) rest h = (λ p. inr (inl (_, refl, refl)), λ n e. inl refl)
  step_right (step.Init o) rest h = (λ p. inr (inl (_, refl, refl)), λ n e. inl (ap (λ r. reply.Stepped (step.Init (given r))) (sym e)))
  step_right (step.Unmount d) rest h = absurd (true≢false (sym h))
  step_right (step.Release c) rest h = absurd (true≢false (sym h))
  step_right _ rest h = inl refl

  over_right : (row : Option Record) (r : Request) → is_some row ≡ true → Under g (λ a. Answers v g (over_item j r) a.reply) v (over v.brands v.desk j row r)
  over_right None r h = absurd (true≢false (sym h))
  over_right (Some row) (request.Reboot args) h = start_right v.brands v g v.desk j.ticket (request.Boot args) (state_now row v.desk) row _ refl
  over_right (Some row) r h = refl

  mount_right : (left : List Step) (m : MountEntry) → Under g (Right_at (A_mount m left)) v (Just (unmount_last v.desk j left m))
  mount_right left m = go m.held
    where
      go : (b : Bool) → Under g (Right_at (A_mount m left)) v (Just (unmount_last v.desk j left (record m { held = b })))
      go true = inr (inr (refl, refl))
      go false = inl refl

  next_right : (n : Next) → is_plain n ≡ true → Under g (Right_at n) v (on_next v j n)
  next_right Nothing_left h = over_right v.stored j.request stored
  next_right (A_step s rest) h = step_right s rest h
  next_right (A_mount m left) h = mount_right left m
  next_right (A_claim_left c left) h = inl refl

  undo_mount_right : (o : Outcome) (s : Step) (rest : List Step) (d : List ℕ) (b : Bool) → Under g (λ a. Answers v g (A_step_back s) a.reply) v (Just (if b then stuck v.desk else undone v.desk j o rest (Of_mounts (Go (is_at d)) ∷ []) s))
  undo_mount_right o s rest d true = inr refl
  undo_mount_right o s rest d false = inl refl

  undo_right : (o : Outcome) (s : Step) (rest : List Step) → Under g (λ a. Answers v g (A_step_back s) a.reply) v (on_undo v j o rest s)
  undo_right o step.Root rest = undo_mount_right o step.Root rest root_dir (is_held (mount_at root_dir v.objects.mounts))
  undo_right o (step.Mounted d) rest = undo_mount_right o (step.Mounted d) rest d (is_held (mount_at d v.objects.mounts))
  undo_right o _ rest = inl refl

abbrev pub Turn_right : Seen → Grant → Type 0
Turn_right w g = Answers w g (item w) (after (turn w) g w).reply

stage_right : (w : Seen) (g : Grant) (t : ℕ) (r : Request) (c : Kept) (dn : Progress) (stage : Stage) → is_some w.stored ≡ true
    → let v = at_job w (J t r c dn stage) in Under g (λ a. Answers v g (item v) a.reply) v (turn v)
unfolding turn local_turn
stage_right w g t r c dn (Goes left) h = let j = J t r c dn (Goes left) in let v = at_job w j in next_right v g j h (next v.objects left) (next_plain v.objects left)
stage_right w g t r c dn (Fails o []) h = refl
stage_right w g t r c dn (Fails o (s ∷ rest)) h = let j = J t r c dn (Fails o (s ∷ rest)) in undo_right (at_job w j) g j h o s rest

rest_right : (w : Seen) (g : Grant) → is_some w.stored ≡ true → let v = at_rest w in Under g (λ a. Answers v g (item v) a.reply) v (turn v)
unfolding turn local_turn
rest_right w g h = waiting_right w.brands (at_rest w) g w.desk.waiting w.stored h

-- each turn answers the next item
pub turn_right : (w : Seen) (g : Grant) → is_some w.stored ≡ true → Turn_right w g
turn_right w g h = go w.desk.job refl
  where
    go : (o : Option Job) → w.desk.job ≡ o → Turn_right w g
    go None e =
        let same : w ≡ at_rest w = λ i. record w { desk = record w.desk { job = e i } } in
        subst (λ v. Turn_right v g) (sym same) (under_after g (λ a. Answers (at_rest w) g (item (at_rest w)) a.reply) (at_rest w) (turn (at_rest w)) (rest_right w g h))
    go (Some j) e =
        subst (λ v. Turn_right v g) (sym (is_at_job w j e))
        (under_after g (λ a. Answers (at_job w j) g (item (at_job w j)) a.reply) (at_job w j) (turn (at_job w j)) (stage_right w g j.ticket j.request (j.brand, j.config) j.done j.stage h))
