-- Each turn that moves on leaves fewer turns.
use Rattle.brand_hooks.specs.Brands.{answer_of}
use Rattle.brand_hooks.specs.declared.change.Change.{Change}
use Rattle.brand_hooks.specs.declared.table.HookAnswer.TheVariants.{Proceed, Refuse}
use Rattle.brand_hooks.specs.declared.table.HookAnswer.{HookAnswer}
use Rattle.commit_journal.specs.declared.records.Record.{Record}
use Rattle.config_terms.specs.Edits.{kept_path}
use Rattle.config_terms.specs.declared.fault.ConfigFault.{ConfigFault}
use Rattle.datalink_table.specs.Claims.{claiming, holds}
use Rattle.datalink_table.specs.declared.claims.Claim.{Claim}
use Rattle.loopback_mounts.proofs.Orders.{bytes_itself}
use Rattle.loopback_mounts.specs.Mounts.{before, is_at, is_held, last_of, mount_answer, mount_at}
use Rattle.loopback_mounts.specs.declared.mount.Mount.{Mount}
use Rattle.loopback_mounts.specs.declared.mount.MountEntry.{MountEntry}
use Rattle.std.proofs.Common.{Result, Ok, Err}
use Rattle.std.proofs.Common.{◌≡◌, ℕ, suc, ◌+◌, ◌*◌, ◌<◌, max, List, [], ◌∷◌, length, Bool, true, false, Option, Some, None, if◌then◌else◌, ap, sym, refl, subst, ◌∙◌, true≢false, arith, length-append}
use Rattle.std.proofs.Common.{◌≤◌, filter, not, unwrap_or, is_ok}
use Rattle.std.proofs.Math.Nat.{le-max_left, le-max_right}
use Rattle.zn_base.specs.declared.state.ZoneState.TheVariants.{Installed, Ready}
use Rattle.zn_base.specs.declared.state.ZoneState.{ZoneState}
use Rattle.zone_config.specs.declared.terms.Contents.{Contents}
use Rattle.zone_pools.specs.Decisions.{Just}
use Rattle.zone_pools.specs.Owned_lists.{Go, Put, but_last, put}
use Rattle.zone_pools.specs.declared.grant.Grant.{Grant}
use Rattle.zoneadmd_laws.proofs.Answering.{In, J, Kept, at_job, in_after, is_at_job, on_next, on_undo}
use Rattle.zoneadmd_laws.proofs.Locally.{at_rest, is_plain}
use Rattle.zoneadmd_laws.proofs.Moving.{moved_so}
use Rattle.zoneadmd_laws.proofs.Telling.{last_more, last_some}
use Rattle.zoneadmd_laws.specs.Afters.{After, after, edits}
use Rattle.zoneadmd_laws.specs.Turns_left.{IsShort, boot_turns, may_fail, most, moves_on, the_end, turns_after, turns_left, undo_with}
use Rattle.zoneadmd_steps.specs.Configs.{moved_record, root_dir, with_zonepath}
use Rattle.zoneadmd_steps.specs.Desks.{Fails, Goes, Job, Progress, Stage, state_now}
use Rattle.zoneadmd_steps.specs.Objects.{Last_claim_goes, Of_mounts}
use Rattle.zoneadmd_steps.specs.Plans.{kind_of, plan, refusal}
use Rattle.zoneadmd_steps.specs.Turns.{A_step, Seen, advance, claim_or, hooked, local_turn, mount_or, mounting, new_path, next, next_request, over, record_config, record_moved, record_state, started, stuck, turn, undone, unmount_last}
use Rattle.zoneadmd_steps.specs.declared.requests.Outcome.{Outcome}
use Rattle.zoneadmd_steps.specs.declared.requests.Request.TheVariants as request
use Rattle.zoneadmd_steps.specs.declared.requests.Request.{Request}
use Rattle.zoneadmd_steps.specs.declared.requests.RequestKind.TheVariants as kind
use Rattle.zoneadmd_steps.specs.declared.requests.Step.TheVariants as step
use Rattle.zoneadmd_steps.specs.declared.requests.Step.{Step}

-- fewer turns are left than this, unless the turn was idle or stuck
abbrev Fewer : ℕ → After → Type 0
Fewer n a = moves_on a.reply ≡ true → turns_left a.seen < n

-- a step that is done leaves fewer turns, and so does one that fails
did : (a b c : ℕ) → a + c < a + max b (c + 1)
did a b c = omega (arith, le-max_right b (c + 1))

fails : (a n b c : ℕ) → n + 1 < b → a + (n + 1) < a + max b c
fails a n b c h = omega (arith, le-max_left b c)

-- more, where there were more
grown : (a x y c : ℕ) → x ≤ y → a + x < a + max c (y + 1)
grown a x y c h = omega (arith, le-max_right c (y + 1))

abbrev Grows : (ℕ → ℕ → ℕ) → Type 0
Grows more = (m k n l : ℕ) → m ≤ n → k ≤ l → more m k ≤ more n l

max_grows : (b x y : ℕ) → x ≤ y → max b (x + 1) ≤ max b (y + 1)
max_grows b x y h = omega arith

most_grows : (more : ℕ → ℕ → ℕ) → Grows more → (left : List Step) (u m k n l : ℕ) → m ≤ n → k ≤ l → most more m k u left ≤ most more n l u left
most_grows more g [] u m k n l a b = g m k n l a b
most_grows more g (step.Unmount d ∷ rest) u m k n l a b = omega (arith, most_grows more g rest u 0 k 0 l (omega arith) b)
most_grows more g (step.Release c ∷ rest) u m k n l a b = omega (arith, most_grows more g rest u m 0 n 0 a (omega arith))
most_grows more g (step.Root ∷ rest) u m k n l a b = max_grows 0 _ _ (most_grows more g rest (suc u) (suc m) k (suc n) l (omega arith) b)
most_grows more g (step.Mounted d ∷ rest) u m k n l a b = max_grows 0 _ _ (most_grows more g rest (suc u) (suc m) k (suc n) l (omega arith) b)
most_grows more g (step.Claimed c ∷ rest) u m k n l a b = max_grows (u + 2) _ _ (most_grows more g rest (suc u) m (suc k) n (suc l) a (omega arith))
most_grows more g (s ∷ rest) u m k n l a b = max_grows (if may_fail s then u + 2 else 0) _ _ (most_grows more g rest (undo_with s u) m k n l a b)

after_grows : (row : Option Record) (r : Request) → Grows (turns_after row r)
after_grows (Some row) (request.Reboot args) m k n l a b =
    both _ _ _ _ (most_grows the_end (λ m k n l a b. omega arith) (plan (request.Boot args) Installed row.config) 0 m k n l a b) (most_grows the_end (λ m k n l a b. omega arith) (plan (request.Boot args) Ready row.config) 0 m k n l a b)
  where
    both : (w x y z : ℕ) → w ≤ y → x ≤ z → max w x + 1 ≤ max y z + 1
    both w x y z h i = omega arith
after_grows None r m k n l a b = omega arith
after_grows (Some row) r m k n l a b = omega arith

put_length : (p : MountEntry → Bool) (m : MountEntry) (ms : List MountEntry) → length (put p m ms) ≡ suc (length ms)
put_length p m [] = refl
put_length p m (x ∷ ms) = go (p x) (put_length p m ms)
  where
    go : (b : Bool) → length (put p m ms) ≡ suc (length ms) → length (if b then x ∷ put p m ms else m ∷ x ∷ ms) ≡ suc (length (x ∷ ms))
    go true h = ap suc h
    go false h = refl

-- where the last mount goes, fewer are left
last_fewer : (ms : List MountEntry) (l : MountEntry) → last_of ms ≡ Some l → length (filter (λ m. not (is_at l.mount.dir m)) ms) < length ms
last_fewer [] l e = cc
last_fewer (x ∷ []) l e =
    let same : x ≡ l = ap (λ o. unwrap_or o x) e in
    let gone : is_at l.mount.dir x ≡ true = ap (λ (k : MountEntry). is_at k.mount.dir x) (sym same) ∙ bytes_itself x.mount.dir in
    rw gone (omega arith)
last_fewer (x ∷ y ∷ ms) l e = go (is_at l.mount.dir x) _ (length (y ∷ ms)) (last_fewer (y ∷ ms) l (sym (last_more x y ms) ∙ e))
  where
    go : (b : Bool) (f : List MountEntry) (n : ℕ) → length f < n → length (if not b then x ∷ f else f) < suc n
    go true f n h = omega arith
    go false f n h = omega arith

last_length : {A : Type 0} (x : A) (xs : List A) → length (x ∷ xs) ≡ suc (length (but_last (x ∷ xs)))
last_length x [] = refl
last_length x (y ∷ ys) = ap suc (last_length y ys)

module _ (v : Seen) (j : Job) where
  abbrev A : ℕ
  A = 1000000 * length v.desk.waiting

  abbrev more : ℕ → ℕ → ℕ
  more = turns_after v.stored j.request

  abbrev u : ℕ
  u = length j.done.made

  abbrev left_of : List Step → ℕ
  left_of left = A + most more (length v.objects.mounts) (length v.objects.claims) u left

  fail_fewer : (c : ℕ) → A + (u + 1) < A + max (u + 2) c
  fail_fewer c = fails A u (u + 2) c (omega arith)

  hook_fewer : (rest : List Step) (change : Change) (answer : HookAnswer) → In (Fewer (left_of (step.Hook change ∷ rest))) v (Just (hooked v.desk j rest change answer))
  hook_fewer rest change Proceed = λ i. did A _ _
  hook_fewer rest change (Refuse code) = λ i. fail_fewer _

  same_more : (row : Record) (path : Option (List ℕ)) (s : ZoneState) (n : ℕ) (r : Request)
      → turns_after (Some (record row { state = s; revision = n; config = record row.config { zonepath = path } })) r ≡ turns_after (Some row) r
  same_more row path s n (request.Reboot args) = refl
  same_more row path s n r = refl

  state_fewer : (rest : List Step) (s : ZoneState) (row : Option Record) → v.stored ≡ row → In (Fewer (left_of (step.Record s ∷ rest))) v (record_state v.desk j rest s row)
  state_fewer rest s None e = λ i. absurd (true≢false (sym i))
  state_fewer rest s (Some row) e =
      let same = same_more row row.config.zonepath s row.revision j.request ∙ ap (λ o. turns_after o j.request) (sym e) in (
        λ p i. fail_fewer _,
        λ n i. subst (λ (f : ℕ → ℕ → ℕ). A + most f (length v.objects.mounts) (length v.objects.claims) u rest < left_of (step.Record s ∷ rest)) (sym same) (did A _ _),
      )

  moved_fewer : (rest : List Step) (path : List ℕ) (row : Option Record) → v.stored ≡ row → In (Fewer (left_of (step.Moved ∷ rest))) v (record_moved v.desk j rest path row)
  moved_fewer rest path None e = λ i. absurd (true≢false (sym i))
  moved_fewer rest path (Some row) e = at_config (with_zonepath path row.config) refl
    where
      at_config : (c : Result Contents ConfigFault) → with_zonepath path row.config ≡ c → In (Fewer (left_of (step.Moved ∷ rest))) v (record_config v.desk j rest path row c)
      at_config (Err f) is = λ i. fail_fewer _
      at_config (Ok config) is = (
        λ p i. fail_fewer _,
        λ n i. subst (λ (f : ℕ → ℕ → ℕ). A + most f (length v.objects.mounts) (length v.objects.claims) u rest < left_of (step.Moved ∷ rest))
            (sym (ap (λ c. turns_after (Some (moved_record c row n)) j.request) (sym (moved_so path row.config config is)) ∙ (same_more row (kept_path path) row.state n j.request ∙ ap (λ o. turns_after o j.request) (sym e)))) (did A _ _),
      )

  grows : Grows more
  grows = after_grows v.stored j.request

  mount_fewer : (m : Mount) (rest : List Step) (c : ℕ)
      → let o = edits (mounting m v.objects.mounts) v.objects in A + most more (length o.mounts) (length o.claims) (suc u) rest < A + max c (most more (suc (length v.objects.mounts)) (length v.objects.claims) (suc u) rest + 1)
  mount_fewer m rest c = go (is_ok (mount_answer m.dir v.objects.mounts))
    where
      go : (b : Bool) → let o = edits (if b then Of_mounts (Put (before m.dir) (record { mount = m; held = false })) ∷ [] else []) v.objects in
          A + most more (length o.mounts) (length o.claims) (suc u) rest < A + max c (most more (suc (length v.objects.mounts)) (length v.objects.claims) (suc u) rest + 1)
      go true = rw (put_length (before m.dir) (record { mount = m; held = false }) v.objects.mounts) (did A c _)
      go false = grown A _ _ c (most_grows more grows rest (suc u) (length v.objects.mounts) (length v.objects.claims) (suc (length v.objects.mounts)) (length v.objects.claims) (omega arith) (omega arith))

  claim_fewer : (x : Claim) (rest : List Step) (c : ℕ) (b : Bool)
      → A + most more (length v.objects.mounts) (length (claiming b x v.objects.claims)) (suc u) rest < A + max c (most more (length v.objects.mounts) (suc (length v.objects.claims)) (suc u) rest + 1)
  claim_fewer x rest c true = grown A _ _ c (most_grows more grows rest (suc u) (length v.objects.mounts) (length v.objects.claims) (length v.objects.mounts) (suc (length v.objects.claims)) (omega arith) (omega arith))
  claim_fewer x rest c false = subst (λ k. A + most more (length v.objects.mounts) k (suc u) rest < A + max c (most more (length v.objects.mounts) (suc (length v.objects.claims)) (suc u) rest + 1)) (sym (length-append v.objects.claims (x ∷ []) ∙ (omega arith))) (did A c _)

  step_fewer : (s : Step) (rest : List Step) → is_plain (A_step s rest) ≡ true → In (Fewer (left_of (s ∷ rest))) v (on_next v j (A_step s rest))
  step_fewer (step.Hook change) rest h = hook_fewer rest change (answer_of v.brands j.brand change)
  step_fewer (step.Record s) rest h = state_fewer rest s v.stored refl
  step_fewer step.Moved rest h = moved_fewer rest (new_path j.request) v.stored refl
  step_fewer (step.Source z) rest h = (λ p i. fail_fewer _, λ n i. did A _ _)
  step_fewer (step.Zid o) rest h = (λ p i. fail_fewer _, λ n i. did A _ _)
  step_fewer (step.Claimed c) rest h = (λ p i. fail_fewer _, λ n i. claim_fewer c rest _ (holds c v.objects.claims))
  step_fewer (step.Init o) rest h = (λ p i. fail_fewer _, λ n i. did A _ _)
  step_fewer step.Root rest h = λ i. mount_fewer _ rest _
  step_fewer (step.Mounted dir) rest h = λ i. mount_fewer _ rest _
  step_fewer (step.Unmount d) rest h = absurd (true≢false (sym h))
  step_fewer (step.Release d) rest h = absurd (true≢false (sym h))
  step_fewer (step.State Ready) rest h = λ i. did A _ _
  step_fewer (step.State s) rest h = λ i. did A _ _
  step_fewer s rest h = λ i. did A _ _

  -- a mount or a claim goes, of which so many more are left
  goes_one : (a m x : ℕ) → a + (m + x) < a + (suc m + x)
  goes_one a m x = omega arith

  goes_more : (a m n x : ℕ) → n < m → a + (n + x) < a + (m + x)
  goes_more a m n x h = omega arith

  unmount_fewer : (d : Option (List ℕ)) (rest : List Step) (l : MountEntry) → last_of v.objects.mounts ≡ Some l
      → In (Fewer (left_of (step.Unmount d ∷ rest))) v (Just (unmount_last v.desk j (step.Unmount d ∷ rest) l))
  unmount_fewer d rest l e = go l.held
    where
      go : (b : Bool) → In (Fewer (left_of (step.Unmount d ∷ rest))) v (Just (if b then stuck v.desk else advance v.desk j (step.Unmount d ∷ rest) (Of_mounts (Go (is_at l.mount.dir)) ∷ []) (step.Unmount (Some l.mount.dir))))
      go true = λ i. absurd (true≢false (sym i))
      go false = λ i. goes_more A (length v.objects.mounts) _ (most more 0 (length v.objects.claims) u rest) (last_fewer v.objects.mounts l e)

  release_fewer : (o : Option Claim) (rest : List Step) (l : Claim) (n : ℕ) → length v.objects.claims ≡ suc n → length (but_last v.objects.claims) ≡ n
      → In (Fewer (left_of (step.Release o ∷ rest))) v (Just (advance v.desk j (step.Release o ∷ rest) (Last_claim_goes ∷ []) (step.Release (Some l))))
  release_fewer o rest l n e e' = λ i. rw (e, e') (goes_one A n (most more (length v.objects.mounts) 0 u rest))

  -- the boot of a reboot, from whatever state
  boot_fewer : (s : ZoneState) (args : List ℕ) (c : Contents) (m k : ℕ) → A + most the_end m k 0 (plan (request.Boot args) s c) < A + boot_turns args c m k
  boot_fewer Ready args c m k = omega (arith, le-max_right (most the_end m k 0 (plan (request.Boot args) Installed c)) (most the_end m k 0 (plan (request.Boot args) Ready c)))
  boot_fewer s args c m k = omega (arith, le-max_left (most the_end m k 0 (plan (request.Boot args) Installed c)) (most the_end m k 0 (plan (request.Boot args) Ready c)))

  over_fewer : (row : Option Record) (r : Request) → v.stored ≡ row → j.request ≡ r → In (Fewer (A + turns_after row r (length v.objects.mounts) (length v.objects.claims))) v (over v.brands v.desk j row r)
  over_fewer (Some row) (request.Reboot args) e er = go (refusal v.brands kind.Boot (state_now row v.desk) row.config)
    where
      go : (o : Option Outcome) → In (Fewer (A + boot_turns args row.config (length v.objects.mounts) (length v.objects.claims))) v (Just (started v.brands v.desk j.ticket (request.Boot args) (state_now row v.desk) row o))
      go None = λ i. rw e (boot_fewer (state_now row v.desk) args row.config (length v.objects.mounts) (length v.objects.claims))
      go (Some o) = λ i. omega arith
  over_fewer None r e er = λ i. omega arith
  over_fewer (Some row) r e er = λ i. omega arith

  left_fewer : (left : List Step) → In (Fewer (left_of left)) v (on_next v j (next v.objects left))
  left_fewer [] = over_fewer v.stored j.request refl refl
  left_fewer (step.Unmount d ∷ rest) = go v.objects.mounts refl (left_fewer rest)
    where
      go : (xs : List MountEntry) → v.objects.mounts ≡ xs → In (Fewer (left_of rest)) v (on_next v j (next v.objects rest)) → In (Fewer (left_of (step.Unmount d ∷ rest))) v (on_next v j (next v.objects (step.Unmount d ∷ rest)))
      go [] e h =
          let none : length v.objects.mounts ≡ 0 = ap length e in
          let same : left_of rest ≡ left_of (step.Unmount d ∷ rest) = rw none (omega arith) in
          subst (λ o. In (Fewer (left_of (step.Unmount d ∷ rest))) v (on_next v j (mount_or (step.Unmount d ∷ rest) (next v.objects rest) o))) (sym (ap last_of e))
          (subst (λ n. In (Fewer n) v (on_next v j (next v.objects rest))) same h)
      go (x ∷ xs) e h =
          let l = last_some x xs in
          subst (λ o. In (Fewer (left_of (step.Unmount d ∷ rest))) v (on_next v j (mount_or (step.Unmount d ∷ rest) (next v.objects rest) o))) (sym (ap last_of e ∙ l.1))
          (unmount_fewer d rest l.0 (ap last_of e ∙ l.1))
  left_fewer (step.Release d ∷ rest) = go v.objects.claims refl (left_fewer rest)
    where
      go : (xs : List Claim) → v.objects.claims ≡ xs → In (Fewer (left_of rest)) v (on_next v j (next v.objects rest)) → In (Fewer (left_of (step.Release d ∷ rest))) v (on_next v j (next v.objects (step.Release d ∷ rest)))
      go [] e h =
          let none : length v.objects.claims ≡ 0 = ap length e in
          let same : left_of rest ≡ left_of (step.Release d ∷ rest) = rw none (omega arith) in
          subst (λ o. In (Fewer (left_of (step.Release d ∷ rest))) v (on_next v j (claim_or (step.Release d ∷ rest) (next v.objects rest) o))) (sym (ap last_of e))
          (subst (λ n. In (Fewer n) v (on_next v j (next v.objects rest))) same h)
      go (x ∷ xs) e h =
          let l = last_some x xs in
          subst (λ o. In (Fewer (left_of (step.Release d ∷ rest))) v (on_next v j (claim_or (step.Release d ∷ rest) (next v.objects rest) o))) (sym (ap last_of e ∙ l.1))
          (release_fewer d rest l.0 (length (but_last (x ∷ xs))) (ap length e ∙ last_length x xs) (ap (λ ms. length (but_last ms)) e))
  left_fewer (s ∷ rest) = step_fewer s rest refl

  undo_mount_fewer : (o : Outcome) (s : Step) (rest : List Step) (dir : List ℕ) (b : Bool) → In (Fewer (A + (length (s ∷ rest) + 1))) v (Just (if b then stuck v.desk else undone v.desk j o rest (Of_mounts (Go (is_at dir)) ∷ []) s))
  undo_mount_fewer o s rest dir true = λ i. absurd (true≢false (sym i))
  undo_mount_fewer o s rest dir false = λ i. omega arith

  -- one step back
  undo_fewer : (o : Outcome) (s : Step) (rest : List Step) → In (Fewer (A + (length (s ∷ rest) + 1))) v (on_undo v j o rest s)
  undo_fewer o step.Root rest = undo_mount_fewer o step.Root rest root_dir (is_held (mount_at root_dir v.objects.mounts))
  undo_fewer o (step.Mounted dir) rest = undo_mount_fewer o (step.Mounted dir) rest dir (is_held (mount_at dir v.objects.mounts))
  undo_fewer o _ rest = λ i. omega arith

stage_fewer : (w : Seen) (t : ℕ) (r : Request) (c : Kept) (dn : Progress) (stage : Stage)
    → let v = at_job w (J t r c dn stage) in In (Fewer (turns_left v)) v (turn v)
unfolding turn local_turn
stage_fewer w t r c dn (Goes left) = left_fewer (at_job w (J t r c dn (Goes left))) (J t r c dn (Goes left)) left
stage_fewer w t r c dn (Fails o []) = λ i. omega arith
stage_fewer w t r c dn (Fails o (s ∷ rest)) = undo_fewer (at_job w (J t r c dn (Fails o (s ∷ rest)))) (J t r c dn (Fails o (s ∷ rest))) o s rest

begin_fewer : (w : Seen) (rs : List (ℕ × Request)) (row : Option Record) → w.stored ≡ row → IsShort w → In (Fewer (1000000 * length rs)) w (next_request w.brands w.desk rs row)
begin_fewer w [] row e short = λ i. absurd (true≢false (sym i))
begin_fewer w (r ∷ rs) None e short = λ i. absurd (true≢false (sym i))
begin_fewer w (r ∷ rs) (Some row) e short = go (refusal w.brands (kind_of r.1) (state_now row w.desk) row.config)
  where
    go : (o : Option Outcome) → In (Fewer (1000000 * length (r ∷ rs))) w (Just (started w.brands (record w.desk { waiting = rs }) r.0 r.1 (state_now row w.desk) row o))
    go None = λ i. omega (arith, short row r.1 e)
    go (Some o) = λ i. omega arith

rest_fewer : (w : Seen) → IsShort w → let v = at_rest w in In (Fewer (turns_left v)) v (turn v)
unfolding turn local_turn
rest_fewer w short = subst (λ n. In (Fewer n) (at_rest w) (next_request w.brands (at_rest w).desk w.desk.waiting w.stored)) (omega arith) (begin_fewer (at_rest w) w.desk.waiting w.stored refl short)

-- each turn that moves on leaves fewer turns
pub turn_fewer : (w : Seen) (g : Grant) → IsShort w → let a = after (turn w) g w in moves_on a.reply ≡ true → turns_left a.seen < turns_left w
turn_fewer w g short = go w.desk.job refl
  where
    go : (o : Option Job) → w.desk.job ≡ o → Fewer (turns_left w) (after (turn w) g w)
    go None e =
        let same : w ≡ at_rest w = λ i. record w { desk = record w.desk { job = e i } } in
        subst (λ v. Fewer (turns_left v) (after (turn v) g v)) (sym same) (in_after (Fewer (turns_left (at_rest w))) (at_rest w) (turn (at_rest w)) g (rest_fewer w short))
    go (Some j) e =
        subst (λ v. Fewer (turns_left v) (after (turn v) g v)) (sym (is_at_job w j e))
        (in_after (Fewer (turns_left (at_job w j))) (at_job w j) (turn (at_job w j)) g (stage_fewer w j.ticket j.request (j.brand, j.config) j.done j.stage))
