-- A zone of some size has few turns left.
use Rattle.commit_journal.specs.declared.records.Record.{Record}
use Rattle.std.proofs.Common.{◌≡◌, ℕ, suc, ◌+◌, ◌*◌, ◌<◌, ◌≤◌, max, List, [], ◌∷◌, length, Bool, true, false, Some, if◌then◌else◌, sym, subst, arith, length-append}
use Rattle.std.proofs.lemmas.List.{length-map}
use Rattle.zn_base.specs.declared.state.ZoneState.TheVariants.{Ready, Installed, Incomplete}
use Rattle.zn_base.specs.declared.state.ZoneState.{ZoneState}
use Rattle.zone_config.specs.declared.terms.Contents.{Contents}
use Rattle.zoneadmd_laws.specs.Turns_left.{IsShort, IsSmall, boot_turns, may_fail, most, the_end, turns_after, undo_with}
use Rattle.zoneadmd_steps.specs.Configs.{claims_of, fs_dirs}
use Rattle.zoneadmd_steps.specs.Desks.{state_now}
use Rattle.zoneadmd_steps.specs.Plans.{boot_part, plan, ready_part}
use Rattle.zoneadmd_steps.specs.Turns.{Seen}
use Rattle.zoneadmd_steps.specs.declared.requests.Request.TheVariants as request
use Rattle.zoneadmd_steps.specs.declared.requests.Request.{Request}
use Rattle.zoneadmd_steps.specs.declared.requests.Step.TheVariants as step
use Rattle.zoneadmd_steps.specs.declared.requests.Step.{Step}

-- one step: what it adds, and what its failure costs
one_bound : (b : Bool) (u n m k u' m' k' x y : ℕ) → u' ≤ u + 1 → m' + k' ≤ m + k + 1 → y ≤ x + u' + 3 * n + (m' + k') + 2 → max (if b then u + 2 else 0) (y + 1) ≤ x + u + 3 * suc n + (m + k) + 2
one_bound true u n m k u' m' k' x y a b h = omega arith
one_bound false u n m k u' m' k' x y a b h = omega arith

module _ (more : ℕ → ℕ → ℕ) (N K : ℕ) (bound : (m k : ℕ) → m + k ≤ N → more m k ≤ K) where
  pub most_bound : (left : List Step) (m k u : ℕ) → m + k + length left ≤ N → most more m k u left ≤ K + u + 3 * length left + (m + k) + 2
  most_bound [] m k u h = omega (arith, bound m k (omega arith))
  most_bound (step.Unmount d ∷ rest) m k u h = omega (arith, most_bound rest 0 k u (omega arith))
  most_bound (step.Release c ∷ rest) m k u h = omega (arith, most_bound rest m 0 u (omega arith))
  most_bound (step.Root ∷ rest) m k u h = one_bound false u (length rest) m k (suc u) (suc m) k K _ (omega arith) (omega arith) (most_bound rest (suc m) k (suc u) (omega arith))
  most_bound (step.Mounted d ∷ rest) m k u h = one_bound false u (length rest) m k (suc u) (suc m) k K _ (omega arith) (omega arith) (most_bound rest (suc m) k (suc u) (omega arith))
  most_bound (step.Claimed c ∷ rest) m k u h = one_bound true u (length rest) m k (suc u) m (suc k) K _ (omega arith) (omega arith) (most_bound rest m (suc k) (suc u) (omega arith))
  most_bound (step.State Ready ∷ rest) m k u h = one_bound false u (length rest) m k 0 m k K _ (omega arith) (omega arith) (most_bound rest m k 0 (omega arith))
  most_bound (step.State s ∷ rest) m k u h = one_bound false u (length rest) m k u m k K _ (omega arith) (omega arith) (most_bound rest m k u (omega arith))
  most_bound (s ∷ rest) m k u h = one_bound (may_fail s) u (length rest) m k (undo_with s u) m k K _ (omega arith) (omega arith) (most_bound rest m k (undo_with s u) (omega arith))

ready_length : (c : Contents) → length (ready_part c) ≡ length (fs_dirs c) + length (claims_of c) + 7
ready_length c = simp (length-append, length-map) (omega arith)

pub plan_length : (r : Request) (s : ZoneState) (c : Contents) → length (plan r s c) ≤ length (fs_dirs c) + length (claims_of c) + 12
plan_length request.Uninstall Incomplete c = omega arith
plan_length request.Uninstall s c = omega arith
plan_length request.Ready s c = omega (arith, ready_length c)
plan_length (request.Boot args) Ready c = omega arith
plan_length (request.Boot args) s c = omega (arith, ready_length c, length-append (ready_part c) boot_part)
plan_length r s c = omega arith

-- what comes after a plan is bounded too
boot_bound : (args : List ℕ) (c : Contents) (m k : ℕ) → length (fs_dirs c) + length (claims_of c) < 10000 → m + k ≤ 40000 → boot_turns args c m k ≤ 100000
boot_bound args c m k small h =
    let x = plan_length (request.Boot args) Installed c in
    let y = plan_length (request.Boot args) Ready c in
    let a = most_bound the_end 60000 1 (λ m k h. omega arith) (plan (request.Boot args) Installed c) m k 0 (omega arith) in
    let b = most_bound the_end 60000 1 (λ m k h. omega arith) (plan (request.Boot args) Ready c) m k 0 (omega arith) in
    both _ _ (omega arith) (omega arith)
  where
    both : (a b : ℕ) → a ≤ 90000 → b ≤ 90000 → max a b + 1 ≤ 100000
    both a b h h' = omega arith

pub after_bound : (row : Record) (r : Request) (m k : ℕ) → length (fs_dirs row.config) + length (claims_of row.config) < 10000 → m + k ≤ 40000 → turns_after (Some row) r m k ≤ 100000
after_bound row (request.Reboot args) m k small h = boot_bound args row.config m k small h
after_bound row r m k small h = omega arith

pub short : (w : Seen) → IsSmall w → IsShort w
short w small row r e =
    let s = small row e in
    let n = plan_length r (state_now row w.desk) row.config in
    let x = most_bound (turns_after w.stored r) 40000 100000
    (λ m k h. subst (λ o. turns_after o r m k ≤ 100000) (sym e) (after_bound row r m k (omega arith) h))
    (plan r (state_now row w.desk) row.config) (length w.objects.mounts) (length w.objects.claims) 0 (omega arith) in
    omega arith
