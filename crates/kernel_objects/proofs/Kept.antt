-- What the calls keep: who has which number, that a cell and the shared part agree, and that sets lie within the limit.
use Rattle.std.proofs.Common.{◌≡◌, ◌∷◌, ◌&&◌, ◌||◌, [], ℕ, List, Bool, true, false, Some, None, Option, not, filter, map, nat_eq, nat_lt, refl, ap, sym, subst, ◌∙◌}
use Rattle.std.specs.Prelude.{if◌then◌else◌, ◌==◌}
use Rattle.std.specs.List.{list_all, list_any}
use Rattle.std.proofs.lemmas.Bool.{and_from, eq-eqb, eqb-true, false≢true}
use Rattle.zn_base.specs.Names.{Name}
use Rattle.zone_pools.proofs.Owned_laws.{same_self}
use Rattle.zone_pools.specs.Owned_lists.{put}
use Rattle.zone_pools.specs.Owners.{is_owner}
use Rattle.priv_sets.proofs.Numbers.{has-set_of}
use Rattle.priv_sets.specs.Sets.{has, only, within, without}
use Rattle.kernel_objects.specs.Kernel.{Kernel, entered, forked, has_zid, is_nothing, limit_of, new_id, nothing, with_process, with_processes, within_limit}
use Rattle.kernel_objects.specs.Processes.{Process, adopted, at_pid, below, dropping, has_pid, heir, renamed, with_pid, without_pid}
use Rattle.kernel_objects.specs.declared.objects.Id.{Id}
use Rattle.kernel_objects.specs.Shared.{Agree, FreesPids, FreesZids, Shared, TakesPid, TakesZid, pid_owner, zid_owner}

both : (a b : Bool) → (a && b) ≡ true → (a ≡ true) × (b ≡ true)
both true b h = (refl, h)
both false b h = absurd (false≢true h)

-- numbers
module _ (n : ℕ) where
  abbrev holds : List Process → Bool
  holds ps = list_any (has_pid n) ps

  exchanged : (a b c : Bool) → (a || (b || c)) ≡ (b || (a || c))
  exchanged true true c = refl
  exchanged true false c = refl
  exchanged false b c = refl

  pub holds-put : (p : Process) (ps : List Process) → list_any (has_pid n) (put (below p.pid) p ps) ≡ (nat_eq p.pid n || list_any (has_pid n) ps)
  holds-put p [] = refl
  holds-put p (q ∷ ps) = at_head (holds-put p ps) (nat_lt q.pid p.pid) refl
    where
      at_head : holds (put (below p.pid) p ps) ≡ (nat_eq p.pid n || holds ps) → (b : Bool) → nat_lt q.pid p.pid ≡ b → holds (put (below p.pid) p (q ∷ ps)) ≡ (nat_eq p.pid n || holds (q ∷ ps))
      at_head ih true e = rw (e, ih) (exchanged (nat_eq q.pid n) (nat_eq p.pid n) (holds ps))
      at_head ih false e = rw e refl

  left_out : (a c : Bool) → (c && not a) ≡ ((a || c) && not a)
  left_out true true = refl
  left_out true false = refl
  left_out false c = refl

  kept_in : (a b c : Bool) → (b ≡ true → a ≡ false) → (a || (c && not b)) ≡ ((a || c) && not b)
  kept_in true true c h = absurd (false≢true (sym (h refl)))
  kept_in true false c h = refl
  kept_in false b c h = refl

  holds-go : (pid : ℕ) (ps : List Process) → holds (filter (λ p. not (has_pid pid p)) ps) ≡ (holds ps && not (nat_eq pid n))
  holds-go pid [] = refl
  holds-go pid (q ∷ ps) = at_head (holds-go pid ps) (nat_eq q.pid pid) refl
    where
      at_head : holds (filter (λ p. not (has_pid pid p)) ps) ≡ (holds ps && not (nat_eq pid n)) → (b : Bool) → nat_eq q.pid pid ≡ b
          → holds (filter (λ p. not (has_pid pid p)) (q ∷ ps)) ≡ (holds (q ∷ ps) && not (nat_eq pid n))
      at_head ih true e = let same : q.pid ≡ pid = eqb-true q.pid pid e in rw (e, ih, same) (left_out (nat_eq pid n) (holds ps))
      at_head ih false e = rw (e, ih) (kept_in (nat_eq q.pid n) (nat_eq pid n) (holds ps) other)
        where
          other : nat_eq pid n ≡ true → nat_eq q.pid n ≡ false
          other h = ap (nat_eq q.pid) (sym (eqb-true pid n h)) ∙ e

  pub holds-change : (f : Process → Process) → ((p : Process) → (f p).pid ≡ p.pid) → (ps : List Process) → list_any (has_pid n) (map f ps) ≡ list_any (has_pid n) ps
  holds-change f keeps [] = refl
  holds-change f keeps (q ∷ ps) = rw (keeps q, holds-change f keeps ps) refl

  adopted_pid : (gone to : ℕ) (p : Process) → (adopted gone to p).pid ≡ p.pid
  adopted_pid gone to p = at_test (nat_eq p.parent gone)
    where
      at_test : (b : Bool) → (if b then record p { parent = to } else p).pid ≡ p.pid
      at_test true = refl
      at_test false = refl

  pub holds-without : (pid : ℕ) (ps : List Process) → list_any (has_pid n) (without_pid pid ps) ≡ (list_any (has_pid n) ps && not (nat_eq pid n))
  holds-without pid ps = let rest = filter (λ (p : Process). not (has_pid pid p)) ps in holds-change (adopted pid (heir rest)) (adopted_pid pid (heir rest)) rest ∙ holds-go pid ps

pub at_pid_keeps : (pid : ℕ) (f : Process → Process) → ((p : Process) → (f p).pid ≡ p.pid) → (p : Process) → (at_pid pid f p).pid ≡ p.pid
at_pid_keeps pid f keeps p = at_test (nat_eq p.pid pid)
  where
    at_test : (b : Bool) → (if b then f p else p).pid ≡ p.pid
    at_test true = keeps p
    at_test false = refl

-- a cell and the shared part
module _ (z : Name) (k : Kernel) (s t : Shared) (agree : Agree z k s) where
  pub agree-come : (p : Process) → TakesPid z p.pid s t → Agree z (with_process p k) t
  agree-come p took = record {
    pids = λ n. holds-put n p k.processes ∙ (at_number n (nat_eq p.pid n) ∙ ap (is_owner z) (sym (took.pids n)));
    zids = λ n. agree.zids n ∙ ap (λ (u : Shared). is_owner z (zid_owner u n)) (sym took.same);
  }
    where
      at_number : (n : ℕ) (b : Bool) → (b || list_any (has_pid n) k.processes) ≡ is_owner z (if b then Some z else pid_owner s n)
      at_number n true = sym (same_self z)
      at_number n false = agree.pids n

  pub agree-gone : (freed : ℕ → Bool) (ps : List Process) → FreesPids freed s t → ((n : ℕ) → list_any (has_pid n) ps ≡ (list_any (has_pid n) k.processes && not (freed n))) → Agree z (with_processes ps k) t
  agree-gone freed ps frees left = record {
    pids = λ n. left n ∙ (at_number n (freed n) (list_any (has_pid n) k.processes) (agree.pids n) ∙ ap (is_owner z) (sym (frees.pids n)));
    zids = λ n. agree.zids n ∙ ap (λ (u : Shared). is_owner z (zid_owner u n)) (sym frees.same);
  }
    where
      at_number : (n : ℕ) (b held : Bool) → held ≡ is_owner z (pid_owner s n) → (held && not b) ≡ is_owner z (if b then None else pid_owner s n)
      at_number n true true h = refl
      at_number n true false h = refl
      at_number n false true h = h
      at_number n false false h = h

  pub agree-activated : (zid : ℕ) → TakesZid z zid (λ n. has_zid n k.id) s t → Agree z (record k { id = Some (new_id zid) }) t
  agree-activated zid took = record {
    pids = λ n. agree.pids n ∙ ap (λ (u : Shared). is_owner z (pid_owner u n)) (sym took.same);
    zids = λ n. at_number n (nat_eq zid n) (has_zid n k.id) (agree.zids n) ∙ ap (is_owner z) (sym (took.zids n));
  }
    where
      at_number : (n : ℕ) (b held : Bool) → held ≡ is_owner z (zid_owner s n) → b ≡ is_owner z (if b then Some z else if held then None else zid_owner s n)
      at_number n true held h = sym (same_self z)
      at_number n false true h = refl
      at_number n false false h = h

  pub agree-deactivated : FreesZids (λ n. has_zid n k.id) s t → Agree z (record k { id = None }) t
  agree-deactivated frees = record {
    pids = λ n. agree.pids n ∙ ap (λ (u : Shared). is_owner z (pid_owner u n)) (sym frees.same);
    zids = λ n. at_number n (has_zid n k.id) (agree.zids n) ∙ ap (is_owner z) (sym (frees.zids n));
  }
    where
      at_number : (n : ℕ) (held : Bool) → held ≡ is_owner z (zid_owner s n) → false ≡ is_owner z (if held then None else zid_owner s n)
      at_number n true h = refl
      at_number n false h = h

-- sets
or_left : (a b : Bool) → a ≡ true → (a || b) ≡ true
or_left true b h = refl
or_left false b h = absurd (false≢true h)

or_right : (a b : Bool) → b ≡ true → (a || b) ≡ true
or_right true b h = refl
or_right false b h = h

within_by : (set other : List ℕ) → ((m : ℕ) → has set m ≡ true → has other m ≡ true) → within set other ≡ true
unfolding has within
within_by [] other h = refl
within_by (x ∷ set) other h = and_from _ _ (h x (or_left (x == x) _ (eq-eqb x x refl))) (within_by set other (λ m e. h m (or_right (x == m) _ e)))

has_within : (set other : List ℕ) (m : ℕ) → within set other ≡ true → has set m ≡ true → has other m ≡ true
unfolding has within
has_within [] other m h e = absurd (false≢true e)
has_within (x ∷ set) other m h e = at_head (has_within set other m (both _ _ h).1) (x == m) refl e
  where
    at_head : (has set m ≡ true → has other m ≡ true) → (b : Bool) → (x == m) ≡ b → (b || has set m) ≡ true → has other m ≡ true
    at_head ih true same e = subst (λ y. has other y ≡ true) (eqb-true x m same) (both _ _ h).0
    at_head ih false apart e = ih e

within_self : (set : List ℕ) → within set set ≡ true
within_self set = within_by set set (λ m e. e)

-- what is left was there
was_there : (set gone : List ℕ) (m : ℕ) → has (without set gone) m ≡ true → has set m ≡ true
unfolding without
was_there set gone m e = (both _ _ (both _ _ (sym (has-set_of (λ n. has set n && not (has gone n)) m) ∙ e)).1).0

within_without : (set gone other : List ℕ) → within set other ≡ true → within (without set gone) other ≡ true
within_without set gone other h = within_by (without set gone) other (λ m e. has_within set other m h (was_there set gone m e))

-- a test of all processes, after changes of their list
module _ (test : Process → Bool) where
  all-put : (before : Process → Bool) (p : Process) (ps : List Process) → test p ≡ true → list_all test ps ≡ true → list_all test (put before p ps) ≡ true
  all-put before p [] t h = and_from _ _ t refl
  all-put before p (q ∷ ps) t h = at_head (all-put before p ps t (both _ _ h).1) (before q) refl
    where
      at_head : list_all test (put before p ps) ≡ true → (b : Bool) → before q ≡ b → list_all test (put before p (q ∷ ps)) ≡ true
      at_head ih true e = rw e (and_from _ _ (both _ _ h).0 ih)
      at_head ih false e = rw e (and_from _ _ t h)

  all-filter : (keep : Process → Bool) (ps : List Process) → list_all test ps ≡ true → list_all test (filter keep ps) ≡ true
  all-filter keep [] h = refl
  all-filter keep (q ∷ ps) h = at_head (all-filter keep ps (both _ _ h).1) (keep q) refl
    where
      at_head : list_all test (filter keep ps) ≡ true → (b : Bool) → keep q ≡ b → list_all test (filter keep (q ∷ ps)) ≡ true
      at_head ih true e = rw e (and_from _ _ (both _ _ h).0 ih)
      at_head ih false e = rw e ih

  all-map : (f : Process → Process) → ((p : Process) → test p ≡ true → test (f p) ≡ true) → (ps : List Process) → list_all test ps ≡ true → list_all test (map f ps) ≡ true
  all-map f keeps [] h = refl
  all-map f keeps (q ∷ ps) h = and_from _ _ (keeps q (both _ _ h).0) (all-map f keeps ps (both _ _ h).1)

  all-with : (pid : ℕ) (p : Process) (ps : List Process) → with_pid pid ps ≡ Some p → list_all test ps ≡ true → test p ≡ true
  all-with pid p [] e h = cc
  all-with pid p (q ∷ ps) e h = at_head (λ rest. all-with pid p ps rest (both _ _ h).1) (nat_eq q.pid pid) refl e
    where
      at_head : (with_pid pid ps ≡ Some p → test p ≡ true) → (b : Bool) → nat_eq q.pid pid ≡ b → with_pid pid (q ∷ ps) ≡ Some p → test p ≡ true
      at_head ih true s e = let here : Some q ≡ Some p = rw s at e in let same : q ≡ p = cc in subst (λ x. test x ≡ true) same (both _ _ h).0
      at_head ih false s e = ih (rw s at e)

  -- a change of one process, or of children
  all-at : (pid : ℕ) (f : Process → Process) → ((p : Process) → test p ≡ true → test (f p) ≡ true) → (p : Process) → test p ≡ true → test (at_pid pid f p) ≡ true
  all-at pid f keeps p h = at_test (nat_eq p.pid pid)
    where
      at_test : (b : Bool) → test (if b then f p else p) ≡ true
      at_test true = keeps p h
      at_test false = h

module _ (k : Kernel) where
  abbrev fits : Process → Bool
  fits p = within p.privileges (limit_of k.id)

  pub within-none : k.processes ≡ [] → within_limit k ≡ true
  within-none none = ap (list_all fits) none

  pub within-entered : (name : List ℕ) (first : Bool) (pid : ℕ) → within_limit k ≡ true → within_limit (with_process (entered k name first pid) k) ≡ true
  within-entered name first pid h = all-put fits (below pid) (entered k name first pid) k.processes (within_self (limit_of k.id)) h

  pub within-forked : (parent pid : ℕ) (p : Process) (name : List ℕ) → with_pid parent k.processes ≡ Some p → within_limit k ≡ true → within_limit (with_process (forked p name pid) k) ≡ true
  within-forked parent pid p name e h = all-put fits (below pid) (forked p name pid) k.processes (all-with fits parent p k.processes e h) h

  adopted_fits : (gone to : ℕ) (p : Process) → fits p ≡ true → fits (adopted gone to p) ≡ true
  adopted_fits gone to p h = at_test (nat_eq p.parent gone)
    where
      at_test : (b : Bool) → fits (if b then record p { parent = to } else p) ≡ true
      at_test true = h
      at_test false = h

  pub within-gone : (pid : ℕ) → within_limit k ≡ true → within_limit (with_processes (without_pid pid k.processes) k) ≡ true
  within-gone pid h =
      let rest = filter (λ (p : Process). not (has_pid pid p)) k.processes in
      all-map fits (adopted pid (heir rest)) (adopted_fits pid (heir rest)) rest (all-filter fits (λ p. not (has_pid pid p)) k.processes h)

  pub within-renamed : (pid : ℕ) (name : List ℕ) → within_limit k ≡ true → within_limit (with_processes (map (at_pid pid (renamed name)) k.processes) k) ≡ true
  within-renamed pid name h = all-map fits (at_pid pid (renamed name)) (all-at fits pid (renamed name) (λ p e. e)) k.processes h

  pub within-dropped : (pid number : ℕ) → within_limit k ≡ true → within_limit (with_processes (map (at_pid pid (dropping number)) k.processes) k) ≡ true
  within-dropped pid number h =
      all-map fits (at_pid pid (dropping number)) (all-at fits pid (dropping number) (λ p e. within_without p.privileges (only number) (limit_of k.id) e)) k.processes h

-- a zone without anything
pub nothing_is : (k : Kernel) → is_nothing k ≡ true → k ≡ nothing
nothing_is k h = of_parts k.id k.processes k.devices h
  where
    of_parts : (id : Option Id) (ps : List Process) (devices : List (List ℕ)) → is_nothing (record { id = id; processes = ps; devices = devices }) ≡ true → record { id = id; processes = ps; devices = devices } ≡ nothing
    of_parts None [] [] h = refl
    of_parts (Some i) ps devices h = absurd (false≢true h)
    of_parts None (p ∷ ps) devices h = absurd (false≢true h)
    of_parts None [] (d ∷ devices) h = absurd (false≢true h)
