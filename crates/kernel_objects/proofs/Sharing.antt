-- What becomes of the shared part, in several steps, and what a fork makes.
use Rattle.std.proofs.Common.{◌≡◌, ◌∷◌, [], ℕ, List, Bool, true, false, Option, Some, None, Ok, Err, nat_eq, refl, ap, sym, ◌∙◌}
use Rattle.std.specs.Prelude.{IfSome, if◌then◌else◌}
use Rattle.std.proofs.lemmas.Bool.{eqb-true}
use Rattle.zn_base.specs.Names.{Name}
use Rattle.kernel_objects.specs.Kernel.{Kernel, fork_set, forked, set_unless_full, with_process}
use Rattle.kernel_objects.specs.Processes.{Process, may_fork, with_pid}
use Rattle.kernel_objects.specs.declared.faults.Errno.TheVariants.{EPERM}
use Rattle.kernel_objects.specs.Shared.{Alike, FreesZids, Shared, TakesPid, TakesZid}

module _ (z : Name) (n : ℕ) (s t : Shared) (alike : Alike s t) where
  -- room is made, and then a number is taken
  pub took_pid : (u : Shared) → t ≡ record s { pids = t.pids } → TakesPid z n t u → TakesPid z n s u
  took_pid u same took = record {
    pids = λ k. took.pids k ∙ ap (λ o. if nat_eq n k then Some z else o) (alike.pids k);
    same = took.same ∙ ap (λ (t : Shared). record t { pids = u.pids; last_pid = n }) same;
  }

  -- room is made, what the zone held is given back, and then a number is taken
  pub took_zid : (gone : ℕ → Bool) (u v : Shared) → t ≡ record s { zids = t.zids } → FreesZids gone t u → TakesZid z n (λ k. false) u v → TakesZid z n gone s v
  took_zid gone u v same freed took = record {
    zids = λ k. took.zids k ∙ ap (λ o. if nat_eq n k then Some z else o) (freed.zids k ∙ ap (λ o. if gone k then None else o) (alike.zids k));
    same = took.same ∙ ap (λ (u : Shared). record u { zids = v.zids; last_zid = n }) (freed.same ∙ ap (λ (t : Shared). record t { zids = u.zids }) same);
  }

-- the process with a number has it
pub has_its_pid : (pid : ℕ) (ps : List Process) (p : Process) → with_pid pid ps ≡ Some p → p.pid ≡ pid
has_its_pid pid [] p h = cc
has_its_pid pid (q ∷ ps) p h = at_head (has_its_pid pid ps p) (nat_eq q.pid pid) refl h
  where
    at_head : (with_pid pid ps ≡ Some p → p.pid ≡ pid) → (b : Bool) → nat_eq q.pid pid ≡ b → with_pid pid (q ∷ ps) ≡ Some p → p.pid ≡ pid
    at_head ih true e h =
        let here : Some q ≡ Some p = rw e at h in
        let same : q ≡ p = cc in
        ap (λ (p : Process). p.pid) (sym same) ∙ eqb-true q.pid pid e
    at_head ih false e h = ih (rw e at h)

-- the set of a parent that may fork
parents_set : (may full : Bool) (own set : List ℕ) → (if may then set_unless_full full own else Err EPERM) ≡ Ok set → own ≡ set
parents_set true false own set h = cc
parents_set true true own set h = cc
parents_set false full own set h = cc

-- a process with its parent's number and set is forked
pub forks : (ps : List Process) (parent : ℕ) (name set : List ℕ) (full : Bool) → fork_set (with_pid parent ps) full ≡ Ok set → (pid : ℕ)
    → IfSome (with_pid parent ps) (λ p. record { pid = pid; parent = parent; name = name; first = false; privileges = set } ≡ forked p name pid)
forks ps parent name set full said pid = at_parent (with_pid parent ps) refl said
  where
    at_parent : (o : Option Process) → with_pid parent ps ≡ o → fork_set o full ≡ Ok set → IfSome o (λ p. record { pid = pid; parent = parent; name = name; first = false; privileges = set } ≡ forked p name pid)
    at_parent None e h = tt
    at_parent (Some p) e h =
        let its : p.pid ≡ parent = has_its_pid parent ps p e in
        let own : p.privileges ≡ set = parents_set (may_fork p) full p.privileges set h in
        ap (λ n. record { pid = pid; parent = n; name = name; first = false; privileges = set }) (sym its)
        ∙ ap (λ set. record { pid = pid; parent = p.pid; name = name; first = false; privileges = set }) (sym own)

-- the zone has what is forked, once it began
pub comes : (k new : Kernel) (child : Process) (o : Option Process) (becomes : Process → Process) → new ≡ with_process child k → IfSome o (λ p. child ≡ becomes p) → IfSome o (λ p. new ≡ with_process (becomes p) k)
comes k new child None becomes made same = tt
comes k new child (Some p) becomes made same = made ∙ ap (λ q. with_process q k) same
