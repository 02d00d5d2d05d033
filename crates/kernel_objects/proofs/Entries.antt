-- A map of processes by their numbers, as the list of processes that it shows.
use Rattle.std.proofs.Common.{◌≡◌, ◌∷◌, [], ℕ, List, Bool, true, false, Option, Some, None, not, filter, map, nat_eq, nat_lt, refl, ap, sym, arith, ◌∙◌, Bor}
use Rattle.std.specs.Prelude.{if◌then◌else◌, ◌==◌}
use Rattle.std.specs.BTreeMap.{insert_entry, is_at}
use Rattle.std.specs.Cmp.{eq_by_cmp_equiv}
use Rattle.std.specs.List.{list_any}
use Rattle.std.specs.List.Sorted.{IsStrictlySortedBy}
use Rattle.std.specs.Map.{keys_of, lookup, remove_entry, set_value}
use Rattle.std.specs.Option.{option_copied, option_map}
use Rattle.std.specs.Ordering.{is_eq, nat_cmp}
use Rattle.std.proofs.lemmas.Bool.{eqb-true}
use Rattle.std.proofs.lemmas.Bool.Decides.{nat_tests}
use Rattle.std.proofs.lemmas.Cmp.{nat_cmp_total}
use Rattle.std.proofs.lemmas.Map.{NonePasses, none_passes_from_lookup}
use Rattle.std.proofs.lemmas.Map.Entries.{none_past_head}
use Rattle.std.proofs.lemmas.Map.Keys.{IsDistinct-from_sorted, sorted_tail}
use Rattle.zone_pools.specs.Owned_lists.{put}
use Rattle.kernel_objects.specs.Processes.{Process, adopted, at_pid, below, has_pid, process_of, row_of, with_pid}
use Rattle.kernel_objects.specs.declared.objects.ProcRow.{ProcRow}
use Rattle.kernel_objects.specs.declared.objects.Running.{Running}

-- a key by the map's order, and by the list's test
at_key : (pid k : ℕ) → is_eq (nat_cmp pid k) ≡ nat_eq k pid
at_key pid k = grind (arith, nat_tests)

module _ (pid : ℕ) where
  pub found : (es : List (ℕ × Running)) → option_map (λ r. process_of (pid, r)) (lookup (is_at (nat_cmp pid)) es) ≡ with_pid pid (map process_of es)
  found [] = refl
  found (e ∷ es) = at_head (found es) (nat_eq e.0 pid) refl
    where
      at_head : option_map (λ r. process_of (pid, r)) (lookup (is_at (nat_cmp pid)) es) ≡ with_pid pid (map process_of es) → (b : Bool) → nat_eq e.0 pid ≡ b
          → option_map (λ r. process_of (pid, r)) (lookup (is_at (nat_cmp pid)) (e ∷ es)) ≡ with_pid pid (map process_of (e ∷ es))
      at_head ih true h = let t : is_eq (nat_cmp pid e.0) ≡ true = at_key pid e.0 ∙ h in let same : pid ≡ e.0 = sym (eqb-true e.0 pid h) in rw (t, h) (ap (λ n. Some (process_of (n, e.1))) same)
      at_head ih false h = let t : is_eq (nat_cmp pid e.0) ≡ false = at_key pid e.0 ∙ h in rw (t, h) ih

  -- what a look-up lends
  pub lent : (o : Option (Bor Running)) → option_map (λ r. process_of (pid, r.now)) o ≡ option_map (λ r. process_of (pid, r)) (option_copied o)
  lent None = refl
  lent (Some r) = refl

  -- no process has the number, where the map has no such key
  pub missing : (es : List (ℕ × Running)) → with_pid pid (map process_of es) ≡ None → lookup (is_at (nat_cmp pid)) es ≡ None
  missing es h = of_found (lookup (is_at (nat_cmp pid)) es) (found es ∙ h)
    where
      of_found : (o : Option Running) → option_map (λ r. process_of (pid, r)) o ≡ None → o ≡ None
      of_found None h = refl
      of_found (Some r) h = cc

  pub placed : (r : Running) (es : List (ℕ × Running)) → lookup (is_at (nat_cmp pid)) es ≡ None → map process_of (insert_entry nat_cmp es pid r) ≡ put (below pid) (process_of (pid, r)) (map process_of es)
  placed r [] h = refl
  placed r (e ∷ es) h = at_head (placed r es) (nat_lt pid e.0) (pid == e.0) refl refl
    where
      at_head : (lookup (is_at (nat_cmp pid)) es ≡ None → map process_of (insert_entry nat_cmp es pid r) ≡ put (below pid) (process_of (pid, r)) (map process_of es))
          → (b c : Bool) → nat_lt pid e.0 ≡ b → (pid == e.0) ≡ c → map process_of (insert_entry nat_cmp (e ∷ es) pid r) ≡ put (below pid) (process_of (pid, r)) (map process_of (e ∷ es))
      at_head ih true c h1 h2 = let n : nat_lt e.0 pid ≡ false = grind (arith, nat_tests) in rw (h1, n) refl
      at_head ih false true h1 h2 = let t : is_eq (nat_cmp pid e.0) ≡ true = grind (arith, nat_tests) in absurd (some_none (rw t at h))
        where
          some_none : Some e.1 ≡ None → ⊥
          some_none h = cc
      at_head ih false false h1 h2 =
          let t : is_eq (nat_cmp pid e.0) ≡ false = grind (arith, nat_tests) in
          let n : nat_lt e.0 pid ≡ true = grind (arith, nat_tests) in
          rw (h1, h2, n) (ap (λ ps. process_of e ∷ ps) (ih (rw t at h)))

  -- where no key is the number, no process is meant
  none_kept : (es : List (ℕ × Running)) → NonePasses (is_at (nat_cmp pid)) es → filter (λ p. not (has_pid pid p)) (map process_of es) ≡ map process_of es
  none_kept [] h = refl
  none_kept (e ∷ es) h = let t : nat_eq e.0 pid ≡ false = sym (at_key pid e.0) ∙ h.0 in rw t (ap (λ ps. process_of e ∷ ps) (none_kept es h.1))

  none_changed : (f : Process → Process) (es : List (ℕ × Running)) → NonePasses (is_at (nat_cmp pid)) es → map (at_pid pid f) (map process_of es) ≡ map process_of es
  none_changed f [] h = refl
  none_changed f (e ∷ es) h = let t : nat_eq e.0 pid ≡ false = sym (at_key pid e.0) ∙ h.0 in rw t (ap (λ ps. process_of e ∷ ps) (none_changed f es h.1))

  pub removed : (es : List (ℕ × Running)) → lookup (is_at (nat_cmp pid)) (remove_entry (is_at (nat_cmp pid)) es) ≡ None
      → map process_of (remove_entry (is_at (nat_cmp pid)) es) ≡ filter (λ p. not (has_pid pid p)) (map process_of es)
  removed [] h = refl
  removed (e ∷ es) h = at_head (removed es) (nat_eq e.0 pid) refl h
    where
      at_head : (lookup (is_at (nat_cmp pid)) (remove_entry (is_at (nat_cmp pid)) es) ≡ None → map process_of (remove_entry (is_at (nat_cmp pid)) es) ≡ filter (λ p. not (has_pid pid p)) (map process_of es))
          → (b : Bool) → nat_eq e.0 pid ≡ b → lookup (is_at (nat_cmp pid)) (remove_entry (is_at (nat_cmp pid)) (e ∷ es)) ≡ None
          → map process_of (remove_entry (is_at (nat_cmp pid)) (e ∷ es)) ≡ filter (λ p. not (has_pid pid p)) (map process_of (e ∷ es))
      at_head ih true s h =
          let t : is_eq (nat_cmp pid e.0) ≡ true = at_key pid e.0 ∙ s in
          let none : lookup (is_at (nat_cmp pid)) es ≡ None = rw t at h in
          rw (t, s) (sym (none_kept es (none_passes_from_lookup (is_at (nat_cmp pid)) es none)))
      at_head ih false s h =
          let t : is_eq (nat_cmp pid e.0) ≡ false = at_key pid e.0 ∙ s in
          let rest : lookup (is_at (nat_cmp pid)) (remove_entry (is_at (nat_cmp pid)) es) ≡ None = rw (t, t) at h in
          rw (t, s) (ap (λ ps. process_of e ∷ ps) (ih rest))

  -- nothing changes where the map has no such key
  pub unchanged : (f : Process → Process) (es : List (ℕ × Running)) → lookup (is_at (nat_cmp pid)) es ≡ None → map process_of es ≡ map (at_pid pid f) (map process_of es)
  unchanged f es h = sym (none_changed f es (none_passes_from_lookup (is_at (nat_cmp pid)) es h))

  -- one value changes, among keys in order
  pub changed : (f : Process → Process) (v w : Running) → ((n : ℕ) → process_of (n, w) ≡ f (process_of (n, v))) → (es : List (ℕ × Running)) → IsStrictlySortedBy nat_cmp (keys_of es) → lookup (is_at (nat_cmp pid)) es ≡ Some v
      → map process_of (set_value (is_at (nat_cmp pid)) es w) ≡ map (at_pid pid f) (map process_of es)
  changed f v w made [] s h = refl
  changed f v w made (e ∷ es) s h = at_head (changed f v w made es (sorted_tail nat_cmp e.0 (keys_of es) s)) (nat_eq e.0 pid) refl h
    where
      at_head : (lookup (is_at (nat_cmp pid)) es ≡ Some v → map process_of (set_value (is_at (nat_cmp pid)) es w) ≡ map (at_pid pid f) (map process_of es))
          → (b : Bool) → nat_eq e.0 pid ≡ b → lookup (is_at (nat_cmp pid)) (e ∷ es) ≡ Some v
          → map process_of (set_value (is_at (nat_cmp pid)) (e ∷ es) w) ≡ map (at_pid pid f) (map process_of (e ∷ es))
      at_head ih true t h =
          let k : is_eq (nat_cmp pid e.0) ≡ true = at_key pid e.0 ∙ t in
          let old : Some e.1 ≡ Some v = rw k at h in
          let same : e.1 ≡ v = cc in
          let rest = none_past_head (eq_by_cmp_equiv nat_cmp_total) pid e es (IsDistinct-from_sorted nat_cmp (keys_of (e ∷ es)) s) k in
          let here : process_of (e.0, w) ≡ f (process_of e) = made e.0 ∙ ap (λ r. f (process_of (e.0, r))) (sym same) in
          rw (k, t, none_changed f es rest) (ap (λ p. p ∷ map process_of es) here)
      at_head ih false t h =
          let k : is_eq (nat_cmp pid e.0) ≡ false = at_key pid e.0 ∙ t in
          rw (k, t) (ap (λ ps. process_of e ∷ ps) (ih (rw k at h)))

-- the children of what went, in a map
abbrev pub adopted_in : (gone heir : ℕ) → Running → Running
adopted_in gone heir r = if nat_eq r.parent gone then record r { parent = heir } else r

pub adopted_all : (gone to : ℕ) (es : List (ℕ × Running)) → map process_of (map (λ e. (e.0, adopted_in gone to e.1)) es) ≡ map (adopted gone to) (map process_of es)
adopted_all gone to [] = refl
adopted_all gone to (e ∷ es) = at_head (adopted_all gone to es) (nat_eq e.1.parent gone) refl
  where
    at_head : map process_of (map (λ e. (e.0, adopted_in gone to e.1)) es) ≡ map (adopted gone to) (map process_of es) → (b : Bool) → nat_eq e.1.parent gone ≡ b
        → map process_of (map (λ e. (e.0, adopted_in gone to e.1)) (e ∷ es)) ≡ map (adopted gone to) (map process_of (e ∷ es))
    at_head ih true h = rw h (ap (λ ps. process_of (e.0, record e.1 { parent = to }) ∷ ps) ih)
    at_head ih false h = rw h (ap (λ ps. process_of e ∷ ps) ih)

-- the numbers, by the keys
pub any_key : (n : ℕ) (es : List (ℕ × Running)) → list_any (λ k. nat_eq k n) (keys_of es) ≡ list_any (has_pid n) (map process_of es)
any_key n [] = refl
any_key n (e ∷ es) = rw (any_key n es) refl

pub listed : (es : List (ℕ × Running)) → map (λ (r : ProcRow). r.pid) (map row_of (map process_of es)) ≡ keys_of es
listed [] = refl
listed (e ∷ es) = ap (λ ks. e.0 ∷ ks) (listed es)
