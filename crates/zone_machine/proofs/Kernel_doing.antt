-- Changes of what a zone has in the kernel, and of the kernel's shared part.
use Rattle.std.proofs.Common.{◌≡◌, ◌∷◌, [], ℕ, List, Bool, Option, Some, None, true, false, not, ◌&&◌, ◌||◌, refl, ap, sym, subst, ◌∙◌, map, true≢false}
use Rattle.indexmap.specs.IndexMap.{get}
use Rattle.std.specs.Prelude.{◌≢◌, bytes_eq, nat_eq, is_some, if◌then◌else◌}
use Rattle.std.specs.Option.{option_map}
use Rattle.std.specs.List.{list_any}
use Rattle.std.proofs.lemmas.Bool.{eqb-true, or_parts, false≢true, and_parts}
use Rattle.zn_base.specs.Names.{Name}
use Rattle.zone_pools.proofs.Holding.{column, come_column, gone_column}
use Rattle.zone_pools.proofs.Owned_laws.{same_self, same_true}
use Rattle.zone_pools.specs.Owned_lists.{Put, edited, Change}
use Rattle.zone_pools.specs.Owners as owners
use Rattle.zone_pools.specs.Owners.{held_by, is_owner}
use Rattle.zone_machine.proofs.Acts_laws.{same_other}
use Rattle.zone_machine.proofs.Lists_laws.{any-put, none_left}
use Rattle.zone_machine.specs.Code.Cells.{Agree, Does, common_in, kept, outside_in}
use Rattle.zone_cases.specs.Code.Cells.{cell_world}
use Rattle.zoneadmd_steps.specs.Objects.{ids_of, has_zid, keeping_pid, keeping_zid}
use Rattle.zone_machine.specs.Machine.Common.{Common, came_common, holding}
use Rattle.zone_machine.specs.Code.Works.{without_process}
use Rattle.zone_cases.specs.State.Edits.{Of_objects, comes_world, edits_world}
use Rattle.zone_cases.specs.State.Worlds.{World}
use Rattle.zone_cases.specs.declared.cell.Cell.{Cell}
use Rattle.kernel_objects.specs.Kernel as Kernels
use Rattle.kernel_objects.specs.Kernel.{Kernel, new_id, with_process, with_processes, with_id}
use Rattle.kernel_objects.specs.Processes.{Process, at_pid, below, dropping, has_pid, renamed, with_pid, without_pid}
use Rattle.kernel_objects.specs.Shared.{FreesPids, FreesZids, Shared as Kernel_shared, TakesPid, TakesZid, pid_owner, zid_owner}
use Rattle.kernel_objects.specs.declared.objects.Id.{Id}
use Rattle.zone_machine.specs.declared.machine.shared.Shared.{Shared}
use Rattle.zoneadmd_steps.specs.declared.objects.changes.ObjectEdit.TheVariants.{EndIds, GiveUp, Rename}
use Rattle.zoneadmd_steps.specs.Arrivals.{New_id, New_process}
use Rattle.zoneadmd_steps.specs.Code.Cases.{object_edits}
use Rattle.kernel_objects.proofs.Kept.{at_pid_keeps, holds-change, holds-without}
use Rattle.zone_machine.proofs.Doing_laws.{common_by, holds_doing, same_claims, same_pids, same_sessions, same_zids}

-- nobody holds a key that is this one
free_at : (o : ℕ → Option Name) (n : ℕ) → o n ≡ None → (k : ℕ) → nat_eq n k ≡ true → o k ≡ None
free_at o n free k e = subst (λ m. o m ≡ None) (eqb-true n k e) free

pub none_owner : (o : Option Name) → is_some o ≡ false → o ≡ None
none_owner None h = refl
none_owner (Some y) h = absurd (true≢false h)

pub none_of : (b : Bool) → false ≡ (b && not b)
none_of true = refl
none_of false = refl

-- who has no process of a number, and a zone's id among its ids
none_with : (n : ℕ) (ps : List Process) → list_any (has_pid n) ps ≡ false → with_pid n ps ≡ None
none_with n [] h = refl
none_with n (p ∷ ps) h = let parts = or_parts (has_pid n p) (list_any (has_pid n) ps) h in simp parts.0 (none_with n ps parts.1)

of_id : (n : ℕ) (id : Option Id) → Kernels.has_zid n id ≡ list_any (has_zid n) (ids_of id)
of_id n None = refl
of_id n (Some i) = or_false (nat_eq i.zid n)
  where
    or_false : (b : Bool) → b ≡ (b || false)
    or_false true = refl
    or_false false = refl

-- what is common with another shared part of the kernel, but for who holds what
abbrev with_kernel : Shared → Kernel_shared → Common
with_kernel s t = record (common_in s) { last_pid = t.last_pid; last_zid = t.last_zid; declared = record { items = s.claims.declared; devices = t.devices } }

-- what a zone has in the kernel is changed to k, and the shared part of the kernel to t
module _ (z : Name) (c : Cell) (s : Shared) (k : Kernel) (t : Kernel_shared) where
  abbrev then_cell : Cell
  then_cell = record c { kernel = k }

  abbrev then_shared : Shared
  then_shared = record s { kernel = t }

  abbrev had_pid : ℕ → Bool
  had_pid n = list_any (has_pid n) c.kernel.processes

  abbrev had_zid : ℕ → Bool
  had_zid n = list_any (has_zid n) (ids_of c.kernel.id)

  -- by what the zone holds then, where no more than that is changed
  pub does_kernel : (f : World → World) (g : Common → Common) → t.devices ≡ s.kernel.devices → (Agree z c s → cell_world (outside_in z s) then_cell ≡ f (cell_world (outside_in z s) c))
      → (Agree z c s → (y : Name) (n : ℕ) → held_by (pid_owner t) y n ≡ owners.holding z (λ n. list_any (has_pid n) k.processes) (held_by (pid_owner s.kernel)) y n)
      → (Agree z c s → (y : Name) (n : ℕ) → held_by (zid_owner t) y n ≡ owners.holding z (λ n. list_any (has_zid n) (ids_of k.id)) (held_by (zid_owner s.kernel)) y n)
      → with_kernel s t ≡ g (common_in s)
      → Does z f g c s then_cell then_shared
  does_kernel f g devices world pids zids last = record {
    world = λ a. ap (λ ds. cell_world (record (outside_in z s) { declared = record { items = s.claims.declared; devices = ds } }) then_cell) devices ∙ world a;
    common = λ a.
        common_by z (cell_world (outside_in z s) then_cell) (with_kernel s t) then_shared (get nat_eq c.doings)
        (pids a) (zids a) (same_claims z c s a) (same_sessions z c s a) (λ n. holds_doing (get nat_eq c.doings n)) refl refl refl refl refl refl refl refl refl
        ∙ (ap (λ g. holding z (cell_world (outside_in z s) then_cell) g) last ∙ ap (λ w. holding z w (g (common_in s))) (world a));
  }

  -- a process comes, where nobody holds its number
  pub does_begin : (p : Process) → pid_owner s.kernel p.pid ≡ None → TakesPid z p.pid s.kernel t → (with_pid p.pid c.kernel.processes ≡ None → k ≡ with_process p c.kernel)
      → Does z (comes_world (New_process p)) (came_common z (Some (New_process p))) c s then_cell then_shared
  does_begin p free takes begun = does_kernel (comes_world (New_process p)) (came_common z (Some (New_process p))) (ap (λ (j : Kernel_shared). j.devices) takes.same)
      (λ a. ap (λ k. cell_world (outside_in z s) (record c { kernel = k })) (is a))
      (λ a y n. come_column z had_pid (λ n. list_any (has_pid n) (edited (Put (below p.pid) p) c.kernel.processes)) (pid_owner s.kernel) (pid_owner t) (nat_eq p.pid) a.pids
      (free_at (pid_owner s.kernel) p.pid free) takes.pids (λ n. any-put (has_pid n) (below p.pid) p c.kernel.processes) y n
      ∙ ap (λ (j : Kernel). owners.holding z (λ n. list_any (has_pid n) j.processes) (held_by (pid_owner s.kernel)) y n) (sym (is a)))
      (λ a y n. ap (λ (j : Kernel_shared). held_by (zid_owner j) y n) takes.same
      ∙ (same_zids z c s a y n ∙ ap (λ (j : Kernel). owners.holding z (λ n. list_any (has_zid n) (ids_of j.id)) (held_by (zid_owner s.kernel)) y n) (sym (is a))))
      (ap (λ (j : Kernel_shared). with_kernel s j) takes.same)
    where
      is : Agree z c s → k ≡ with_process p c.kernel
      is a = begun (none_with p.pid c.kernel.processes (a.pids p.pid ∙ ap (is_owner z) free))

  -- some processes go, with the numbers that they had
  pub does_go : (f : World → World) (gone : ℕ → Bool) (ps : List Process) → FreesPids gone s.kernel t → k ≡ with_processes ps c.kernel → f (cell_world (outside_in z s) c) ≡ record (cell_world (outside_in z s) c) { processes = ps }
      → ((n : ℕ) → gone n ≡ true → had_pid n ≡ true) → ((n : ℕ) → list_any (has_pid n) ps ≡ (had_pid n && not (gone n)))
      → Does z f kept c s then_cell then_shared
  does_go f gone ps frees is changed held less = does_kernel f kept (ap (λ (j : Kernel_shared). j.devices) frees.same)
      (λ a. ap (λ k. cell_world (outside_in z s) (record c { kernel = k })) is ∙ sym changed)
      (λ a y n. gone_column z had_pid (λ n. list_any (has_pid n) ps) gone (pid_owner s.kernel) (pid_owner t) a.pids held frees.pids less y n
      ∙ ap (λ (j : Kernel). owners.holding z (λ n. list_any (has_pid n) j.processes) (held_by (pid_owner s.kernel)) y n) (sym is))
      (λ a y n. ap (λ (j : Kernel_shared). held_by (zid_owner j) y n) frees.same
      ∙ (same_zids z c s a y n ∙ ap (λ (j : Kernel). owners.holding z (λ n. list_any (has_zid n) (ids_of j.id)) (held_by (zid_owner s.kernel)) y n) (sym is)))
      (ap (λ (j : Kernel_shared). with_kernel s j) frees.same)

  -- the zone gets an id, in place of the one that it had
  pub does_activate : (zid : ℕ) → zid_owner s.kernel zid ≡ None → TakesZid z zid (λ n. Kernels.has_zid n c.kernel.id) s.kernel t → k ≡ record c.kernel { id = Some (new_id zid) }
      → Does z (comes_world (New_id (new_id zid))) (came_common z (Some (New_id (new_id zid)))) c s then_cell then_shared
  does_activate zid free takes is = does_kernel (comes_world (New_id (new_id zid))) (came_common z (Some (New_id (new_id zid)))) (ap (λ (j : Kernel_shared). j.devices) takes.same)
      (λ a. ap (λ k. cell_world (outside_in z s) (record c { kernel = k })) is)
      (λ a y n. ap (λ (j : Kernel_shared). held_by (pid_owner j) y n) takes.same
      ∙ (same_pids z c s a y n ∙ ap (λ (j : Kernel). owners.holding z (λ n. list_any (has_pid n) j.processes) (held_by (pid_owner s.kernel)) y n) (sym is)))
      (λ a y n. column z (λ n. list_any (has_zid n) (new_id zid ∷ [])) (zid_owner s.kernel) (zid_owner t) (here a) (there a) y n
      ∙ ap (λ (j : Kernel). owners.holding z (λ n. list_any (has_zid n) (ids_of j.id)) (held_by (zid_owner s.kernel)) y n) (sym is))
      (ap (λ (j : Kernel_shared). with_kernel s j) takes.same)
    where
      taken : (n : ℕ) → zid_owner t n ≡ (if nat_eq zid n then Some z else if had_zid n then None else zid_owner s.kernel n)
      taken n = takes.zids n ∙ ap (λ b. if nat_eq zid n then Some z else if b then None else zid_owner s.kernel n) (of_id n c.kernel.id)

      here : Agree z c s → (n : ℕ) → is_owner z (zid_owner t n) ≡ list_any (has_zid n) (new_id zid ∷ [])
      here a n = ap (is_owner z) (taken n) ∙ at_tests (nat_eq zid n) (had_zid n) refl
        where
          at_tests : (b h : Bool) → had_zid n ≡ h → is_owner z (if b then Some z else if h then None else zid_owner s.kernel n) ≡ (b || false)
          at_tests true h e = same_self z
          at_tests false true e = refl
          at_tests false false e = sym (a.zids n) ∙ e

      nobody_else : (y : Name) → y ≢ z → (o : Option Name) → is_owner z o ≡ true → is_owner y o ≡ false
      nobody_else y ne None e = absurd (false≢true e)
      nobody_else y ne (Some x) e = ap (bytes_eq y) (sym (same_true z x e)) ∙ same_other y z ne

      there : Agree z c s → (y : Name) → y ≢ z → (n : ℕ) → is_owner y (zid_owner t n) ≡ is_owner y (zid_owner s.kernel n)
      there a y ne n = ap (is_owner y) (taken n) ∙ at_tests (nat_eq zid n) (had_zid n) refl refl
        where
          at_tests : (b h : Bool) → nat_eq zid n ≡ b → had_zid n ≡ h → is_owner y (if b then Some z else if h then None else zid_owner s.kernel n) ≡ is_owner y (zid_owner s.kernel n)
          at_tests true h d e = same_other y z ne ∙ sym (ap (is_owner y) (free_at (zid_owner s.kernel) zid free n d))
          at_tests false true d e = sym (nobody_else y ne (zid_owner s.kernel n) (sym (a.zids n) ∙ e))
          at_tests false false d e = refl

  -- the zone gives its id back, if it has one
  pub does_give_up_id : FreesZids (λ n. Kernels.has_zid n c.kernel.id) s.kernel t → k ≡ record c.kernel { id = None }
      → (n : Option ℕ) → Does z (edits_world n (map Of_objects (object_edits EndIds))) kept c s then_cell then_shared
  does_give_up_id frees is m = does_kernel (edits_world m (map Of_objects (object_edits EndIds))) kept (ap (λ (j : Kernel_shared). j.devices) frees.same)
      (λ a. ap (λ k. cell_world (outside_in z s) (record c { kernel = k })) is ∙ ap (λ is. record (cell_world (outside_in z s) c) { ids = is }) (sym (none_left (ids_of c.kernel.id))))
      (λ a y n. ap (λ (j : Kernel_shared). held_by (pid_owner j) y n) frees.same
      ∙ (same_pids z c s a y n ∙ ap (λ (j : Kernel). owners.holding z (λ n. list_any (has_pid n) j.processes) (held_by (pid_owner s.kernel)) y n) (sym is)))
      (λ a y n. gone_column z had_zid (λ n. false) had_zid (zid_owner s.kernel) (zid_owner t) a.zids (λ n e. e)
      (λ n. frees.zids n ∙ ap (λ b. if b then None else zid_owner s.kernel n) (of_id n c.kernel.id)) (λ n. none_of (had_zid n)) y n
      ∙ ap (λ (j : Kernel). owners.holding z (λ n. list_any (has_zid n) (ids_of j.id)) (held_by (zid_owner s.kernel)) y n) (sym is))
      (ap (λ (j : Kernel_shared). with_kernel s j) frees.same)

  -- processes and the id change, and keep their numbers
  pub does_change : (f : World → World) (ps : List Process) (id : Option Id) → k ≡ record c.kernel { processes = ps; id = id } → t ≡ s.kernel
      → f (cell_world (outside_in z s) c) ≡ record (cell_world (outside_in z s) c) { processes = ps; ids = ids_of id }
      → ((n : ℕ) → list_any (has_pid n) ps ≡ had_pid n) → ((n : ℕ) → list_any (has_zid n) (ids_of id) ≡ had_zid n)
      → Does z f kept c s then_cell then_shared
  does_change f ps id is same changed pids zids = does_kernel f kept (ap (λ (j : Kernel_shared). j.devices) same)
      (λ a. ap (λ k. cell_world (outside_in z s) (record c { kernel = k })) is ∙ sym changed)
      (λ a y n. ap (λ (j : Kernel_shared). held_by (pid_owner j) y n) same
      ∙ (same_pids z c s a y n ∙ (sym (λ i. owners.holding z (λ n. pids n i) (held_by (pid_owner s.kernel)) y n)
      ∙ ap (λ (j : Kernel). owners.holding z (λ n. list_any (has_pid n) j.processes) (held_by (pid_owner s.kernel)) y n) (sym is))))
      (λ a y n. ap (λ (j : Kernel_shared). held_by (zid_owner j) y n) same
      ∙ (same_zids z c s a y n ∙ (sym (λ i. owners.holding z (λ n. zids n i) (held_by (zid_owner s.kernel)) y n)
      ∙ ap (λ (j : Kernel). owners.holding z (λ n. list_any (has_zid n) (ids_of j.id)) (held_by (zid_owner s.kernel)) y n) (sym is))))
      (ap (λ (j : Kernel_shared). with_kernel s j) same)

-- a process ends, and its number is nobody's where the zone has it
module _ (pid : ℕ) (ps : List Process) where
  abbrev there : Bool
  there = is_some (with_pid pid ps)

  some_with : (n : ℕ) (qs : List Process) → is_some (with_pid n qs) ≡ true → list_any (has_pid n) qs ≡ true
  some_with n [] h = h
  some_with n (q ∷ qs) h = at_head (some_with n qs) (has_pid n q) refl h
    where
      at_head : (is_some (with_pid n qs) ≡ true → list_any (has_pid n) qs ≡ true) → (b : Bool) → has_pid n q ≡ b → is_some (with_pid n (q ∷ qs)) ≡ true → list_any (has_pid n) (q ∷ qs) ≡ true
      at_head ih true e h = simp e
      at_head ih false e h = simp e (ih (simp e at h))

  none_some : (n : ℕ) (qs : List Process) → is_some (with_pid n qs) ≡ false → list_any (has_pid n) qs ≡ false
  none_some n [] h = h
  none_some n (q ∷ qs) h = at_head (none_some n qs) (has_pid n q) refl h
    where
      at_head : (is_some (with_pid n qs) ≡ false → list_any (has_pid n) qs ≡ false) → (b : Bool) → has_pid n q ≡ b → is_some (with_pid n (q ∷ qs)) ≡ false → list_any (has_pid n) (q ∷ qs) ≡ false
      at_head ih true e h = absurd (true≢false (simp e at h))
      at_head ih false e h = simp e (ih (simp e at h))

  pub ended_held : (n : ℕ) → (nat_eq pid n && there) ≡ true → list_any (has_pid n) ps ≡ true
  ended_held n h = let parts = and_parts (nat_eq pid n) there h in subst (λ m. list_any (has_pid m) ps ≡ true) (eqb-true pid n parts.0) (some_with pid ps parts.1)

  pub ended_less : (n : ℕ) → list_any (has_pid n) (without_pid pid ps) ≡ (list_any (has_pid n) ps && not (nat_eq pid n && there))
  ended_less n = holds-without n pid ps ∙ at_tests (list_any (has_pid n) ps) (nat_eq pid n) there refl refl refl
    where
      at_tests : (had is t : Bool) → list_any (has_pid n) ps ≡ had → nat_eq pid n ≡ is → there ≡ t → (had && not is) ≡ (had && not (is && t))
      at_tests had false t d e f = refl
      at_tests had true true d e f = refl
      at_tests false true false d e f = refl
      at_tests true true false d e f = absurd (false≢true (sym (none_some pid ps f) ∙ (ap (λ m. list_any (has_pid m) ps) (eqb-true pid n e) ∙ d)))

module _ (z : Name) (c : Cell) (s : Shared) (k : Kernel) where
  pub does_end : (t : Kernel_shared) (pid : ℕ) → FreesPids (λ n. nat_eq pid n && is_some (with_pid pid c.kernel.processes)) s.kernel t → k ≡ with_processes (without_pid pid c.kernel.processes) c.kernel
      → Does z (without_process pid) kept c s (record c { kernel = k }) (record s { kernel = t })
  does_end t pid frees is = does_go z c s k t (without_process pid) (λ n. nat_eq pid n && is_some (with_pid pid c.kernel.processes)) (without_pid pid c.kernel.processes)
      frees is refl (ended_held pid c.kernel.processes) (ended_less pid c.kernel.processes)

  -- each process becomes another of its number
  changed : (f : Process → Process) → ((p : Process) → (f p).pid ≡ p.pid) → (ps : List Process) → map (keeping_pid f) ps ≡ map f ps
  changed f keeps [] = refl
  changed f keeps (p ∷ ps) = let pid : p.pid ≡ (f p).pid = sym (keeps p) in let rest = changed f keeps ps in λ i. record (f p) { pid = pid i } ∷ rest i

  does_each : (f : Process → Process) → ((p : Process) → (f p).pid ≡ p.pid) → (g : World → World) → g (cell_world (outside_in z s) c) ≡ record (cell_world (outside_in z s) c) { processes = map (keeping_pid f) c.kernel.processes }
      → k ≡ with_processes (map f c.kernel.processes) c.kernel → Does z g kept c s (record c { kernel = k }) s
  does_each f keeps g is changes = does_change z c s k s.kernel g (map f c.kernel.processes) c.kernel.id changes refl
      (is ∙ ap (λ ps. record (cell_world (outside_in z s) c) { processes = ps }) (changed f keeps c.kernel.processes))
      (λ n. holds-change n f keeps c.kernel.processes) (λ n. refl)

  pub does_rename : (pid : ℕ) (name : List ℕ) → k ≡ with_processes (edited (Change (at_pid pid (renamed name))) c.kernel.processes) c.kernel
      → (m : Option ℕ) → Does z (edits_world m (map Of_objects (object_edits (Rename pid name)))) kept c s (record c { kernel = k }) s
  does_rename pid name is m = does_each (at_pid pid (renamed name)) (at_pid_keeps pid (renamed name) (λ p. refl)) (edits_world m (map Of_objects (object_edits (Rename pid name)))) refl is

  pub does_drop : (pid number : ℕ) → k ≡ with_processes (edited (Change (at_pid pid (dropping number))) c.kernel.processes) c.kernel
      → (m : Option ℕ) → Does z (edits_world m (map Of_objects (object_edits (GiveUp pid number)))) kept c s (record c { kernel = k }) s
  does_drop pid number is m = does_each (at_pid pid (dropping number)) (at_pid_keeps pid (dropping number) (λ p. refl)) (edits_world m (map Of_objects (object_edits (GiveUp pid number)))) refl is

  -- the id changes, but for its number
  ids_change : (f : Id → Id) → ((i : Id) → (f i).zid ≡ i.zid) → (id : Option Id) → map (keeping_zid f) (ids_of id) ≡ ids_of (option_map f id)
  ids_change f keeps None = refl
  ids_change f keeps (Some i) = let zid : i.zid ≡ (f i).zid = sym (keeps i) in λ j. record (f i) { zid = zid j } ∷ []

  zid_kept : (f : Id → Id) → ((i : Id) → (f i).zid ≡ i.zid) → (n : ℕ) (id : Option Id) → list_any (has_zid n) (ids_of (option_map f id)) ≡ list_any (has_zid n) (ids_of id)
  zid_kept f keeps n None = refl
  zid_kept f keeps n (Some i) = rw (keeps i) refl

  pub does_limits : (f : Id → Id) → k ≡ with_id f c.kernel → ((i : Id) → (f i).zid ≡ i.zid) → (g : World → World) → g (cell_world (outside_in z s) c) ≡ record (cell_world (outside_in z s) c) { ids = map (keeping_zid f) (ids_of c.kernel.id) }
      → Does z g kept c s (record c { kernel = k }) s
  does_limits f is keeps g changes = does_change z c s k s.kernel g c.kernel.processes (option_map f c.kernel.id) is refl
      (changes ∙ ap (λ is. record (cell_world (outside_in z s) c) { ids = is }) (ids_change f keeps c.kernel.id))
      (λ n. refl) (λ n. zid_kept f keeps n c.kernel.id)

  -- the devices are others, and perhaps the limits
  pub does_devices : (ds : List (List ℕ)) → k ≡ record c.kernel { devices = ds } → (g : World → World) → g (cell_world (outside_in z s) c) ≡ record (cell_world (outside_in z s) c) { devices = ds }
      → Does z g kept c s (record c { kernel = k }) s
  does_devices ds is g changes = does_kernel z c s k s.kernel g kept refl
      (λ a. ap (λ k. cell_world (outside_in z s) (record c { kernel = k })) is ∙ sym changes)
      (λ a y n. same_pids z c s a y n ∙ ap (λ (j : Kernel). owners.holding z (λ n. list_any (has_pid n) j.processes) (held_by (pid_owner s.kernel)) y n) (sym is))
      (λ a y n. same_zids z c s a y n ∙ ap (λ (j : Kernel). owners.holding z (λ n. list_any (has_zid n) (ids_of j.id)) (held_by (zid_owner s.kernel)) y n) (sym is))
      refl

  pub does_clear : (f : Id → Id) → k ≡ record (with_id f c.kernel) { devices = [] } → ((i : Id) → (f i).zid ≡ i.zid) → (g : World → World)
      → g (cell_world (outside_in z s) c) ≡ record (cell_world (outside_in z s) c) { ids = map (keeping_zid f) (ids_of c.kernel.id); devices = [] }
      → Does z g kept c s (record c { kernel = k }) s
  does_clear f is keeps g changes = does_kernel z c s k s.kernel g kept refl
      (λ a. ap (λ k. cell_world (outside_in z s) (record c { kernel = k })) is ∙ sym (changes ∙ ap (λ is. record (cell_world (outside_in z s) c) { ids = is; devices = [] }) (ids_change f keeps c.kernel.id)))
      (λ a y n. same_pids z c s a y n ∙ ap (λ (j : Kernel). owners.holding z (λ n. list_any (has_pid n) j.processes) (held_by (pid_owner s.kernel)) y n) (sym is))
      (λ a y n. same_zids z c s a y n ∙ (sym (λ i. owners.holding z (λ n. zid_kept f keeps n c.kernel.id i) (held_by (zid_owner s.kernel)) y n)
      ∙ ap (λ (j : Kernel). owners.holding z (λ n. list_any (has_zid n) (ids_of j.id)) (held_by (zid_owner s.kernel)) y n) (sym is)))
      refl
