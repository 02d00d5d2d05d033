-- What each edit of a list of mounts keeps: byte order, paths as directories, and how many there may be.
use Rattle.std.proofs.Common.{◌≡◌, ◌∷◌, ◌++◌, [], ℕ, ◌<◌, ◌≤◌, List, Bool, true, false, Option, Some, None, not, filter, length, map, set, subst, get_or, nat_le, nat_lt, Result, Err, Ok, refl, ap, sym, arith, ◌∙◌, ◌&&◌, ◌-◌}
use Rattle.std.specs.Prelude.{is_some, option_to_list, slice_get}
use Rattle.std.specs.List.{insert, list_all, remove}
use Rattle.std.proofs.lemmas.Bool.{and_from, and_parts, cond-true, false≢true, le-leb, leb-true, ltb-true}
use Rattle.std.proofs.lemmas.List.{append-nil, get_or_default, length-map}
use Rattle.std.proofs.lemmas.Option.{slice_get_read}
use Rattle.std.proofs.lemmas.List.Edits.{length-insert}
use Rattle.kernel_objects.specs.declared.faults.Errno.TheVariants.{EBUSY}
use Rattle.zn_base.specs.Path.{is_path}
use Rattle.zone_pools.specs.Owned_lists.{put}
use Rattle.loopback_mounts.specs.Mounts.{at_dir, before, has_path, in_order, is_at, last_of, mount_answer, mount_at, mounted, precedes, well_kept, with_hold, without_last}
use Rattle.loopback_mounts.specs.Search.{IsGapFor, IsPlaceOf}
use Rattle.loopback_mounts.specs.declared.faults.MountFault.{MountFault}
use Rattle.loopback_mounts.specs.declared.faults.MountFault.TheVariants.{Refused, TooManyMounts}
use Rattle.loopback_mounts.specs.declared.mount.Mount.{Mount}
use Rattle.loopback_mounts.specs.declared.mount.MountEntry.{MountEntry}
use native.Mathlib.Numerals.{unary_clauses}
use Rattle.loopback_mounts.proofs.Orders.{absent, after_else, all_from, before_apart, none_changed, all_kept, all_left, became, bytes_itself, chained, found_by, gone, placed}

pub record Kept (ms : List MountEntry) : Type 0 where
  pub order : in_order ms ≡ true
  pub paths : list_all has_path ms ≡ true
  pub few : length ms ≤ 128

pub kept : (ms : List MountEntry) → well_kept ms ≡ true → Kept ms
kept ms h =
    let first = and_parts (in_order ms && list_all has_path ms) (nat_le (length ms) 128) h in
    let second = and_parts (in_order ms) (list_all has_path ms) first.0 in
    record { order = second.0; paths = second.1; few = leb-true (length ms) 128 first.1 }

pub to_kept : (ms : List MountEntry) → Kept ms → well_kept ms ≡ true
to_kept ms k = and_from _ _ (and_from _ _ k.order k.paths) (le-leb (length ms) 128 k.few)

-- some of them
module _ (keep : MountEntry → Bool) where
  few_kept : (ms : List MountEntry) → length (filter keep ms) ≤ length ms
  few_kept [] = omega arith
  few_kept (m ∷ ms) = at_keep (keep m) refl (few_kept ms)
    where
      at_keep : (b : Bool) → keep m ≡ b → length (filter keep ms) ≤ length ms → length (filter keep (m ∷ ms)) ≤ length (m ∷ ms)
      at_keep true e ih = rw e (omega arith)
      at_keep false e ih = rw e (omega arith)

  order_kept : (ms : List MountEntry) → in_order ms ≡ true → in_order (filter keep ms) ≡ true
  order_kept [] h = refl
  order_kept (m ∷ ms) h = let both = and_parts (list_all (λ n. precedes m.mount.dir n.mount.dir) ms) (in_order ms) h in at_keep (keep m) refl (order_kept ms both.1)
    where
      at_keep : (b : Bool) → keep m ≡ b → in_order (filter keep ms) ≡ true → in_order (filter keep (m ∷ ms)) ≡ true
      at_keep true e ih =
          let both = and_parts (list_all (λ n. precedes m.mount.dir n.mount.dir) ms) (in_order ms) h in
          rw e (and_from _ _ (all_kept (λ n. precedes m.mount.dir n.mount.dir) keep ms both.0) ih)
      at_keep false e ih = rw e ih

  pub some_kept : (ms : List MountEntry) → well_kept ms ≡ true → well_kept (filter keep ms) ≡ true
  some_kept ms h =
      let k = kept ms h in
      let l = few_kept ms in
      to_kept (filter keep ms) (record { order = order_kept ms k.order; paths = all_kept has_path keep ms k.paths; few = omega (arith, l, k.few) })

-- one more
all_put : (q : MountEntry → Bool) (dir : List ℕ) (e : MountEntry) (ms : List MountEntry) → q e ≡ true → list_all q ms ≡ true → list_all q (put (before dir) e ms) ≡ true
all_put q dir e [] h a = and_from _ _ h refl
all_put q dir e (m ∷ ms) h a = let both = and_parts (q m) (list_all q ms) a in at_test (before dir m) refl (all_put q dir e ms h both.1)
  where
    at_test : (b : Bool) → before dir m ≡ b → list_all q (put (before dir) e ms) ≡ true → list_all q (put (before dir) e (m ∷ ms)) ≡ true
    at_test true t ih = let both = and_parts (q m) (list_all q ms) a in rw t (and_from _ _ both.0 ih)
    at_test false t ih = rw t (and_from _ _ h a)

order_put : (e : MountEntry) (ms : List MountEntry) → list_all (λ m. not (is_at e.mount.dir m)) ms ≡ true → in_order ms ≡ true → in_order (put (before e.mount.dir) e ms) ≡ true
order_put e [] n o = refl
order_put e (m ∷ ms) n o =
    at_test (before e.mount.dir m) refl
    (order_put e ms (and_parts (not (is_at e.mount.dir m)) (list_all (λ m. not (is_at e.mount.dir m)) ms) n).1 (and_parts (list_all (λ k. precedes m.mount.dir k.mount.dir) ms) (in_order ms) o).1)
  where
    at_test : (b : Bool) → before e.mount.dir m ≡ b → in_order (put (before e.mount.dir) e ms) ≡ true → in_order (put (before e.mount.dir) e (m ∷ ms)) ≡ true
    at_test true t ih =
        let both = and_parts (list_all (λ k. precedes m.mount.dir k.mount.dir) ms) (in_order ms) o in
        rw t (and_from _ _ (all_put (λ k. precedes m.mount.dir k.mount.dir) e.mount.dir e ms t both.0) ih)
    at_test false t ih =
        let both = and_parts (list_all (λ k. precedes m.mount.dir k.mount.dir) ms) (in_order ms) o in
        let apart = (and_parts (not (is_at e.mount.dir m)) (list_all (λ m. not (is_at e.mount.dir m)) ms) n).0 in
        let next : precedes e.mount.dir m.mount.dir ≡ true = after_else e.mount.dir m t (not_so (is_at e.mount.dir m) apart) in
        rw t (and_from _ _ (and_from _ _ next (all_from (λ k. precedes m.mount.dir k.mount.dir) (λ k. precedes e.mount.dir k.mount.dir) (λ k h. chained e.mount.dir m.mount.dir k.mount.dir next h) ms both.0)) o)
      where
        not_so : (b : Bool) → not b ≡ true → b ≡ false
        not_so true h = absurd (false≢true h)
        not_so false h = refl

pub one_more : (e : MountEntry) (ms : List MountEntry) (i : ℕ) → well_kept ms ≡ true → is_path e.mount.dir ≡ true → length ms < 128 → IsGapFor e.mount.dir ms i → well_kept (insert ms i e) ≡ true
one_more e ms i h p l gap =
    let k = kept ms h in
    let dir = e.mount.dir in
    let is : put (before dir) e ms ≡ insert ms i e = placed dir e ms i gap.inside gap.lower gap.higher in
    let len = length-insert ms i e gap.inside in
    to_kept (insert ms i e) (record {
      order = subst (λ (ns : List MountEntry). in_order ns ≡ true) is (order_put e ms (absent dir ms i gap) k.order);
      paths = subst (λ (ns : List MountEntry). list_all has_path ns ≡ true) is (all_put has_path dir e ms p k.paths);
      few = omega arith;
    })

-- what comes to its place
pub comes : (mount : Mount) (e : MountEntry) (ms : List MountEntry) (i : ℕ) → e ≡ record { mount = mount; held = false } → IsGapFor mount.dir ms i → insert ms i e ≡ mounted mount ms
comes mount e ms i is gap =
    sym (placed mount.dir e ms i gap.inside gap.lower gap.higher) ∙ ap (λ (x : MountEntry). put (before mount.dir) x ms) is

-- where something may come there is room, and nothing is there
refused : (e : MountFault) → ◌≡◌ {A = Result (Unit {0}) MountFault} (Err e) (Ok tt) → ⊥
refused e h = cc

pub few_where_free : (dir : List ℕ) (ms : List MountEntry) → mount_answer dir ms ≡ Ok tt → length ms < 128
few_where_free dir ms h = at_there (is_some (mount_at dir ms)) refl
  where
    at_room : (b : Bool) → nat_lt (length ms) 128 ≡ b → is_some (mount_at dir ms) ≡ false → length ms < 128
    at_room true r e = ltb-true (length ms) 128 r
    at_room false r e = absurd (refused TooManyMounts (rw (e, r) at h))

    at_there : (b : Bool) → is_some (mount_at dir ms) ≡ b → length ms < 128
    at_there true e = absurd (refused (Refused EBUSY) (rw e at h))
    at_there false e = at_room (nat_lt (length ms) 128) refl e

pub not_there : (dir : List ℕ) (ms : List MountEntry) (i : ℕ) → mount_answer dir ms ≡ Ok tt → IsPlaceOf dir ms i → i < length ms → ⊥
not_there dir [] i h p l = omega arith
not_there dir (m ∷ ms) i h p l = refused (Refused EBUSY) (rw (found_by dir (m ∷ ms) i (get_or (m ∷ ms) i m) p (get_or_default (m ∷ ms) i m (get_or (m ∷ ms) i m) l)) at h)

-- one goes
pub goes : (dir : List ℕ) (ms : List MountEntry) (i : ℕ) (m : MountEntry) → IsPlaceOf dir ms i → m ≡ get_or ms i m → remove ms i ≡ filter (λ n. not (is_at dir n)) ms
goes dir ms i m p r =
    let read = slice_get_read ms (length ms) i m refl p.inside r in
    sym (gone dir ms i m read p.lower (p.here m read) (simp unary_clauses at p.higher))

pub none_goes : (dir : List ℕ) (ms : List MountEntry) (i : ℕ) → IsGapFor dir ms i → ms ≡ filter (λ n. not (is_at dir n)) ms
none_goes dir ms i gap = sym (all_left (is_at dir) ms (absent dir ms i gap))

-- one becomes another
pub becomes : (dir : List ℕ) (ms : List MountEntry) (i : ℕ) (m : MountEntry) (f : MountEntry → MountEntry) → IsPlaceOf dir ms i → m ≡ get_or ms i m → set ms i (f m) ≡ map (at_dir dir f) ms
becomes dir ms i m f p r =
    let read = slice_get_read ms (length ms) i m refl p.inside r in
    sym (became dir f ms i m read p.lower (p.here m read) (simp unary_clauses at p.higher))

pub none_becomes : (dir : List ℕ) (ms : List MountEntry) (i : ℕ) (f : MountEntry → MountEntry) → IsGapFor dir ms i → ms ≡ map (at_dir dir f) ms
none_becomes dir ms i f gap = sym (none_changed dir f ms (absent dir ms i gap))

-- a hold changes no directory
module _ (dir : List ℕ) (held : Bool) where
  same_dir : (m : MountEntry) → (at_dir dir (with_hold held) m).mount ≡ m.mount
  same_dir m = at_test (is_at dir m) refl
    where
      at_test : (b : Bool) → is_at dir m ≡ b → (at_dir dir (with_hold held) m).mount ≡ m.mount
      at_test true e = rw e refl
      at_test false e = rw e refl

  all_held : (q : Mount → Bool) (ms : List MountEntry) → list_all (λ m. q m.mount) (map (at_dir dir (with_hold held)) ms) ≡ list_all (λ m. q m.mount) ms
  all_held q [] = refl
  all_held q (m ∷ ms) = rw (same_dir m, all_held q ms) refl

  order_held : (ms : List MountEntry) → in_order (map (at_dir dir (with_hold held)) ms) ≡ in_order ms
  order_held [] = refl
  order_held (m ∷ ms) = rw (same_dir m, all_held (λ n. precedes m.mount.dir n.dir) ms, order_held ms) refl

  pub hold_kept : (ms : List MountEntry) → well_kept ms ≡ true → well_kept (map (at_dir dir (with_hold held)) ms) ≡ true
  hold_kept ms h =
      let k = kept ms h in
      to_kept (map (at_dir dir (with_hold held)) ms) (record {
        order = order_held ms ∙ k.order;
        paths = all_held (λ n. is_path n.dir) ms ∙ k.paths;
        few = subst (λ (n : ℕ). n ≤ 128) (sym (length-map ms (at_dir dir (with_hold held)))) k.few;
      })

-- the last one
pub last_push : (ns : List MountEntry) (m : MountEntry) → last_of (ns ++ m ∷ []) ≡ Some m
last_push [] m = refl
last_push (n ∷ ns) m = rw (last_push ns m) refl

without_push : (ns : List MountEntry) (m : MountEntry) → in_order (ns ++ m ∷ []) ≡ true → filter (λ n. not (is_at m.mount.dir n)) (ns ++ m ∷ []) ≡ ns
without_push [] m o = rw (bytes_itself m.mount.dir) refl
without_push (n ∷ ns) m o =
    let both = and_parts (list_all (λ k. precedes n.mount.dir k.mount.dir) (ns ++ m ∷ [])) (in_order (ns ++ m ∷ [])) o in
    let apart = before_apart m.mount.dir n (last_after ns both.0) in
    rw apart (ap (λ ks. n ∷ ks) (without_push ns m both.1))
  where
    last_after : (ns : List MountEntry) → list_all (λ k. precedes n.mount.dir k.mount.dir) (ns ++ m ∷ []) ≡ true → precedes n.mount.dir m.mount.dir ≡ true
    last_after [] h = (and_parts (precedes n.mount.dir m.mount.dir) true h).0
    last_after (k ∷ ns) h = last_after ns (and_parts (precedes n.mount.dir k.mount.dir) _ h).1

pub pop_kept : (ms ns : List MountEntry) (o : Option MountEntry) → well_kept ms ≡ true → ms ≡ ns ++ option_to_list o → well_kept ns ≡ true
pop_kept ms ns None h e = subst (λ (ks : List MountEntry). well_kept ks ≡ true) (e ∙ append-nil ns) h
pop_kept ms ns (Some m) h e =
    let whole : well_kept (ns ++ m ∷ []) ≡ true = subst (λ (ks : List MountEntry). well_kept ks ≡ true) e h in
    subst (λ (ks : List MountEntry). well_kept ks ≡ true) (without_push ns m (kept (ns ++ m ∷ []) whole).order) (some_kept (λ n. not (is_at m.mount.dir n)) (ns ++ m ∷ []) whole)

pub pop_gone : (ms ns : List MountEntry) (m : MountEntry) → well_kept ms ≡ true → ms ≡ ns ++ m ∷ [] → ns ≡ without_last ms
pop_gone ms ns m h e =
    let whole : well_kept (ns ++ m ∷ []) ≡ true = subst (λ (ks : List MountEntry). well_kept ks ≡ true) e h in
    subst (λ (ks : List MountEntry). ns ≡ without_last ks) (sym e) (rw (last_push ns m) (sym (without_push ns m (kept (ns ++ m ∷ []) whole).order)))

pub pop_last : (ms ns : List MountEntry) (m : MountEntry) → ms ≡ ns ++ m ∷ [] → last_of ms ≡ Some m
pop_last ms ns m e = ap last_of e ∙ last_push ns m

last_some : (m : MountEntry) (ms : List MountEntry) → is_some (last_of (m ∷ ms)) ≡ true
last_some m ms = at_rest (is_some (last_of ms)) refl
  where
    at_rest : (b : Bool) → is_some (last_of ms) ≡ b → is_some (last_of (m ∷ ms)) ≡ true
    at_rest true e = rw (e, e) refl
    at_rest false e = rw e refl

-- the last one by its place
pub last_read : (ms : List MountEntry) → slice_get ms (length ms - 1) ≡ last_of ms
last_read [] = refl
last_read (m ∷ []) = refl
last_read (m ∷ n ∷ ms) = simp unary_clauses (simp unary_clauses at (last_read (n ∷ ms)) ∙ sym behind)
  where
    behind : last_of (m ∷ n ∷ ms) ≡ last_of (n ∷ ms)
    behind = cond-true (is_some (last_of (n ∷ ms))) (last_of (n ∷ ms)) (Some m) (last_some n ms)
