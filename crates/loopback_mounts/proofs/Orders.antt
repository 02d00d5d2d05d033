-- Byte order, and what it says of a list of mounts in order.
use Rattle.std.proofs.Common.{◌≡◌, ◌∷◌, [], ℕ, ◌<◌, ◌≤◌, List, Bool, true, false, Some, None, not, filter, length, map, set, subst, take, drop, get_or, refl, ap, sym, add-one, arith, suc, zero, ◌∙◌}
use Rattle.std.specs.Prelude.{bytes_eq, slice_get, Ok, Err}
use Rattle.std.specs.Cmp.Lexicographic.{slice_cmp}
use Rattle.std.specs.List.{insert, list_all, remove}
use Rattle.std.specs.List.Sorted.{IsBinarySearchResult, IsSortedBy}
use Rattle.std.specs.Ordering.{is_eq, is_gt, is_lt, nat_cmp, ordering_reverse}
use Rattle.std.specs.declared.cmp.Ordering.{Ordering}
use Rattle.std.specs.declared.cmp.Ordering.TheVariants.{Less, Equal, Greater}
use Rattle.std.proofs.lemmas.Bool.{and_from, and_parts, false≢true}
use Rattle.std.proofs.lemmas.Cmp.{nat_list_cmp_total}
use Rattle.std.proofs.lemmas.List.Sorted.{searchable_from_sorted}
use Rattle.std.proofs.lemmas.Option.{slice_get-get_or, slice_get_read}
use Rattle.std.proofs.lemmas.Map.Text.{is_eq-slice_cmp}
use Rattle.std.proofs.lemmas.Slice.Eq.{bytes_eq-Decides}
use Rattle.zone_pools.specs.Firsts.{first_of}
use Rattle.zone_pools.specs.Owned_lists.{put}
use Rattle.loopback_mounts.specs.Mounts.{at_dir, before, in_order, is_at, mount_at, precedes}
use Rattle.loopback_mounts.specs.Search.{IsGapFor, IsPlaceOf, after}
use Rattle.loopback_mounts.specs.declared.mount.MountEntry.{MountEntry}
use native.Mathlib.Numerals.{unary_clauses}

abbrev cmp : List ℕ → List ℕ → Ordering
cmp a b = slice_cmp nat_cmp a b

lt_not_eq : (o : Ordering) → is_lt o ≡ true → is_eq o ≡ false
lt_not_eq Less h = refl
lt_not_eq Equal h = absurd (false≢true h)
lt_not_eq Greater h = refl

gt_not_eq : (o : Ordering) → is_gt o ≡ true → is_eq o ≡ false
gt_not_eq Less h = refl
gt_not_eq Equal h = absurd (false≢true h)
gt_not_eq Greater h = refl

gt_not_lt : (o : Ordering) → is_gt o ≡ true → is_lt o ≡ false
gt_not_lt Less h = absurd (false≢true h)
gt_not_lt Equal h = refl
gt_not_lt Greater h = refl

lt_is : (o : Ordering) → is_lt o ≡ true → o ≡ Less
lt_is Less h = refl
lt_is Equal h = absurd (false≢true h)
lt_is Greater h = absurd (false≢true h)

gt_reversed : (o : Ordering) → is_gt (ordering_reverse o) ≡ is_lt o
gt_reversed Less = refl
gt_reversed Equal = refl
gt_reversed Greater = refl

-- a comes before b just where b comes after a
pub turned : (a b : List ℕ) → is_gt (cmp a b) ≡ precedes b a
turned a b = ap is_gt (nat_list_cmp_total.antisymm a b) ∙ gt_reversed (cmp b a)

pub chained : (a b c : List ℕ) → precedes a b ≡ true → precedes b c ≡ true → precedes a c ≡ true
chained a b c h k = ap is_lt (nat_list_cmp_total.trans a b c (lt_is _ h) (lt_is _ k))

pub bytes_same : (a b : List ℕ) → bytes_eq a b ≡ true → a ≡ b
bytes_same a b h = (bytes_eq-Decides a b).0 h

pub bytes_itself : (a : List ℕ) → bytes_eq a a ≡ true
bytes_itself a = (bytes_eq-Decides a a).1 refl

-- what comes before or after a directory is not at it
pub before_apart : (dir : List ℕ) (m : MountEntry) → before dir m ≡ true → is_at dir m ≡ false
before_apart dir m h = sym (is_eq-slice_cmp m.mount.dir dir) ∙ lt_not_eq (cmp m.mount.dir dir) h

pub after_apart : (dir : List ℕ) (m : MountEntry) → after dir m ≡ true → is_at dir m ≡ false
after_apart dir m h = sym (is_eq-slice_cmp m.mount.dir dir) ∙ gt_not_eq (cmp m.mount.dir dir) (turned m.mount.dir dir ∙ h)

pub after_not_before : (dir : List ℕ) (m : MountEntry) → after dir m ≡ true → before dir m ≡ false
after_not_before dir m h = gt_not_lt (cmp m.mount.dir dir) (turned m.mount.dir dir ∙ h)

-- a directory that is neither before nor the same is after
pub after_else : (dir : List ℕ) (m : MountEntry) → before dir m ≡ false → is_at dir m ≡ false → after dir m ≡ true
after_else dir m h k = sym (turned m.mount.dir dir) ∙ greater (cmp m.mount.dir dir) h (is_eq-slice_cmp m.mount.dir dir ∙ k)
  where
    greater : (o : Ordering) → is_lt o ≡ false → is_eq o ≡ false → is_gt o ≡ true
    greater Less h k = absurd (false≢true (sym h))
    greater Equal h k = absurd (false≢true (sym k))
    greater Greater h k = refl

-- a test of all items, from one test of each
pub all_from : {A : Type 0} (p q : A → Bool) → ((x : A) → p x ≡ true → q x ≡ true) → (xs : List A) → list_all p xs ≡ true → list_all q xs ≡ true
all_from p q f [] h = refl
all_from p q f (x ∷ xs) h = let both = and_parts (p x) (list_all p xs) h in and_from _ _ (f x both.0) (all_from p q f xs both.1)

pub all_kept : {A : Type 0} (p keep : A → Bool) (xs : List A) → list_all p xs ≡ true → list_all p (filter keep xs) ≡ true
all_kept p keep [] h = refl
all_kept p keep (x ∷ xs) h = at_keep (keep x) refl (all_kept p keep xs)
  where
    at_keep : (b : Bool) → keep x ≡ b → (list_all p xs ≡ true → list_all p (filter keep xs) ≡ true) → list_all p (filter keep (x ∷ xs)) ≡ true
    at_keep true e ih = let both = and_parts (p x) (list_all p xs) h in rw e (and_from _ _ both.0 (ih both.1))
    at_keep false e ih = let both = and_parts (p x) (list_all p xs) h in rw e (ih both.1)

-- nothing of some items passes
pub none_left : {A : Type 0} (p : A → Bool) (xs : List A) → list_all (λ x. not (p x)) xs ≡ true → filter p xs ≡ []
none_left p [] h = refl
none_left p (x ∷ xs) h =
    let both = and_parts (not (p x)) (list_all (λ x. not (p x)) xs) h in
    at_test (p x) refl both.0 (none_left p xs both.1)
  where
    at_test : (b : Bool) → p x ≡ b → not (p x) ≡ true → filter p xs ≡ [] → filter p (x ∷ xs) ≡ []
    at_test true e n ih = absurd (false≢true (rw e at n))
    at_test false e n ih = rw e ih

pub all_left : {A : Type 0} (p : A → Bool) (xs : List A) → list_all (λ x. not (p x)) xs ≡ true → filter (λ x. not (p x)) xs ≡ xs
all_left p [] h = refl
all_left p (x ∷ xs) h =
    let both = and_parts (not (p x)) (list_all (λ x. not (p x)) xs) h in
    rw both.0 (ap (λ ys. x ∷ ys) (all_left p xs both.1))

pub none_changed : (dir : List ℕ) (f : MountEntry → MountEntry) (ms : List MountEntry) → list_all (λ m. not (is_at dir m)) ms ≡ true → map (at_dir dir f) ms ≡ ms
none_changed dir f [] h = refl
none_changed dir f (m ∷ ms) h =
    let both = and_parts (not (is_at dir m)) (list_all (λ m. not (is_at dir m)) ms) h in
    at_test (is_at dir m) refl both.0 (none_changed dir f ms both.1)
  where
    at_test : (b : Bool) → is_at dir m ≡ b → not (is_at dir m) ≡ true → map (at_dir dir f) ms ≡ ms → map (at_dir dir f) (m ∷ ms) ≡ m ∷ ms
    at_test true e n ih = absurd (false≢true (rw e at n))
    at_test false e n ih = rw e (ap (λ ns. m ∷ ns) ih)

apart_before : (dir : List ℕ) (ms : List MountEntry) → list_all (before dir) ms ≡ true → list_all (λ m. not (is_at dir m)) ms ≡ true
apart_before dir = all_from (before dir) (λ m. not (is_at dir m)) (λ m h. ap not (before_apart dir m h))

apart_after : (dir : List ℕ) (ms : List MountEntry) → list_all (after dir) ms ≡ true → list_all (λ m. not (is_at dir m)) ms ≡ true
apart_after dir = all_from (after dir) (λ m. not (is_at dir m)) (λ m h. ap not (after_apart dir m h))

-- a list round the place of a directory's mount: what is found there, what is left without it, and what it becomes
module _ (dir : List ℕ) where
  pub found : (ms : List MountEntry) (i : ℕ) (m : MountEntry) → slice_get ms i ≡ Some m → list_all (before dir) (take i ms) ≡ true → is_at dir m ≡ true → mount_at dir ms ≡ Some m
  found [] i m g l h = cc
  found (n ∷ ms) zero m g l h = let same : n ≡ m = cc in rw (same, h) refl
  found (n ∷ ms) (suc i) m g l h =
      let both = and_parts (before dir n) (list_all (before dir) (take i ms)) l in
      let apart = before_apart dir n both.0 in
      rw apart (found ms i m g both.1 h)

  pub gone : (ms : List MountEntry) (i : ℕ) (m : MountEntry) → slice_get ms i ≡ Some m → list_all (before dir) (take i ms) ≡ true → is_at dir m ≡ true → list_all (after dir) (drop (suc i) ms) ≡ true
      → filter (λ n. not (is_at dir n)) ms ≡ remove ms i
  gone [] i m g l h r = cc
  gone (n ∷ ms) zero m g l h r = let same : n ≡ m = cc in rw (same, h) (all_left (is_at dir) ms (apart_after dir ms r))
  gone (n ∷ ms) (suc i) m g l h r =
      let both = and_parts (before dir n) (list_all (before dir) (take i ms)) l in
      let apart = before_apart dir n both.0 in
      rw apart (ap (λ ns. n ∷ ns) (gone ms i m g both.1 h r))

  pub became : (f : MountEntry → MountEntry) (ms : List MountEntry) (i : ℕ) (m : MountEntry) → slice_get ms i ≡ Some m → list_all (before dir) (take i ms) ≡ true → is_at dir m ≡ true → list_all (after dir) (drop (suc i) ms) ≡ true
      → map (at_dir dir f) ms ≡ set ms i (f m)
  became f [] i m g l h r = cc
  became f (n ∷ ms) zero m g l h r = let same : n ≡ m = cc in rw (same, h) (ap (λ ns. f m ∷ ns) (none_changed dir f ms (apart_after dir ms r)))
  became f (n ∷ ms) (suc i) m g l h r =
      let both = and_parts (before dir n) (list_all (before dir) (take i ms)) l in
      let apart = before_apart dir n both.0 in
      rw apart (ap (λ ns. n ∷ ns) (became f ms i m g both.1 h r))

  pub placed : (e : MountEntry) (ms : List MountEntry) (i : ℕ) → i ≤ length ms → list_all (before dir) (take i ms) ≡ true → list_all (after dir) (drop i ms) ≡ true → put (before dir) e ms ≡ insert ms i e
  placed e [] i b l r = at_none i
    where
      at_none : (i : ℕ) → put (before dir) e [] ≡ insert [] i e
      at_none zero = refl
      at_none (suc i) = refl
  placed e (n ∷ ms) zero b l r =
      let both = and_parts (after dir n) (list_all (after dir) ms) r in
      let apart = after_not_before dir n both.0 in
      rw apart refl
  placed e (n ∷ ms) (suc i) b l r =
      let both = and_parts (before dir n) (list_all (before dir) (take i ms)) l in
      rw both.0 (ap (λ ns. n ∷ ns) (placed e ms i (omega arith) both.1 r))

  pub absent : (ms : List MountEntry) (i : ℕ) → IsGapFor dir ms i → list_all (λ m. not (is_at dir m)) ms ≡ true
  absent ms i gap = joined ms i (apart_before dir (take i ms) gap.lower) (apart_after dir (drop i ms) gap.higher)
    where
      joined : (ms : List MountEntry) (i : ℕ) → list_all (λ m. not (is_at dir m)) (take i ms) ≡ true → list_all (λ m. not (is_at dir m)) (drop i ms) ≡ true → list_all (λ m. not (is_at dir m)) ms ≡ true
      joined ms zero l r = r
      joined [] (suc i) l r = refl
      joined (m ∷ ms) (suc i) l r = let both = and_parts (not (is_at dir m)) _ l in and_from _ _ both.0 (joined ms i both.1 r)

-- where a binary search over mounts in order ends
in_pairs : (ms : List MountEntry) → in_order ms ≡ true → IsSortedBy (λ a b. is_lt (cmp a.mount.dir b.mount.dir)) ms
in_pairs [] o k d low high = absurd (omega arith)
in_pairs (m ∷ []) o k d low high = absurd (omega arith)
in_pairs (m ∷ n ∷ ms) o zero d low high =
    let both = and_parts (list_all (λ n. precedes m.mount.dir n.mount.dir) (n ∷ ms)) (in_order (n ∷ ms)) o in
    let first = (and_parts (precedes m.mount.dir n.mount.dir) (list_all (λ n. precedes m.mount.dir n.mount.dir) ms) both.0).0 in
    gt_not_lt (cmp n.mount.dir m.mount.dir) (turned n.mount.dir m.mount.dir ∙ first)
in_pairs (m ∷ n ∷ ms) o (suc k) d low high =
    let both = and_parts (list_all (λ n. precedes m.mount.dir n.mount.dir) (n ∷ ms)) (in_order (n ∷ ms)) o in
    let next = in_pairs (n ∷ ms) both.1 k d (omega arith) (omega arith) in
    simp unary_clauses (simp unary_clauses at next)

front_all : {A : Type 0} (p : A → Bool) (xs : List A) (i : ℕ) → i ≤ length xs → ((k : ℕ) (d : A) → k < i → p (get_or xs k d) ≡ true) → list_all p (take i xs) ≡ true
front_all p xs zero h f = refl
front_all p [] (suc i) h f = absurd (omega arith)
front_all p (x ∷ xs) (suc i) h f = and_from _ _ (f zero x (omega arith)) (front_all p xs i (omega arith) (λ k d l. f (suc k) d (omega arith)))

back_all : {A : Type 0} (p : A → Bool) (xs : List A) (i : ℕ) → ((k : ℕ) (d : A) → i ≤ k → k < length xs → p (get_or xs k d) ≡ true) → list_all p (drop i xs) ≡ true
back_all p [] zero f = refl
back_all p [] (suc i) f = refl
back_all p (x ∷ xs) zero f = and_from _ _ (f zero x (omega arith) (omega arith)) (back_all p xs zero (λ k d l h. f (suc k) d (omega arith) (omega arith)))
back_all p (x ∷ xs) (suc i) f = back_all p xs i (λ k d l h. f (suc k) d (omega arith) (omega arith))

-- the mounts before and after one
lower_ones : (ms : List MountEntry) (i : ℕ) (m : MountEntry) → in_order ms ≡ true → slice_get ms i ≡ Some m → list_all (before m.mount.dir) (take i ms) ≡ true
lower_ones [] i m o g = cc
lower_ones (n ∷ ms) zero m o g = refl
lower_ones (n ∷ ms) (suc i) m o g =
    let both = and_parts (list_all (λ k. precedes n.mount.dir k.mount.dir) ms) (in_order ms) o in
    and_from _ _ (one ms i both.0 g) (lower_ones ms i m both.1 g)
  where
    one : (ms : List MountEntry) (i : ℕ) → list_all (λ k. precedes n.mount.dir k.mount.dir) ms ≡ true → slice_get ms i ≡ Some m → precedes n.mount.dir m.mount.dir ≡ true
    one [] i h g = cc
    one (k ∷ ms) zero h g = let same : k ≡ m = cc in let here = (and_parts (precedes n.mount.dir k.mount.dir) _ h).0 in rw (← same) here
    one (k ∷ ms) (suc i) h g = one ms i (and_parts (precedes n.mount.dir k.mount.dir) _ h).1 g

higher_ones : (ms : List MountEntry) (i : ℕ) (m : MountEntry) → in_order ms ≡ true → slice_get ms i ≡ Some m → list_all (after m.mount.dir) (drop (suc i) ms) ≡ true
higher_ones [] i m o g = cc
higher_ones (n ∷ ms) zero m o g =
    let same : n ≡ m = cc in
    let both = and_parts (list_all (λ k. precedes n.mount.dir k.mount.dir) ms) (in_order ms) o in
    rw (← same) both.0
higher_ones (n ∷ ms) (suc i) m o g = higher_ones ms i m (and_parts (list_all (λ k. precedes n.mount.dir k.mount.dir) ms) (in_order ms) o).1 g

abbrev pub against : List ℕ → MountEntry → Ordering
against dir m = cmp m.mount.dir dir

pub search_found : (dir : List ℕ) (ms : List MountEntry) (i : ℕ) → in_order ms ≡ true → i < length ms → IsBinarySearchResult (against dir) ms (Ok i) → IsPlaceOf dir ms i
search_found dir [] i o b r = absurd (omega arith)
search_found dir (n ∷ ns) i o b r =
    let ms : List MountEntry = n ∷ ns in
    let m : MountEntry = get_or ms i n in
    let read : slice_get ms i ≡ Some m = slice_get-get_or ms i n b in
    let here : is_at dir m ≡ true = sym (is_eq-slice_cmp m.mount.dir dir) ∙ ap is_eq (r n) in
    let same : m.mount.dir ≡ dir = bytes_same m.mount.dir dir here in
    record {
      inside = b;
      lower = subst (λ (d : List ℕ). list_all (before d) (take i ms) ≡ true) same (lower_ones ms i m o read);
      here = λ k g. let one : m ≡ k = cc in subst (λ (x : MountEntry). is_at dir x ≡ true) one here;
      higher = rw add-one (subst (λ (d : List ℕ). list_all (after d) (drop (suc i) ms) ≡ true) same (higher_ones ms i m o read));
    }

pub search_free : (dir : List ℕ) (ms : List MountEntry) (i : ℕ) → in_order ms ≡ true → i ≤ length ms → IsBinarySearchResult (against dir) ms (Err i) → IsGapFor dir ms i
search_free dir ms i o b r =
    let point = r (searchable_from_sorted nat_list_cmp_total (λ m. m.mount.dir) ms dir (in_pairs ms o)) in
    record {
      inside = b;
      lower = front_all (before dir) ms i b (λ k d h. ap is_lt (point.0 k d (omega arith) h));
      higher = back_all (after dir) ms i (λ k d l h. sym (turned (get_or ms k d).mount.dir dir) ∙ ap is_gt (point.1 k d l h));
    }

pub found_by : (dir : List ℕ) (ms : List MountEntry) (i : ℕ) (m : MountEntry) → IsPlaceOf dir ms i → m ≡ get_or ms i m → mount_at dir ms ≡ Some m
found_by dir ms i m p r = let read = slice_get_read ms (length ms) i m refl p.inside r in found dir ms i m read p.lower (p.here m read)

pub none_by : (dir : List ℕ) (ms : List MountEntry) (i : ℕ) → IsGapFor dir ms i → mount_at dir ms ≡ None
none_by dir ms i gap = ap first_of (none_left (is_at dir) ms (absent dir ms i gap))
