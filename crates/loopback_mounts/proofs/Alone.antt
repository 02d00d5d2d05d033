-- There is one mount over a path: two that have most components are one.
use Rattle.std.proofs.Common.{◌≡◌, ◌∷◌, ◌++◌, [], ℕ, ◌<◌, List, Bool, true, false, Option, Some, None, not, length, drop, take, get_or, refl, ap, sym, subst, arith, suc, zero, ◌∙◌}
use Rattle.std.specs.List.{Contains, list_all}
use Rattle.std.proofs.lemmas.Bool.{and_parts, false≢true}
use Rattle.std.proofs.lemmas.List.{take_at}
use Rattle.std.proofs.lemmas.List.Elements.{All-contains}
use Rattle.loopback_mounts.specs.Mounts.{has_path, in_order, is_at, precedes, well_kept}
use Rattle.loopback_mounts.specs.Paths.{components, depth}
use Rattle.loopback_mounts.specs.Places.{IsOver, covers_path, mount_over}
use Rattle.loopback_mounts.specs.declared.mount.MountEntry.{MountEntry}
use Rattle.loopback_mounts.proofs.Kept.{kept}
use Rattle.loopback_mounts.proofs.Orders.{before_apart, bytes_itself}
use Rattle.loopback_mounts.proofs.Over.{Lower, is_over, none_over}
use Rattle.loopback_mounts.proofs.Parts.{begins_rest, same_parts}

-- what all pass, each passes
each_passes : (q : MountEntry → Bool) (ms : List MountEntry) (m : MountEntry) (k : ℕ) → k < length ms → get_or ms k m ≡ m → list_all q ms ≡ true → q m ≡ true
each_passes q [] m k l e h = absurd (omega arith)
each_passes q (n ∷ ms) m zero l e h = subst (λ (x : MountEntry). q x ≡ true) e (and_parts (q n) (list_all q ms) h).0
each_passes q (n ∷ ms) m (suc k) l e h = each_passes q ms m k (omega arith) e (and_parts (q n) (list_all q ms) h).1

pub passes : (q : MountEntry → Bool) (ms : List MountEntry) (m : MountEntry) → Contains ms m → list_all q ms ≡ true → q m ≡ true
passes q ms m at h = each_passes q ms m at.0 at.1 at.2 h

-- no mount precedes one at its directory
not_itself : (m n : MountEntry) → precedes m.mount.dir n.mount.dir ≡ true → m.mount.dir ≡ n.mount.dir → ⊥
not_itself m n h e =
    let apart : is_at n.mount.dir m ≡ false = before_apart n.mount.dir m h in
    let same : is_at n.mount.dir m ≡ true = subst (λ (d : List ℕ). is_at d m ≡ true) e (bytes_itself m.mount.dir) in
    false≢true (sym apart ∙ same)

one_place : (ms : List MountEntry) (m n : MountEntry) (i j : ℕ) → in_order ms ≡ true → i < length ms → get_or ms i m ≡ m → j < length ms → get_or ms j n ≡ n → m.mount.dir ≡ n.mount.dir → m ≡ n
one_place [] m n i j o li ei lj ej d = absurd (omega arith)
one_place (k ∷ ms) m n zero zero o li ei lj ej d = sym ei ∙ ej
one_place (k ∷ ms) m n zero (suc j) o li ei lj ej d =
    let first = (and_parts (list_all (λ x. precedes k.mount.dir x.mount.dir) ms) (in_order ms) o).0 in
    let next : precedes k.mount.dir n.mount.dir ≡ true = each_passes (λ x. precedes k.mount.dir x.mount.dir) ms n j (omega arith) ej first in
    absurd (not_itself k n next (ap (λ (x : MountEntry). x.mount.dir) ei ∙ d))
one_place (k ∷ ms) m n (suc i) zero o li ei lj ej d =
    let first = (and_parts (list_all (λ x. precedes k.mount.dir x.mount.dir) ms) (in_order ms) o).0 in
    let next : precedes k.mount.dir m.mount.dir ≡ true = each_passes (λ x. precedes k.mount.dir x.mount.dir) ms m i (omega arith) ei first in
    absurd (not_itself k m next (ap (λ (x : MountEntry). x.mount.dir) ej ∙ sym d))
one_place (k ∷ ms) m n (suc i) (suc j) o li ei lj ej d =
    one_place ms m n i j (and_parts (list_all (λ x. precedes k.mount.dir x.mount.dir) ms) (in_order ms) o).1 (omega arith) ei (omega arith) ej d

-- fronts of one list that are as long
same_front : {A : Type 0} (xs us ys vs : List A) → xs ++ us ≡ ys ++ vs → length xs ≡ length ys → xs ≡ ys
same_front xs us ys vs e l = sym (take_at xs us (length xs) refl) ∙ (ap (take (length xs)) e ∙ take_at ys vs (length xs) (sym l))

pub alone : (ms : List MountEntry) (p : List ℕ) (m : MountEntry) → well_kept ms ≡ true → IsOver ms p m → mount_over ms p ≡ Some m
alone ms p m h over = at_found (mount_over ms p) refl
  where
    at_found : (o : Option MountEntry) → mount_over ms p ≡ o → mount_over ms p ≡ Some m
    at_found None e =
        let none : not (covers_path p m) ≡ true = passes (λ n. not (covers_path p n)) ms m over.among (none_over ms p e) in
        absurd (false≢true (rw over.over at none))
    at_found (Some n) e =
        let other = is_over ms p n e in
        let ms_kept = kept ms h in
        let up = All-contains (Lower p m) ms n over.most other.among other.over in
        let down = All-contains (Lower p n) ms m other.most over.among over.over in
        let level : depth m.mount.dir ≡ depth n.mount.dir = omega arith in
        let whole = sym (begins_rest (components m.mount.dir) (components p) over.over) ∙ begins_rest (components n.mount.dir) (components p) other.over in
        let parts : components m.mount.dir ≡ components n.mount.dir = same_front (components m.mount.dir) (drop (depth m.mount.dir) (components p)) (components n.mount.dir) (drop (depth n.mount.dir) (components p)) whole level in
        let dirs = same_parts m.mount.dir n.mount.dir (passes has_path ms m over.among ms_kept.paths) (passes has_path ms n other.among ms_kept.paths) parts in
        let same = one_place ms n m other.among.0 over.among.0 ms_kept.order other.among.1 other.among.2 over.among.1 over.among.2 (sym dirs) in
        e ∙ ap (λ (x : MountEntry). Some x) same
