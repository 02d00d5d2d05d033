-- What one event keeps.
use Rattle.std.proofs.Common.{◌≡◌, ◌≢◌, ℕ, ◌+◌, ◌-◌, ◌<◌, ◌≤◌, ◌&&◌, not, Bool, true, false, List, [], ◌∷◌, ◌++◌, map, length, take, drop, replicate, sym, refl, ap, ◌∙◌, subst, arith, zero, suc, slice_get, slice_index_or, Some, None, is_some}
use Rattle.std.specs.List.{All}
use Rattle.std.proofs.lemmas.List.Elements.{All-append, All-cons, All-nil}
use Rattle.std.proofs.Math.Seq.{take-suc}
use Rattle.std.proofs.lemmas.List.{append_assoc, drop-append-le, get_or-drop, length-drop, take-append-drop, take_all}
use mathlib.Core.List.{map-append}
use Rattle.zone_turn.specs.Histories.{own}
use Rattle.zone_threads.specs.Folds.{all_right, folded}
use Rattle.zone_threads.specs.Machines.{Definitions, IsLineOf, IsTurnOf, Laws, Stepped, Unfinished}
use Rattle.zone_threads.specs.Records.{Middle, Stands, Tells, spread}
use Rattle.zone_threads.specs.Scripts.{TallyOf, beginning, fresh, is_line_at, may, noted, progress_one, session}
use Rattle.zone_threads.specs.Zones.{Did, Logged, left_by}
use Rattle.zone_threads.specs.declared.notes.Note.{Note}
use Rattle.zone_threads.specs.declared.tally.Progress.{Progress}
use Rattle.zone_threads.proofs.Bools.{both, no_same}
use Rattle.zone_threads.proofs.Histories.{folded_append, locals_behind, right_append, turn_may}

pub any_default : {A : Type 0} (xs : List A) (k : ℕ) (d e : A) → k < length xs → slice_index_or xs k d ≡ slice_index_or xs k e
any_default [] k d e near = absurd (omega arith)
any_default (x ∷ xs) zero d e near = refl
any_default (x ∷ xs) (suc k) d e near = any_default xs k d e (omega arith)

-- places
pub spread_append : (rs qs : List (ℕ × ℕ)) → spread (rs ++ qs) ≡ spread rs ++ spread qs
spread_append [] qs = refl
spread_append (r ∷ rs) qs = ap (λ l. replicate r.1 r.0 ++ l) (spread_append rs qs) ∙ sym (append_assoc (replicate r.1 r.0) (spread rs) (spread qs))

pub append_none : {A : Type 0} (xs : List A) → xs ++ [] ≡ xs
append_none [] = refl
append_none (x ∷ xs) = ap (λ l. x ∷ l) (append_none xs)

pub rest_is : {A : Type 0} (given : ℕ) (items : List A) → take (length items - given) (drop given items) ≡ drop given items
rest_is given items = take_all (length items - given) (drop given items) (let e = length-drop given items in omega arith)

rest_at : {A : Type 0} (from i : ℕ) (xs : List A) (e : A) → from ≤ i → e ≡ slice_index_or xs i e → e ≡ slice_index_or (drop from xs) (i - from) e
rest_at from i xs e begun is = is ∙ (let k : i ≡ from + (i - from) = omega arith in ap (λ n. slice_index_or xs n e) k ∙ sym (get_or-drop from xs (i - from) e))

rest_more : {A : Type 0} (from i : ℕ) (xs : List A) (e : A) → from ≤ i → i < length xs → e ≡ slice_index_or xs i e → take (i + 1 - from) (drop from xs) ≡ take (i - from) (drop from xs) ++ e ∷ []
rest_more from i xs e begun near is =
    let there : i - from < length (drop from xs) = (let l = length-drop from xs in omega arith) in
    let next : i + 1 - from ≡ suc (i - from) = omega arith in
    ap (λ n. take n (drop from xs)) next ∙ (take-suc (drop from xs) (i - from) e there ∙ ap (λ x. take (i - from) (drop from xs) ++ x ∷ []) (sym (rest_at from i xs e begun is)))

module _ {State Cell Shared Line Entry Heard : Type 0} (D : Definitions State Cell Shared Line Entry Heard) where
  line_at : (scripts : ℕ → List Line) (t : ℕ → Progress) (e : Entry) (s number : ℕ) (line : Line) → slice_get (scripts s) number ≡ Some line → D.is_line line e ≡ true → t s ≡ record { done = number; awaits = None }
      → (not (is_some (t s).awaits) && is_line_at D (slice_get (scripts s) (t s).done) e) ≡ true
  line_at scripts t e s number line there is here = rw (here, there) is

  -- the next line of a session that doesn't wait may come
  pub line_may : (scripts : ℕ → List Line) (t : ℕ → Progress) (e : Entry) (s number : ℕ) (line : Line) → session D e ≡ s → s ≢ 0 → slice_get (scripts s) number ≡ Some line → D.is_line line e ≡ true
      → t s ≡ record { done = number; awaits = None } → may D scripts t e ≡ true
  unfolding may
  line_may scripts t e s number line is some there spelled here = rw is (rw (no_same s 0 some) (line_at scripts t e s number line there spelled here))

  places_of : (p : ℕ) (es : List Entry) → All (λ (e : Entry). D.by e ≡ p) es → map D.by es ≡ replicate (length es) p
  places_of p [] all = refl
  places_of p (e ∷ es) all = λ i. all 0 e (omega arith) i ∷ places_of p es (λ k d l. all (suc k) d (omega arith)) i

  order_grows : (p n : ℕ) (rs qs : List (ℕ × ℕ)) (h batch : List Entry) → spread rs ≡ map D.by h → All (λ (e : Entry). D.by e ≡ p) batch → n ≡ length batch → qs ≡ rs ++ (p, n) ∷ [] → spread qs ≡ map D.by (h ++ batch)
  order_grows p n rs qs h batch is all many more =
      ap spread more ∙ (spread_append rs ((p, n) ∷ []) ∙ ((λ i. is i ++ append_none (replicate (many i) p) i) ∙ (ap (λ l. map D.by h ++ l) (sym (places_of p batch all)) ∙ sym (map-append D.by h batch))))

pub got : {A : Type 0} (xs : List A) (k : ℕ) (d l : A) → k < length xs → l ≡ slice_index_or xs k d → slice_get xs k ≡ Some l
got [] k d l near is = absurd (omega arith)
got (x ∷ xs) zero d l near is = ap Some (sym is)
got (x ∷ xs) (suc k) d l near is = got xs k d l (omega arith) is

module _ {State Cell Shared Line Entry Heard : Type 0} (D : Definitions State Cell Shared Line Entry Heard) where
  tally_after : (p : ℕ) (ts ts' : List Progress) (e : Entry) (t : ℕ → Progress) → D.by e ≡ p → TallyOf ts t → length ts' ≡ length ts
      → ((n : ℕ) → n < length ts → slice_index_or ts' n fresh ≡ progress_one n (slice_index_or ts n fresh) p (D.told e)) → TallyOf ts' (noted D t e)
  tally_after p ts ts' e t mine tally wide each n near =
      let inside : n < length ts = subst (λ k. n < k) wide near in
      each n inside ∙ (ap (λ x. progress_one n x p (D.told e)) (tally n inside) ∙ ap (λ q. progress_one n (t n) q (D.told e)) (sym mine))

  -- a log's entries from a number on are noted one by one
  pub tally_rest : (p from i : ℕ) (xs : List Entry) (ts ts' : List Progress) (e : Entry) (t : ℕ → Progress) → from ≤ i → i < length xs → e ≡ slice_index_or xs i e → All (λ (x : Entry). D.by x ≡ p) (drop from xs)
      → TallyOf ts (folded (noted D) t (take (i - from) (drop from xs))) → length ts' ≡ length ts → ((n : ℕ) → n < length ts → slice_index_or ts' n fresh ≡ progress_one n (slice_index_or ts n fresh) p (D.told e))
      → TallyOf ts' (folded (noted D) t (take (i + 1 - from) (drop from xs)))
  tally_rest p from i xs ts ts' e t begun near is mine tally wide each =
      let there : i - from < length (drop from xs) = (let l = length-drop from xs in omega arith) in
      let place : D.by e ≡ p = subst (λ x. D.by x ≡ p) (sym (rest_at from i xs e begun is)) (mine (i - from) e there) in
      let more : folded (noted D) t (take (i + 1 - from) (drop from xs)) ≡ noted D (folded (noted D) t (take (i - from) (drop from xs))) e =
      ap (folded (noted D) t) (rest_more from i xs e begun near is) ∙ folded_append (noted D) t (take (i - from) (drop from xs)) (e ∷ []) in
      subst (TallyOf ts') (sym more) (tally_after p ts ts' e (folded (noted D) t (take (i - from) (drop from xs))) place tally wide each)

  -- an entry more of a place
  pub mine_more : (p given : ℕ) (log log' : List Entry) (e : Entry) → given ≤ length log → log' ≡ log ++ e ∷ [] → D.by e ≡ p → All (λ (x : Entry). D.by x ≡ p) (drop given log) → All (λ (x : Entry). D.by x ≡ p) (drop given log')
  mine_more p given log log' e within grown is mine = subst (All (λ (x : Entry). D.by x ≡ p)) (sym (ap (drop given) grown ∙ drop-append-le given log (e ∷ []) within))
      (All-append (λ (x : Entry). D.by x ≡ p) (drop given log) (e ∷ []) mine (All-cons (λ (x : Entry). D.by x ≡ p) e [] is (All-nil (λ (x : Entry). D.by x ≡ p))))

  -- what was read of a log is the rest of it
  pub noted_rest : (p given : ℕ) (log read : List Entry) (ts ts1 : List Progress) → read ≡ log
      → ((t : ℕ → Progress) → All (λ (e : Entry). D.by e ≡ p) (take (length read - given) (drop given read)) → TallyOf ts t → TallyOf ts1 (folded (noted D) t (take (length read - given) (drop given read))))
      → (t : ℕ → Progress) → All (λ (e : Entry). D.by e ≡ p) (drop given log) → TallyOf ts t → TallyOf ts1 (folded (noted D) t (drop given log))
  noted_rest p given log read ts ts1 is noting = subst (λ (l : List Entry). (t : ℕ → Progress) → All (λ (e : Entry). D.by e ≡ p) l → TallyOf ts t → TallyOf ts1 (folded (noted D) t l)) (rest_is given read ∙ ap (drop given) is) noting

  -- what is as it was stands for what it stood for
  pub tells_same : (starts : State → Type 0) (scripts : ℕ → List Line) (m m' : Shared) (ts ts' : List Progress) (rs rs' : List (ℕ × ℕ)) (ns : List (Note Entry)) → m' ≡ m → ts' ≡ ts → rs' ≡ rs → Tells D starts scripts m ts rs ns → Tells D starts scripts m' ts' rs' ns
  tells_same starts scripts m m' ts ts' rs rs' ns a b c = subst (λ (T : Type 0). T) (sym (λ i. Tells D starts scripts (a i) (b i) (c i) ns))

  -- a session's next line was done
  pub line_done : (scripts : ℕ → List Line) (p s number : ℕ) (line : Line) (k : Cell) (m : Shared) (ts ts' : List Progress) (e : Entry) (S : State) (t : ℕ → Progress) → Stepped D p k m e S → IsLineOf D p s line e → s ≢ 0 → slice_get (scripts s) number ≡ Some line
      → s < length ts → slice_index_or ts s fresh ≡ record { done = number; awaits = None } → TallyOf ts t → length ts' ≡ length ts
      → ((n : ℕ) → n < length ts → slice_index_or ts' n fresh ≡ progress_one n (slice_index_or ts n fresh) p (D.told e)) → Did D scripts p k m ts' e S t
  line_done scripts p s number line k m ts ts' e S t step is some there near at tally wide each = record {
    is_right = step.is_right;
    may_come = line_may D scripts t e s number line is.session some there is.line (sym (tally s near) ∙ at);
    mine = is.by;
    cell = step.cell;
    shared = step.shared;
    tally = tally_after p ts ts' e t is.by tally wide each;
  }

  -- a turn was done of a daemon that had something to do
  pub turn_done : (L : Laws D) (scripts : ℕ → List Line) (p : ℕ) (c k : Cell) (m : Shared) (ts ts' : List Progress) (e : Entry) (S : State) (t : ℕ → Progress) → Stepped D p k m e S → IsTurnOf D p e → D.is_busy (D.world p S) ≡ true → TallyOf ts t → length ts' ≡ length ts
      → ((n : ℕ) → n < length ts → slice_index_or ts' n fresh ≡ progress_one n (slice_index_or ts n fresh) p (D.told e)) → Did D scripts p k m ts' e S t
  turn_done L scripts p c k m ts ts' e S t step is busy tally wide each = record {
    is_right = step.is_right;
    may_come = turn_may D scripts t e is.turn (L.busy_works S e step.is_right is.turn (ap (λ q. D.is_busy (D.world q S)) is.by ∙ busy));
    mine = is.by;
    cell = step.cell;
    shared = step.shared;
    tally = tally_after p ts ts' e t is.by tally wide each;
  }

module _ {State Cell Shared Line Entry Heard : Type 0} (D : Definitions State Cell Shared Line Entry Heard) (L : Laws D) (start : State) (scripts : ℕ → List Line) (p given : ℕ) (log : List Entry) (cell : Cell) (marked : Bool) (m : Shared) (ts ts1 : List Progress) (rs : List (ℕ × ℕ)) (h : List Entry)
    (stands : Stands D start scripts m ts rs h) (mine : own D.by p h ≡ take given log) (logged : Logged D start p cell log given marked)
    (noting : (t : ℕ → Progress) → All (λ (e : Entry). D.by e ≡ p) (drop given log) → TallyOf ts t → TallyOf ts1 (folded (noted D) t (drop given log))) (wide : length ts1 ≡ length ts) where
  abbrev all : List Entry
  all = h ++ drop given log

  behind : Middle D start scripts m all × All (λ e. D.by e ≡ p) (drop given log) × (D.world p (folded D.one start all) ≡ left_by D start p log)
  behind = let b = locals_behind D L start scripts p m h (take given log) (drop given log) stands.middle mine logged.locals in
      (b.0, b.1, b.2 ∙ ap (left_by D start p) (take-append-drop given log))

  tally_behind : TallyOf ts1 (folded (noted D) beginning all)
  tally_behind = subst (TallyOf ts1) (sym (folded_append (noted D) beginning h (drop given log))) (noting (folded (noted D) beginning h) behind.1 stands.tally)

  -- nothing new was done
  pub quiet : (m' : Shared) (qs : List (ℕ × ℕ)) (n : ℕ) → (D.shared_of m (D.common (folded D.one start all)) → D.shared_of m' (D.common (folded D.one start all))) → n ≡ length log - given → qs ≡ rs ++ (p, n) ∷ [] → Stands D start scripts m' ts1 qs all × All (λ e. D.by e ≡ p) (drop given log)
  quiet m' qs n same many more = (
    record {
      middle = record { legal = behind.0.legal; kept = behind.0.kept; shared = same behind.0.shared };
      tally = tally_behind;
      wide = wide ∙ stands.wide;
      order = order_grows D p n rs qs h (drop given log) stands.order behind.1 (many ∙ sym (length-drop given log)) more;
    },
    behind.1,
  )

  -- the shared part is as it was
  pub kept_shared : (m' : Shared) → m' ≡ m → D.shared_of m (D.common (folded D.one start all)) → D.shared_of m' (D.common (folded D.one start all))
  kept_shared m' is = subst (λ (x : Shared). D.shared_of x (D.common (folded D.one start all))) (sym is)

  -- an event that wasn't done was one in the state that the local entries leave
  pub left_shared : (cell' : Cell) (m' : Shared) → marked ≡ false → Unfinished D p cell m cell' m' → D.shared_of m (D.common (folded D.one start all)) → D.shared_of m' (D.common (folded D.one start all))
  left_shared cell' m' free left = left.shared (folded D.one start all) (subst (D.cell_of cell) (sym behind.2) (logged.stands free))

  -- and the cell stands for what it stood for
  pub quiet_cell : (cell' : Cell) (marked' : Bool) → (marked' ≡ false → (marked ≡ false) × ((w : D.World) → D.cell_of cell w → D.cell_of cell' w)) → marked' ≡ false → D.cell_of cell' (left_by D start p log)
  quiet_cell cell' marked' same free = (same free).1 (left_by D start p log) (logged.stands (same free).0)

  -- an entry was added
  pub added : (m' : Shared) (ts' : List Progress) (qs : List (ℕ × ℕ)) (n : ℕ) (e : Entry) (cell' : Cell) (log' : List Entry) → marked ≡ false
      → ((s : State) (t : ℕ → Progress) → D.cell_of cell (D.world p s) → D.shared_of m (D.common s) → TallyOf ts1 t → Did D scripts p cell' m' ts' e s t)
      → length ts' ≡ length ts1 → log' ≡ log ++ e ∷ [] → n ≡ length log' - given → qs ≡ rs ++ (p, n) ∷ []
      → Stands D start scripts m' ts' qs (h ++ drop given log') × All (λ e. D.by e ≡ p) (drop given log') × D.cell_of cell' (left_by D start p log')
  added m' ts' qs n e cell' log' free did wide' grown many more =
      let s : State = folded D.one start all in
      let d = did s (folded (noted D) beginning all) (subst (D.cell_of cell) (sym behind.2) (logged.stands free)) behind.0.shared tally_behind in
      let batch : drop given log' ≡ drop given log ++ e ∷ [] = ap (drop given) grown ∙ drop-append-le given log (e ∷ []) logged.within in
      let h' : h ++ drop given log' ≡ all ++ e ∷ [] = ap (λ l. h ++ l) batch ∙ sym (append_assoc h (drop given log) (e ∷ [])) in
      let mine' : All (λ (x : Entry). D.by x ≡ p) (drop given log') = subst (All (λ (x : Entry). D.by x ≡ p)) (sym batch) (All-append (λ (x : Entry). D.by x ≡ p) (drop given log) (e ∷ []) behind.1 (All-cons (λ (x : Entry). D.by x ≡ p) e [] d.mine (All-nil (λ (x : Entry). D.by x ≡ p)))) in
      let after : folded D.one start (h ++ drop given log') ≡ D.one s e = ap (folded D.one start) h' ∙ folded_append D.one start all (e ∷ []) in
      let noted_after : folded (noted D) beginning (h ++ drop given log') ≡ noted D (folded (noted D) beginning all) e = ap (folded (noted D) beginning) h' ∙ folded_append (noted D) beginning all (e ∷ []) in
      let moves : D.world p (D.one s e) ≡ D.world_one (D.world p s) e = subst (λ k. D.world k (D.one s e) ≡ D.world_one (D.world k s) e) d.mine (L.own_moves s e d.is_right) in (
        record {
          middle = record {
            legal = subst (λ l. all_right D.right D.one start l ≡ true) (sym h') (right_append D.right D.one start all (e ∷ []) behind.0.legal (both _ _ d.is_right refl));
            kept = subst (λ l. all_right (may D scripts) (noted D) beginning l ≡ true) (sym h') (right_append (may D scripts) (noted D) beginning all (e ∷ []) behind.0.kept (both _ _ d.may_come refl));
            shared = subst (λ (s : State). D.shared_of m' (D.common s)) (sym after) d.shared;
          };
          tally = subst (TallyOf ts') (sym noted_after) d.tally;
          wide = wide' ∙ (wide ∙ stands.wide);
          order = order_grows D p n rs qs h (drop given log') stands.order mine' (many ∙ sym (length-drop given log')) more;
        },
        mine',
        subst (D.cell_of cell') (moves ∙ (ap (λ (w : D.World). D.world_one w e) behind.2 ∙ (sym (folded_append D.world_one (D.world p start) log (e ∷ [])) ∙ ap (left_by D start p) (sym grown)))) d.cell,
      )
