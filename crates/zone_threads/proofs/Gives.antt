-- What a zone keeps over a local turn and a give.
use Rattle.std.proofs.Common.{◌≡◌, ℕ, Bool, true, false, List, [], ◌∷◌, ◌++◌, ◌≤◌, length, take, drop, sym, refl, ap, ◌∙◌, subst, arith, length-append}
use Rattle.std.specs.List.{All}
use Rattle.std.proofs.lemmas.List.Elements.{All-append, All-cons, All-nil}
use Rattle.std.proofs.lemmas.List.{drop-append-le, take-append-drop, take-append-le}
use Rattle.std.proofs.Math.Seq.{drop-length, take-length}
use Rattle.atomic_table.specs.Seated.{TableId}
use Rattle.zone_turn.specs.declared.views.View.{View}
use Rattle.zone_turn.specs.Histories.{own}
use Rattle.zone_turn.specs.Passes.{Holder, idle_with, with_part}
use Rattle.zone_threads.specs.Folds.{all_right, folded}
use Rattle.zone_threads.specs.Machines.{Definitions, IsTurnOf, Turned}
use Rattle.zone_threads.specs.Notes.{dones, has_mark, note_by, notes_of}
use Rattle.zone_threads.specs.Zones.{IsZone, left_by}
use Rattle.zone_threads.specs.declared.notes.Note.{Note}
use Rattle.zone_threads.proofs.Bools.{both}
use Rattle.zone_threads.proofs.Histories.{folded_append, right_append}
use Rattle.zone_threads.proofs.Telling.{dones_append, dones_notes, dones_own, mark_behind, mark_notes, own_free}

module _ {State Cell Shared Line Entry Heard : Type 0} (D : Definitions State Cell Shared Line Entry Heard) where
  left_whole : (start : State) (p given : ℕ) (log : List Entry) → folded D.world_one (left_by D start p (take given log)) (drop given log) ≡ left_by D start p log
  left_whole start p given log = sym (folded_append D.world_one (D.world p start) (take given log) (drop given log)) ∙ ap (left_by D start p) (take-append-drop given log)

module _ {State Cell Shared Line Entry Heard : Type 0} (D : Definitions State Cell Shared Line Entry Heard) (starts : State → Type 0) (turn : TableId) (p given : ℕ) (cell : Cell) (log : List Entry) (marked : Bool) (holder : Holder (Note Entry)) (z : IsZone D starts turn p cell log given marked holder) where
  -- a local turn goes on the log
  pub turned : (cell' : Cell) (log' : List Entry) (e : Entry) → marked ≡ false → log' ≡ log ++ e ∷ [] → IsTurnOf D p e → ((w : D.World) → D.cell_of cell w → Turned D p cell' e w) → IsZone D starts turn p cell' log' given marked holder
  turned cell' log' e free more is turns =
      let near = z.near in
      let front : take given log' ≡ take given log = ap (take given) more ∙ take-append-le given log (e ∷ []) near in
      let back : drop given log' ≡ drop given log ++ e ∷ [] = ap (drop given) more ∙ drop-append-le given log (e ∷ []) near in
      let within : given ≤ length log' = (let a = ap length more in let b = length-append log (e ∷ []) in omega arith) in
      record {
        near = within;
        mine = subst (All (λ (x : Entry). D.by x ≡ p)) (sym back) (All-append (λ (x : Entry). D.by x ≡ p) (drop given log) (e ∷ []) z.mine (All-cons (λ (x : Entry). D.by x ≡ p) e [] is.by (All-nil (λ (x : Entry). D.by x ≡ p))));
        logged = λ start from.
            let old = z.logged start from in
            let here = turns (left_by D start p log) (old.stands free) in
            let Q : List Entry → List Entry → Type 0 = λ xs ys. all_right (D.is_local p) D.world_one (left_by D start p xs) ys ≡ true in
            record {
              within = within;
              locals = subst (λ xs. Q xs (drop given log')) (sym front) (subst (Q (take given log)) (sym back)
                  (right_append (D.is_local p) D.world_one (left_by D start p (take given log)) (drop given log) (e ∷ []) old.locals
                  (both _ _ (ap (λ (w : D.World). D.is_local p w e) (left_whole D start p given log) ∙ here.is_next) refl)));
              stands = λ m. subst (D.cell_of cell') (sym (ap (left_by D start p) more ∙ folded_append D.world_one (D.world p start) log (e ∷ []))) here.cell;
            };
        seated = record { of_turn = z.seated.of_turn; idle = z.seated.idle; numbered = z.seated.numbered; done = z.seated.done ∙ sym front; marks = z.seated.marks };
      }

  -- the cell stands for what it stood for
  pub kept : (cell' : Cell) → ((w : D.World) → D.cell_of cell w → D.cell_of cell' w) → IsZone D starts turn p cell' log given marked holder
  kept cell' same = record {
    near = z.near;
    mine = z.mine;
    logged = λ start from. let old = z.logged start from in record { within = old.within; locals = old.locals; stands = λ free. same (left_by D start p log) (old.stands free) };
    seated = z.seated;
  }

  -- what the zone did is what of the notes is its own, and where none of these is a mark, it isn't marked
  pub own_done : (ns : List (Note Entry)) → own (note_by D.by) holder.knows.number ns ≡ holder.knows.list → own D.by p (dones ns) ≡ take given log
  own_done ns mine = sym (dones_own D.by p ns) ∙ (ap (λ k. dones (own (note_by D.by) k ns)) (sym z.seated.numbered) ∙ (ap dones mine ∙ z.seated.done))

  pub own_unmarked : (ns : List (Note Entry)) → own (note_by D.by) holder.knows.number ns ≡ holder.knows.list → has_mark ns ≡ false → marked ≡ false
  own_unmarked ns mine free = here marked z.seated.marks
    where
      none : has_mark holder.knows.list ≡ false
      none = ap has_mark (sym mine) ∙ own_free D.by holder.knows.number ns free

      here : (b : Bool) → (b ≡ true → has_mark holder.knows.list ≡ true) → b ≡ false
      here true marks = sym (marks refl) ∙ none
      here false marks = refl

  -- after a give the pass has told all that the log has
  pub gave : (cell' : Cell) (log' new done : List Entry) (given' gives : ℕ) (ns : List (Note Entry)) (marked' : Bool) (v : View (Note Entry)) (holder' : Holder (Note Entry)) → log' ≡ log ++ new → given' ≡ length log' → holder'.turn ≡ turn
      → v ≡ with_part gives ns holder.knows → holder'.knows ≡ idle_with (v.list ++ notes_of p done marked') v → done ≡ drop given log' → ((start : State) → starts start → marked' ≡ false → D.cell_of cell' (left_by D start p log')) → IsZone D starts turn p cell' log' given' marked' holder'
  gave cell' log' new done given' gives ns marked' v holder' more all turn' was now' rest stands =
      let near = z.near in
      let notes : List (Note Entry) = notes_of p done marked' in
      let whole : List (Note Entry) = holder.knows.list ++ notes in
      let front : take given log' ≡ take given log = ap (take given) more ∙ take-append-le given log new near in
      let list : v.list ++ notes ≡ whole = ap (λ (x : View (Note Entry)). x.list ++ notes) was in
      let told : dones whole ≡ log' = dones_append holder.knows.list notes ∙ ((λ i. (z.seated.done ∙ sym front) i ++ (dones_notes p done marked' ∙ rest) i) ∙ take-append-drop given log') in
      let is : holder'.knows ≡ idle_with whole holder.knows = now' ∙ (ap (λ l. idle_with l v) list ∙ ap (λ (x : View (Note Entry)). idle_with whole x) was) in
      let none : drop given' log' ≡ [] = ap (λ k. drop k log') all ∙ drop-length log' in
      record {
        near = omega arith;
        mine = subst (All (λ (x : Entry). D.by x ≡ p)) (sym none) (All-nil (λ (x : Entry). D.by x ≡ p));
        logged = λ start from. record {
          within = omega arith;
          locals = ap (λ (l : List Entry). all_right (D.is_local p) D.world_one (left_by D start p (take given' log')) l) none;
          stands = stands start from;
        };
        seated = record {
          of_turn = turn';
          idle = rw is refl;
          numbered = ap (λ (x : View (Note Entry)). x.number) is ∙ z.seated.numbered;
          done = ap (λ (x : View (Note Entry)). dones x.list) is ∙ (told ∙ (sym (take-length log') ∙ ap (λ k. take k log') (sym all)));
          marks = λ m. ap (λ (x : View (Note Entry)). has_mark x.list) is ∙ mark_behind holder.knows.list notes (mark_notes p done marked' ∙ m);
        };
      }
