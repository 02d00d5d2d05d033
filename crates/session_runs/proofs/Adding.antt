-- Some entries more, and then some more.
use Rattle.std.proofs.Common.{◌≡◌, ◌++◌, ◌∷◌, [], ℕ, List, true, ap, append_assoc, arith, inl, refl, subst, sym, ◌∙◌}
use Rattle.std.proofs.lemmas.Bool.{and_from}
use Rattle.std.proofs.lemmas.List.{append-nil}
use Rattle.zn_io.proofs.Moments.{joined, weaker}
use Rattle.zn_io.specs.Disk.{IsSound, Leaves, View}
use Rattle.zone_cases.specs.State.{State}
use Rattle.zone_cases.specs.declared.events.Entry.{Entry}
use Rattle.zone_machine.specs.Machine.Changes.{HoldsFront}
use Rattle.zone_machine.specs.Machine.Histories.{after, is_legal}
use Rattle.zone_machine.specs.Machine.Images.{HoldsEither, NowHolds}
use Rattle.zone_machine.specs.declared.faults.StepFault.{StepFault}
use Rattle.session_records.proofs.Folds_laws.{folded-append, right-append}
use Rattle.session_records.specs.Folds.{all_right, folded}
use Rattle.session_records.specs.Scripts.{Progress, may_come, noted}
use Rattle.session_records.proofs.Runs.{after-append, legal-append}
use Rattle.session_runs.proofs.Histories.{front-behind, front-more, front-none}
use Rattle.session_runs.specs.Midway.{Adds, AddsOn, AddsUpTo, GoesOn, Halts, IsMidway}
use Rattle.session_runs.specs.Runs.{LeavesFront}
use Rattle.session_runs.specs.declared.far.Far.{Far}
use Rattle.session_runs.specs.declared.far.Script.{Script}

-- nothing was done
pub leaves-none : (S : State) (v : View) → IsSound v → (v.Keeps → NowHolds v S.commits) → LeavesFront S [] [] v v
leaves-none S v sound holds = record {
  few = omega arith;
  legal = refl;
  model = λ k. k;
  any_moment = λ k. record {
    later = omega arith;
    each = λ image since. front-none S image (holds k image (sound.only_now image since));
    before = λ t image le since. inl since;
  };
  now = λ k image now. inl (holds k image now);
}

-- what is left behind some entries, by more of them
pub leaves-more : (S : State) (g h under_way : List Entry) (u v w : View) → is_legal S g ≡ true → LeavesFront S g [] u v → LeavesFront (after S g) h under_way v w → LeavesFront S (g ++ h) under_way u w
leaves-more S g h x u v w legal a b =
    let same : (g ++ h) ++ x ≡ g ++ (h ++ x) = append_assoc g h x in
    let there : (y : List Entry) → after (after S g) y ≡ after S (g ++ y) = λ y. sym (after-append S g y) in
    record {
      few = b.few;
      legal = ap (is_legal S) same ∙ legal-append S g (h ++ x) legal b.legal;
      model = λ k. b.model (a.model k);
      any_moment = λ k. subst (λ (l : List Entry). Leaves u w (HoldsFront S l)) (sym same)
          (joined u v w (HoldsFront S (g ++ (h ++ x))) (weaker u v (HoldsFront S (g ++ [])) (HoldsFront S (g ++ (h ++ x))) (λ image f. front-more S g (h ++ x) image (subst (λ (l : List Entry). HoldsFront S l image) (append-nil g) f)) (a.any_moment k))
          (weaker v w (HoldsFront (after S g) (h ++ x)) (HoldsFront S (g ++ (h ++ x))) (front-behind S g (h ++ x)) (b.any_moment (a.model k))));
      now = λ k image now. subst (λ (T : State). HoldsEither (after S (g ++ h)).commits T.commits image) (there (h ++ x) ∙ ap (after S) (sym same))
          (subst (λ (T : State). HoldsEither T.commits (after (after S g) (h ++ x)).commits image) (there h) (b.now (a.model k) image now));
    }

module _ (S : State) (p : ℕ → Progress) (old : List Entry) where
  -- nothing came
  pub adds-none : (ends : List Entry → Type 0) → ends [] → Adds S p old old ends
  adds-none ends done = record { more = []; whole = sym (append-nil old); legal = refl; keeps = refl; ended = done }

  -- one entry came
  pub adds-one : (e : Entry) (ends : List Entry → Type 0) → is_legal S (e ∷ []) ≡ true → may_come p e ≡ true → ends (e ∷ []) → Adds S p old (old ++ e ∷ []) ends
  adds-one e ends legal may done = record { more = e ∷ []; whole = refl; legal = legal; keeps = and_from _ _ may refl; ended = done }

  -- some came, and then more
  pub adds-more : (mid new : List Entry) (first last : List Entry → Type 0) → (a : Adds S p old mid first) → (next : List Entry → Type 0) → Adds (after S a.more) (folded noted p a.more) mid new next
      → ((h : List Entry) → all_right may_come noted (folded noted p a.more) h ≡ true → next h → last (a.more ++ h)) → Adds S p old new last
  adds-more mid new first last a next b lead = record {
    more = a.more ++ b.more;
    whole = b.whole ∙ ap (λ l. l ++ b.more) a.whole ∙ append_assoc old a.more b.more;
    legal = legal-append S a.more b.more a.legal b.legal;
    keeps = right-append may_come noted p a.more b.more a.keeps b.keeps;
    ended = lead b.more b.keeps b.ended;
  }

  -- the same entries, of which less is said
  pub adds-of : (new : List Entry) (first last : List Entry → Type 0) → Adds S p old new first → ((h : List Entry) → first h → last h) → Adds S p old new last
  adds-of new first last a lead = record { more = a.more; whole = a.whole; legal = a.legal; keeps = a.keeps; ended = lead a.more a.ended }

-- it went on by some entries, and then by more
pub goes-more : (S : State) (p : ℕ → Progress) (scripts : List Script) (far mid_far : List Far) (mid_stands stands : State → Type 0) (u v w : View) (g h : List Entry) → is_legal S g ≡ true → GoesOn S p scripts mid_far mid_stands u v g
    → GoesOn (after S g) (folded noted p g) scripts far stands v w h → GoesOn S p scripts far stands u w (g ++ h)
goes-more S p scripts far mid_far mid_stands stands u v w g h legal a b = record {
  midway = subst (λ (T : State). IsMidway T (folded noted p (g ++ h)) scripts far stands) (sym (after-append S g h))
      (subst (λ (q : ℕ → Progress). IsMidway (after (after S g) h) q scripts far stands) (sym (folded-append noted p g h)) b.midway);
  left = leaves-more S g h [] u v w legal a.left b.left;
}

module _ (S : State) (p : ℕ → Progress) (scripts : List Script) (far mid_far : List Far) (old mid new : List Entry) (mid_stands stands : State → Type 0) (u v w : View) (a : AddsOn S p scripts mid_far old mid mid_stands u v) where
  -- it went on, and went on
  pub on-on : (IsMidway (after S a.more) (folded noted p a.more) scripts mid_far mid_stands → AddsOn (after S a.more) (folded noted p a.more) scripts far mid new stands v w) → AddsOn S p scripts far old new stands u w
  on-on next =
      adds-more S p old mid new (GoesOn S p scripts mid_far mid_stands u v) (GoesOn S p scripts far stands u w) a (GoesOn (after S a.more) (folded noted p a.more) scripts far stands v w) (next a.ended.midway)
      (λ h keeps g. goes-more S p scripts far mid_far mid_stands stands u v w a.more h a.legal a.ended g)

  -- or a fault ended it then
  pub on-up-to : (fault : StepFault) → (IsMidway (after S a.more) (folded noted p a.more) scripts mid_far mid_stands → AddsUpTo fault (after S a.more) (folded noted p a.more) mid new stands v w) → AddsUpTo fault S p old new stands u w
  on-up-to fault next =
      adds-more S p old mid new (GoesOn S p scripts mid_far mid_stands u v) (Halts fault S stands u w) a (Halts fault (after S a.more) stands v w) (next a.ended.midway) (λ h keeps g. record {
        stood = λ is. subst stands (sym (after-append S a.more h)) (g.stood is);
        under_way = g.under_way;
        settled = g.settled;
        left = leaves-more S a.more h g.under_way u v w a.legal a.ended.left g.left;
      })
