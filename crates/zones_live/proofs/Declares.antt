-- What is declared changes nothing of what is stored.
use Rattle.std.proofs.Common.{◌≡◌, ◌++◌, ◌∷◌, ◌∙◌, [], ℕ, List, None, ap, append-nil, append_assoc, arith, inl, inr, length, map, refl, subst, sym, true}
use Rattle.std.proofs.lemmas.List.{map-append}
use Rattle.zn_io.proofs.Moments.{joined, weaker}
use Rattle.zn_io.specs.Disk.{IsSound, View}
use Rattle.commit_journal.specs.declared.records.Commit.{Commit}
use Rattle.zone_cases.specs.State.{State}
use Rattle.zone_cases.specs.declared.events.Declaration.{Declaration}
use Rattle.zone_cases.specs.declared.events.Entry.{Entry}
use Rattle.zone_cases.specs.declared.events.Event.{Event}
use Rattle.zone_cases.specs.declared.events.Event.TheVariants.{System}
use Rattle.zone_machine.specs.Code.Openings.{StandsFor}
use Rattle.zone_machine.specs.Code.Records.{GoesUnder, IsReady}
use Rattle.zone_machine.specs.Machine.{one, subject}
use Rattle.zone_machine.specs.Machine.Changes.{change, change_of, changes}
use Rattle.zone_machine.specs.Machine.Histories.{after, after_entry, is_legal}
use Rattle.zone_machine.specs.Machine.Images.{Holds, HoldsEither, NowHolds}
use Rattle.zone_machine.specs.declared.machine.Machine.{Machine}
use Rattle.zone_pools.specs.declared.grant.Grant.{Grant}
use Rattle.session_records.proofs.Runs.{after-append, legal-append}
use Rattle.session_runs.proofs.Histories.{legal-entry}
use Rattle.session_runs.proofs.Machine_steps.{ready-holds}
use Rattle.session_runs.specs.Midway.{Takes}
use Rattle.zones_live.specs.Declaring.{Declared}
use Rattle.zones_run.specs.Recording.{KeepsStore}

declare-commits : (S : State) (what : Declaration) (g : Grant) → (one S (System what) g).state.commits ≡ S.commits
unfolding one subject
declare-commits S what g = refl

declare-changes : (S : State) (e : Entry) (what : Declaration) → e.event ≡ System what → change S e ≡ []
unfolding subject
declare-changes S e what is = ap (λ (x : Event). change_of (subject S x) S e) is

pub changes-append : (S : State) (g h : List Entry) → changes S (g ++ h) ≡ changes S g ++ changes (after S g) h
changes-append S [] h = refl
changes-append S (e ∷ g) h = ap (λ l. change S e ++ l) (changes-append (after_entry S e) g h) ∙ sym (append_assoc (change S e) (changes (after_entry S e) g) (changes (after (after_entry S e) g) h))

-- nothing is declared yet
pub declared-none : (S : State) (old : List Entry) (stands : State → Type 0) → stands S → Declared S [] old old stands
declared-none S old stands is = record { first = []; whole = sym (append-nil old); declares = refl; legal = refl; none = refl; same = refl; stood = is }

-- one thing is
pub declared-one : (S : State) (what : Declaration) (e : Entry) (old mid new : List Entry) (stands : State → Type 0) (v w : View) → new ≡ mid ++ e ∷ [] → mid ≡ old → Takes S (System what) e stands v w → Declared S (what ∷ []) old new stands
declared-one S what e old mid new stands v w put same takes =
    let event : e.event ≡ System what = ap (λ (d : Entry). d.event) takes.told in
    record {
      first = e ∷ [];
      whole = put ∙ ap (λ (l : List Entry). l ++ e ∷ []) same;
      declares = ap (λ (x : Event). x ∷ []) event;
      legal = subst (λ (d : Entry). is_legal S (d ∷ []) ≡ true) (sym takes.told) (legal-entry S (System what));
      none = ap (λ l. l ++ []) (declare-changes S e what event);
      same = subst (λ (x : Event). (one S x e.grant).state.commits ≡ S.commits) (sym event) (declare-commits S what e.grant);
      stood = takes.stood;
    }

-- and more
pub declared-more : (S : State) (some more : List Declaration) (old mid new : List Entry) (mid-stands stands : State → Type 0) (a : Declared S some old mid mid-stands) → Declared (after S a.first) more mid new stands → Declared S (some ++ more) old new stands
declared-more S some more old mid new mid-stands stands a b = record {
  first = a.first ++ b.first;
  whole = b.whole ∙ ap (λ l. l ++ b.first) a.whole ∙ append_assoc old a.first b.first;
  declares = map-append (λ (e : Entry). e.event) a.first b.first ∙ ap (λ l. l ++ map (λ (e : Entry). e.event) b.first) a.declares ∙ ap (λ l. map System some ++ l) b.declares ∙ sym (map-append System some more);
  legal = legal-append S a.first b.first a.legal b.legal;
  none = changes-append S a.first b.first ∙ ap (λ l. l ++ changes (after S a.first) b.first) a.none ∙ b.none;
  same = ap (λ (T : State). T.commits) (after-append S a.first b.first) ∙ b.same ∙ a.same;
  stood = subst stands (sym (after-append S a.first b.first)) b.stood;
}

-- a store that keeps its commits, and keeps them on
pub keeps-more : (R : List Commit) (u v w : View) → KeepsStore R u v → KeepsStore R v w → KeepsStore R u w
keeps-more R u v w a b = record { any_moment = joined u v w (Holds R) a.any_moment b.any_moment; now = b.now }

pub keeps-still : (R : List Commit) (v : View) → IsSound v → NowHolds v R → KeepsStore R v v
keeps-still R v sound holds = record {
  any_moment = record {
    later = omega arith;
    each = λ image since. holds image (sound.only_now image since);
    before = λ t image le since. inl since;
  };
  now = holds;
}

pub keeps-ready : {D F : Type 0} (S : State) (m : Machine D F) (v : View) → IsSound v → StandsFor S m → IsReady v m.bank m.parts.shared → v.Keeps → KeepsStore S.commits v v
keeps-ready S m v sound stands ready keeps = keeps-still S.commits v sound (ready-holds S m v stands ready keeps)

either-same : (R T : List Commit) (image : List ℕ) → T ≡ R → HoldsEither R T image → Holds R image
either-same R T image same (inl was) = was
either-same R T image same (inr is) = subst (λ (l : List Commit). Holds l image) same is

-- a declaration keeps them
pub keeps-declared : {D F : Type 0} (S : State) (m : Machine D F) (what : Declaration) (v w : View) → GoesUnder None m.parts (System what) m.bank.records v w → StandsFor S m → v.Keeps → KeepsStore S.commits v w
keeps-declared S m what v w goes stands keeps =
    let went = goes S stands.parts stands.bodies in record {
      any_moment = weaker v w (HoldsEither S.commits _) (Holds S.commits) (λ image e. either-same S.commits _ image (declare-commits S what _) e) (went.any_moment keeps);
      now = λ image now. either-same S.commits _ image (declare-commits S what _) (went.now keeps image now);
    }

-- the events, where one more was taken from those that are left
pub all-next : {X : Type 0} (done left rest all : List X) (x : X) → done ++ left ≡ all → left ≡ x ∷ rest → (done ++ x ∷ []) ++ rest ≡ all
all-next done left rest all x is steps = append_assoc done (x ∷ []) rest ∙ (ap (λ l. done ++ l) (sym steps) ∙ is)

pub nothing-left : {X : Type 0} (l : List X) (n : ℕ) → n ≡ length l → n ≡ 0 → l ≡ []
nothing-left [] n is none = refl
nothing-left (x ∷ l) n is none = absurd (omega (arith, is, none))
