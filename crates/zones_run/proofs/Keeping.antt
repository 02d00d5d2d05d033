-- What the disk of a trace keeps, one entry further.
use Rattle.std.proofs.Common.{◌≡◌, inl, inr, List, [], ◌∷◌, ◌++◌, ℕ, true, Option, IfSome, refl, ap, sym, subst, ◌∙◌, append_assoc, arith}
use Rattle.std.proofs.lemmas.List.{append-nil}
use Rattle.zn_io.proofs.Moments.{joined, weaker}
use Rattle.zn_io.specs.Disk.{IsSound, Leaves, View}
use Rattle.brand_hooks.specs.Brands.{Tabled}
use Rattle.commit_journal.specs.declared.records.Commit.{Commit}
use Rattle.zone_machine.specs.Machine.{opening}
use Rattle.zone_machine.specs.Machine.Changes.{HoldsFront, change, changes}
use Rattle.zone_machine.specs.Machine.Histories.{after, after_entry, is_history}
use Rattle.zone_machine.specs.Machine.Images.{Goes, Holds, HoldsEither, IsStoreOf}
use Rattle.zone_cases.specs.State.{State}
use Rattle.zone_cases.specs.declared.events.Entry.{Entry}
use Rattle.zones_run.specs.Midway.{HasKept}
use Rattle.zones_run.specs.Recording.{GoesSurely, IsFront, Records, commits_with}
use Rattle.zones_run.specs.Scripts.{permits}
use Rattle.zones_run.specs.declared.words.Mode.{Mode}
use Rattle.zones_run.proofs.Histories.{after-push, changes-push, commits-after}

pub front-none : (brands : List Tabled) (R : List Commit) (image : List ℕ) → Holds R image → HoldsFront (opening brands R) [] image
front-none brands R image h = record { front = []; rest = []; whole = refl; holds = subst (λ (l : List Commit). Holds l image) (sym (append-nil R)) h }

pub keeps_start : (brands : List Tabled) (R : List Commit) (v : View) → IsSound v → IsStoreOf v R → HasKept brands R [] v v
keeps_start brands R v sound is = record {
  keeps = is.keeps;
  any_moment = record {
    later = omega arith;
    each = λ image since. front-none brands R image (is.now image (sound.only_now image since));
    before = λ t image le since. inl since;
  };
  now = λ image now. subst (λ (l : List Commit). Holds l image) (sym (append-nil R)) (is.now image now);
}

front-more : (S : State) (h : List Entry) (e : Entry) (image : List ℕ) → HoldsFront S h image → HoldsFront S (h ++ e ∷ []) image
front-more S h e image f = record {
  front = f.front;
  rest = f.rest ++ change (after S h) e;
  whole = changes-push S h e ∙ ap (λ l. l ++ change (after S h) e) f.whole ∙ append_assoc f.front f.rest (change (after S h) e);
  holds = f.holds;
}

module _ (brands : List Tabled) (R : List Commit) (h : List Entry) (S : State) (e : Entry) (reached : S ≡ after (opening brands R) h) where
  commits-before : S.commits ≡ commits_with brands R h
  commits-before = ap (λ (T : State). T.commits) reached ∙ commits-after (opening brands R) h

  commits-behind : (after_entry S e).commits ≡ commits_with brands R (h ++ e ∷ [])
  commits-behind = ap (λ (T : State). (after_entry T e).commits) reached ∙ ap (λ (T : State). T.commits) (sym (after-push (opening brands R) h e)) ∙ commits-after (opening brands R) (h ++ e ∷ [])

  either-front : (image : List ℕ) → HoldsEither S.commits (after_entry S e).commits image → HoldsFront (opening brands R) (h ++ e ∷ []) image
  either-front image (inl before) = record {
    front = changes (opening brands R) h;
    rest = change (after (opening brands R) h) e;
    whole = changes-push (opening brands R) h e;
    holds = subst (λ (l : List Commit). Holds l image) commits-before before;
  }
  either-front image (inr behind) = record {
    front = changes (opening brands R) (h ++ e ∷ []);
    rest = [];
    whole = sym (append-nil (changes (opening brands R) (h ++ e ∷ [])));
    holds = subst (λ (l : List Commit). Holds l image) commits-behind behind;
  }

  moments : (v0 v w : View) → Leaves v0 v (HoldsFront (opening brands R) h) → Leaves v w (HoldsEither S.commits (after_entry S e).commits) → Leaves v0 w (HoldsFront (opening brands R) (h ++ e ∷ []))
  moments v0 v w past step =
      joined v0 v w (HoldsFront (opening brands R) (h ++ e ∷ [])) (weaker v0 v (HoldsFront (opening brands R) h) (HoldsFront (opening brands R) (h ++ e ∷ [])) (front-more (opening brands R) h e) past)
      (weaker v w (HoldsEither S.commits (after_entry S e).commits) (HoldsFront (opening brands R) (h ++ e ∷ [])) either-front step)

  -- an entry that was answered
  pub keeps_step : (v0 v w : View) → GoesSurely S.commits (after_entry S e).commits v w → HasKept brands R h v0 v → HasKept brands R (h ++ e ∷ []) v0 w
  keeps_step v0 v w goes kept = record {
    keeps = goes.model kept.keeps;
    any_moment = moments v0 v w kept.any_moment (goes.any_moment kept.keeps);
    now = λ image now. subst (λ (l : List Commit). Holds l image) commits-behind (goes.now kept.keeps image now);
  }

  -- one in which the disk failed
  pub records_torn : (mode : Mode) (v0 v w : View) (all : Option (List Entry)) → Goes S.commits (after_entry S e).commits v w → HasKept brands R h v0 v → is_history (permits mode) (opening brands R) (h ++ e ∷ []) ≡ true → IfSome all (IsFront (h ++ e ∷ [])) → Records mode brands R h (e ∷ []) all v0 w
  records_torn mode v0 v w all goes kept permitted begins = record {
    few = omega arith;
    permitted = permitted;
    begins = begins;
    any_moment = moments v0 v w kept.any_moment (goes.any_moment kept.keeps);
    now = λ image now. elim (goes.now kept.keeps image now) as (λ _. HoldsEither (commits_with brands R h) (commits_with brands R (h ++ e ∷ [])) image) [
      | inl before ↦ inl (subst (λ (l : List Commit). Holds l image) commits-before before)
      | inr behind ↦ inr (subst (λ (l : List Commit). Holds l image) commits-behind behind)
    ];
  }

-- all that was begun was answered
pub records_all : (mode : Mode) (brands : List Tabled) (R : List Commit) (h : List Entry) (v0 v : View) (all : Option (List Entry)) → HasKept brands R h v0 v → is_history (permits mode) (opening brands R) h ≡ true → IfSome all (IsFront h) → Records mode brands R h [] all v0 v
records_all mode brands R h v0 v all kept permitted begins =
    let same : h ++ [] ≡ h = append-nil h in
    record {
      few = omega arith;
      permitted = rw same permitted;
      begins = subst (λ (l : List Entry). IfSome all (IsFront l)) (sym same) begins;
      any_moment = subst (λ (l : List Entry). Leaves v0 v (HoldsFront (opening brands R) l)) (sym same) kept.any_moment;
      now = λ image now. inl (kept.now image now);
    }
