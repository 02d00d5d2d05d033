-- All scripts, one after the other: what is run makes a record whole.
use Rattle.std.proofs.Common.{◌≡◌, ◌≤◌, ◌<◌, ◌+◌, ◌⊎◌, ◌++◌, [], ℕ, List, None, Bool, true, false, ap, arith, inl, inr, length, nat_eq, refl, subst, sym, ◌∙◌}
use Rattle.std.specs.Prelude.{slice_index_or}
use Rattle.std.proofs.lemmas.Bool.{eqb-true, eq-eqb, false≢true}
use Rattle.std.proofs.Math.ListN.{drop_of_length-le}
use Rattle.zn_io.specs.Disk.{View}
use Rattle.zone_cases.specs.State.{State}
use Rattle.zone_cases.specs.declared.events.Entry.{Entry}
use Rattle.zone_machine.specs.Machine.{opening}
use Rattle.zone_machine.specs.Machine.Histories.{after, is_legal}
use Rattle.zone_machine.specs.declared.faults.StepFault.{StepFault}
use Rattle.session_records.proofs.Folds_laws.{folded-append, right-append}
use Rattle.session_records.proofs.Keeping.{partial-record, record-keeps, whole-record}
use Rattle.session_records.proofs.Waits_laws.{session-waits}
use Rattle.session_records.specs.Folds.{all_right, folded}
use Rattle.session_records.specs.Scripts.{IsDone, Progress, begun, keeps_scripts, may_come, noted}
use Rattle.session_runs.proofs.Adding.{adds-more, goes-more}
use Rattle.session_runs.proofs.Far_laws.{done-stays, has-script, some-of}
use Rattle.session_records.proofs.Runs.{after-append, legal-append}
use Rattle.session_runs.specs.Far.{AreFar, IsAt, progress_of, scripts_of, waits_of}
use Rattle.session_runs.specs.Midway.{AddsOn, AddsUpTo, GoesBefore, GoesOn, HasDone, IsMidway, RunsBefore}
use Rattle.session_runs.specs.Runs.{IsCut, IsOver, IsUnderWay}
use Rattle.session_runs.specs.declared.far.Far.{Far}
use Rattle.session_runs.specs.declared.far.Script.{Script}

-- a script all of whose lines were typed, and that waits for nothing
pub far-done : (scripts : List Script) (far : List Far) (p : ℕ → Progress) (at : ℕ) (script : Script) → AreFar scripts far p → at < length scripts → IsAt scripts at script
    → ((f : Far) → (length script.lines.items ≤ (slice_index_or far at f).done) × ((slice_index_or far at f).awaits ≡ None)) → (s : Script) → HasDone (p (slice_index_or scripts at s).session)
far-done scripts far p at script is near here done s =
    let f : Far = record { done = 0; awaits = None } in
    let so : p (slice_index_or scripts at s).session ≡ progress_of script (slice_index_or far at f) = is.each at s f near ∙ ap (λ (s : Script). progress_of s (slice_index_or far at f)) (here s) in (
      ap (λ (q : Progress). q.left) so ∙ drop_of_length-le script.lines.items (done f).0,
      ap (λ (q : Progress). q.waits) so ∙ ap waits_of (done f).1,
    )

-- one script more
pub runs-more : (at : ℕ) (S : State) (p : ℕ → Progress) (scripts : List Script) (far mid_far : List Far) (old mid new : List Entry) (mid_stands stands : State → Type 0) (u v w : View) (r : RunsBefore at S p scripts mid_far old mid mid_stands u v)
    → AddsOn (after S r.more) (folded noted p r.more) scripts far mid new stands v w → ((q : ℕ → Progress) → AreFar scripts far q → (s : Script) → HasDone (q (slice_index_or scripts at s).session)) → RunsBefore (at + 1) S p scripts far old new stands u w
runs-more at S p scripts far mid_far old mid new mid_stands stands u v w r b last =
    adds-more S p old mid new (GoesBefore at S p scripts mid_far mid_stands u v) (GoesBefore (at + 1) S p scripts far stands u w) r (GoesOn (after S r.more) (folded noted p r.more) scripts far stands v w) b
    (λ h keeps g. record {
      goes = goes-more S p scripts far mid_far mid_stands stands u v w r.more h r.legal r.ended.goes g;
      done = λ i s before within. subst (λ (q : ℕ → Progress). HasDone (q (slice_index_or scripts i s).session)) (sym (folded-append noted p r.more h)) (by-test h keeps g i s before within (nat_eq i at) refl);
    })
  where
    by-test : (h : List Entry) → all_right may_come noted (folded noted p r.more) h ≡ true → GoesOn (after S r.more) (folded noted p r.more) scripts far stands v w h → (i : ℕ) (s : Script) → i < at + 1 → i < length scripts → (b : Bool) → nat_eq i at ≡ b
        → HasDone (folded noted (folded noted p r.more) h (slice_index_or scripts i s).session)
    by-test h keeps g i s before within true t =
        subst (λ j. HasDone (folded noted (folded noted p r.more) h (slice_index_or scripts j s).session)) (sym (eqb-true i at t)) (last (folded noted (folded noted p r.more) h) g.midway.far_by s)
    by-test h keeps g i s before within false t =
        let other : i ≡ at → ⊥ = λ same. false≢true (sym t ∙ eq-eqb i at same) in
        done-stays (folded noted p r.more) h (slice_index_or scripts i s).session keeps (r.ended.done i s (below i at before other) within)
      where
        below : (i at : ℕ) → i < at + 1 → (i ≡ at → ⊥) → i < at
        below i at before other = omega (arith, before, other)

module _ (S : State) (scripts : List Script) (far : List Far) (h : List Entry) (stands : State → Type 0) (m : IsUnderWay S scripts far h stands) where
  keeps : keeps_scripts (scripts_of scripts) h ≡ true
  keeps = record-keeps S (scripts_of scripts) h m.part

  pub midway : IsMidway (after S h) (folded noted (begun (scripts_of scripts)) h) scripts far stands
  midway = let r = m.reached in record {
    reached = record { brands = r.brands; commits = r.commits; past = r.past ++ h; there = after-append (opening r.brands r.commits) r.past h ∙ ap (λ (T : State). after T h) r.there };
    waits = λ n w is. session-waits S (scripts_of scripts) h n w m.part.legal keeps is;
    far_by = m.far_by;
    stood = m.stood;
  }

  -- the entries that were there, and more
  module _ (new more : List Entry) (whole : new ≡ h ++ more) (legal : is_legal (after S h) more ≡ true) (kept : all_right may_come noted (folded noted (begun (scripts_of scripts)) h) more ≡ true) where
    all-legal : is_legal S new ≡ true
    all-legal = subst (λ (l : List Entry). is_legal S l ≡ true) (sym whole) (legal-append S h more m.part.legal legal)

    all-keep : keeps_scripts (scripts_of scripts) new ≡ true
    all-keep = subst (λ (l : List Entry). keeps_scripts (scripts_of scripts) l ≡ true) (sym whole) (right-append may_come noted (begun (scripts_of scripts)) h more keeps kept)

    there : after (after S h) more ≡ after S new
    there = sym (ap (after S) whole ∙ after-append S h more)

    -- each session is done whose script is
    all-done : ((i : ℕ) (s : Script) → i < length scripts → HasDone (folded noted (folded noted (begun (scripts_of scripts)) h) more (slice_index_or scripts i s).session)) → (n : ℕ) → IsDone (scripts_of scripts) new n
    all-done done n = at_script (has-script scripts n)
      where
        is-done : HasDone (folded noted (begun (scripts_of scripts)) new n) → IsDone (scripts_of scripts) new n
        is-done d = record { typed = d.0; free = d.1 }

        folds : folded noted (folded noted (begun (scripts_of scripts)) h) more ≡ folded noted (begun (scripts_of scripts)) new
        folds = sym (ap (folded noted (begun (scripts_of scripts))) whole ∙ folded-append noted (begun (scripts_of scripts)) h more)

        at_script : (scripts_of scripts n ≡ []) ⊎ ((i : ℕ) × ((i < length scripts) × ((s : Script) → (slice_index_or scripts i s).session ≡ n))) → IsDone (scripts_of scripts) new n
        at_script (inl none) = is-done (done-stays (begun (scripts_of scripts)) new n all-keep (none, refl))
        at_script (inr (i, (near, is))) =
            let s = some-of scripts i near in
            is-done (subst (λ (q : ℕ → Progress). HasDone (q n)) folds (subst (λ k. HasDone (folded noted (folded noted (begun (scripts_of scripts)) h) more k)) (is s) (done i s near)))

  -- a fault ended it
  pub cut-of : (fault : StepFault) (new : List Entry) (stands' : State → Type 0) (v w : View) → AddsUpTo fault (after S h) (folded noted (begun (scripts_of scripts)) h) h new stands' v w → IsCut fault S (scripts_of scripts) h new stands' v w
  cut-of fault new stands' v w a = record {
    more = a.more;
    whole = a.whole;
    part = partial-record S (scripts_of scripts) new (all-legal new a.more a.whole a.legal a.keeps) (all-keep new a.more a.whole a.legal a.keeps);
    stood = λ is. subst stands' (there new a.more a.whole a.legal a.keeps) (a.ended.stood is);
    under_way = a.ended.under_way;
    settled = a.ended.settled;
    left = a.ended.left;
  }

  -- all scripts are done
  pub over-of : (at : ℕ) (new : List Entry) (far' : List Far) (stands' : State → Type 0) (v w : View) → length scripts ≤ at → RunsBefore at (after S h) (folded noted (begun (scripts_of scripts)) h) scripts far' h new stands' v w → IsOver S (scripts_of scripts) h new stands' v w
  over-of at new far' stands' v w all r = record {
    more = r.more;
    whole = r.whole;
    all = whole-record S (scripts_of scripts) new (all-legal new r.more r.whole r.legal r.keeps) (all-keep new r.more r.whole r.legal r.keeps)
        (all-done new r.more r.whole r.legal r.keeps (λ i s near. r.ended.done i s (omega (arith, all, near)) near));
    stood = subst stands' (there new r.more r.whole r.legal r.keeps) r.ended.goes.midway.stood;
    left = r.ended.goes.left;
  }
