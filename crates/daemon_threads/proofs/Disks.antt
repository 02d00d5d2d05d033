-- What the disk has, from event to event.
use Rattle.std.proofs.Common.{◌≡◌, ◌≤◌, ◌++◌, [], ℕ, List, Option, Some, None, true, false, ap, append_assoc, arith, inl, inr, length, refl, subst, sym, ◌∙◌}
use Rattle.std.proofs.lemmas.Bool.{false≢true}
use Rattle.std.proofs.lemmas.List.{append-nil}
use Rattle.commit_journal.specs.Journal.{Leave}
use Rattle.commit_journal.specs.Zones.{rows_of}
use Rattle.commit_journal.specs.declared.records.Commit.{Commit}
use Rattle.zn_base.specs.Names.{Name}
use Rattle.zn_io.proofs.Moments.{joined, weaker}
use Rattle.zn_io.specs.Disk.{IsSound, Leaves, View}
use Rattle.zn_io.specs.Streams.{Rose}
use Rattle.zone_cases.specs.State.{State, bodies_of}
use Rattle.zone_disk.specs.Bank.{Account}
use Rattle.zone_disk.specs.Image.{Stands as Image_stands}
use Rattle.zone_machine.specs.Code.Cells.{SharedOf}
use Rattle.zone_machine.specs.Code.Records.{IsReady, Passes}
use Rattle.zone_machine.specs.Machine.Changes.{committed}
use Rattle.zone_machine.specs.Machine.Common.{common}
use Rattle.zone_machine.specs.Machine.Images.{Goes, Holds, HoldsEither, NowHolds}
use Rattle.zone_machine.specs.declared.machine.shared.Shared.{Shared}
use Rattle.zoneadmd_steps.specs.Arrivals.{Arrival, New_claim, New_id, New_process, New_record, No_new_thing}
use Rattle.daemon_threads.specs.Disks.{DiskOf}
use Rattle.daemon_threads.specs.Sessions.{HoldsSome}

passes-on : (u v w : View) → Passes u v → Passes v w → Passes u w
passes-on u v w a b = record { model = (λ k. b.model.0 (a.model.0 k), λ k. a.model.1 (b.model.1 k)); faults = omega (arith, a.faults, b.faults) }

-- whatever a crash leaves of a bank that is ready stands for the commits that it has
pub ready-holds : {D : Type 0} (S : State) (b : Account D) (s : Shared) (v : View) → bodies_of S.commits ≡ b.records → SharedOf s (common S) → IsReady v b s → v.Keeps → NowHolds v S.commits
ready-holds S b s v same shared ready keeps = λ image now. record {
  stands = subst (λ bodies. Image_stands image bodies) (sym same) (ready.settled keeps image now);
  leave = subst (λ rows. Leave (bodies_of S.commits) rows) (sym (ap (λ k. k.rows) shared)) (subst (λ bodies. Leave bodies (rows_of s.rows.entries)) (sym same) ready.zones.leave);
}

-- what comes is one commit at most
pub committed-few : (z : Name) (came : Option Arrival) → length (committed z came) ≤ 1
committed-few z None = omega arith
committed-few z (Some (New_record row)) = omega arith
committed-few z (Some (New_process p)) = omega arith
committed-few z (Some (New_id i)) = omega arith
committed-few z (Some (New_claim c)) = omega arith
committed-few z (Some No_new_thing) = omega arith

-- an image that stands for some of what came does so where more came
some-more : (before more new : List Commit) (image : List ℕ) → HoldsSome before more image → HoldsSome before (more ++ new) image
some-more before more new image h = record { front = h.front; rest = h.rest ++ new; whole = ap (λ l. l ++ new) h.whole ∙ append_assoc h.front h.rest new; holds = h.holds }

-- and so does one that stands for all of it, or for all with what is new
some-either : (before more commits new : List Commit) (image : List ℕ) → commits ≡ before ++ more → HoldsEither commits (commits ++ new) image → HoldsSome before (more ++ new) image
some-either before more commits new image grown (inl h) = record { front = more; rest = new; whole = refl; holds = subst (λ l. Holds l image) grown h }
some-either before more commits new image grown (inr h) = record {
  front = more ++ new;
  rest = [];
  whole = sym (append-nil (more ++ new));
  holds = subst (λ l. Holds l image) (ap (λ l. l ++ new) grown ∙ append_assoc before more new) h;
}

-- the moment at which it begins
pub disk-begins : (v : View) (before : List Commit) → IsSound v → (v.Keeps → NowHolds v before) → DiskOf v before true v before
disk-begins v before sound holds = record {
  more = [];
  grown = sym (append-nil before);
  perhaps = [];
  few = omega arith;
  settled = λ is. refl;
  any_moment = λ keeps. record {
    later = omega arith;
    each = λ image since. record { front = []; rest = []; whole = refl; holds = subst (λ l. Holds l image) (sym (append-nil before)) (holds keeps image (sound.only_now image since)) };
    before = λ t image le since. inl since;
  };
  now = λ keeps image now. inl (holds keeps image now);
  passes = record { model = (λ k. k, λ k. k); faults = omega arith };
  rose = λ is. absurd (false≢true (sym is));
}

module _ (v : View) (before : List Commit) (w : View) (commits : List Commit) (d : DiskOf v before true w commits) (u : View) (new : List Commit) (goes : Goes commits (commits ++ new) w u) (passes : Passes w u) where
  since : v.Keeps → Leaves v u (HoldsSome before (d.more ++ new))
  since keeps =
      joined v w u (HoldsSome before (d.more ++ new))
      (weaker v w (HoldsSome before d.more) (HoldsSome before (d.more ++ new)) (some-more before d.more new) (subst (λ l. Leaves v w (HoldsSome before l)) (ap (λ l. d.more ++ l) (d.settled refl) ∙ append-nil d.more) (d.any_moment keeps)))
      (weaker w u (HoldsEither commits (commits ++ new)) (HoldsSome before (d.more ++ new)) (λ image. some-either before d.more commits new image d.grown) (goes.any_moment (d.passes.model.0 keeps)))

  -- an event was answered, and what it stores is stored
  pub disk-on : (u.Keeps → NowHolds u (commits ++ new)) → DiskOf v before true u (commits ++ new)
  disk-on holds = record {
    more = d.more ++ new;
    grown = ap (λ l. l ++ new) d.grown ∙ append_assoc before d.more new;
    perhaps = [];
    few = omega arith;
    settled = λ is. refl;
    any_moment = λ keeps. subst (λ l. Leaves v u (HoldsSome before l)) (sym (append-nil (d.more ++ new))) (since keeps);
    now = λ keeps image now. inl (holds (passes.model.0 (d.passes.model.0 keeps)) image now);
    passes = passes-on v w u d.passes passes;
    rose = λ is. absurd (false≢true (sym is));
  }

  -- the disk failed in an event
  pub disk-torn : length new ≤ 1 → Rose w.faults u.faults → DiskOf v before false u commits
  disk-torn few rose = record {
    more = d.more;
    grown = d.grown;
    perhaps = new;
    few = few;
    settled = λ is. absurd (false≢true is);
    any_moment = since;
    now = λ keeps image now. goes.now (d.passes.model.0 keeps) image now;
    passes = passes-on v w u d.passes passes;
    rose = λ is. omega (arith, rose, d.passes.faults);
  }
