-- Histories and their changes, in two parts.
use Rattle.std.proofs.Common.{◌≡◌, ◌++◌, ◌∷◌, [], ℕ, List, Bool, Option, Some, None, true, false, ap, append_assoc, inl, inr, refl, subst, sym, ◌∙◌}
use Rattle.std.proofs.lemmas.Bool.{and_from}
use Rattle.std.proofs.lemmas.List.{append-nil}
use Rattle.zn_base.specs.Names.{Name}
use Rattle.zone_pools.proofs.Same_laws.{grant-Decides}
use Rattle.commit_journal.specs.declared.records.Commit.{Commit}
use Rattle.zoneadmd_steps.specs.Arrivals.{Arrival, New_claim, New_id, New_process, New_record, No_new_thing}
use Rattle.zoneadmd_steps.specs.Objects.{Processes_go}
use Rattle.zone_cases.specs.State.{State}
use Rattle.zone_cases.specs.State.Decisions.{act_of, after_came}
use Rattle.zone_cases.specs.State.Edits.{Edit, Of_objects, comes, console_gone, edit, edits, keeps_console}
use Rattle.zone_cases.specs.State.Worlds.{view}
use Rattle.zone_cases.specs.declared.events.Entry.{Entry}
use Rattle.zone_cases.specs.declared.events.Event.{Event}
use Rattle.zone_cases.specs.declared.events.Event.TheVariants.{Process as Call_of, Restart, Session, System, Turn}
use Rattle.zone_cases.specs.declared.events.Subject.{Subject}
use Rattle.zone_cases.specs.declared.events.Subject.TheVariants.{Global, Whole, Zone}
use Rattle.zone_machine.proofs.Same_laws.{reply-Decides, subject-Decides}
use Rattle.zone_machine.specs.Machine.{decide, one, one_of, session_number, subject, whole}
use Rattle.zone_machine.specs.Machine.Changes.{HoldsFront, change, change_of, changes, committed}
use Rattle.zone_machine.specs.Machine.Histories.{after, after_entry, entry_at, is_legal, is_told}
use Rattle.zone_machine.specs.Machine.Images.{Holds, HoldsEither}
use Rattle.zone_machine.specs.Machine.Pools.{allowed}

-- the entry of an event under the grant that the pools give
pub told-entry : (S : State) (x : Event) → is_told S (entry_at S x (allowed S x)) ≡ true
told-entry S x = and_from _ _ ((subject-Decides (subject S x) (subject S x)).1 refl) ((reply-Decides (one S x (allowed S x)).reply (one S x (allowed S x)).reply).1 refl)

pub legal-entry : (S : State) (x : Event) → is_legal S (entry_at S x (allowed S x) ∷ []) ≡ true
legal-entry S x = and_from _ _ (and_from _ _ (told-entry S x) ((grant-Decides (allowed S x) (allowed S x)).1 refl)) refl

changes-append : (S : State) (g h : List Entry) → changes S (g ++ h) ≡ changes S g ++ changes (after S g) h
changes-append S [] h = refl
changes-append S (e ∷ g) h = ap (λ l. change S e ++ l) (changes-append (after_entry S e) g h) ∙ sym (append_assoc (change S e) (changes (after_entry S e) g) (changes (after (after_entry S e) g) h))

-- no edit touches the commits
commits-edit : (z : Name) (n : Option ℕ) (e : Edit) (S : State) → (edit z n e S).commits ≡ S.commits
unfolding edit
commits-edit z n (Of_objects (Processes_go p)) S = refl
commits-edit z n _ S = refl

commits-edits : (z : Name) (n : Option ℕ) (es : List Edit) (S : State) → (edits z n es S).commits ≡ S.commits
commits-edits z n [] S = refl
commits-edits z n (e ∷ es) S = commits-edits z n es (edit z n e S) ∙ commits-edit z n e S

commits-gone : (z : Name) (keeps : Bool) (S : State) → (console_gone z keeps S).commits ≡ S.commits
commits-gone z true S = refl
commits-gone z false S = refl

-- what comes is one commit more, where it is a record
commits-came : (z : Name) (came : Option Arrival) (S : State) → (after_came z came S).commits ≡ S.commits ++ committed z came
unfolding comes
commits-came z None S = sym (append-nil S.commits)
commits-came z (Some (New_record row)) S = commits-gone z (keeps_console row) (record S { commits = S.commits ++ record { zone = z; stored = row } ∷ [] })
commits-came z (Some (New_process p)) S = sym (append-nil S.commits)
commits-came z (Some (New_id i)) S = sym (append-nil S.commits)
commits-came z (Some (New_claim c)) S = sym (append-nil S.commits)
commits-came z (Some No_new_thing) S = sym (append-nil S.commits)

commits-whole : (S : State) (e : Event) → (whole e S).commits ≡ S.commits
commits-whole S (Session n text) = refl
commits-whole S (Turn z) = refl
commits-whole S (Call_of z pid c) = refl
commits-whole S (System what) = refl
commits-whole S Restart = refl

commits-entry : (S : State) (e : Entry) → (after_entry S e).commits ≡ S.commits ++ change S e
unfolding one
commits-entry S e = by_subject (subject S e.event)
  where
    by_subject : (t : Subject) → (one_of t S e.event e.grant).state.commits ≡ S.commits ++ change_of t S e
    by_subject (Zone z) =
        let a = act_of (decide (view z S) e.event) e.grant in commits-edits z (session_number e.event) a.effect.edits (after_came z a.came S) ∙ commits-came z a.came S
    by_subject Global = sym (append-nil S.commits)
    by_subject Whole = commits-whole S e.event ∙ sym (append-nil S.commits)

pub commits-after : (S : State) (h : List Entry) → (after S h).commits ≡ S.commits ++ changes S h
commits-after S [] = sym (append-nil S.commits)
commits-after S (e ∷ h) =
    commits-after (after_entry S e) h ∙ ap (λ l. l ++ changes (after_entry S e) h) (commits-entry S e) ∙ append_assoc S.commits (change S e) (changes (after_entry S e) h)

-- an image that stands for a front of some entries does so for one of more, and so does one of those behind them
pub front-more : (S : State) (g h : List Entry) (image : List ℕ) → HoldsFront S g image → HoldsFront S (g ++ h) image
front-more S g h image f = record {
  front = f.front;
  rest = f.rest ++ changes (after S g) h;
  whole = changes-append S g h ∙ ap (λ l. l ++ changes (after S g) h) f.whole ∙ append_assoc f.front f.rest (changes (after S g) h);
  holds = f.holds;
}

pub front-behind : (S : State) (g h : List Entry) (image : List ℕ) → HoldsFront (after S g) h image → HoldsFront S (g ++ h) image
front-behind S g h image f = record {
  front = changes S g ++ f.front;
  rest = f.rest;
  whole = changes-append S g h ∙ ap (λ l. changes S g ++ l) f.whole ∙ sym (append_assoc (changes S g) f.front f.rest);
  holds = subst (λ (l : List Commit). Holds l image) (ap (λ l. l ++ f.front) (commits-after S g) ∙ append_assoc S.commits (changes S g) f.front) f.holds;
}

pub front-none : (S : State) (image : List ℕ) → Holds S.commits image → HoldsFront S [] image
front-none S image h = record { front = []; rest = []; whole = refl; holds = subst (λ (l : List Commit). Holds l image) (sym (append-nil S.commits)) h }

pub front-one : (S : State) (e : Entry) (image : List ℕ) → HoldsEither S.commits (after_entry S e).commits image → HoldsFront S (e ∷ []) image
front-one S e image (inl before) = front-more S [] (e ∷ []) image (front-none S image before)
front-one S e image (inr behind) = front-behind S (e ∷ []) [] image (front-none (after_entry S e) image behind)
