-- An entry more in the midst of a record: a turn for which a session waits, or its next line.
use Rattle.std.proofs.Common.{◌≡◌, ◌<◌, ◌+◌, ◌++◌, ◌∷◌, [], ℕ, List, Option, Some, None, true, ap, length, refl, set, subst, sym, ◌∙◌}
use Rattle.std.specs.Prelude.{slice_index_or}
use Rattle.zn_base.specs.Names.{Name}
use Rattle.zn_io.specs.Disk.{View}
use Rattle.zone_cases.specs.State.{At, Awaiting, State}
use Rattle.zone_cases.specs.declared.events.Entry.{Entry}
use Rattle.zone_cases.specs.declared.events.Event.{Event}
use Rattle.zone_cases.specs.declared.events.Event.TheVariants.{Session, Turn}
use Rattle.zone_machine.specs.Machine.{opening}
use Rattle.zone_machine.specs.Machine.Histories.{after_entry, is_legal, is_told}
use Rattle.zone_machine.specs.declared.faults.StepFault.{StepFault}
use Rattle.session_records.proofs.Waits_laws.{NeverIdle, wait-on, waiting-works}
use Rattle.session_records.specs.Records as records
use Rattle.session_records.specs.Records.{awaited}
use Rattle.session_records.specs.Scripts.{Progress, may_come, noted}
use Rattle.session_runs.proofs.Adding.{adds-one}
use Rattle.session_runs.proofs.Far_laws.{far-line, far-turn, may-line}
use Rattle.session_records.proofs.Runs.{after-append}
use Rattle.session_runs.proofs.Histories.{legal-entry, told-entry}
use Rattle.session_runs.specs.Far.{AreFar, Differ, far_after, waits_of}
use Rattle.session_runs.specs.Midway.{AddsOn, AddsUpTo, GoesOn, Halts, IsMidway, Takes}
use Rattle.session_runs.specs.Runs.{IsReached}
use Rattle.session_runs.specs.declared.far.Awaited.{Awaited}
use Rattle.session_runs.specs.declared.far.Far.{Far}
use Rattle.session_runs.specs.declared.far.Script.{Script}

module _ (S : State) (p : ℕ → Progress) (scripts : List Script) (far : List Far) (stands : State → Type 0) (m : IsMidway S p scripts far stands) (x : Event) (e : Entry) (stands' : State → Type 0) (v w : View) (takes : Takes S x e stands' v w) where
  told : is_told S e ≡ true
  told = subst (λ (d : Entry). is_told S d ≡ true) (sym takes.told) (told-entry S x)

  legal : is_legal S (e ∷ []) ≡ true
  legal = subst (λ (d : Entry). is_legal S (d ∷ []) ≡ true) (sym takes.told) (legal-entry S x)

  event : e.event ≡ x
  event = ap (λ (d : Entry). d.event) takes.told

  reached : IsReached (after_entry S e)
  reached = let r = m.reached in record {
    brands = r.brands;
    commits = r.commits;
    past = r.past ++ e ∷ [];
    there = after-append (opening r.brands r.commits) r.past (e ∷ []) ∙ ap (λ (T : State). after_entry T e) r.there;
  }

  -- it goes on
  adds : (old : List Entry) (far' : List Far) → may_come p e ≡ true → AreFar scripts far' (noted p e) → AddsOn S p scripts far' old (old ++ e ∷ []) stands' v w
  adds old far' may is = adds-one S p old e (GoesOn S p scripts far' stands' v w) legal may (record {
    midway = record { reached = reached; waits = wait-on p S e told may m.waits; far_by = is; stood = takes.stood };
    left = takes.left;
  })

  -- or a fault came then, though not the disk's
  up-to : (fault : StepFault) (old : List Entry) → may_come p e ≡ true → AddsUpTo fault S p old (old ++ e ∷ []) stands' v w
  up-to fault old may = adds-one S p old e (Halts fault S stands' v w) legal may (record { stood = λ is. takes.stood; under_way = []; settled = λ is. refl; left = takes.left })

  may-turn : NeverIdle → (n : ℕ) (a : records.Awaited) → (p n).waits ≡ Some a → x ≡ Turn a.zone → may_come p e ≡ true
  may-turn never n a waits turns =
      let r = m.reached in
      waiting-works never r.brands r.commits r.past p n a e (subst (λ (T : State). T.sessions n ≡ At a.zone (Awaiting a.ticket)) (sym r.there) (m.waits n a waits)) (event ∙ turns)
      (subst (λ (T : State). is_told T e ≡ true) (sym r.there) told)

  -- a turn of the daemon for which a session waits
  pub turn-adds : NeverIdle → (old : List Entry) (far' : List Far) (z : Name) (n : ℕ) (a : records.Awaited) → (p n).waits ≡ Some a → a.zone ≡ z → x ≡ Turn z → length far' ≡ length far
      → ((i : ℕ) (f : Far) → i < length far → slice_index_or far' i f ≡ far_after e (slice_index_or far i f)) → AddsOn S p scripts far' old (old ++ e ∷ []) stands' v w
  turn-adds never old far' z n a waits zone turns len each =
      adds old far' (may-turn never n a waits (turns ∙ ap (λ y. Turn y) (sym zone))) (far-turn scripts far far' p e z (event ∙ turns) len each m.far_by)

  -- a line
  module _ (old : List Entry) (at number : ℕ) (script : Script) (text : List ℕ) (d : List ℕ) (differ : Differ scripts) (here : (s : Script) → slice_index_or scripts at s ≡ script) (near : at < length far) (so_far : (f : Far) → slice_index_or far at f ≡ record { done = number; awaits = None })
      (line : x ≡ Session script.session text) (first : number < length script.lines.items) (typed : slice_index_or script.lines.items number d ≡ text) where
    may : may_come p e ≡ true
    may = may-line scripts far far p e at number script text None differ here near so_far (event ∙ line) m.far_by d first typed

    pub line-adds : (far' : List Far) (o : Option Awaited) → waits_of o ≡ awaited e.subject e.reply.head → far' ≡ set far at (record { done = number + 1; awaits = o }) → AddsOn S p scripts far' old (old ++ e ∷ []) stands' v w
    line-adds far' o waits put = adds old far' may (far-line scripts far far' p e at number script text o differ here near so_far (event ∙ line) m.far_by d first typed waits put)

    pub line-up-to : (fault : StepFault) → AddsUpTo fault S p old (old ++ e ∷ []) stands' v w
    line-up-to fault = up-to fault old may
