-- What was written of a text, and what waits.
use Rattle.std.proofs.Common.{◌≡◌, ◌≤◌, ◌+◌, ◌++◌, ◌∷◌, ◌∙◌, [], ℕ, Bool, Err, List, None, Ok, Option, Result, Some, append-nil, append_assoc, ap, arith, false, if◌then◌else◌, length, refl, subst, suc, sym, take, true, zero}
use Rattle.std.specs.Prelude.{OnErr, OnOk}
use Rattle.std.proofs.Math.Seq.{take-append-add}
use Rattle.std.proofs.lemmas.List.{take_all}
use Rattle.zn_io.specs.Streams.{after_known}
use Rattle.trace_text.specs.Live.{entry_text}
use Rattle.zone_cases.specs.declared.events.Entry.{Entry}
use Rattle.zones_live.specs.Records.{first_refused, record_text, refused_at, refused_from}
use Rattle.zones_run.specs.Run.{HasFront}
use Rattle.zones_run.specs.Tracing.{is_refusal}
use Rattle.zones_run.proofs.Fronts.{after_known-append, after_known-nil}
use Rattle.zones_live.specs.Writing.{IsTold, Waits}

-- a front of a text is one of a longer text
take-more : (n : ℕ) (xs ys : List ℕ) → (k : ℕ) × (take n xs ≡ take k (xs ++ ys))
take-more zero xs ys = (0, refl)
take-more (suc n) [] ys = (0, refl)
take-more (suc n) (x ∷ xs) ys = let more = take-more n xs ys in (suc more.0, ap (λ l. x ∷ l) more.1)

-- the text of one entry more
record-one : (e : Entry) (h : List Entry) → record_text (e ∷ h) ≡ entry_text e ++ record_text h
record-one e h = refl

-- of each outcome
pub on-err : {A E : Type 0} (r : Result A E) (P : Type 0) → P → OnErr r P
on-err (Ok a) P holds = tt
on-err (Err e) P holds = holds

pub ok-lead : {A E : Type 0} (r : Result A E) (P Q : Type 0) → OnOk r P → (P → Q) → OnOk r Q
ok-lead (Ok a) P Q holds lead = lead holds
ok-lead (Err e) P Q holds lead = tt

pub err-lead : {A E : Type 0} (r : Result A E) (P Q : Type 0) → OnErr r P → (P → Q) → OnErr r Q
err-lead (Ok a) P Q holds lead = tt
err-lead (Err e) P Q holds lead = lead holds

module _ (held : Option (List ℕ)) where
  pub front-more : (holds : Option (List ℕ)) (text more : List ℕ) → HasFront held holds text → HasFront held holds (text ++ more)
  front-more holds text more front = let longer = take-more front.count text more in record { count = longer.0; taken = front.taken ∙ ap (after_known held) longer.1 }

  pub front-all : (holds : Option (List ℕ)) (text : List ℕ) → holds ≡ after_known held text → HasFront held holds text
  front-all holds text all = record { count = length text; taken = all ∙ ap (after_known held) (sym (take_all (length text) text (omega arith))) }

  -- whether all was written or not
  pub front-either : {A E : Type 0} (r : Result A E) (holds : Option (List ℕ)) (text : List ℕ) → OnOk r (holds ≡ after_known held text) → OnErr r (HasFront held holds text) → HasFront held holds text
  front-either (Ok a) holds text all front = front-all holds text all
  front-either (Err e) holds text all front = front

  pub front-none : (text : List ℕ) → HasFront held held text
  front-none text = record { count = 0; taken = sym (after_known-nil held) }

  -- nothing is written yet
  pub waits-yet : (text : List ℕ) → Waits held held text text
  waits-yet text = record { written = []; whole = refl; taken = sym (after_known-nil held) }

  -- all is written
  pub waits-none : (holds : Option (List ℕ)) (text : List ℕ) → holds ≡ after_known held text → Waits held holds [] text
  waits-none holds text all = record { written = text; whole = sym (append-nil text); taken = all }

  module _ (mid : Option (List ℕ)) (waiting text : List ℕ) (a : Waits held mid waiting text) where
    behind : (more : List ℕ) → text ++ more ≡ a.written ++ (waiting ++ more)
    behind more = ap (λ l. l ++ more) a.whole ∙ append_assoc a.written waiting more

    taken-on : (holds : Option (List ℕ)) (bytes : List ℕ) → holds ≡ after_known mid bytes → holds ≡ after_known held (a.written ++ bytes)
    taken-on holds bytes is = is ∙ ap (λ known. after_known known bytes) a.taken ∙ after_known-append held a.written bytes

    -- more comes to wait behind what waits, and some of it is written
    pub waits-on : (holds : Option (List ℕ)) (left more : List ℕ) → Waits mid holds left (waiting ++ more) → Waits held holds left (text ++ more)
    waits-on holds left more b = record {
      written = a.written ++ b.written;
      whole = behind more ∙ ap (λ l. a.written ++ l) b.whole ∙ sym (append_assoc a.written b.written left);
      taken = taken-on holds b.written b.taken;
    }

    -- or a front of both
    pub front-on : (holds : Option (List ℕ)) (more : List ℕ) → HasFront mid holds (waiting ++ more) → HasFront held holds (text ++ more)
    front-on holds more b = record {
      count = length a.written + b.count;
      taken = taken-on holds (take b.count (waiting ++ more)) b.taken ∙ ap (after_known held) (sym (take-append-add a.written (waiting ++ more) b.count) ∙ ap (take (length a.written + b.count)) (sym (behind more)));
    }

    -- all that waits is written
    pub all-on : (holds : Option (List ℕ)) → holds ≡ after_known mid waiting → holds ≡ after_known held text
    all-on holds is = taken-on holds waiting is ∙ ap (after_known held) (sym a.whole)

    pub front-end : (holds : Option (List ℕ)) → HasFront mid holds waiting → HasFront held holds text
    front-end holds b = record {
      count = length a.written + b.count;
      taken = taken-on holds (take b.count waiting) b.taken ∙ ap (after_known held) (sym (take-append-add a.written waiting b.count) ∙ ap (take (length a.written + b.count)) (sym a.whole));
    }

-- the first refused one, where one comes behind others
refused-next : (refused : Option ℕ) (n : ℕ) (e : Entry) (h : List Entry) → refused_from refused n (e ∷ h) ≡ refused_from (refused_at refused n e) (n + 1) h
refused-next None n e h = here (is_refusal e.reply.head)
  where
    here : (b : Bool) → (if b then Some n else first_refused (n + 1) h) ≡ refused_from (if b then Some n else None) (n + 1) h
    here true = refl
    here false = refl
refused-next (Some k) n e h = refl

refused-end : (refused : Option ℕ) (n : ℕ) → refused_from refused n [] ≡ refused
refused-end None n = refl
refused-end (Some k) n = refl

-- nothing is told yet
pub told-none : (held : Option (List ℕ)) (all : List Entry) → IsTold held held [] 0 None all all
told-none held all = record { text = []; waits = waits-yet held []; whole = refl; first = refl }

module _ (held mid : Option (List ℕ)) (waiting : List ℕ) (count : ℕ) (refused : Option ℕ) (all : List Entry) where
  -- one entry more is told
  pub told-next : (holds : Option (List ℕ)) (left : List ℕ) (count' : ℕ) (refused' : Option ℕ) (e : Entry) (rest : List Entry) → Waits mid holds left (waiting ++ entry_text e) → count' ≡ count + 1 → refused' ≡ refused_at refused (count + 1) e → IsTold held mid waiting count refused all (e ∷ rest) → IsTold held holds left count' refused' all rest
  told-next holds left count' refused' e rest more next noted t = record {
    text = t.text ++ entry_text e;
    waits = waits-on held mid waiting t.text t.waits holds left (entry_text e) more;
    whole = t.whole ∙ (ap (λ l. t.text ++ l) (record-one e rest) ∙ sym (append_assoc t.text (entry_text e) (record_text rest)));
    first = t.first ∙ (refused-next refused (count + 1) e rest ∙ (λ i. refused_from (sym noted i) (sym next i + 1) rest));
  }

  -- it can't be, and a front of its text was taken
  pub told-front : (holds : Option (List ℕ)) (e : Entry) (rest : List Entry) → HasFront mid holds (waiting ++ entry_text e) → IsTold held mid waiting count refused all (e ∷ rest) → HasFront held holds (record_text all)
  told-front holds e rest front t =
      subst (HasFront held holds) (append_assoc t.text (entry_text e) (record_text rest) ∙ (ap (λ l. t.text ++ l) (sym (record-one e rest)) ∙ sym t.whole)) (front-more held holds (t.text ++ entry_text e) (record_text rest) (front-on held mid waiting t.text t.waits holds (entry_text e) front))

  -- what was written is a front
  pub told-so : (rest : List Entry) → IsTold held mid waiting count refused all rest → HasFront held mid (record_text all)
  told-so rest t = subst (HasFront held mid) (sym t.whole) (front-on held mid waiting t.text t.waits mid (record_text rest) (front-none mid (waiting ++ record_text rest)))

  module _ (t : IsTold held mid waiting count refused all []) where
    told-text : t.text ≡ record_text all
    told-text = sym (t.whole ∙ append-nil t.text)

    pub told-all : (holds : Option (List ℕ)) → holds ≡ after_known mid waiting → holds ≡ after_known held (record_text all)
    told-all holds is = all-on held mid waiting t.text t.waits holds is ∙ ap (after_known held) told-text

    pub told-end : (holds : Option (List ℕ)) → HasFront mid holds waiting → HasFront held holds (record_text all)
    told-end holds front = subst (HasFront held holds) told-text (front-end held mid waiting t.text t.waits holds front)

    pub told-refused : refused ≡ first_refused 1 all
    told-refused = sym (t.first ∙ refused-end refused (count + 1))
