-- Fronts of lines on a sink.
use Rattle.std.proofs.Common.{◌≡◌, ◌≤◌, ◌++◌, ◌⊎◌, arith, take, ℕ, List, [], length, Option, Some, None, refl, ap, append_assoc, inl, inr, sym, ◌∙◌}
use Rattle.std.proofs.lemmas.List.{append-nil}
use Rattle.zn_io.specs.Streams.{Rose, TakesFront, after_known}
use Rattle.zones_run.specs.Run.{TakesFronts}

pub after_known-nil : (known : Option (List ℕ)) → after_known known [] ≡ known
after_known-nil None = refl
after_known-nil (Some bytes) = ap Some (append-nil bytes)

pub after_known-append : (known : Option (List ℕ)) (xs ys : List ℕ) → after_known (after_known known xs) ys ≡ after_known known (xs ++ ys)
after_known-append None xs ys = refl
after_known-append (Some bytes) xs ys = ap Some (append_assoc bytes xs ys)

-- where nothing of a first line was taken
pub behind_nothing : (held holds : Option (List ℕ)) (before now : ℕ) (first line : List ℕ) → TakesFront held holds before now line → TakesFronts held holds before now first line
behind_nothing held holds before now first line front = record {
  begun = 0;
  told = front.count;
  taken = front.taken ∙ ap (λ known. after_known known (take front.count line)) (sym (after_known-nil held));
  whole = elim front.whole as (λ _. Rose before now ⊎ ((0 ≡ 0) × (length line ≤ front.count))) [
    | inl rose ↦ inl rose
    | inr all ↦ inr (refl, all)
  ];
}

-- after a front of a line that failed
pub behind_front : (held between holds : Option (List ℕ)) (before between_faults now : ℕ) (first second : List ℕ) → TakesFront held between before between_faults first → Rose before between_faults → TakesFront between holds between_faults now second → between_faults ≤ now → TakesFronts held holds before now first second
behind_front held between holds before then now first second begun rose told later = record {
  begun = begun.count;
  told = told.count;
  taken = told.taken ∙ ap (λ known. after_known known (take told.count second)) begun.taken;
  whole = inl (omega arith);
}
