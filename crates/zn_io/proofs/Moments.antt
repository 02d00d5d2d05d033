-- How what a crash may have left goes on from call to call.
use Rattle.std.proofs.Common.{inl, inr, ⊎_elim, ℕ, List, refl, ◌∙◌, arith}
use Rattle.zn_io.specs.Disk.{View, IsSound, Leaves, OnlyLooks}

-- what each image has, it has more weakly
pub weaker : (old new : View) (P Q : List ℕ → Type 0) → ((image : List ℕ) → P image → Q image) → Leaves old new P → Leaves old new Q
weaker old new P Q lead l = record {
  later = l.later;
  each = λ image s. lead image (l.each image s);
  before = λ t image le s. ⊎_elim (λ was. inl was) (λ p. inr (lead image p)) (l.before t image le s);
}

-- two stretches of time, one after the other
pub joined : (old mid new : View) (P : List ℕ → Type 0) → Leaves old mid P → Leaves mid new P → Leaves old new P
joined old mid new P a b = record {
  later = omega (arith, a.later, b.later);
  each = λ image s. ⊎_elim (a.each image) (λ p. p) (b.before old.moment image a.later s);
  before = λ t image le s. ⊎_elim (a.before t image le) (λ p. inr p) (b.before t image (omega (arith, le, a.later)) s);
}

-- looking no times
pub looks_self : (v : View) → IsSound v → OnlyLooks v v
looks_self v sound = record {
  model = (λ k. k, λ k. k);
  same = λ k. refl;
  crash = λ image now. now;
  leaves = record { later = omega arith; each = sound.only_now; before = λ t image le s. inl s };
  faults = omega arith;
}

-- looking once more
pub looks_again : (old mid new : View) → OnlyLooks old mid → OnlyLooks mid new → OnlyLooks old new
looks_again old mid new a b = record {
  model = (λ k. b.model.0 (a.model.0 k), λ k. a.model.1 (b.model.1 k));
  same = λ k. b.same (a.model.0 k) ∙ a.same k;
  crash = λ image now. a.crash image (b.crash image now);
  leaves = joined old mid new old.Now a.leaves (weaker mid new mid.Now old.Now a.crash b.leaves);
  faults = omega (arith, a.faults, b.faults);
}
