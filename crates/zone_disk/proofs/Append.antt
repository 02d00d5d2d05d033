-- The two durable writes of an append, over what the disk means.
use Rattle.std.proofs.Common.{◌≡◌, inl, inr, ℕ, ◌+◌, ◌≤◌, List, [], ◌∷◌, ◌++◌, length, get_or, drop, sym, ◌∙◌, ap, subst, arith}
use Rattle.std.specs.Prelude.{◌↔◌, ◌<◌, Bool, IsTrue, OnOk, Result, Ok, Err, true, false}
use Rattle.std.proofs.lemmas.Bool.{cases_lt, false≢true}
use Rattle.zn_io.specs.Disk.{View, IsSound, Leaves, PutsDurably, Torn, patched}
use Rattle.zn_io.proofs.Moments.{weaker, joined}
use Rattle.zone_disk.specs.declared.bank.TheConstants.{BANK_BYTES}
use Rattle.zone_disk.specs.Image.{blocks, front, used_by, IsFormatted, Stands}
use Rattle.zone_disk.specs.Image.Stands.{formatted}
use Rattle.zone_disk.specs.Bank.{framed, IsSettled, IsKept, IsBeforeOrAfter}
use Rattle.zone_disk.proofs.Blocks.{length-front, length-push, laid_out, torn_behind, staged, stage, torn_gate, open_gate}

pub not_full : (full : Bool) (used n : ℕ) → (IsTrue full ↔ (BANK_BYTES < used + 5 + n)) → full ≡ false → used + 5 + n ≤ BANK_BYTES
not_full full used n test is = elim (cases_lt BANK_BYTES (used + 5 + n)) [
  | inl past ↦ absurd (false≢true (sym is ∙ test.1 past))
  | inr fits ↦ fits
]

-- what is now is since the start
pub at_end : (old new : View) (P : List ℕ → Type 0) → IsSound new → Leaves old new P → (image : List ℕ) → new.Now image → P image
at_end old new P sound l image now = l.each image (sound.counts_now old.moment image l.later now)

module _ (old : View) (bodies : List (List ℕ)) (used : ℕ) (s : IsSettled old bodies) (counted : used ≡ used_by bodies) (body : List ℕ) where
  abbrev selector : ℕ
  selector = get_or old.reads 9 0

  abbrev place : ℕ
  place = 16 + length (blocks bodies)

  abbrev gate : ℕ
  gate = get_or old.reads place 1

  abbrev rest : List ℕ
  rest = drop (place + 1) old.reads

  at : 15 + used ≡ length (front selector bodies)
  at = omega (arith, counted, length-front selector bodies)

  pub first : {T E : Type 0} (mid : View) (r : Result T E) (bytes : List ℕ) → PutsDurably (15 + used + 1) bytes old mid r → Leaves old mid (IsBeforeOrAfter bodies body)
  first mid r bytes puts = weaker old mid _ _ (λ image torn. inl (torn_behind old.reads bodies selector gate rest (laid_out old.reads bodies s.image) (15 + used) at (length bytes) image torn)) (puts.any_moment s.durable)

  module _ {T E : Type 0} (fits : used + 5 + length body ≤ BANK_BYTES) (keeps : old.Keeps) (mid : View) (bytes : List ℕ) (are : bytes ≡ framed body) (done : T) (puts : PutsDurably {T = T} {E = E} (15 + used + 1) bytes old mid (Ok done)) where
    room : length (blocks bodies) + 6 + length body ≤ BANK_BYTES
    room = omega (arith, counted)

    is_staged : mid.reads ≡ staged old.reads bodies selector gate rest (laid_out old.reads bodies s.image) (15 + used) at body
    is_staged = puts.reads keeps ∙ ap (λ (l : List ℕ). patched old.reads (15 + used + 1) l) are ∙ stage old.reads bodies selector gate rest (laid_out old.reads bodies s.image) (15 + used) at body

    pub both : {T E : Type 0} (new : View) (r : Result T E) → PutsDurably (15 + used) (1 ∷ []) mid new r → Leaves old new (IsBeforeOrAfter bodies body)
    both new r opens =
        joined old mid new _ (first mid _ bytes puts) (weaker mid new _ _ (λ image torn. torn_gate old.reads bodies selector gate rest (laid_out old.reads bodies s.image) (15 + used) at body room image (subst (λ (l : List ℕ). Torn (15 + used) 1 l image) is_staged torn)) (opens.any_moment puts.durable))

    pub settled : {T E : Type 0} (new : View) (ok : T) → PutsDurably {T = T} {E = E} (15 + used) (1 ∷ []) mid new (Ok ok) → IsSettled new (bodies ++ body ∷ [])
    settled new ok opens = record {
      image =
          subst (λ (l : List ℕ). IsFormatted l (bodies ++ body ∷ [])) (sym (opens.reads (puts.model.0 keeps) ∙ ap (λ (l : List ℕ). patched l (15 + used) (1 ∷ [])) is_staged)) (open_gate old.reads bodies selector gate rest (laid_out old.reads bodies s.image) (15 + used) at body room);
      durable = opens.durable;
    }

    pub settled_if : {T E : Type 0} (new : View) (r : Result T E) → PutsDurably (15 + used) (1 ∷ []) mid new r → OnOk r (IsSettled new (bodies ++ body ∷ []))
    settled_if new (Ok ok) opens = settled new ok opens
    settled_if new (Err e) opens = tt

-- the bank after both writes
pub kept_more : (new : View) (bodies items : List (List ℕ)) (used : ℕ) (body : List ℕ) → used ≡ used_by bodies → used + 5 + length body ≤ BANK_BYTES → items ≡ bodies ++ body ∷ [] → (new.Keeps → IsSettled new (bodies ++ body ∷ [])) → IsKept new items (used + (5 + length body)) true
kept_more new bodies items used body counted fits is s = subst (λ (l : List (List ℕ)). IsKept new l (used + (5 + length body)) true) (sym is) (record {
  counted = omega (arith, counted, length-push bodies body);
  within = omega (arith, fits);
  settled = λ _ keeps. s keeps;
})

pub settled_stands : (v : View) (bodies : List (List ℕ)) → IsSettled v bodies → (image : List ℕ) → v.Now image → Stands image bodies
settled_stands v bodies s image now = formatted (subst (λ (l : List ℕ). IsFormatted l bodies) (sym (s.durable image now)) s.image)
