-- What the steps of formatting may leave.
use Rattle.std.proofs.Common.{◌≡◌, ◌≢◌, inl, inr, ⊎_elim, ℕ, suc, ◌≤◌, List, [], ◌∷◌, ◌++◌, length, get_or, drop, refl, sym, ◌∙◌, ap, subst, arith}
use Rattle.std.proofs.lemmas.List.{drop_all}
use Rattle.std.proofs.lemmas.Bool.{cases_eq}
use Rattle.std.specs.Prelude.{Result, Ok, Err, OnOk}
use Rattle.zn_io.specs.Disk.{View, IsSound, IsDurable, GoesOn, NoMore, Leaves, OnlyLooks, Torn, patched}
use Rattle.zone_disk.specs.Image.{IsFormatted, IsUnformatted, IsSame, Stands}
use Rattle.zone_disk.specs.Bank.{KeepsMeaning, Formats, new_store}
use Rattle.zone_disk.specs.Format.{IsHeadless}
use Rattle.zone_disk.specs.Image.Stands.{formatted, unformatted}
use Rattle.zn_io.proofs.Moments.{weaker, joined}
use Rattle.zone_disk.proofs.Unique.{stands_unique, not_both}
use Rattle.zone_disk.proofs.Torn.{behind, patched_behind, at_byte, patched_byte}

abbrev pub tail : List ℕ
tail = 90 ∷ 78 ∷ 83 ∷ 84 ∷ 79 ∷ 82 ∷ 69 ∷ 49 ∷ 65 ∷ 0 ∷ 0 ∷ 0 ∷ 0 ∷ 0 ∷ 0 ∷ 0 ∷ []

headless : (b : ℕ) (r : List ℕ) → b ≢ 1 → length r ≤ 16 → Stands (b ∷ r) []
headless b [] shut short = unformatted tt refl
headless b (x ∷ r) shut short = unformatted (shut, omega arith) refl

pub short : (image : List ℕ) → length image ≤ 1 → Stands image []
short [] le = unformatted tt refl
short (x ∷ []) le = unformatted tt refl
short (x ∷ y ∷ r) le = absurd (omega arith)

-- the first byte is patched to a disk of at most one
pub torn_first : (image c : List ℕ) → length image ≤ 1 → Torn 0 1 image c → Stands c []
torn_first image c le torn = short c (omega (arith, torn.no_longer))

pub wrote_first : (image : List ℕ) → length image ≤ 1 → patched image 0 (0 ∷ []) ≡ 0 ∷ []
wrote_first [] le = refl
wrote_first (x ∷ []) le = refl
wrote_first (x ∷ y ∷ r) le = absurd (omega arith)

pub torn_tail : (image c : List ℕ) → IsHeadless image → Torn 1 16 image c → Stands c []
torn_tail [] c h torn = absurd (h.0 refl)
torn_tail (b ∷ r) c h torn =
    let is : c ≡ b ∷ drop 1 c = behind [] b r 0 refl 16 c torn in
    let len : length c ≡ suc (length (drop 1 c)) = ap length is in
    subst (λ (l : List ℕ). Stands l []) (sym is) (headless b (drop 1 c) h.0 (omega (arith, h.1, torn.no_longer, len)))

pub wrote_tail : (image : List ℕ) → IsHeadless image → patched image 1 tail ≡ get_or image 0 1 ∷ tail
wrote_tail [] h = absurd (h.0 refl)
wrote_tail (b ∷ r) h = patched_behind [] b r 0 refl tail ∙ ap (λ (l : List ℕ). b ∷ (tail ++ l)) (drop_all 16 r (omega (arith, h.1)))

pub whole : IsFormatted (1 ∷ tail) []
whole = record { fore = refl; bank = omega arith; closed = omega arith; inside = omega arith }

pub torn_head : (b : ℕ) (c : List ℕ) → Torn 0 1 (b ∷ tail) c → Stands c []
torn_head b c torn =
    let is : c ≡ get_or c 0 1 ∷ tail = at_byte [] b tail 0 refl c torn in
    elim (cases_eq (get_or c 0 1) 1) [
      | inl one ↦ subst (λ (l : List ℕ). Stands l []) (sym (is ∙ ap (λ (g : ℕ). g ∷ tail) one)) (formatted whole)
      | inr shut ↦ subst (λ (l : List ℕ). Stands l []) (sym is) (headless _ tail shut (omega arith))
    ]

-- the two durable writes of a header
module _ (old mid : View) (h : IsHeadless old.reads) (first : Leaves old mid (Torn 1 16 old.reads)) where
  pub after_tail : Leaves old mid (λ c. Stands c [])
  after_tail = weaker old mid _ _ (λ c torn. torn_tail old.reads c h torn) first

  pub after_head : (new : View) → mid.reads ≡ patched old.reads 1 tail → Leaves mid new (Torn 0 1 mid.reads) → Leaves old new (λ c. Stands c [])
  after_head new wrote second =
      joined old mid new _ after_tail (weaker mid new _ _ (λ c torn. torn_head (get_or old.reads 0 1) c (subst (λ (l : List ℕ). Torn 0 1 l c) (wrote ∙ wrote_tail old.reads h) torn)) second)

pub header_done : {T E : Type 0} (r : Result T E) (old mid new : List ℕ) → IsHeadless old → mid ≡ patched old 1 tail → OnOk r (new ≡ patched mid 0 (1 ∷ [])) → OnOk r (new ≡ new_store)
header_done (Ok done) old mid new h wrote opened = opened ∙ ap (λ (l : List ℕ). patched l 0 (1 ∷ [])) (wrote ∙ wrote_tail old h) ∙ patched_byte [] (get_or old 0 1) tail 0 refl 1
header_done (Err e) old mid new h wrote opened = tt

pub after_first : (old mid new : View) → length old.reads ≤ 1 → Leaves old mid (Torn 0 1 old.reads) → Leaves mid new (λ c. Stands c []) → Leaves old new (λ c. Stands c [])
after_first old mid new le first rest = joined old mid new _ (weaker old mid _ _ (λ c torn. torn_first old.reads c le torn) first) rest

pub headless_now : (old new : List ℕ) → length old ≤ 1 → new ≡ patched old 0 (0 ∷ []) → IsHeadless new
headless_now old new le wrote = subst IsHeadless (sym (wrote ∙ wrote_first old le)) (omega arith, omega arith)

pub headless_stands : (image : List ℕ) → IsHeadless image → Stands image []
headless_stands [] h = absurd (h.0 refl)
headless_stands (b ∷ r) h = headless b r h.0 (omega (arith, h.1))

-- two images without bodies
pub same_empty : (d c : List ℕ) → Stands d [] → Stands c [] → IsSame d c
same_empty d c at ct bodies = (λ s. subst (Stands d) (stands_unique c [] bodies ct s) at, λ s. subst (Stands c) (stands_unique d [] bodies at s) ct)

pub not_unformatted : (image : List ℕ) (bodies : List (List ℕ)) → IsFormatted image bodies → IsUnformatted image → ⊥
not_unformatted image bodies f u = not_both image bodies u f

-- headless or shorter, and so unformatted
pub unformatted_short : (image : List ℕ) → length image ≤ 1 → IsUnformatted image
unformatted_short [] le = tt
unformatted_short (x ∷ []) le = tt
unformatted_short (x ∷ y ∷ r) le = absurd (omega arith)

pub unformatted_headless : (image : List ℕ) → IsHeadless image → IsUnformatted image
unformatted_headless [] h = tt
unformatted_headless (x ∷ []) h = tt
unformatted_headless (x ∷ y ∷ r) h = (h.0, omega (arith, h.1))

pub formats_new : (old new : List ℕ) → IsUnformatted old → new ≡ new_store → Formats old new
formats_new old new u is = record { unformatted = λ _. is; other = λ other. absurd (other u) }

pub formats_none : (old new : List ℕ) → (IsUnformatted old → ⊥) → new ≡ old → Formats old new
formats_none old new other is = record { unformatted = λ u. absurd (other u); other = λ _. is }

pub same_self : (c d : List ℕ) → c ≡ d → IsSame d c
same_self c d is bodies = (λ s. subst (λ (l : List ℕ). Stands l bodies) is s, λ s. subst (λ (l : List ℕ). Stands l bodies) (sym is) s)

pub looked : (old mid : View) → IsDurable old → OnlyLooks old mid → Leaves old mid (IsSame old.reads)
looked old mid durable q = weaker old mid _ _ (λ c now. same_self c old.reads (durable c now)) q.leaves

pub emptied : (old mid new : View) → IsDurable old → OnlyLooks old mid → Stands old.reads [] → Leaves mid new (λ c. Stands c []) → Leaves old new (IsSame old.reads)
emptied old mid new durable q none rest = joined old mid new _ (looked old mid durable q) (weaker mid new _ _ (λ c s. same_empty old.reads c none s) rest)

pub stays_durable : (old mid : View) → old.Keeps → IsDurable old → OnlyLooks old mid → IsDurable mid
stays_durable old mid keeps durable q c now = durable c (q.crash c now) ∙ sym (q.same keeps)

pub all_same : (old mid new : View) → old.Keeps → old.Now old.reads → mid.reads ≡ old.reads → Leaves old mid (λ c. old.Now c) → Leaves mid new (IsSame mid.reads) → Leaves old new (KeepsMeaning old)
all_same old mid new keeps now same first rest =
    joined old mid new _ (weaker old mid _ _ (λ c was. (c, was, λ bodies. (λ s. s, λ s. s))) first) (weaker mid new _ _ (λ c s. (old.reads, now, subst (λ (l : List ℕ). IsSame l c) same s)) rest)

-- a call after which a crash may leave nothing new
pub leaves_no_more : {T E : Type 0} (old mid : View) (r : Result T E) → IsSound old → NoMore old mid → GoesOn old mid r → Leaves old mid (λ c. old.Now c)
leaves_no_more old mid r sound none goes = record {
  later = goes.later;
  each = λ image s. ⊎_elim (λ was. sound.only_now image was) (λ now. none image now) (goes.adds_now old.moment image (omega arith) s);
  before = λ t image le s. ⊎_elim (λ was. inl was) (λ now. inr (none image now)) (goes.adds_now t image le s);
}
