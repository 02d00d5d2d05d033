-- What is read of a disk.
use Rattle.std.proofs.Common.{◌≡◌, ◌≢◌, ◌⊎◌, inl, inr, ℕ, suc, ◌+◌, ◌-◌, ◌≤◌, ◌<◌, List, [], ◌∷◌, ◌++◌, length, get_or, take, drop, refl, sym, ◌∙◌, ap, subst, arith, append_assoc, length-append, length-take, length-drop, take-append-drop}
use Rattle.std.specs.Prelude.{min, true, nat_lt}
use Rattle.std.proofs.lemmas.Bool.{cases_eq, cases_lt}
use Rattle.std.proofs.lemmas.Bool.Decides.{nat_tests}
use Rattle.std.proofs.Math.Seq.{take-add}
use Rattle.std.proofs.lemmas.List.{take_min, take_all, take-take, take_rest, drop_more, drop-drop, drop-append-le, drop_at, get_or_append_left}
use Rattle.zone_disk.specs.declared.bank.TheConstants.{BANK_BYTES}
use Rattle.zone_disk.specs.Image.{four, blocks, header, front, is_right, may_stand, IsFormatted, IsFirstWrong, IsBadRecord}
use Rattle.zone_disk.specs.Read.{HasHeaderOf, HasRecords, IsCutAt, IsFrontOf, Explains}
use Rattle.zone_disk.specs.declared.fault.BankFault.{BankFault}
use Rattle.zone_disk.specs.declared.fault.BankFault.TheVariants.{DiskFault, Memory}
use Rattle.zone_disk.proofs.Right.{fixed_at, header_at}
use Rattle.zone_disk.proofs.Blocks.{blocks-push, length-front, is_formatted}

-- a further piece, of which the first count bytes are taken
pub piece_more : (image old piece items : List ℕ) (end asked n count : ℕ) → old ≡ take (length old) image → length old ≤ end → n ≡ min asked (length image - length old)
    → take n piece ≡ take n (drop (length old) image) → count ≡ min n (end - length old) → items ≡ old ++ take count piece → items ≡ take (min end (length old + asked)) image
piece_more image old piece items end asked n count front within read same cut is =
    let at = length old in
    let short : at ≤ length image = omega (arith, ap length front, length-take at image) in
    let less : count ≤ n = omega arith in
    let part : take count piece ≡ take count (drop at image) = sym (take-take count n piece less) ∙ ap (λ (l : List ℕ). take count l) same ∙ take-take count n (drop at image) less in
    let most : at + count ≡ min (min end (at + asked)) (length image) = omega arith in
    is ∙ ap (λ (l : List ℕ). old ++ l) part ∙ ap (λ (l : List ℕ). l ++ take count (drop at image)) front ∙ sym (take-add at count image)
    ∙ ap (λ (k : ℕ). take k image) most ∙ take_min (min end (at + asked)) image

pub one_opens : (rest : List ℕ) → 1 ≤ length rest → get_or rest 0 0 ≡ 1 → rest ≡ 1 ∷ take (length rest - 1) (drop 1 rest)
one_opens rest le one = drop_more rest 0 0 (omega arith) ∙ (λ i. one i ∷ sym (take_rest rest 1) i)

pub one_more : (bodies items : List (List ℕ)) (body rest behind next bytes : List ℕ) → blocks bodies ++ rest ≡ bytes → items ≡ bodies ++ body ∷ [] → rest ≡ 1 ∷ behind → behind ≡ four (length body) ++ (body ++ next) → blocks items ++ next ≡ bytes
one_more bodies items body rest behind next bytes read is opens split =
    ap (λ (l : List (List ℕ)). blocks l ++ next) is ∙ blocks-push bodies body next ∙ ap (λ (l : List ℕ). blocks bodies ++ 1 ∷ l) (sym split) ∙ ap (λ (l : List ℕ). blocks bodies ++ l) (sym opens) ∙ read

-- what is left of a list, after a front of what was left
pub rest_more : (all rest before next : List ℕ) → length rest ≤ length all → rest ≡ drop (length all - length rest) all → rest ≡ before ++ next → next ≡ drop (length all - length next) all
rest_more all rest before next fits is split =
    let l : length rest ≡ length before + length next = ap length split ∙ length-append before next in
    let k : length all - length rest + length before ≡ length all - length next = omega arith in
    sym (drop_at before next (length before) refl) ∙ ap (λ (r : List ℕ). drop (length before) r) (sym split ∙ is) ∙ drop-drop (length before) (length all - length rest) all ∙ ap (λ (n : ℕ). drop n all) k

-- bytes that begin as F does, offset by offset
agrees : (F bytes : List ℕ) → ((k : ℕ) → k < length F → (k < length bytes) × (get_or bytes k 0 ≡ get_or F k 0)) → bytes ≡ F ++ drop (length F) bytes
agrees [] bytes h = refl
agrees (x ∷ F) [] h = absurd (omega (arith, (h 0 (omega arith)).0))
agrees (x ∷ F) (b ∷ bytes) h =
    let rest = agrees F bytes (λ k lt. (omega (arith, (h (suc k) (omega arith)).0), (h (suc k) (omega arith)).1)) in
    let first : b ≡ x = (h 0 (omega arith)).1 in
    λ i. first i ∷ rest i

right_at : (bytes : List ℕ) (k : ℕ) → is_right bytes k ≡ true → (k < length bytes) × (may_stand k (get_or bytes k 0) ≡ true)
right_at bytes k r = (grind (arith, nat_tests), grind (arith, nat_tests))

pub header_right : (bytes : List ℕ) → ((k : ℕ) → k < 17 → is_right bytes k ≡ true) → HasRecords bytes [] 16
header_right bytes right =
    let s = get_or bytes 9 0 in
    record {
      is = agrees (header s) bytes (λ k lt. (
        (right_at bytes k (right k (omega arith))).0,
        elim (cases_eq k 9) [
          | inl nine ↦ rw nine refl
          | inr other ↦ fixed_at k (get_or bytes k 0) lt other (right_at bytes k (right k (omega arith))).1 ∙ sym (header_at s k other)
        ],
      ));
      bank = grind (arith, nat_tests, right_at bytes 9 (right 9 (omega arith)));
      inside = (right_at bytes 16 (right 16 (omega arith))).0;
    }

pub place_is : (bytes : List ℕ) (bodies : List (List ℕ)) (place : ℕ) → HasRecords bytes bodies place → place ≡ 16 + length (blocks bodies)
place_is bytes bodies place h =
    omega (arith, h.inside, ap length h.is, length-append (front (get_or bytes 9 0) bodies) (drop place bytes), length-drop place bytes, length-front (get_or bytes 9 0) bodies)

-- the same records in more bytes
pub in_more : (bytes new : List ℕ) (bodies : List (List ℕ)) (place : ℕ) → HasRecords bytes bodies place → take (length bytes) new ≡ bytes → HasRecords new bodies place
in_more bytes new bodies place h same =
    let more = drop (length bytes) new in
    let all : new ≡ bytes ++ more = sym (take-append-drop (length bytes) new) ∙ ap (λ (l : List ℕ). l ++ more) same in
    let long : 9 < length bytes = omega (arith, h.inside, place_is bytes bodies place h) in
    let s : get_or new 9 0 ≡ get_or bytes 9 0 = ap (λ (l : List ℕ). get_or l 9 0) all ∙ get_or_append_left bytes more 0 9 long in
    let rest : drop place new ≡ drop place bytes ++ more = ap (λ (l : List ℕ). drop place l) all ∙ drop-append-le place bytes more (omega (arith, h.inside)) in
    record {
      is = all ∙ ap (λ (l : List ℕ). l ++ more) h.is ∙ append_assoc (front (get_or bytes 9 0) bodies) (drop place bytes) more ∙ ap (λ (l : List ℕ). front (get_or bytes 9 0) bodies ++ l) (sym rest) ∙ ap (λ (n : ℕ). front n bodies ++ drop place new) (sym s);
      bank = λ b. h.bank (sym s ∙ b);
      inside = omega (arith, h.inside, ap length all, length-append bytes more);
    }

pub front_more : (image new : List ℕ) (most : ℕ) → new ≡ take most image → IsFrontOf image new
front_more image new most is = is ∙ sym (take_min most image) ∙ ap (λ (k : ℕ). take k image) (omega (arith, ap length is, length-take most image))

-- what begins with a gate
at_gate : (bytes : List ℕ) (bodies : List (List ℕ)) (place : ℕ) → HasRecords bytes bodies place → bytes ≡ front (get_or bytes 9 0) bodies ++ get_or bytes place 1 ∷ drop (place + 1) bytes
at_gate bytes bodies place h = h.is ∙ ap (λ (l : List ℕ). front (get_or bytes 9 0) bodies ++ l) (drop_more bytes place 1 h.inside)

pub closed_front : (image bytes : List ℕ) (bodies : List (List ℕ)) (place : ℕ) → IsFrontOf image bytes → length bytes ≤ 16 + BANK_BYTES → HasRecords bytes bodies place → get_or bytes place 1 ≢ 1 → IsFormatted image bodies
closed_front image bytes bodies place fore short h closed =
    let s = get_or bytes 9 0 in
    let tail = drop (length bytes) image in
    let all : image ≡ front s bodies ++ get_or bytes place 1 ∷ (drop (place + 1) bytes ++ tail) =
    sym (take-append-drop (length bytes) image) ∙ ap (λ (l : List ℕ). l ++ tail) (sym fore ∙ at_gate bytes bodies place h) ∙ append_assoc (front s bodies) (get_or bytes place 1 ∷ drop (place + 1) bytes) tail in
    is_formatted image bodies s (get_or bytes place 1) _ (record { is = all; bank = h.bank; closed = closed; inside = omega (arith, place_is bytes bodies place h, h.inside) })

-- nothing more came
pub all_read : (image bytes new : List ℕ) (piece : ℕ) → IsFrontOf image bytes → length bytes ≤ 16 + BANK_BYTES → 0 < piece → new ≡ take (min (16 + BANK_BYTES) (length bytes + piece)) image → length new ≤ length bytes → bytes ≡ take (16 + BANK_BYTES) image
all_read image bytes new piece fore short some is none =
    fore ∙ ap (λ (k : ℕ). take k image) (omega (arith, ap length is, length-take (min (16 + BANK_BYTES) (length bytes + piece)) image, ap length fore, length-take (length bytes) image)) ∙ take_min (16 + BANK_BYTES) image

pub cut_front : (image bytes : List ℕ) (bodies : List (List ℕ)) (place : ℕ) → bytes ≡ take (16 + BANK_BYTES) image → HasRecords bytes bodies place → IsCutAt bytes place → IsBadRecord image place
cut_front image bytes bodies place all h cut = record {
  selector = get_or bytes 9 0;
  bodies = bodies;
  rest = drop (place + 1) bytes;
  is = sym all ∙ at_gate bytes bodies place h ∙ ap (λ (g : ℕ). front (get_or bytes 9 0) bodies ++ g ∷ drop (place + 1) bytes) cut.0;
  bank = h.bank;
  cut = cut.1;
  there = place_is bytes bodies place h;
}

-- the first piece
pub first_piece : (image bytes : List ℕ) (piece : ℕ) → 17 ≤ piece → bytes ≡ take (min (16 + BANK_BYTES) (0 + piece)) image → HasHeaderOf image bytes
first_piece image bytes piece long is = record {
  front = front_more image bytes _ is;
  long = elim (cases_lt (length image) 17) [
    | inl short ↦ inr (is ∙ take_all (min (16 + BANK_BYTES) (0 + piece)) image (omega arith))
    | inr whole ↦ inl (omega (arith, ap length is, length-take (min (16 + BANK_BYTES) (0 + piece)) image))
  ];
}

-- what is right in the front is right in the image
pub same_right : (image bytes : List ℕ) → HasHeaderOf image bytes → (k : ℕ) → k < 17 → is_right bytes k ≡ is_right image k
same_right image bytes h k lt = elim h.long [
  | inl long ↦
      let tail = drop (length bytes) image in
      let all : image ≡ bytes ++ tail = sym (take-append-drop (length bytes) image) ∙ ap (λ (l : List ℕ). l ++ tail) (sym h.front) in
      let byte : get_or image k 0 ≡ get_or bytes k 0 = ap (λ (l : List ℕ). get_or l k 0) all ∙ get_or_append_left bytes tail 0 k (omega arith) in
      let here : nat_lt k (length bytes) ≡ true = grind (arith, nat_tests) in
      let there : nat_lt k (length image) ≡ true = grind (arith, nat_tests, ap length all, length-append bytes tail) in
      rw (here, there, byte) refl
  | inr whole ↦ ap (λ (l : List ℕ). is_right l k) whole
]

pub same_wrong : (image bytes : List ℕ) (place : ℕ) → HasHeaderOf image bytes → IsFirstWrong bytes place → IsFirstWrong image place
same_wrong image bytes place h w = record {
  within = w.within;
  wrong = sym (same_right image bytes h place (omega (arith, w.within))) ∙ w.wrong;
  before = λ k lt. sym (same_right image bytes h k (omega (arith, lt, w.within))) ∙ w.before k lt;
}

pub explains_only : (image : List ℕ) (e : BankFault) → (e ≡ DiskFault) ⊎ (e ≡ Memory) → Explains e image
explains_only image e (inl is) = subst (λ (e : BankFault). Explains e image) (sym is) tt
explains_only image e (inr is) = subst (λ (e : BankFault). Explains e image) (sym is) tt
