-- Blocks, one more of them, and what they stand for.
use Rattle.std.proofs.Common.{◌≡◌, ◌≢◌, inl, inr, ℕ, ◌+◌, ◌<◌, ◌≤◌, List, [], ◌∷◌, ◌++◌, length, drop, get_or, subst, sym, ◌∙◌, ap, arith, append_assoc, length-append, take-append-drop}
use Rattle.std.proofs.lemmas.List.{append-nil, take_at, get_or_at, get_or_past, drop_more}
use Rattle.std.proofs.lemmas.Bool.{cases_eq, cases_lt}
use Rattle.zone_disk.specs.declared.bank.TheConstants.{BANK_BYTES}
use Rattle.zone_disk.specs.Image.{four, blocks, header, front, used_by, IsFormatted, Stands}
use Rattle.zone_disk.specs.Bank.{IsBeforeOrAfter}
use Rattle.zn_io.specs.Disk.{patched, Torn}
use Rattle.zone_disk.specs.Image.Stands.{formatted}
use Rattle.zone_disk.proofs.Torn.{behind, patched_behind, at_byte, patched_byte}

pub blocks-push : (bodies : List (List ℕ)) (body rest : List ℕ) → blocks (bodies ++ body ∷ []) ++ rest ≡ blocks bodies ++ 1 ∷ (four (length body) ++ (body ++ rest))
blocks-push [] body rest = ap (λ (l : List ℕ). 1 ∷ (four (length body) ++ l)) (append_assoc body [] rest)
blocks-push (b ∷ bodies) body rest =
    ap (λ (l : List ℕ). 1 ∷ (four (length b) ++ l)) (append_assoc b (blocks (bodies ++ body ∷ [])) rest ∙ ap (λ (l : List ℕ). b ++ l) (blocks-push bodies body rest) ∙ sym (append_assoc b (blocks bodies) _))

pub length-push : (bodies : List (List ℕ)) (body : List ℕ) → length (blocks (bodies ++ body ∷ [])) ≡ length (blocks bodies) + 5 + length body
length-push bodies body = omega (arith, ap length (sym (append-nil (blocks (bodies ++ body ∷ []))) ∙ blocks-push bodies body []), length-append (blocks bodies) (1 ∷ (four (length body) ++ (body ++ []))), length-append body [])

pub length-front : (selector : ℕ) (bodies : List (List ℕ)) → length (front selector bodies) ≡ 16 + length (blocks bodies)
length-front selector bodies = length-append (header selector) (blocks bodies)

pub front-push : (selector : ℕ) (bodies : List (List ℕ)) (body rest : List ℕ) → front selector (bodies ++ body ∷ []) ++ rest ≡ front selector bodies ++ 1 ∷ (four (length body) ++ (body ++ rest))
front-push selector bodies body rest = append_assoc (header selector) (blocks (bodies ++ body ∷ [])) rest ∙ ap (λ (l : List ℕ). header selector ++ l) (blocks-push bodies body rest) ∙ sym (append_assoc (header selector) (blocks bodies) _)

-- the same image in three parts
pub record IsLaidOut (image : List ℕ) (bodies : List (List ℕ)) (selector gate : ℕ) (rest : List ℕ) : Type 0 where
  pub is : image ≡ front selector bodies ++ gate ∷ rest
  pub bank : selector ≢ 66
  pub closed : gate ≢ 1
  pub inside : used_by bodies ≤ BANK_BYTES

pub is_formatted : (image : List ℕ) (bodies : List (List ℕ)) (selector gate : ℕ) (rest : List ℕ) → IsLaidOut image bodies selector gate rest → IsFormatted image bodies
is_formatted image bodies selector gate rest laid =
    subst (λ (l : List ℕ). IsFormatted l bodies) (sym laid.is) (record {
      fore = take_at (front selector bodies) (gate ∷ rest) (16 + length (blocks bodies)) (length-front selector bodies);
      bank = laid.bank;
      closed = λ one. laid.closed (sym (get_or_at (front selector bodies) gate rest 1 (16 + length (blocks bodies)) (length-front selector bodies)) ∙ one);
      inside = laid.inside;
    })

pub laid_out : (image : List ℕ) (bodies : List (List ℕ)) → IsFormatted image bodies
    → IsLaidOut image bodies (get_or image 9 0) (get_or image (16 + length (blocks bodies)) 1) (drop (16 + length (blocks bodies) + 1) image)
laid_out image bodies f =
    let p = 16 + length (blocks bodies) in
    let there : p < length image = elim (cases_lt p (length image)) [ inl lt ↦ lt | inr past ↦ absurd (f.closed (get_or_past image p 1 past)) ] in
    record {
      is = sym (take-append-drop p image) ∙ ap (λ (l : List ℕ). l ++ drop p image) f.fore ∙ ap (λ (l : List ℕ). front (get_or image 9 0) bodies ++ l) (drop_more image p 1 there);
      bank = f.bank;
      closed = f.closed;
      inside = f.inside;
    }

-- the closed gate's place
module _ (image : List ℕ) (bodies : List (List ℕ)) (selector gate : ℕ) (rest : List ℕ) (laid : IsLaidOut image bodies selector gate rest) (p : ℕ) (at : p ≡ length (front selector bodies)) where
  -- a torn write after the closed gate leaves the bodies
  pub torn_behind : (n : ℕ) (c : List ℕ) → Torn (p + 1) n image c → Stands c bodies
  torn_behind n c torn =
      let is = behind (front selector bodies) gate rest p at n c (subst (λ (l : List ℕ). Torn (p + 1) n l c) laid.is torn) in
      formatted (is_formatted c bodies selector gate (drop (p + 1) c) (record { is = is; bank = laid.bank; closed = laid.closed; inside = laid.inside }))

  -- a body and a closed gate after the closed gate
  abbrev pub staged : List ℕ → List ℕ
  staged body = front selector bodies ++ gate ∷ (four (length body) ++ (body ++ 0 ∷ drop (length body + 5) rest))

  pub stage : (body : List ℕ) → patched image (p + 1) (four (length body) ++ (body ++ 0 ∷ [])) ≡ staged body
  stage body =
      let n : length (four (length body) ++ (body ++ 0 ∷ [])) ≡ length body + 5 = omega (arith, length-append body (0 ∷ [])) in
      ap (λ (l : List ℕ). patched l (p + 1) (four (length body) ++ (body ++ 0 ∷ []))) laid.is ∙ patched_behind (front selector bodies) gate rest p at _
      ∙ ap (λ (k : ℕ). front selector bodies ++ gate ∷ (four (length body) ++ (body ++ 0 ∷ []) ++ drop k rest)) n
      ∙ ap (λ (l : List ℕ). front selector bodies ++ gate ∷ (four (length body) ++ l)) (append_assoc body (0 ∷ []) (drop (length body + 5) rest))

  -- after an open gate they are one body more
  opened : (body : List ℕ) → length (blocks bodies) + 6 + length body ≤ BANK_BYTES → IsLaidOut (front selector bodies ++ 1 ∷ (four (length body) ++ (body ++ 0 ∷ drop (length body + 5) rest))) (bodies ++ body ∷ []) selector 0 (drop (length body + 5) rest)
  opened body fits = record {
    is = sym (front-push selector bodies body (0 ∷ drop (length body + 5) rest));
    bank = laid.bank;
    closed = omega arith;
    inside = omega (arith, length-push bodies body);
  }

  -- a torn write of the gate leaves either
  pub torn_gate : (body : List ℕ) → length (blocks bodies) + 6 + length body ≤ BANK_BYTES → (c : List ℕ) → Torn p 1 (staged body) c → IsBeforeOrAfter bodies body c
  torn_gate body fits c torn =
      let is = at_byte (front selector bodies) gate (four (length body) ++ (body ++ 0 ∷ drop (length body + 5) rest)) p at c torn in
      elim (cases_eq (get_or c p 1) 1) [
        | inl one ↦ inr (subst (λ (l : List ℕ). Stands l (bodies ++ body ∷ [])) (sym (is ∙ ap (λ (g : ℕ). front selector bodies ++ g ∷ (four (length body) ++ (body ++ 0 ∷ drop (length body + 5) rest))) one)) (formatted (is_formatted _ _ _ _ _ (opened body fits))))
        | inr shut ↦ inl (formatted (is_formatted c bodies selector (get_or c p 1) (four (length body) ++ (body ++ 0 ∷ drop (length body + 5) rest)) (record { is = is; bank = laid.bank; closed = shut; inside = laid.inside })))
      ]

  pub open_gate : (body : List ℕ) → length (blocks bodies) + 6 + length body ≤ BANK_BYTES → IsFormatted (patched (staged body) p (1 ∷ [])) (bodies ++ body ∷ [])
  open_gate body fits = subst (λ (l : List ℕ). IsFormatted l (bodies ++ body ∷ [])) (sym (patched_byte (front selector bodies) gate (four (length body) ++ (body ++ 0 ∷ drop (length body + 5) rest)) p at 1)) (is_formatted _ _ _ _ _ (opened body fits))
