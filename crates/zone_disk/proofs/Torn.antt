-- What a torn write may leave around one byte.
use Rattle.std.proofs.Common.{◌≡◌, ℕ, ◌+◌, ◌-◌, List, [], ◌∷◌, ◌++◌, length, get_or, take, drop, sym, ◌∙◌, ap, arith, append_assoc, length-append, take-append-drop}
use Rattle.std.proofs.lemmas.List.{append-nil, take_at, drop_at, drop_more, drop-drop}
use Rattle.zn_io.specs.Disk.{patched, Torn}

-- the byte g at the place p, between a front and a rest
module _ (F : List ℕ) (g : ℕ) (rest : List ℕ) (p : ℕ) (at : p ≡ length F) where
  split : F ++ g ∷ rest ≡ (F ++ g ∷ []) ++ rest
  split = sym (append_assoc F (g ∷ []) rest)

  size : length (F ++ g ∷ []) ≡ p + 1
  size = omega (arith, length-append F (g ∷ []))

  whole : length (F ++ g ∷ rest) ≡ p + 1 + length rest
  whole = omega (arith, length-append F (g ∷ rest))

  back : drop (p + 1) (F ++ g ∷ rest) ≡ rest
  back = ap (λ (l : List ℕ). drop (p + 1) l) split ∙ drop_at (F ++ g ∷ []) rest (p + 1) size

  -- a write after the byte leaves it and what stands before it
  pub behind : (n : ℕ) (c : List ℕ) → Torn (p + 1) n (F ++ g ∷ rest) c → c ≡ F ++ g ∷ drop (p + 1) c
  behind n c torn =
      let fore : take (p + 1) c ≡ F ++ g ∷ [] = torn.before (p + 1) (omega arith) (omega (arith, whole)) ∙ ap (λ (l : List ℕ). take (p + 1) l) split ∙ take_at (F ++ g ∷ []) rest (p + 1) size in
      sym (take-append-drop (p + 1) c) ∙ ap (λ (l : List ℕ). l ++ drop (p + 1) c) fore ∙ append_assoc F (g ∷ []) (drop (p + 1) c)

  pub patched_behind : (bytes : List ℕ) → patched (F ++ g ∷ rest) (p + 1) bytes ≡ F ++ g ∷ (bytes ++ drop (length bytes) rest)
  patched_behind bytes =
      let gap : p + 1 - length (F ++ g ∷ rest) ≡ 0 = omega (arith, whole) in
      let fore : take (p + 1) (F ++ g ∷ rest) ≡ F ++ g ∷ [] = ap (λ (l : List ℕ). take (p + 1) l) split ∙ take_at (F ++ g ∷ []) rest (p + 1) size in
      let end : drop (p + 1 + length bytes) (F ++ g ∷ rest) ≡ drop (length bytes) rest = sym (drop-drop (length bytes) (p + 1) (F ++ g ∷ rest)) ∙ ap (λ (l : List ℕ). drop (length bytes) l) back in
      rw (fore, gap, end) (simp (append-nil, append_assoc))

  -- a write of the byte leaves all others
  pub at_byte : (c : List ℕ) → Torn p 1 (F ++ g ∷ rest) c → c ≡ F ++ get_or c p 1 ∷ rest
  at_byte c torn =
      let fore : take p c ≡ F = torn.before p (omega arith) (omega (arith, whole)) ∙ take_at F (g ∷ rest) p (sym at) in
      let end : drop p c ≡ get_or c p 1 ∷ rest = drop_more c p 1 (omega (arith, torn.no_shorter, whole)) ∙ ap (λ (l : List ℕ). get_or c p 1 ∷ l) (torn.after ∙ back) in
      sym (take-append-drop p c) ∙ ap (λ (l : List ℕ). l ++ drop p c) fore ∙ ap (λ (l : List ℕ). F ++ l) end

  pub patched_byte : (b : ℕ) → patched (F ++ g ∷ rest) p (b ∷ []) ≡ F ++ b ∷ rest
  patched_byte b =
      let gap : p - length (F ++ g ∷ rest) ≡ 0 = omega (arith, whole) in
      let fore : take p (F ++ g ∷ rest) ≡ F = take_at F (g ∷ rest) p (sym at) in
      rw (fore, gap, back) (simp (append-nil, append_assoc))
