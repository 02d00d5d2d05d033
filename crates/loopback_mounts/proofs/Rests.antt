-- What follows of a path below a directory over it, and that it is printable.
use Rattle.std.proofs.Common.{◌≡◌, ◌∷◌, ◌++◌, [], ℕ, ◌+◌, ◌<◌, ◌≤◌, List, Bool, true, false, None, not, length, drop, nat_lt, refl, ap, sym, subst, arith, suc, zero, ◌∙◌}
use Rattle.std.specs.Prelude.{codes, is_ok}
use Rattle.std.specs.List.{list_all, position_or_len}
use Rattle.std.proofs.lemmas.Bool.{and_from, and_parts, cond_both, false≢true, le-ltb, ltb-false}
use Rattle.std.proofs.lemmas.List.{length-append, length-drop}
use Rattle.std.proofs.lemmas.List.Folds.{list_all-append}
use Rattle.std.proofs.lemmas.List.Prefix.{front_rest}
use Rattle.zn_base.specs.Path.{is_path}
use Rattle.zn_base.specs.Text.{is_text, is_text_byte, text_unless}
use Rattle.zn_base.proofs.Path_texts.{path_with_root}
use Rattle.loopback_mounts.specs.Paths.{after_slashes, components, covers, depth, rest_below}
use Rattle.loopback_mounts.specs.Places.{with_rest}
use Rattle.loopback_mounts.proofs.Parts.{back_again, in_parts, over_bytes, slash_alone}

-- below `/` all of another path follows
pub rest_of_root : (d p : List ℕ) → is_path d ≡ true → is_path p ≡ true → length d ≤ 1 → (length p ≡ 1 → ⊥) → p ≡ rest_below d p
rest_of_root d p hd hp one long = let dp = in_parts d hd in let pp = in_parts p hp in by_below pp.below pp.is (root dp.below dp.is)
  where
    root : (t : List ℕ) → d ≡ 47 ∷ t → d ≡ 47 ∷ []
    root t e = slash_alone d hd (omega (arith, ap length e))

    by_below : (t : List ℕ) → p ≡ 47 ∷ t → d ≡ 47 ∷ [] → p ≡ rest_below d p
    by_below [] e f = absurd (long (ap length e))
    by_below (b ∷ t) e f =
        let whole : p ≡ after_slashes (components p) = e ∙ (sym (back_again b t) ∙ sym (ap (λ (q : List ℕ). after_slashes (components q)) e)) in
        subst (λ (r : List ℕ). p ≡ rest_below r p) (sym f) whole

-- nothing follows below `/` of `/` itself
pub rest_of_itself : (d p : List ℕ) → is_path d ≡ true → is_path p ≡ true → length d ≤ 1 → length p ≡ 1 → drop 1 p ≡ rest_below d p
rest_of_itself d p hd hp one two = let parts = in_parts p hp in by_below parts.below parts.is
  where
    by_below : (t : List ℕ) → p ≡ 47 ∷ t → drop 1 p ≡ rest_below d p
    by_below [] e = subst (λ (q : List ℕ). drop 1 q ≡ after_slashes (drop (depth d) (components q))) (sym e) (sym (ap after_slashes (nothing (depth d))))
      where
        nothing : (n : ℕ) → drop {A = List ℕ} n [] ≡ []
        nothing zero = refl
        nothing (suc n) = refl
    by_below (b ∷ t) e = absurd (omega (arith, ap length e))

pub rest_of_other : (d p : List ℕ) → is_path d ≡ true → is_path p ≡ true → covers d p ≡ true → 1 < length d → (length d ≤ length p) × (drop (length d) p ≡ rest_below d p)
rest_of_other d p hd hp h long =
    let split = over_bytes d p hd hp h (λ one. omega arith) in
    (omega (arith, ap length split, length-append d (rest_below d p)), front_rest p d (rest_below d p) split)

-- printable bytes of a bounded number are a text
pub record Printable (xs : List ℕ) : Type 0 where
  pub bytes : list_all is_text_byte xs ≡ true
  pub short : length xs ≤ 4200

all_good : (p : ℕ → Bool) (xs : List ℕ) → list_all p xs ≡ true → length xs ≤ position_or_len (λ b. not (p b)) xs
all_good p [] h = omega arith
all_good p (x ∷ xs) h =
    let both = and_parts (p x) (list_all p xs) h in
    let ih = all_good p xs both.1 in
    simp both.0 (omega arith)

good_all : (p : ℕ → Bool) (xs : List ℕ) → length xs ≤ position_or_len (λ b. not (p b)) xs → list_all p xs ≡ true
good_all p [] h = refl
good_all p (x ∷ xs) h = at_test (p x) refl (good_all p xs)
  where
    at_test : (b : Bool) → p x ≡ b → (length xs ≤ position_or_len (λ b. not (p b)) xs → list_all p xs ≡ true) → list_all p (x ∷ xs) ≡ true
    at_test true e ih = let rest : suc (length xs) ≤ 1 + position_or_len (λ b. not (p b)) xs = simp e at h in rw e (ih (omega arith))
    at_test false e ih = let none : suc (length xs) ≤ 0 = simp e at h in absurd (omega arith)

pub to_text : (xs : List ℕ) → Printable xs → is_text xs ≡ true
to_text xs h = rw (le-ltb (position_or_len (λ b. not (is_text_byte b)) xs) (length xs) (all_good is_text_byte xs h.bytes), le-ltb 4200 (length xs) h.short) refl

pub of_text : (xs : List ℕ) → is_text xs ≡ true → Printable xs
of_text xs h = at_place (nat_lt (position_or_len (λ b. not (is_text_byte b)) xs) (length xs)) refl
  where
    at_place : (b : Bool) → nat_lt (position_or_len (λ b. not (is_text_byte b)) xs) (length xs) ≡ b → Printable xs
    at_place true e = absurd (false≢true (simp e at h))
    at_place false e = at_length (nat_lt 4200 (length xs)) refl (simp e at h)
      where
        at_length : (b : Bool) → nat_lt 4200 (length xs) ≡ b → is_ok (text_unless None xs) ≡ true → Printable xs
        at_length true f g = absurd (false≢true (simp f at g))
        at_length false f g = record { bytes = good_all is_text_byte xs (ltb-false (position_or_len (λ b. not (is_text_byte b)) xs) (length xs) e); short = ltb-false 4200 (length xs) f }

pub path_printable : (p : List ℕ) → is_path p ≡ true → Printable p
path_printable p h =
    let longer = of_text (p ++ codes "/root") (path_with_root p h) in
    let parts = and_parts (list_all is_text_byte p) (list_all is_text_byte (codes "/root")) (sym (list_all-append is_text_byte p (codes "/root")) ∙ longer.bytes) in
    let len = length-append p (codes "/root") in
    record { bytes = parts.0; short = let l = longer.short in omega (arith, len) }

pub rest_printable : (p : List ℕ) (k : ℕ) → Printable p → Printable (drop k p)
rest_printable p k h = record { bytes = dropped p k h.bytes; short = let l = h.short in omega (arith, length-drop k p) }
  where
    dropped : (xs : List ℕ) (k : ℕ) → list_all is_text_byte xs ≡ true → list_all is_text_byte (drop k xs) ≡ true
    dropped xs zero h = h
    dropped [] (suc k) h = refl
    dropped (x ∷ xs) (suc k) h = dropped xs k (and_parts (is_text_byte x) (list_all is_text_byte xs) h).1

pub path_text : (p : List ℕ) → is_path p ≡ true → is_text p ≡ true
path_text p h = to_text p (path_printable p h)

pub rest_text : (p : List ℕ) (k : ℕ) → is_path p ≡ true → is_text (drop k p) ≡ true
rest_text p k h = to_text (drop k p) (rest_printable p k (path_printable p h))

-- a place of printable parts is printable
both_printable : (xs ys : List ℕ) → list_all is_text_byte xs ≡ true → list_all is_text_byte ys ≡ true → list_all is_text_byte (xs ++ ys) ≡ true
both_printable xs ys h k = list_all-append is_text_byte xs ys ∙ and_from _ _ h k

printable : (xs : List ℕ) → is_text xs ≡ true → list_all is_text_byte xs ≡ true
printable xs h = (of_text xs h).bytes

pub plain_printable : (special rest : List ℕ) → is_text special ≡ true → is_text rest ≡ true → list_all is_text_byte (with_rest special rest) ≡ true
plain_printable special rest hs hr =
    cond_both _ rest (special ++ rest) (λ (xs : List ℕ). list_all is_text_byte xs ≡ true) (λ e. printable rest hr) (λ e. both_printable special rest (printable special hs) (printable rest hr))

pub shown_printable : (fstype special rest : List ℕ) → is_text fstype ≡ true → is_text special ≡ true → is_text rest ≡ true
    → list_all is_text_byte (60 ∷ (fstype ++ 58 ∷ (special ++ 62 ∷ (rest ++ [])))) ≡ true
shown_printable fstype special rest hf hs hr =
    both_printable fstype (58 ∷ (special ++ 62 ∷ (rest ++ []))) (printable fstype hf)
    (both_printable special (62 ∷ (rest ++ [])) (printable special hs) (both_printable rest [] (printable rest hr) refl))
