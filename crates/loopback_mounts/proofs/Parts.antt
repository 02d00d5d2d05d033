-- Paths and their components.
use Rattle.std.proofs.Common.{◌≡◌, ◌∷◌, ◌++◌, [], ℕ, ◌+◌, ◌<◌, ◌≤◌, List, Bool, true, false, Option, Some, None, not, length, take, drop, get_or, nat_eq, nat_lt, refl, ap, sym, subst, arith, ◌∙◌}
use Rattle.std.specs.Prelude.{bytes_eq, is_ok}
use Rattle.std.specs.List.{join_with_byte, onto_first, slice_split, starts_with}
use Rattle.std.proofs.lemmas.Bool.{and_from, and_parts, eqb-true, eq-eqb, false≢true, le-ltb, ltb-false}
use Rattle.std.proofs.lemmas.List.{append-nil, append_assoc, length-append, take-append-drop, take_at}
use Rattle.std.proofs.lemmas.List.Prefix.{front_rest}
use Rattle.std.proofs.lemmas.List.Splits.{join_with_byte-slice_split}
use Rattle.zn_base.specs.Path.{first_bad, first_bad_below_root, is_path, is_slash, path_from_root, path_of, path_unless}
use Rattle.loopback_mounts.specs.Paths.{after_slashes, begins, components, covers, depth, is_below, rest_below}
use Rattle.loopback_mounts.proofs.Orders.{bytes_itself, bytes_same}

-- a path in parts
pub record InParts (p : List ℕ) : Type 0 where
  pub below : List ℕ
  pub is : p ≡ 47 ∷ below
  pub short : length p ≤ 1023
  pub good : first_bad 1 (components p) ≡ None

pub in_parts : (p : List ℕ) → is_path p ≡ true → InParts p
in_parts p h = at_length (nat_lt 1023 (length p)) refl h
  where
    from_root : (p : List ℕ) → length p ≤ 1023 → is_ok (path_from_root p) ≡ true → InParts p
    from_root [] l h = absurd (false≢true h)
    from_root (b ∷ t) l h = at_slash (is_slash b) refl
      where
        below : (t : List ℕ) → is_ok (path_unless (first_bad_below_root t) (b ∷ t)) ≡ true → first_bad 1 (components (b ∷ t)) ≡ None
        below [] h = refl
        below (x ∷ xs) h = at_bad (first_bad 1 (slice_split is_slash (x ∷ xs))) refl h
          where
            at_bad : (o : Option ℕ) → first_bad 1 (slice_split is_slash (x ∷ xs)) ≡ o → is_ok (path_unless o (b ∷ x ∷ xs)) ≡ true → first_bad 1 (slice_split is_slash (x ∷ xs)) ≡ None
            at_bad None e h = e
            at_bad (Some place) e h = absurd (false≢true h)

        at_slash : (s : Bool) → is_slash b ≡ s → InParts (b ∷ t)
        at_slash true e =
            let is : b ≡ 47 = eqb-true b 47 e in
            record { below = t; is = ap (λ (c : ℕ). c ∷ t) is; short = l; good = below t (simp e at h) }
        at_slash false e = absurd (false≢true (simp e at h))

    at_length : (l : Bool) → nat_lt 1023 (length p) ≡ l → is_ok (path_of p) ≡ true → InParts p
    at_length true e h = absurd (false≢true (simp e at h))
    at_length false e h = from_root p (ltb-false 1023 (length p) e) (simp e at h)

pub from_parts : (t : List ℕ) → length t < 1023 → first_bad 1 (components (47 ∷ t)) ≡ None → is_path (47 ∷ t) ≡ true
from_parts [] l g = refl
from_parts (x ∷ xs) l g =
    let fits : nat_lt 1023 (length (47 ∷ x ∷ xs)) ≡ false = le-ltb 1023 (length (47 ∷ x ∷ xs)) (omega arith) in
    simp (fits, g) refl

-- bytes and their parts between slashes
split_some : (xs : List ℕ) → slice_split is_slash xs ≡ [] → ⊥
split_some [] h = cc
split_some (x ∷ xs) h = at_slash (is_slash x) refl
  where
    at_slash : (s : Bool) → is_slash x ≡ s → ⊥
    at_slash true e = let none : [] ∷ slice_split is_slash xs ≡ [] = simp e at h in cc
    at_slash false e = let none : onto_first x (slice_split is_slash xs) ≡ [] = simp e at h in onto (slice_split is_slash xs) none
      where
        onto : (ps : List (List ℕ)) → onto_first x ps ≡ [] → ⊥
        onto [] h = cc
        onto (p ∷ ps) h = cc

pub split_append : (xs ys : List ℕ) → slice_split is_slash (xs ++ 47 ∷ ys) ≡ slice_split is_slash xs ++ slice_split is_slash ys
split_append [] ys = refl
split_append (x ∷ xs) ys = at_slash (is_slash x) refl (split_append xs ys)
  where
    onto : (ps qs : List (List ℕ)) → (ps ≡ [] → ⊥) → onto_first x (ps ++ qs) ≡ onto_first x ps ++ qs
    onto [] qs n = absurd (n refl)
    onto (p ∷ ps) qs n = refl

    at_slash : (s : Bool) → is_slash x ≡ s → slice_split is_slash (xs ++ 47 ∷ ys) ≡ slice_split is_slash xs ++ slice_split is_slash ys
        → slice_split is_slash ((x ∷ xs) ++ 47 ∷ ys) ≡ slice_split is_slash (x ∷ xs) ++ slice_split is_slash ys
    at_slash true e ih = rw e (ap (λ ps. [] ∷ ps) ih)
    at_slash false e ih = rw e (ap (onto_first x) ih ∙ onto (slice_split is_slash xs) (slice_split is_slash ys) (split_some xs))

slashed : (c : List ℕ) (cs : List (List ℕ)) → after_slashes (c ∷ cs) ≡ 47 ∷ join_with_byte 47 (c ∷ cs)
slashed c [] = ap (λ bs. 47 ∷ bs) (append-nil c)
slashed c (d ∷ cs) = ap (λ bs. 47 ∷ (c ++ bs)) (slashed d cs)

-- a path other than `/` is its components, each after a slash
pub back_again : (b : ℕ) (t : List ℕ) → after_slashes (components (47 ∷ b ∷ t)) ≡ 47 ∷ b ∷ t
back_again b t = at_split (slice_split is_slash (b ∷ t)) refl
  where
    at_split : (ps : List (List ℕ)) → slice_split is_slash (b ∷ t) ≡ ps → after_slashes (slice_split is_slash (b ∷ t)) ≡ 47 ∷ b ∷ t
    at_split [] e = absurd (split_some (b ∷ t) e)
    at_split (p ∷ ps) e = ap after_slashes e ∙ (slashed p ps ∙ (ap (λ (qs : List (List ℕ)). 47 ∷ join_with_byte 47 qs) (sym e) ∙ ap (λ bs. 47 ∷ bs) (join_with_byte-slice_split 47 (b ∷ t))))

pub same_parts : (d p : List ℕ) → is_path d ≡ true → is_path p ≡ true → components d ≡ components p → d ≡ p
same_parts d p hd hp e =
    let pd = in_parts d hd in
    let pp = in_parts p hp in
    pd.is ∙ (at_below pd.below pp.below (sym (ap components pd.is) ∙ (e ∙ ap components pp.is)) ∙ sym pp.is)
  where
    at_below : (t u : List ℕ) → components (47 ∷ t) ≡ components (47 ∷ u) → 47 ∷ t ≡ 47 ∷ u
    at_below [] [] e = refl
    at_below [] (c ∷ u) e = absurd (split_some (c ∷ u) (sym e))
    at_below (b ∷ t) [] e = absurd (split_some (b ∷ t) e)
    at_below (b ∷ t) (c ∷ u) e = sym (back_again b t) ∙ (ap after_slashes e ∙ back_again c u)

-- components that begin others
pub begins_itself : (cs ds : List (List ℕ)) → begins cs (cs ++ ds) ≡ true
begins_itself [] ds = refl
begins_itself (c ∷ cs) ds = and_from _ _ (bytes_itself c) (begins_itself cs ds)

pub begins_rest : (cs ds : List (List ℕ)) → begins cs ds ≡ true → ds ≡ cs ++ drop (length cs) ds
begins_rest [] ds h = refl
begins_rest (c ∷ cs) [] h = absurd (false≢true h)
begins_rest (c ∷ cs) (d ∷ ds) h =
    let both = and_parts (bytes_eq c d) (begins cs ds) h in
    let same = bytes_same c d both.0 in
    ap (λ (e : List ℕ). e ∷ ds) (sym same) ∙ ap (λ es. c ∷ es) (begins_rest cs ds both.1)

-- no more than all of some components and one more is theirs, but for the whole
pub begins_front : (cs ds : List (List ℕ)) (x : List ℕ) → (cs ≡ ds ++ x ∷ [] → ⊥) → begins cs (ds ++ x ∷ []) ≡ begins cs ds
begins_front [] ds x n = refl
begins_front (c ∷ []) [] x n = at_same (bytes_eq c x) refl
  where
    at_same : (b : Bool) → bytes_eq c x ≡ b → begins (c ∷ []) (x ∷ []) ≡ false
    at_same true e = absurd (n (ap (λ y. y ∷ []) (bytes_same c x e)))
    at_same false e = rw e refl
begins_front (c ∷ d ∷ cs) [] x n = at_same (bytes_eq c x) refl
  where
    at_same : (b : Bool) → bytes_eq c x ≡ b → begins (c ∷ d ∷ cs) (x ∷ []) ≡ false
    at_same true e = rw e refl
    at_same false e = rw e refl
begins_front (c ∷ cs) (d ∷ ds) x n = at_same (bytes_eq c d) refl (begins_front cs ds x)
  where
    at_same : (b : Bool) → bytes_eq c d ≡ b → ((cs ≡ ds ++ x ∷ [] → ⊥) → begins cs (ds ++ x ∷ []) ≡ begins cs ds) → begins (c ∷ cs) (d ∷ (ds ++ x ∷ [])) ≡ begins (c ∷ cs) (d ∷ ds)
    at_same true e ih =
        let same = bytes_same c d e in
        rw e (ih (λ f. n (ap (λ (y : List ℕ). y ∷ cs) same ∙ ap (λ ys. d ∷ ys) f)))
    at_same false e ih = rw e refl

slashed_append : (cs ds : List (List ℕ)) → after_slashes (cs ++ ds) ≡ after_slashes cs ++ after_slashes ds
slashed_append [] ds = refl
slashed_append (c ∷ cs) ds = ap (λ bs. 47 ∷ (c ++ bs)) (slashed_append cs ds) ∙ ap (λ bs. 47 ∷ bs) (sym (append_assoc c (after_slashes cs) (after_slashes ds)))

pub slash_alone : (d : List ℕ) → is_path d ≡ true → length d ≡ 1 → d ≡ 47 ∷ []
slash_alone d h l = let parts = in_parts d h in at_below parts.below parts.is
  where
    at_below : (t : List ℕ) → d ≡ 47 ∷ t → d ≡ 47 ∷ []
    at_below [] e = e
    at_below (b ∷ t) e = absurd (omega (arith, ap length e))

-- the components of a path over `/` and others, in bytes
pub over_bytes : (d p : List ℕ) → is_path d ≡ true → is_path p ≡ true → covers d p ≡ true → (length d ≡ 1 → ⊥) → p ≡ d ++ rest_below d p
over_bytes d p hd hp h long =
    let pd = in_parts d hd in
    let pp = in_parts p hp in
    let split : components p ≡ components d ++ drop (depth d) (components p) = begins_rest (components d) (components p) h in
    let whole_d : after_slashes (components d) ≡ d = whole d pd.below pd.is long in
    let long_p : length p ≡ 1 → ⊥ = λ l. no_root (slash_alone p hp l) in
    sym (whole p pp.below pp.is long_p) ∙ (ap after_slashes split ∙ (slashed_append (components d) (drop (depth d) (components p)) ∙ ap (λ bs. bs ++ rest_below d p) whole_d))
  where
    whole : (q t : List ℕ) → q ≡ 47 ∷ t → (length q ≡ 1 → ⊥) → after_slashes (components q) ≡ q
    whole q [] e n = absurd (n (ap length e))
    whole q (b ∷ t) e n = ap (λ r. after_slashes (components r)) e ∙ (back_again b t ∙ sym e)

    some_parts : (t : List ℕ) → d ≡ 47 ∷ t → begins (components d) [] ≡ true → ⊥
    some_parts [] e h = long (ap length e)
    some_parts (b ∷ t) e h = at_split (slice_split is_slash (b ∷ t)) refl
      where
        at_split : (ps : List (List ℕ)) → slice_split is_slash (b ∷ t) ≡ ps → ⊥
        at_split [] f = split_some (b ∷ t) f
        at_split (q ∷ ps) f =
            let parts : components d ≡ q ∷ ps = ap components e ∙ f in
            false≢true (rw parts at h)

    no_root : p ≡ 47 ∷ [] → ⊥
    no_root e = some_parts (in_parts d hd).below (in_parts d hd).is (subst (λ (q : List ℕ). begins (components d) (components q) ≡ true) e h)

-- one path below another, in bytes
record BelowInBytes (d p : List ℕ) : Type 0 where
  begun : p ≡ d ++ drop (length d) p
  longer : length d < length p
  slash : (length d ≡ 1 → ⊥) → get_or p (length d) 0 ≡ 47

slash_first : (ps : List (List ℕ)) → 0 < length (after_slashes ps) → get_or (after_slashes ps) 0 0 ≡ 47
slash_first [] l = absurd (omega arith)
slash_first (p ∷ ps) l = refl

same_bool : (a b : Bool) → (a ≡ true → b ≡ true) → (b ≡ true → a ≡ true) → a ≡ b
same_bool true b f g = sym (f refl)
same_bool false true f g = g refl
same_bool false false f g = refl

in_bytes : (d p : List ℕ) → is_path d ≡ true → is_path p ≡ true → is_below d p ≡ true → BelowInBytes d p
in_bytes d p hd hp h = at_length (nat_eq (length d) 1) refl
  where
    both : (covers d p ≡ true) × (not (bytes_eq p d) ≡ true)
    both = and_parts (covers d p) (not (bytes_eq p d)) h

    apart : p ≡ d → ⊥
    apart e = false≢true (rw (e, bytes_itself d) at both.1)

    at_length : (b : Bool) → nat_eq (length d) 1 ≡ b → BelowInBytes d p
    at_length true e =
        let one : length d ≡ 1 = eqb-true (length d) 1 e in
        let root = slash_alone d hd one in
        let parts = in_parts p hp in
        record {
          begun = subst (λ (x : List ℕ). p ≡ x ++ drop (length x) p) (sym root) (subst (λ (q : List ℕ). q ≡ 47 ∷ drop 1 q) (sym parts.is) refl);
          longer = at_below parts.below parts.is root;
          slash = λ n. absurd (n one);
        }
      where
        at_below : (t : List ℕ) → p ≡ 47 ∷ t → d ≡ 47 ∷ [] → length d < length p
        at_below [] f g = absurd (apart (f ∙ sym g))
        at_below (b ∷ t) f g = omega (arith, ap length f, ap length g)
    at_length false e =
        let long : length d ≡ 1 → ⊥ = λ one. false≢true (sym e ∙ eq-eqb (length d) 1 one) in
        let split = over_bytes d p hd hp both.0 long in
        let rest = rest_below d p in
        let lens : length p ≡ length d + length rest = ap length split ∙ length-append d rest in
        let some : 0 < length rest = at_rest rest refl split in
        record {
          begun = subst (λ (r : List ℕ). p ≡ d ++ r) (sym (front_rest p d rest split)) split;
          longer = omega (arith, lens, some);
          slash = λ n. subst (λ (q : List ℕ). get_or q (length d) 0 ≡ 47) (sym split) (at_end d rest ∙ slash_first (drop (depth d) (components p)) some);
        }
      where
        at_rest : (r : List ℕ) → rest_below d p ≡ r → p ≡ d ++ rest_below d p → 0 < length (rest_below d p)
        at_rest [] f g = absurd (apart (g ∙ (ap (λ s. d ++ s) f ∙ append-nil d)))
        at_rest (b ∷ r) f g = omega (arith, ap length f)

        at_end : (xs ys : List ℕ) → get_or (xs ++ ys) (length xs) 0 ≡ get_or ys 0 0
        at_end [] ys = refl
        at_end (x ∷ xs) ys = at_end xs ys

from_bytes : (d p : List ℕ) → is_path d ≡ true → is_path p ≡ true → BelowInBytes d p → is_below d p ≡ true
from_bytes d p hd hp b = and_from _ _ (covering (nat_eq (length d) 1) refl) unlike
  where
    unlike : not (bytes_eq p d) ≡ true
    unlike = at_same (bytes_eq p d) refl
      where
        at_same : (s : Bool) → bytes_eq p d ≡ s → not (bytes_eq p d) ≡ true
        at_same true e = let l = b.longer in absurd (omega (arith, ap length (bytes_same p d e)))
        at_same false e = rw e refl

    covering : (s : Bool) → nat_eq (length d) 1 ≡ s → covers d p ≡ true
    covering true e = subst (λ (x : List ℕ). covers x p ≡ true) (sym (slash_alone d hd (eqb-true (length d) 1 e))) refl
    covering false e = by_parts (in_parts d hd).below (in_parts d hd).is (drop (length d) p) refl
      where
        long : length d ≡ 1 → ⊥
        long one = false≢true (sym e ∙ eq-eqb (length d) 1 one)

        by_parts : (t : List ℕ) → d ≡ 47 ∷ t → (r : List ℕ) → drop (length d) p ≡ r → covers d p ≡ true
        by_parts [] f r g = absurd (long (ap length f))
        by_parts (x ∷ t) f [] g =
            let all : p ≡ d = b.begun ∙ (ap (λ s. d ++ s) g ∙ append-nil d) in
            let l = b.longer in
            absurd (omega (arith, ap length all))
        by_parts (x ∷ t) f (y ∷ r) g =
            let is : p ≡ 47 ∷ x ∷ (t ++ y ∷ r) = b.begun ∙ (ap (λ s. d ++ s) g ∙ ap (λ (q : List ℕ). q ++ y ∷ r) f) in
            let head : get_or p (length d) 0 ≡ y = subst (λ (q : List ℕ). get_or q (length d) 0 ≡ y) (sym (b.begun ∙ ap (λ s. d ++ s) g)) (at_end d y r) in
            let slash : y ≡ 47 = sym head ∙ b.slash long in
            let parts : components p ≡ slice_split is_slash (x ∷ t) ++ slice_split is_slash r =
            ap components is ∙ (ap (λ (z : ℕ). slice_split is_slash ((x ∷ t) ++ z ∷ r)) slash ∙ split_append (x ∷ t) r) in
            subst (λ (q : List ℕ). begins (components q) (components p) ≡ true) (sym f)
            (subst (λ (ps : List (List ℕ)). begins (slice_split is_slash (x ∷ t)) ps ≡ true) (sym parts) (begins_itself (slice_split is_slash (x ∷ t)) (slice_split is_slash r)))
          where
            at_end : (xs : List ℕ) (y : ℕ) (ys : List ℕ) → get_or (xs ++ y ∷ ys) (length xs) 0 ≡ y
            at_end [] y ys = refl
            at_end (z ∷ xs) y ys = at_end xs y ys

-- what the test by bytes answers
pub not_below_shorter : (d p : List ℕ) → is_path d ≡ true → is_path p ≡ true → length p ≤ length d → is_below d p ≡ false
not_below_shorter d p hd hp l = same_bool (is_below d p) false (λ h. let b = (in_bytes d p hd hp h).longer in absurd (omega arith)) (λ h. absurd (false≢true h))

pub not_below_apart : (d p : List ℕ) → is_path d ≡ true → is_path p ≡ true → starts_with nat_eq p d ≡ false → is_below d p ≡ false
not_below_apart d p hd hp s = same_bool (is_below d p) false (λ h. absurd (false≢true (sym s ∙ front (in_bytes d p hd hp h)))) (λ h. absurd (false≢true h))
  where
    front : BelowInBytes d p → starts_with nat_eq p d ≡ true
    front b =
        let cut : take (length d) p ≡ d = ap (take (length d)) b.begun ∙ take_at d (drop (length d) p) (length d) refl in
        subst (λ (q : List ℕ). bytes_eq d q ≡ true) (sym cut) (bytes_itself d)

begun_by : (d p : List ℕ) → starts_with nat_eq p d ≡ true → p ≡ d ++ drop (length d) p
begun_by d p s = sym (take-append-drop (length d) p) ∙ ap (λ (q : List ℕ). q ++ drop (length d) p) (sym (bytes_same d (take (length d) p) s))

pub below_root : (d p : List ℕ) → is_path d ≡ true → is_path p ≡ true → length d < length p → starts_with nat_eq p d ≡ true → length d ≡ 1 → is_below d p ≡ true
below_root d p hd hp l s one = from_bytes d p hd hp (record { begun = begun_by d p s; longer = l; slash = λ n. absurd (n one) })

pub below_slash : (d p : List ℕ) → is_path d ≡ true → is_path p ≡ true → length d < length p → starts_with nat_eq p d ≡ true → (length d ≡ 1 → ⊥) → nat_eq (get_or p (length d) 0) 47 ≡ is_below d p
below_slash d p hd hp l s long = same_bool (nat_eq (get_or p (length d) 0) 47) (is_below d p)
    (λ h. from_bytes d p hd hp (record { begun = begun_by d p s; longer = l; slash = λ n. eqb-true _ 47 h }))
    (λ h. eq-eqb _ 47 ((in_bytes d p hd hp h).slash long))
