-- Lists that end in one item.
use Rattle.std.proofs.Common.{◌≡◌, ◌⊎◌, inl, inr, List, [], ◌∷◌, ◌++◌, refl, ap, sym, ◌∙◌}
use Rattle.std.specs.Prelude.{map}

-- one item more is no empty list
pub push_no_nil : {A : Type 0} (xs : List A) (x : A) → [] ≡ xs ++ x ∷ [] → ⊥
push_no_nil [] x e = cc
push_no_nil (y ∷ xs) x e = cc

-- lists that end alike are alike
pub push_same : {A : Type 0} (xs ys : List A) (x y : A) → xs ++ x ∷ [] ≡ ys ++ y ∷ [] → (xs ≡ ys) × (x ≡ y)
push_same [] [] x y e = let same : x ≡ y = cc in (refl, same)
push_same [] (b ∷ ys) x y e = let rest : [] ≡ ys ++ y ∷ [] = cc in absurd (push_no_nil ys y rest)
push_same (a ∷ xs) [] x y e = let rest : xs ++ x ∷ [] ≡ [] = cc in absurd (push_no_nil xs x (sym rest))
push_same (a ∷ xs) (b ∷ ys) x y e =
    let head : a ≡ b = cc in
    let rest : xs ++ x ∷ [] ≡ ys ++ y ∷ [] = cc in
    let tails = push_same xs ys x y rest in
    let fronts : a ∷ xs ≡ b ∷ ys = cc in
    (fronts, tails.1)

-- an item of a list with one more is the last, or one of those before
pub record IsBefore {A : Type 0} (xs : List A) (x : A) (ys : List A) (y : A) (zs : List A) : Type 0 where
  pub middle : List A
  pub rest : zs ≡ middle ++ x ∷ []
  pub whole : xs ≡ ys ++ y ∷ middle

pub at_end : {A : Type 0} (xs ys zs : List A) (x y : A) → xs ++ x ∷ [] ≡ ys ++ y ∷ zs → ((xs ≡ ys) × (x ≡ y)) ⊎ IsBefore xs x ys y zs
at_end [] [] zs x y e = let same : x ≡ y = cc in inl (refl, same)
at_end [] (b ∷ ys) zs x y e = let rest : [] ≡ ys ++ y ∷ zs = cc in absurd (middle_no_nil ys zs y rest)
  where
    middle_no_nil : {A : Type 0} (ys zs : List A) (y : A) → [] ≡ ys ++ y ∷ zs → ⊥
    middle_no_nil [] zs y e = cc
    middle_no_nil (b ∷ ys) zs y e = cc
at_end (a ∷ xs) [] zs x y e =
    let head : a ≡ y = cc in
    let rest : xs ++ x ∷ [] ≡ zs = cc in
    let whole : a ∷ xs ≡ y ∷ xs = cc in
    inr (record { middle = xs; rest = sym rest; whole = whole })
at_end (a ∷ xs) (b ∷ ys) zs x y e =
    let head : a ≡ b = cc in
    let rest : xs ++ x ∷ [] ≡ ys ++ y ∷ zs = cc in
    elim (at_end xs ys zs x y rest) [
      | inl same ↦ let fronts : a ∷ xs ≡ b ∷ ys = cc (same.0) in inl (fronts, same.1)
      | inr before ↦
          let fronts : a ∷ xs ≡ b ∷ (ys ++ y ∷ before.middle) = cc (before.whole) in
          inr (record { middle = before.middle; rest = before.rest; whole = fronts })
    ]

-- the images of some items, cut in two
pub record Cut {A B : Type 0} (f : A → B) (zs : List A) (images rest : List B) : Type 0 where
  pub front : List A
  pub behind : List A
  pub whole : zs ≡ front ++ behind
  pub are : map f front ≡ images
  pub more : map f behind ≡ rest

pub cut : {A B : Type 0} (f : A → B) (zs : List A) (images rest : List B) → map f zs ≡ images ++ rest → Cut f zs images rest
cut f zs [] rest h = record { front = []; behind = zs; whole = refl; are = refl; more = h }
cut f [] (i ∷ images) rest h = absurd (cc)
cut f (z ∷ zs) (i ∷ images) rest h =
    let first : f z ≡ i = cc in
    let tail : map f zs ≡ images ++ rest = cc in
    let on = cut f zs images rest tail in
    record { front = z ∷ on.front; behind = on.behind; whole = ap (λ l. z ∷ l) on.whole; are = ap (λ y. y ∷ map f on.front) first ∙ ap (λ l. i ∷ l) on.are; more = on.more }
