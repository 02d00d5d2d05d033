-- From the entries of each place and the order of places comes one list.
use Rattle.std.proofs.Common.{◌≡◌, ◌≢◌, ℕ, ◌<◌, ◌==◌, Bool, true, false, List, [], ◌∷◌, ◌++◌, map, length, take, drop, replicate, set, sym, refl, ap, ◌∙◌, arith, zero, suc, if◌then◌else◌, slice_index_or, Option, Some, None, IfNone}
use Rattle.zone_turn.specs.Histories.{own}
use Rattle.zone_threads.specs.declared.history.Tail.{Tail}
use Rattle.zone_threads.specs.declared.zone.Log.{Log}
use Rattle.zone_threads.specs.Ends.{log_of, tail}
use Rattle.zone_threads.specs.Joined.{joined, tail_of}
use Rattle.zone_threads.proofs.Bools.{are_apart, are_same, is_same, no_same}

module _ {Entry : Type 0} (by : Entry → ℕ) where
  own_hit : (p : ℕ) (e : Entry) (es : List Entry) → (by e == p) ≡ true → own by p (e ∷ es) ≡ e ∷ own by p es
  own_hit p e es is = rw is refl

  own_miss : (p : ℕ) (e : Entry) (es : List Entry) → (by e == p) ≡ false → own by p (e ∷ es) ≡ own by p es
  own_miss p e es is = rw is refl

module _ {Entry : Type 0} where
  abbrev after : ℕ → (ℕ → List Entry) → ℕ → List Entry
  after p each q = if q == p then drop 1 (each q) else each q

  pub same_joined : (ps : List ℕ) (f g : ℕ → List Entry) → ((p : ℕ) → f p ≡ g p) → joined ps f ≡ joined ps g
  same_joined [] f g same = refl
  same_joined (p ∷ ps) f g same = λ i. take 1 (same p i) ++ same_joined ps (after p f) (after p g) (λ q. ap (λ (l : List Entry). if q == p then drop 1 l else l) (same q)) i

  -- the next entry of the first place is taken
  pub taken : (place : ℕ) (ps : List ℕ) (f g : ℕ → List Entry) (e : Entry) → ((p : ℕ) → f p ≡ (if p == place then e ∷ g p else g p)) → joined (place ∷ ps) f ≡ e ∷ joined ps g
  taken place ps f g e told = λ i. take 1 (here i) ++ same_joined ps (after place f) g (λ q. rest q (q == place) refl) i
    where
      here : f place ≡ e ∷ g place
      here = told place ∙ ap (λ (b : Bool). if b then e ∷ g place else g place) (is_same place place refl)

      rest : (q : ℕ) (b : Bool) → (q == place) ≡ b → after place f q ≡ g q
      rest q true is = ap (λ (b : Bool). if b then drop 1 (f q) else f q) is ∙ ap (drop 1) (told q ∙ ap (λ (b : Bool). if b then e ∷ g q else g q) is)
      rest q false is = ap (λ (b : Bool). if b then drop 1 (f q) else f q) is ∙ (told q ∙ ap (λ (b : Bool). if b then e ∷ g q else g q) is)

  -- a place that has no entries is passed over
  pub passed_over : (n place : ℕ) (ps : List ℕ) (f : ℕ → List Entry) → f place ≡ [] → joined (replicate n place ++ ps) f ≡ joined ps f
  passed_over zero place ps f none = refl
  passed_over (suc n) place ps f none = (λ i. take 1 (none i) ++ same_joined (replicate n place ++ ps) (after place f) f (λ q. stays q (q == place) refl) i) ∙ passed_over n place ps f none
    where
      stays : (q : ℕ) (b : Bool) → (q == place) ≡ b → after place f q ≡ f q
      stays q true is = let empty : f q ≡ [] = ap f (are_same q place is) ∙ none in ap (λ (b : Bool). if b then drop 1 (f q) else f q) is ∙ (ap (drop 1) empty ∙ sym empty)
      stays q false is = ap (λ (b : Bool). if b then drop 1 (f q) else f q) is

  -- a list is joined from the places of its entries and the entries of each place
  pub whole : (by : Entry → ℕ) (h : List Entry) (f : ℕ → List Entry) → ((p : ℕ) → own by p h ≡ f p) → joined (map by h) f ≡ h
  whole by [] f each = refl
  whole by (x ∷ xs) f each = λ i. take 1 (here i) ++ whole by xs (after (by x) f) (λ p. rest p (p == by x) refl) i
    where
      here : f (by x) ≡ x ∷ own by (by x) xs
      here = sym (each (by x)) ∙ own_hit by (by x) x xs (is_same (by x) (by x) refl)

      rest : (p : ℕ) (b : Bool) → (p == by x) ≡ b → own by p xs ≡ after (by x) f p
      rest p true is = sym (ap (λ (b : Bool). if b then drop 1 (f p) else f p) is ∙ ap (drop 1) (sym (each p) ∙ own_hit by p x xs (is_same (by x) p (sym (are_same p (by x) is)))))
      rest p false is = sym (own_miss by p x xs (no_same (by x) p (λ k. are_apart p (by x) is (sym k)))) ∙ (each p ∙ sym (ap (λ (b : Bool). if b then drop 1 (f p) else f p) is))

module _ {Entry : Type 0} where
  -- the tail that is found
  abbrev Taken : List Entry → List Entry → Entry → ℕ → ℕ → Type 0
  Taken old new e place p = old ≡ (if p == place then e ∷ new else new)

module _ {Entry : Type 0} where
  taken_here : (x l' : Tail Entry) (xs : List (Tail Entry)) (place : ℕ) (e : Entry) → x.place ≡ place → l'.place ≡ place → x.entries.items ≡ e ∷ l'.entries.items → (p : ℕ) (b : Bool) → (p == place) ≡ b → Taken (tail_of (x ∷ xs) p) (tail_of (l' ∷ xs) p) e place p
  taken_here x l' xs place e is is' more p true q =
      let here : p ≡ place = are_same p place q in
      let a : (x.place == p) ≡ true = is_same x.place p (is ∙ sym here) in
      let b : (l'.place == p) ≡ true = is_same l'.place p (is' ∙ sym here) in
      rw (q, a, b) more
  taken_here x l' xs place e is is' more p false q =
      let a : (x.place == p) ≡ false = no_same x.place p (λ k. are_apart p place q (sym k ∙ is)) in
      let b : (l'.place == p) ≡ false = no_same l'.place p (λ k. are_apart p place q (sym k ∙ is')) in
      rw (q, a, b) refl

  taken_there : (x : Tail Entry) (xs ys : List (Tail Entry)) (place : ℕ) (e : Entry) (p : ℕ) → x.place ≢ place → Taken (tail_of xs p) (tail_of ys p) e place p → (b : Bool) → (x.place == p) ≡ b → Taken (tail_of (x ∷ xs) p) (tail_of (x ∷ ys) p) e place p
  taken_there x xs ys place e p other rest true q =
      let a : (p == place) ≡ false = no_same p place (λ k. other (are_same x.place p q ∙ k)) in
      rw (q, a) refl
  taken_there x xs ys place e p other rest false q = rw q rest

  pub found : (logs : List (Tail Entry)) (i place : ℕ) (l l' : Tail Entry) (e : Entry) → i < length logs → ((j : ℕ) (d : Tail Entry) → j < i → (slice_index_or logs j d).place ≢ place) → slice_index_or logs i l ≡ l → l.place ≡ place → l'.place ≡ l.place → l.entries.items ≡ e ∷ l'.entries.items
      → (p : ℕ) → Taken (tail_of logs p) (tail_of (set logs i l') p) e place p
  found [] i place l l' e near before at is same more p = absurd (omega arith)
  found (x ∷ xs) zero place l l' e near before at is same more p = taken_here x l' xs place e (ap (λ (k : Tail Entry). k.place) at ∙ is) (same ∙ is) (ap (λ (k : Tail Entry). k.entries.items) at ∙ more) p (p == place) refl
  found (x ∷ xs) (suc i) place l l' e near before at is same more p = taken_there x xs (set xs i l') place e p (before 0 x (omega arith)) (found xs i place l l' e (omega arith) (λ j d k. before (suc j) d (omega arith)) at is same more p) (x.place == p) refl

  pub found_none : (logs : List (Tail Entry)) (i place : ℕ) (l : Tail Entry) → i < length logs → ((j : ℕ) (d : Tail Entry) → j < i → (slice_index_or logs j d).place ≢ place) → slice_index_or logs i l ≡ l → l.place ≡ place → l.entries.items ≡ [] → tail_of logs place ≡ []
  found_none [] i place l near before at is none = absurd (omega arith)
  found_none (x ∷ xs) zero place l near before at is none = let a : (x.place == place) ≡ true = is_same x.place place (ap (λ (k : Tail Entry). k.place) at ∙ is) in rw a (ap (λ (k : Tail Entry). k.entries.items) at ∙ none)
  found_none (x ∷ xs) (suc i) place l near before at is none = let a : (x.place == place) ≡ false = no_same x.place place (before 0 x (omega arith)) in
      rw a (found_none xs i place l (omega arith) (λ j d k. before (suc j) d (omega arith)) at is none)

  pub nowhere : (logs : List (Tail Entry)) (place : ℕ) → ((j : ℕ) (d : Tail Entry) → j < length logs → (slice_index_or logs j d).place ≢ place) → tail_of logs place ≡ []
  nowhere [] place before = refl
  nowhere (x ∷ xs) place before = let a : (x.place == place) ≡ false = no_same x.place place (before 0 x (omega arith)) in
      rw a (nowhere xs place (λ j d k. before (suc j) d (omega arith)))

  pub same_tails : (ts : List (Tail Entry)) (i : ℕ) (t t' : Tail Entry) → i < length ts → slice_index_or ts i t ≡ t → t'.place ≡ t.place → t'.entries.items ≡ t.entries.items → (p : ℕ) → tail_of (set ts i t') p ≡ tail_of ts p
  same_tails [] i t t' near at is same p = absurd (omega arith)
  same_tails (x ∷ xs) zero t t' near at is same p = λ j. if (is ∙ sym (ap (λ (k : Tail Entry). k.place) at)) j == p then (same ∙ sym (ap (λ (k : Tail Entry). k.entries.items) at)) j else tail_of xs p
  same_tails (x ∷ xs) (suc i) t t' near at is same p = ap (λ (l : List Entry). if x.place == p then x.entries.items else l) (same_tails xs i t t' (omega arith) at is same p)

module _ {Cell Entry : Type 0} where
  -- the tails of logs that nothing was taken of
  pub whole_tails : (ls : List (Log Cell Entry)) (p : ℕ) → log_of ls p ≡ tail_of (map tail ls) p
  whole_tails [] p = refl
  whole_tails (l ∷ ls) p = ap (λ (es : List Entry). if l.place == p then l.entries.items else es) (whole_tails ls p)

pub none_then : {X P Q : Type 0} (r : Option X) → IfNone r P → (P → Q) → IfNone r Q
none_then None p f = f p
none_then (Some x) p f = p
