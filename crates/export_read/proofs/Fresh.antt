-- A shortest name that is free.
use Rattle.std.proofs.Common.{◌≡◌, ◌≤◌, ◌<◌, ◌+◌, suc, ℕ, Bool, true, false, cond, not, List, [], ◌∷◌, ◌++◌, ◌||◌, ◌&&◌, length, Some, None, refl, ap, sym, subst, ◌∙◌, arith, length-append, append-nil, codes, ◌⊎◌, inl, inr}
use Rattle.std.specs.Prelude.{◌==◌, nat_le, map, find, unwrap_or, filter}
use Rattle.std.specs.List.{list_any, list_all}
use Rattle.std.specs.Str.{bytes_eq}
use Rattle.std.proofs.lemmas.Bool.{agree_below, agree_below_at, and_parts, not-true, or_parts, or_cases, false_from_ne_true}
use Rattle.std.proofs.lemmas.Bool.Decides.{nat_tests}
use Rattle.std.proofs.lemmas.Slice.Eq.{bytes_eq-Decides}
use Rattle.config_terms.specs.Allowed.{are_distinct, has_key}
use Rattle.config_terms.specs.Rules.{fits, obeys}
use Rattle.config_terms.specs.Texts.{is_bare_byte, setting, value_text}
use Rattle.config_terms.specs.declared.rules.Rule.{Rule}
use Rattle.config_terms.specs.declared.rules.Rule.TheVariants.{Simple, ControlName, AttributeName}
use Rattle.export_read.specs.Names.{bare_bytes, fresh, is_free, name_by, pair_by}

abbrev one_byte : List (List ℕ)
one_byte = map (λ b. b ∷ []) bare_bytes

abbrev two_bytes : ℕ → List (List ℕ)
two_bytes a = map (λ b. a ∷ (b ∷ [])) bare_bytes

-- the names that are tried, in order: of each rule more than there may be resources
abbrev short_names : List (List ℕ)
short_names = [] ∷ (one_byte ++ (two_bytes 97 ++ (two_bytes 98 ++ (two_bytes 99 ++ two_bytes 100))))

abbrev first_of : (List ℕ → Bool) → List (List ℕ) → List ℕ
first_of p names = unwrap_or (find p names) []

-- the first of some names that are made of bytes, or the first after them
first_made : (p : List ℕ → Bool) (f : ℕ → List ℕ) (bs : List ℕ) (names : List (List ℕ)) → first_of p (map f bs ++ names) ≡ elim (find (λ b. p (f b)) bs) as (λ _. List ℕ) [ Some b ↦ f b | None ↦ first_of p names ]
first_made p f [] names = refl
first_made p f (b ∷ bs) names =
    elim (p (f b)) as (λ v. unwrap_or (cond v (Some (f b)) (find p (map f bs ++ names))) [] ≡ elim (cond v (Some b) (find (λ b. p (f b)) bs)) as (λ _. List ℕ) [ Some b ↦ f b | None ↦ first_of p names ]) [
      | true ↦ refl
      | false ↦ first_made p f bs names
    ]

pairs_found : (p : List ℕ → Bool) (a : ℕ) (firsts : List ℕ) (names : List (List ℕ)) → pair_by p firsts ≡ first_of p names → pair_by p (a ∷ firsts) ≡ first_of p (two_bytes a ++ names)
pairs_found p a firsts names h =
    elim (find (λ b. p (a ∷ (b ∷ []))) bare_bytes) as (λ o. elim o as (λ _. List ℕ) [ Some b ↦ a ∷ (b ∷ []) | None ↦ pair_by p firsts ] ≡ elim o as (λ _. List ℕ) [ Some b ↦ a ∷ (b ∷ []) | None ↦ first_of p names ]) [
      | Some b ↦ refl
      | None ↦ h
    ] ∙ sym (first_made p (λ b. a ∷ (b ∷ [])) bare_bytes names)

name_found : (p : List ℕ → Bool) → name_by p ≡ first_of p short_names
name_found p =
    let last : pair_by p (codes "d") ≡ first_of p (two_bytes 100) = pairs_found p 100 [] [] refl ∙ ap (first_of p) (append-nil (two_bytes 100)) in
    let pairs = pairs_found p 97 (codes "bcd") (two_bytes 98 ++ (two_bytes 99 ++ two_bytes 100)) (pairs_found p 98 (codes "cd") (two_bytes 99 ++ two_bytes 100) (pairs_found p 99 (codes "d") (two_bytes 100) last)) in
    elim (p []) as (λ v. cond v [] (elim (find (λ b. p (b ∷ [])) bare_bytes) as (λ _. List ℕ) [ Some b ↦ b ∷ [] | None ↦ pair_by p (codes "abcd") ]) ≡ unwrap_or (cond v (Some []) (find p (one_byte ++ (two_bytes 97 ++ (two_bytes 98 ++ (two_bytes 99 ++ two_bytes 100)))))) []) [
      | true ↦ refl
      | false ↦
          elim (find (λ b. p (b ∷ [])) bare_bytes) as (λ o. elim o as (λ _. List ℕ) [ Some b ↦ b ∷ [] | None ↦ pair_by p (codes "abcd") ] ≡ elim o as (λ _. List ℕ) [ Some b ↦ b ∷ [] | None ↦ first_of p (two_bytes 97 ++ (two_bytes 98 ++ (two_bytes 99 ++ two_bytes 100))) ]) [
            | Some b ↦ refl
            | None ↦ pairs
          ] ∙ sym (first_made p (λ b. b ∷ []) bare_bytes (two_bytes 97 ++ (two_bytes 98 ++ (two_bytes 99 ++ two_bytes 100))))
    ]

-- the rules of names by which resources are told apart
abbrev pub IsOfNames : Rule → Type 0
IsOfNames Simple = Unit {0}
IsOfNames ControlName = Unit {0}
IsOfNames AttributeName = Unit {0}
IsOfNames rule = ⊥

abbrev own : List ℕ → List ℕ
own n = n

-- the short names that a rule allows
abbrev allowed : Rule → List (List ℕ)
allowed rule = filter (fits rule) short_names

-- they are more than there may be resources, and no two are one
allowed_many : (rule : Rule) → IsOfNames rule → nat_le 257 (length (allowed rule)) ≡ true
unfolding fits obeys
allowed_many Simple h = refl
allowed_many ControlName h = refl
allowed_many AttributeName h = refl
allowed_many rule h = absurd h

allowed_distinct : (rule : Rule) → IsOfNames rule → are_distinct own (allowed rule) ≡ true
unfolding fits obeys
allowed_distinct Simple h = refl
allowed_distinct ControlName h = refl
allowed_distinct AttributeName h = refl
allowed_distinct rule h = absurd h

-- distinct names that are all used are no more than those that use them
module _ {A : Type 0} (key : A → List ℕ) where
  abbrev uses : List A → List ℕ → Bool
  uses xs n = has_key key n xs

  abbrev without : List ℕ → List A → List A
  without n [] = []
  without n (x ∷ xs) = cond (bytes_eq (key x) n) xs (x ∷ without n xs)

  one_less : (n : List ℕ) (xs : List A) → uses xs n ≡ true → length (without n xs) + 1 ≡ length xs
  one_less n [] h = absurd (cc)
  one_less n (x ∷ xs) h =
      elim (bytes_eq (key x) n) as (λ v. (v || uses xs n) ≡ true → length (cond v xs (x ∷ without n xs)) + 1 ≡ suc (length xs)) [
        | true ↦ λ g. omega arith
        | false ↦ λ g. let m = one_less n xs g in omega (arith, m)
      ] h

  still : (n m : List ℕ) (xs : List A) → bytes_eq n m ≡ false → uses xs m ≡ true → uses (without n xs) m ≡ true
  still n m [] apart h = absurd (cc)
  still n m (x ∷ xs) apart h =
      elim (bytes_eq (key x) n) as (λ v. bytes_eq (key x) n ≡ v → uses (cond v xs (x ∷ without n xs)) m ≡ true) [
        | true ↦ λ e.
            let same : key x ≡ n = (bytes_eq-Decides (key x) n).0 e in
            let other : bytes_eq (key x) m ≡ false = ap (λ t. bytes_eq t m) same ∙ apart in
            let P : Bool → Type 0 = λ v. (v || uses xs m) ≡ true in subst P other h
        | false ↦ λ e.
            elim (bytes_eq (key x) m) as (λ v. (v || uses xs m) ≡ true → (v || uses (without n xs) m) ≡ true) [ true ↦ λ g. refl | false ↦ λ g. still n m xs apart g ] h
      ] refl

  all_still : (n : List ℕ) (ns : List (List ℕ)) (xs : List A) → has_key own n ns ≡ false → list_all (uses xs) ns ≡ true → list_all (uses (without n xs)) ns ≡ true
  all_still n [] xs apart h = refl
  all_still n (m ∷ ns) xs apart h =
      let apart : (bytes_eq m n ≡ false) × (has_key own n ns ≡ false) = or_parts _ _ apart in
      let h : (uses xs m ≡ true) × (list_all (uses xs) ns ≡ true) = and_parts _ _ h in
      rw (still n m xs (turned m n apart.0) h.0) (all_still n ns xs apart.1 h.1)
    where
      turned : (m n : List ℕ) → bytes_eq m n ≡ false → bytes_eq n m ≡ false
      turned m n h = false_from_ne_true (bytes_eq n m) (λ e. let same : n ≡ m = (bytes_eq-Decides n m).0 e in let bad : bytes_eq m n ≡ true = (bytes_eq-Decides m n).1 (sym same) in absurd (cc))

  pigeon : (ns : List (List ℕ)) (xs : List A) → are_distinct own ns ≡ true → list_all (uses xs) ns ≡ true → length ns ≤ length xs
  pigeon [] xs d h = omega arith
  pigeon (n ∷ ns) xs d h =
      let d : (not (has_key own n ns) ≡ true) × (are_distinct own ns ≡ true) = and_parts _ _ d in
      let h : (uses xs n ≡ true) × (list_all (uses xs) ns ≡ true) = and_parts _ _ h in
      let a = one_less n xs h.0 in
      let b = pigeon ns (without n xs) d.1 (all_still n ns xs (not-true (has_key own n ns) d.0) h.1) in
      omega (arith, a, b)

-- what is found passes the test
found : {A : Type 0} (p : A → Bool) (d : A) (xs : List A) → list_any p xs ≡ true → p (unwrap_or (find p xs) d) ≡ true
found p d [] h = absurd (cc)
found p d (x ∷ xs) h =
    elim (p x) as (λ v. p x ≡ v → (v || list_any p xs) ≡ true → p (unwrap_or (cond v (Some x) (find p xs)) d) ≡ true) [
      | true ↦ λ e _. e
      | false ↦ λ _ g. found p d xs g
    ] refl h

-- where no name is free, all that the rule allows are used
none_free : (rule : Rule) (used : List ℕ → Bool) (names : List (List ℕ)) → list_any (is_free rule used) names ≡ false → list_all used (filter (fits rule) names) ≡ true
none_free rule used [] h = refl
none_free rule used (n ∷ names) h =
    let h : (is_free rule used n ≡ false) × (list_any (is_free rule used) names ≡ false) = or_parts _ _ h in
    elim (fits rule n) as (λ v. (v && not (used n)) ≡ false → list_all used (cond v (n ∷ filter (fits rule) names) (filter (fits rule) names)) ≡ true) [
      | true ↦ λ g. let is : used n ≡ true = elim (used n) as (λ v. not v ≡ false → v ≡ true) [ true ↦ λ _. refl | false ↦ λ e. absurd (cc) ] g in rw is (none_free rule used names h.1)
      | false ↦ λ g. none_free rule used names h.1
    ] h.0

-- a fresh name is free
pub fresh_free : {A : Type 0} (key : A → List ℕ) (rule : Rule) (xs : List A) → IsOfNames rule → length xs ≤ 256 → is_free rule (λ n. has_key key n xs) (fresh rule (λ n. has_key key n xs)) ≡ true
unfolding fresh
fresh_free key rule xs names few =
    let used : List ℕ → Bool = λ n. has_key key n xs in
    ap (is_free rule used) (name_found (is_free rule used))
    ∙ elim (list_any (is_free rule used) short_names) as (λ v. list_any (is_free rule used) short_names ≡ v → is_free rule used (unwrap_or (find (is_free rule used) short_names) []) ≡ true) [
      | true ↦ λ e. found (is_free rule used) [] short_names e
      | false ↦ λ e.
          let p = pigeon key (allowed rule) xs (allowed_distinct rule names) (none_free rule used short_names e) in
          let m = allowed_many rule names in
          absurd (grind (arith, nat_tests))
    ] refl

-- no line that sets a fresh name is longer than one that sets another free name
setting-most : (key v : List ℕ) → length (setting key v) ≤ 6 + length key + length (value_text v)
unfolding setting
setting-most key [] = omega arith
setting-most key (b ∷ v) = simp length-append (omega arith)

setting-least : (key : List ℕ) (b : ℕ) (v : List ℕ) → length (setting key (b ∷ v)) ≡ 6 + length key + length (value_text (b ∷ v))
unfolding setting
setting-least key b v = simp length-append (omega arith)

cost_one : (b : ℕ) (w : List ℕ) → 1 ≤ length (value_text (b ∷ w))
cost_one b w = elim (list_all is_bare_byte (b ∷ w)) as (λ v. 1 ≤ length (cond v (b ∷ w) (34 ∷ (b ∷ w) ++ 34 ∷ []))) [ true ↦ omega arith | false ↦ omega arith ]

cost_two : (b c : ℕ) (w : List ℕ) → 2 ≤ length (value_text (b ∷ (c ∷ w)))
cost_two b c w = elim (list_all is_bare_byte (b ∷ (c ∷ w))) as (λ v. 2 ≤ length (cond v (b ∷ (c ∷ w)) (34 ∷ (b ∷ (c ∷ w)) ++ 34 ∷ []))) [ true ↦ omega arith | false ↦ omega arith ]

cost_quoted : (b : ℕ) → is_bare_byte b ≡ false → 2 ≤ length (value_text (b ∷ []))
cost_quoted b h = rw h (omega arith)

abbrev costs : ℕ → List ℕ → Bool
costs n v = nat_le (length (value_text v)) n

abbrev two_at_most : List (List ℕ)
two_at_most = two_bytes 97 ++ (two_bytes 98 ++ (two_bytes 99 ++ two_bytes 100))

-- each bare byte is in the list of them
abbrev listed : ℕ → Bool
listed b = list_any (λ c. b == c) bare_bytes

all_listed : agree_below (λ b. is_bare_byte b) listed 128 ≡ true
all_listed = refl

bare_listed : (b : ℕ) → is_bare_byte b ≡ true → listed b ≡ true
bare_listed b h =
    let small : b < 128 = grind (arith, nat_tests) in
    sym (agree_below_at (λ b. is_bare_byte b) listed 128 b all_listed small) ∙ h

-- a test that no listed byte passes
not_listed : (p : List ℕ → Bool) (bs : List ℕ) (b : ℕ) → list_any p (map (λ c. c ∷ []) bs) ≡ false → list_any (λ c. b == c) bs ≡ true → p (b ∷ []) ≡ false
not_listed p [] b h is = absurd (cc)
not_listed p (c ∷ bs) b h is =
    let h : (p (c ∷ []) ≡ false) × (list_any p (map (λ c. c ∷ []) bs) ≡ false) = or_parts _ _ h in
    elim (or_cases (b == c) (list_any (λ c. b == c) bs) is) as (λ _. p (b ∷ []) ≡ false) [
      | inl e ↦ let same : b ≡ c = grind (arith, nat_tests) in ap (λ x. p (x ∷ [])) same ∙ h.0
      | inr e ↦ not_listed p bs b h.1 e
    ]

-- what is found among some has what each of them has
kept_by : (p q : List ℕ → Bool) (d : List ℕ) (xs : List (List ℕ)) → q d ≡ true → list_all q xs ≡ true → q (unwrap_or (find p xs) d) ≡ true
kept_by p q d [] h g = h
kept_by p q d (x ∷ xs) h g =
    let g : (q x ≡ true) × (list_all q xs ≡ true) = and_parts _ _ g in
    elim (p x) as (λ v. q (unwrap_or (cond v (Some x) (find p xs)) d) ≡ true) [ true ↦ g.0 | false ↦ kept_by p q d xs h g.1 ]

-- what is found is found among the first, or none of these passes
found_first : (p q : List ℕ → Bool) (d : List ℕ) (xs ys : List (List ℕ)) → list_all q xs ≡ true
    → (q (unwrap_or (find p (xs ++ ys)) d) ≡ true) ⊎ ((list_any p xs ≡ false) × (find p (xs ++ ys) ≡ find p ys))
found_first p q d [] ys h = inr (refl, refl)
found_first p q d (x ∷ xs) ys h =
    let h : (q x ≡ true) × (list_all q xs ≡ true) = and_parts _ _ h in
    elim (p x) as (λ v. (q (unwrap_or (cond v (Some x) (find p (xs ++ ys))) d) ≡ true) ⊎ (((v || list_any p xs) ≡ false) × (cond v (Some x) (find p (xs ++ ys)) ≡ find p ys))) [
      | true ↦ inl h.0
      | false ↦ found_first p q d xs ys h.1
    ]

least_found : (p : List ℕ → Bool) (xs ys : List (List ℕ)) (b : ℕ) (w : List ℕ) → list_all (costs 1) xs ≡ true → list_all (costs 2) ys ≡ true → (list_any p xs ≡ false → 2 ≤ length (value_text (b ∷ w)))
    → length (value_text (unwrap_or (find p (xs ++ ys)) [])) ≤ length (value_text (b ∷ w))
least_found p xs ys b w one two other =
    elim (found_first p (costs 1) [] xs ys one) as (λ _. length (value_text (unwrap_or (find p (xs ++ ys)) [])) ≤ length (value_text (b ∷ w))) [
      | inl short ↦ let least = cost_one b w in grind (arith, nat_tests)
      | inr past ↦
          let most = kept_by p (costs 2) [] ys refl two in
          let least = other past.0 in
          rw past.1 (grind (arith, nat_tests))
    ]

-- a name that is free where no name of one byte is prints in two bytes or more
costs_two : (p : List ℕ → Bool) (b : ℕ) (w : List ℕ) → p (b ∷ w) ≡ true → list_any p one_byte ≡ false → 2 ≤ length (value_text (b ∷ w))
costs_two p b (c ∷ w) free none = cost_two b c w
costs_two p b [] free none =
    elim (is_bare_byte b) as (λ v. is_bare_byte b ≡ v → 2 ≤ length (value_text (b ∷ []))) [
      | true ↦ λ bare. let bad = not_listed p bare_bytes b none (bare_listed b bare) in absurd (cc)
      | false ↦ λ quoted. cost_quoted b quoted
    ] refl

least_name : (p : List ℕ → Bool) (b : ℕ) (w : List ℕ) → p (b ∷ w) ≡ true → length (value_text (unwrap_or (find p short_names) [])) ≤ length (value_text (b ∷ w))
least_name p b w free =
    elim (p []) as (λ v. length (value_text (unwrap_or (cond v (Some []) (find p (one_byte ++ two_at_most))) [])) ≤ length (value_text (b ∷ w))) [
      | true ↦ omega arith
      | false ↦ least_found p one_byte two_at_most b w refl refl (costs_two p b w free)
    ]

pub fresh_least : (key : List ℕ) (rule : Rule) (used : List ℕ → Bool) (name : List ℕ) → is_free rule used name ≡ true → length (setting key (fresh rule used)) ≤ length (setting key name)
unfolding fresh setting
fresh_least key rule used [] h = rw (name_found (is_free rule used), h) (omega arith)
fresh_least key rule used (b ∷ w) h =
    let same = ap (λ v. length (setting key v)) (name_found (is_free rule used)) in
    let upper = setting-most key (unwrap_or (find (is_free rule used) short_names) []) in
    let lower = setting-least key b w in
    let least = least_name (is_free rule used) b w h in
    omega (arith, same, upper, lower, least)
