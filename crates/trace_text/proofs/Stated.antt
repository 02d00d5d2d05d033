-- Just the lines that begin with a grant's text and a space state a grant.
use Rattle.std.proofs.Common.{◌≡◌, ◌⊎◌, ◌∙◌, ℕ, Bool, true, false, List, [], ◌∷◌, ◌++◌, drop, Option, Some, None, IsTrue, IfSome, codes, inl, inr, refl, sym, ap, subst, true≢false}
use Rattle.std.specs.Prelude.{bytes_eq, if◌then◌else◌, option_map}
use Rattle.std.specs.Char.{is_ascii_digit}
use Rattle.std.specs.Fmt.{decimal}
use Rattle.std.specs.List.{list_all}
use Rattle.std.proofs.lemmas.Bool.{eqb-true, le-leb, leb-true}
use Rattle.std.proofs.lemmas.Slice.Eq.{bytes_eq-Decides}
use Rattle.zn_base.proofs.First_byte.{after_first, before_first}
use Rattle.zone_pools.specs.declared.grant.Grant.{Grant}
use Rattle.zone_pools.specs.declared.grant.Grant.TheVariants.{Denied, Nothing, Number, Yes}
use Rattle.zone_pools.specs.declared.grant.Pool.{Pool}
use Rattle.process_calls.proofs.Numbers.{pid_again, pid_written}
use Rattle.grant_text.specs.Text.{SplitsInto, grant_text, greatest_number, is_grant, pool_word}
use Rattle.grant_text.proofs.Numbers.{digits}
use Rattle.grant_text.proofs.Pool_words.{found_word, pool_found, pools as all_pools, word_lacks}
use Rattle.grant_text.proofs.Splits.{behind, denied, first_word as first_of_grant, line_words, plain}
use Rattle.trace_text.specs.Given.{StatesJustSplits, followed, grant_in, number_in, pool_in, stated, stated_by}
use Rattle.trace_text.specs.Lines.{after_word, begins_with, first_word}

-- which way a test went
pub pick : {A : Type 0} (b : Bool) (x y z : A) → (if b then x else y) ≡ z → ((b ≡ true) × (x ≡ z)) ⊎ ((b ≡ false) × (y ≡ z))
pick true x y z h = inl (refl, h)
pick false x y z h = inr (refl, h)

-- a number is no word of another grant
no_number : (n : ℕ) (bytes : List ℕ) → IsTrue (is_grant (Number n)) → list_all is_ascii_digit bytes ≡ false → bytes_eq (decimal n) bytes ≡ false
no_number n bytes right other = at (bytes_eq (decimal n) bytes) refl
  where
    at : (b : Bool) → bytes_eq (decimal n) bytes ≡ b → b ≡ false
    at true e = absurd (true≢false (sym (digits n (leb-true n greatest_number right)) ∙ ap (list_all is_ascii_digit) ((bytes_eq-Decides (decimal n) bytes).0 e) ∙ other))
    at false e = refl

-- what is written is stated
by_words : (grant : Grant) (rest : List ℕ) → IsTrue (is_grant grant) → stated_by (first_of_grant grant) (Some (behind grant rest)) ≡ Some (grant, rest)
by_words Nothing rest right = refl
by_words (Number n) rest right =
    let denies : bytes_eq (decimal n) (codes "no") ≡ false = no_number n (codes "no") right refl in
    let none : bytes_eq (decimal n) (codes "-") ≡ false = no_number n (codes "-") right refl in
    let said : bytes_eq (decimal n) (codes "yes") ≡ false = no_number n (codes "yes") right refl in
    let is : number_in (decimal n) ≡ Some n = pid_again n (leb-true n greatest_number right) in
    rw (denies, none, said, is) refl
by_words Yes rest right = refl
by_words (Denied pool) rest right =
    let words = pool_word pool ++ 32 ∷ rest in
    let is : pool_in (pool_word pool) ≡ Some pool = pool_found (pool_word pool) pool refl in
    rw (before_first 32 words (pool_word pool) rest (word_lacks pool) refl, after_first 32 words (pool_word pool) rest (word_lacks pool) refl, is) refl

pub stated_is : (line rest : List ℕ) (grant : Grant) → SplitsInto line grant rest → stated line ≡ Some (grant, rest)
stated_is line rest grant is =
    let words = line_words line grant rest is in
    rw (words.0, words.1) (by_words grant rest is.number)

-- what is stated is written
abbrev Writes : List ℕ → Grant → Type 0
Writes word grant = IsTrue (is_grant grant) × (word ≡ grant_text grant)

begins : (word : List ℕ) → begins_with 64 word ≡ true → word ≡ 64 ∷ drop 1 word
begins [] h = absurd (cc)
begins (b ∷ word) h = ap (λ b. b ∷ word) (eqb-true b 64 h)

of_number : (word : List ℕ) (found : Option ℕ) (grant : Grant) → number_in (drop 1 word) ≡ found → word ≡ 64 ∷ drop 1 word → option_map Number found ≡ Some grant → Writes word grant
of_number word None grant e at h = absurd (cc)
of_number word (Some n) grant e at h =
    let is : Number n ≡ grant = cc in
    let read = pid_written n (drop 1 word) e in
    subst (Writes word) is (le-leb n greatest_number read.0, at ∙ ap (λ t. 64 ∷ t) (sym read.1))

grant_is : (word : List ℕ) (grant : Grant) → grant_in word ≡ Some grant → Writes word grant
grant_is word grant h = elim (pick (bytes_eq word (codes "@-")) _ _ _ h) [
  | inl none ↦ let is : Nothing ≡ grant = let e = none.1 in cc in subst (Writes word) is (refl, (bytes_eq-Decides word (codes "@-")).0 none.0)
  | inr more ↦ elim (pick (bytes_eq word (codes "@yes")) _ _ _ more.1) [
    | inl is_yes ↦ let is : Yes ≡ grant = let e = is_yes.1 in cc in subst (Writes word) is (refl, (bytes_eq-Decides word (codes "@yes")).0 is_yes.0)
    | inr other ↦ elim (pick (begins_with 64 word) _ _ _ other.1) [
      | inl at ↦ of_number word (number_in (drop 1 word)) grant refl (begins word at.0) at.1
      | inr neither ↦ absurd (let e = neither.1 in cc)
    ]
  ]
]

-- a grant that a rest follows
record Follows (found : Option Grant) (after : Option (List ℕ)) (grant : Grant) (rest : List ℕ) : Type 0 where
  found_is : found ≡ Some grant
  after_is : after ≡ Some rest

follows : (found : Option Grant) (after : Option (List ℕ)) (grant : Grant) (rest : List ℕ) → followed found after ≡ Some (grant, rest) → Follows found after grant rest
follows None after grant rest h = absurd (cc)
follows (Some g) None grant rest h = absurd (cc)
follows (Some g) (Some r) grant rest h = record { found_is = ap (option_map (λ s. s.0)) h; after_is = ap (option_map (λ s. s.1)) h }

of_pool : (line more rest : List ℕ) (grant : Grant) (found : Option Pool) → bytes_eq (first_word line) (codes "@no") ≡ true → after_word line ≡ Some more → after_word more ≡ Some rest
    → pool_in (first_word more) ≡ found → option_map Denied found ≡ Some grant → SplitsInto line grant rest
of_pool line more rest grant None denial after rests e h = absurd (cc)
of_pool line more rest grant (Some pool) denial after rests e h =
    let is : Denied pool ≡ grant = cc in
    let word : first_word more ≡ pool_word pool = subst (λ o. IfSome o (λ pool. first_word more ≡ pool_word pool)) e (found_word all_pools (first_word more)) in
    subst (λ g. SplitsInto line g rest) is
    (denied line (first_word line) more (first_word more) rest pool (record { before = refl; after = after }) ((bytes_eq-Decides (first_word line) (codes "@no")).0 denial) (record { before = refl; after = rests }) word)

split_at : (line rest : List ℕ) (grant : Grant) (after : Option (List ℕ)) → after_word line ≡ after → stated_by (first_word line) after ≡ Some (grant, rest) → SplitsInto line grant rest
split_at line rest grant None e h = absurd (cc)
split_at line rest grant (Some more) e h = elim (pick (bytes_eq (first_word line) (codes "@no")) _ _ _ h) [
  | inl denial ↦
      let both = follows _ _ grant rest denial.1 in
      of_pool line more rest grant (pool_in (first_word more)) denial.0 e both.after_is refl both.found_is
  | inr other ↦
      let both = follows _ _ grant rest other.1 in
      let word = grant_is (first_word line) grant both.found_is in
      plain line (first_word line) rest grant (record { before = refl; after = e ∙ both.after_is }) word.0 word.1
]

pub split_is : (line rest : List ℕ) (grant : Grant) → stated line ≡ Some (grant, rest) → SplitsInto line grant rest
split_is line rest grant h = split_at line rest grant (after_word line) refl h

pub just_splits : StatesJustSplits
just_splits line rest grant = (stated_is line rest grant, split_is line rest grant)

-- a line that is split in no way states nothing
pub not_stated : (line : List ℕ) → ((grant : Grant) (rest : List ℕ) → SplitsInto line grant rest → ⊥) → stated line ≡ None
not_stated line none = at (stated line) refl
  where
    at : (found : Option (Grant × List ℕ)) → stated line ≡ found → found ≡ None
    at None e = refl
    at (Some split) e = absurd (none split.0 split.1 (split_is line split.1 split.0 e))
