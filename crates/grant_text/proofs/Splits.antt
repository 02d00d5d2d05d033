-- A line is split into a grant and a rest in one way.
use Rattle.std.proofs.Common.{◌≡◌, ◌<◌, ◌+◌, ◌∙◌, ℕ, List, [], ◌∷◌, ◌++◌, true, false, not, codes, Bor, Option, Some, None, drop, get_or, length, take, refl, sym, ap, true≢false, arith}
use Rattle.std.specs.Prelude.{◌==◌, IsTrue, nat_le, option_copied}
use Rattle.std.specs.Char.{is_ascii_digit}
use Rattle.std.specs.Fmt.{decimal}
use Rattle.std.specs.List.{after_first, before_first, list_all, position, position_or_len}
use Rattle.std.proofs.lemmas.Bool.{eqb-true, leb-true}
use Rattle.std.proofs.lemmas.List.{get_or-take, length-take-le}
use Rattle.std.proofs.lemmas.List.Quantifiers.{position-Some}
use Rattle.std.proofs.lemmas.List.Sums.{list_all-from_AllPass, split_at_first}
use Rattle.std.proofs.lemmas.Option.{cond_some}
use Rattle.zn_base.specs.Cuts.{after_byte, before_byte, cut_after, cut_to, lacks}
use Rattle.zn_base.proofs.First_byte.{after_first as after_is, before_first as before_is, cut_alike}
use Rattle.zone_pools.specs.declared.grant.Grant.{Grant}
use Rattle.zone_pools.specs.declared.grant.Grant.TheVariants.{Nothing, Number, Yes, Denied}
use Rattle.zone_pools.specs.declared.grant.Pool.{Pool}
use Rattle.grant_text.specs.Text.{GrantsDiffer, GrantsReadBack, LinesSplitOneWay, SplitsInto, grant_text, greatest_number, is_grant, pool_word}
use Rattle.grant_text.proofs.Numbers.{digits, number_lacks, same_number}
use Rattle.grant_text.proofs.Pool_words.{same_pool, word_lacks}

-- the first word of a grant's text, and what stands after its space in a line
abbrev pub first_word : Grant → List ℕ
first_word (Denied pool) = codes "@no"
first_word grant = grant_text grant

abbrev pub behind : Grant → List ℕ → List ℕ
behind (Denied pool) rest = pool_word pool ++ 32 ∷ rest
behind grant rest = rest

first_lacks : (grant : Grant) → IsTrue (is_grant grant) → lacks 32 (first_word grant) ≡ true
first_lacks Nothing right = refl
first_lacks (Number n) right = number_lacks n (leb-true n greatest_number right)
first_lacks Yes right = refl
first_lacks (Denied pool) right = refl

in_words : (grant : Grant) (rest : List ℕ) → grant_text grant ++ 32 ∷ rest ≡ first_word grant ++ 32 ∷ behind grant rest
in_words Nothing rest = refl
in_words (Number n) rest = refl
in_words Yes rest = refl
in_words (Denied pool) rest = refl

-- a number's digits are no other grant's text
no_digits : (n : ℕ) (bytes : List ℕ) → IsTrue (nat_le n greatest_number) → list_all is_ascii_digit bytes ≡ false → 64 ∷ decimal n ≡ 64 ∷ bytes → ⊥
no_digits n bytes few other same =
    let is : decimal n ≡ bytes = cc in
    true≢false (sym (digits n (leb-true n greatest_number few)) ∙ ap (list_all is_ascii_digit) is ∙ other)

same_numbers : (m n : ℕ) → IsTrue (nat_le m greatest_number) → IsTrue (nat_le n greatest_number) → 64 ∷ decimal m ≡ 64 ∷ decimal n → m ≡ n
same_numbers m n f g same =
    let is : decimal m ≡ decimal n = cc in
    same_number m n (leb-true m greatest_number f) (leb-true n greatest_number g) is

-- what a line is split into, from its first word and what is behind it
abbrev Same : (a b : Grant) (r s : List ℕ) → Type 0
Same a b r s = IsTrue (is_grant a) → IsTrue (is_grant b) → first_word a ≡ first_word b → behind a r ≡ behind b s → (a ≡ b) × (r ≡ s)

by_words : (a b : Grant) (r s : List ℕ) → Same a b r s
by_words Nothing Nothing r s f g first rest = (refl, rest)
by_words Nothing (Number n) r s f g first rest = absurd (no_digits n (codes "-") g refl (sym first))
by_words Nothing Yes r s f g first rest = absurd (cc)
by_words Nothing (Denied q) r s f g first rest = absurd (cc)
by_words (Number m) Nothing r s f g first rest = absurd (no_digits m (codes "-") f refl first)
by_words (Number m) (Number n) r s f g first rest = (ap Number (same_numbers m n f g first), rest)
by_words (Number m) Yes r s f g first rest = absurd (no_digits m (codes "yes") f refl first)
by_words (Number m) (Denied q) r s f g first rest = absurd (no_digits m (codes "no") f refl first)
by_words Yes Nothing r s f g first rest = absurd (cc)
by_words Yes (Number n) r s f g first rest = absurd (no_digits n (codes "yes") g refl (sym first))
by_words Yes Yes r s f g first rest = (refl, rest)
by_words Yes (Denied q) r s f g first rest = absurd (cc)
by_words (Denied p) Nothing r s f g first rest = absurd (cc)
by_words (Denied p) (Number n) r s f g first rest = absurd (no_digits n (codes "no") g refl (sym first))
by_words (Denied p) Yes r s f g first rest = absurd (cc)
by_words (Denied p) (Denied q) r s f g first rest =
    let cut = cut_alike 32 (pool_word p) r (pool_word q) s (word_lacks p) (word_lacks q) rest in
    (ap Denied (same_pool p q cut.0), cut.1)

pub one_way : LinesSplitOneWay
one_way line a b r s f g =
    let same : first_word a ++ 32 ∷ behind a r ≡ first_word b ++ 32 ∷ behind b s = sym (in_words a r) ∙ sym f.text ∙ g.text ∙ in_words b s in
    let cut = cut_alike 32 (first_word a) (behind a r) (first_word b) (behind b s) (first_lacks a f.number) (first_lacks b g.number) same in
    by_words a b r s f.number g.number cut.0 cut.1

pub differ : GrantsDiffer
differ a b f g same =
    let text : grant_text a ++ 32 ∷ [] ≡ grant_text b ++ 32 ∷ [] = ap (λ t. t ++ 32 ∷ []) same in
    (one_way (grant_text a ++ 32 ∷ []) a b [] [] (record { number = f; text = refl }) (record { number = g; text = text })).0

pub read_back : GrantsReadBack
read_back grant rest right = (
  record { number = right; text = refl },
  λ other more is. one_way _ other grant more rest is (record { number = right; text = refl }),
)

-- the words of a line that is split
pub line_words : (line : List ℕ) (grant : Grant) (rest : List ℕ) → SplitsInto line grant rest → (before_byte 32 line ≡ first_word grant) × (after_byte 32 line ≡ Some (behind grant rest))
line_words line grant rest is =
    let lacked = first_lacks grant is.number in
    let same : line ≡ first_word grant ++ 32 ∷ behind grant rest = is.text ∙ in_words grant rest in
    (before_is 32 line (first_word grant) (behind grant rest) lacked same, after_is 32 line (first_word grant) (behind grant rest) lacked same)

-- no line without a space is split
pub needs_space : (line : List ℕ) (grant : Grant) (rest : List ℕ) → after_byte 32 line ≡ None → SplitsInto line grant rest → ⊥
needs_space line grant rest none is = let some = (line_words line grant rest is).1 in cc

-- a line's first word, and what is behind its space
pub record IsCut (line first rest : List ℕ) : Type 0 where
  pub before : before_byte 32 line ≡ first
  pub after : after_byte 32 line ≡ Some rest

-- as `split_at_byte` answers it
pub cut_is : (line first : List ℕ) (after : Option (Bor (List ℕ))) (rest : Bor (List ℕ)) → first ≡ before_byte 32 line → option_copied after ≡ after_byte 32 line → after ≡ Some rest → IsCut line first rest.now
cut_is line first after rest e f g = record { before = sym e; after = sym f ∙ ap option_copied g }

-- a line is its first word, the space and what is behind it, and that word has no space
cut_at : (at : Option ℕ) (line rest : List ℕ) → position (λ b. b == 32) line ≡ at → cut_after at line ≡ Some rest → (line ≡ cut_to at line ++ 32 ∷ rest) × (lacks 32 (cut_to at line) ≡ true)
cut_at None line rest e f = absurd (cc)
cut_at (Some at) line rest e f =
    let here : position_or_len (λ b. b == 32) line ≡ at = (cond_some _ _ _ e).1 in
    let found = position-Some (λ b. b == 32) line at 0 e in
    let byte : get_or line at 0 ≡ 32 = eqb-true (get_or line at 0) 32 found.1 in
    let after : drop (at + 1) line ≡ rest = cc in
    let inside : position_or_len (λ b. b == 32) line < length line = rw here found.0 in
    let parts : line ≡ before_first (λ b. b == 32) line ++ (get_or line (position_or_len (λ b. b == 32) line) 0 ∷ after_first (λ b. b == 32) line) = split_at_first (λ b. b == 32) line 0 inside in (
      rw (here, byte, after) at parts,
      list_all-from_AllPass (λ b. not (b == 32)) (take at line) (λ k d within.
          let before : k < at = omega (arith, length-take-le at line (omega (arith, found.0))) in
          let other = (position-Some (λ b. b == 32) line at d e).2 k before in
          rw (get_or-take at line k d before, other) refl),
    )

whole : (line first rest : List ℕ) → IsCut line first rest → (line ≡ first ++ 32 ∷ rest) × (lacks 32 first ≡ true)
whole line first rest cut =
    let parts : (line ≡ before_byte 32 line ++ 32 ∷ rest) × (lacks 32 (before_byte 32 line) ≡ true) = cut_at (position (λ b. b == 32) line) line rest refl cut.after in
    (parts.0 ∙ ap (λ t. t ++ 32 ∷ rest) cut.before, ap (lacks 32) (sym cut.before) ∙ parts.1)

pub first_lacks_space : (line first rest : List ℕ) → IsCut line first rest → lacks 32 first ≡ true
first_lacks_space line first rest cut = (whole line first rest cut).1

-- a line whose first word is a grant's text
pub plain : (line first rest : List ℕ) (grant : Grant) → IsCut line first rest → IsTrue (is_grant grant) → first ≡ grant_text grant → SplitsInto line grant rest
plain line first rest grant cut right is = record { number = right; text = (whole line first rest cut).0 ∙ ap (λ t. t ++ 32 ∷ rest) is }

-- a line whose first word is `@no`
pub denied : (line first words word rest : List ℕ) (pool : Pool) → IsCut line first words → first ≡ codes "@no" → IsCut words word rest → word ≡ pool_word pool → SplitsInto line (Denied pool) rest
denied line first words word rest pool cut denial more is = record {
  number = refl;
  text = (whole line first words cut).0 ∙ ap (λ t. t ++ 32 ∷ words) denial ∙ ap (λ t. codes "@no" ++ 32 ∷ t) ((whole words word rest more).0 ∙ ap (λ t. t ++ 32 ∷ rest) is);
}

-- is split into a denial alone
pub record Denies (words : List ℕ) (grant : Grant) (rest : List ℕ) : Type 0 where
  pub pool : Pool
  pub cut : IsCut words (pool_word pool) rest

same_some : (a b : List ℕ) → Some a ≡ Some b → a ≡ b
same_some a b e = cc

pub denies : (line first words : List ℕ) (grant : Grant) (rest : List ℕ) → IsCut line first words → first ≡ codes "@no" → SplitsInto line grant rest → Denies words grant rest
denies line first words grant rest cut denial is =
    let parts = line_words line grant rest is in
    by_grant grant is.number (sym parts.0 ∙ cut.before ∙ denial) (same_some words (behind grant rest) (sym cut.after ∙ parts.1))
  where
    by_grant : (g : Grant) → IsTrue (is_grant g) → first_word g ≡ codes "@no" → words ≡ behind g rest → Denies words g rest
    by_grant Nothing right e f = absurd (cc)
    by_grant (Number n) right e f = absurd (no_digits n (codes "no") right refl e)
    by_grant Yes right e f = absurd (cc)
    by_grant (Denied pool) right e f = record {
      pool = pool;
      cut = record {
        before = before_is 32 words (pool_word pool) rest (word_lacks pool) f;
        after = after_is 32 words (pool_word pool) rest (word_lacks pool) f;
      };
    }

-- and any other line into no denial
pub not_denied : (line first words : List ℕ) (grant : Grant) (rest : List ℕ) → IsCut line first words → (first ≡ codes "@no" → ⊥) → SplitsInto line grant rest → first ≡ grant_text grant
not_denied line first words grant rest cut other is = by_grant grant (sym cut.before ∙ (line_words line grant rest is).0)
  where
    by_grant : (g : Grant) → first ≡ first_word g → first ≡ grant_text g
    by_grant Nothing e = e
    by_grant (Number n) e = e
    by_grant Yes e = e
    by_grant (Denied pool) e = absurd (other e)
