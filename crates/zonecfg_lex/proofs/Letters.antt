-- The table of letters is held against the role of each of the 256 bytes, by computing.
use Rattle.std.proofs.Common.{◌≡◌, ◌≤◌, ◌<◌, ◌↔◌, ℕ, zero, suc, Bool, true, false, ◌&&◌, nat_le, get_or, refl, arith, inl, inr}
use Rattle.std.specs.Bool.{beq}
use Rattle.std.proofs.lemmas.Bool.Decides.{nat_tests}
use Rattle.std.proofs.lemmas.Bool.{cases_eq, leb-true}
use Rattle.zonecfg_lex.specs.declared.scope.TheConstants.{LETTERS}
use Rattle.zonecfg_lex.specs.declared.scope.Role.{Role}
use Rattle.zonecfg_lex.specs.declared.scope.Role.TheVariants.{Blank, Letter, Sign, Quote, Stray}
use Rattle.zonecfg_lex.specs.declared.scope.Scope.{Scope}
use Rattle.zonecfg_lex.specs.declared.scope.Scope.TheVariants.{Between, InWord, Round, Square}
use Rattle.zonecfg_lex.specs.Tokens.{role_of}

-- two tests agree below n
unfoldable agree_below : (ℕ → Bool) → (ℕ → Bool) → ℕ → Bool
agree_below f g zero = true
agree_below f g (suc n) = beq (f n) (g n) && agree_below f g n

both_of : (x y rest : Bool) → (beq x y && rest) ≡ true → (x ≡ y) × (rest ≡ true)
both_of true true rest h = (refl, h)
both_of true false rest h = cc
both_of false true rest h = cc
both_of false false rest h = (refl, h)

agree_at : (f g : ℕ → Bool) (n : ℕ) → agree_below f g n ≡ true → (b : ℕ) → b < n → f b ≡ g b
unfolding agree_below
agree_at f g zero h b lt = absurd (omega arith)
agree_at f g (suc n) h b lt =
    let both = both_of (f n) (g n) (agree_below f g n) h in
    elim (cases_eq b n) [ inl same ↦ rw same both.0 | inr other ↦ agree_at f g n both.1 b (omega arith) ]

abbrev is_letter : Role → Bool
is_letter Letter = true
is_letter role = false

letter-true : (role : Role) → is_letter role ≡ true → role ≡ Letter
letter-true Blank h = absurd (cc)
letter-true Letter h = refl
letter-true (Sign kind) h = absurd (cc)
letter-true Quote h = absurd (cc)
letter-true Stray h = absurd (cc)

-- a byte reaches an entry of the table exactly where its role is that of a letter
abbrev pub TellsLetters : ℕ → Scope → Type 0
TellsLetters least scope = (byte : ℕ) → byte < 256 → (least ≤ get_or LETTERS byte 0) ↔ (role_of scope byte ≡ Letter)

le-true : (m n : ℕ) → m ≤ n → nat_le m n ≡ true
le-true m n h = grind (arith, nat_tests)

tells : (least : ℕ) (scope : Scope) → agree_below (λ b. nat_le least (get_or LETTERS b 0)) (λ b. is_letter (role_of scope b)) 256 ≡ true → TellsLetters least scope
tells least scope h byte lt =
    let same = agree_at _ _ 256 h byte lt in (
      λ reaches. letter-true (role_of scope byte) (rw (← same) (le-true least (get_or LETTERS byte 0) reaches)),
      λ letter. leb-true least (get_or LETTERS byte 0) (rw same (rw letter refl)),
    )

pub between : TellsLetters 50 Between
unfolding agree_below role_of
between = tells 50 Between refl

pub in_word : TellsLetters 49 InWord
unfolding agree_below role_of
in_word = tells 49 InWord refl

pub round : (place : ℕ) → TellsLetters 51 (Round place)
unfolding agree_below role_of
round place = tells 51 (Round place) refl

pub square : (place : ℕ) → TellsLetters 51 (Square place)
unfolding agree_below role_of
square place = tells 51 (Square place) refl
