-- The first line of some bytes, and those after it.
use Rattle.std.proofs.Common.{◌≡◌, ◌≤◌, ◌<◌, ◌+◌, ◌-◌, zero, suc, ℕ, true, false, cond, List, [], ◌∷◌, ◌++◌, length, length-drop, take, drop, Option, Some, Result, Err, refl, ap, sym, subst, ◌∙◌, arith, append_assoc}
use Rattle.std.specs.Prelude.{not, option_and_then}
use Rattle.std.specs.List.{after_first, before_first, position_or_len}
use Rattle.zn_base.specs.Lines.{is_newline, lines_of, with_first}
use Rattle.export_read.specs.Lines.{ended}
use Rattle.export_read.specs.Reading.{command_of}
use Rattle.export_read.specs.Drafts.{drafted, put}
use Rattle.export_read.specs.Halts.{Puts}
use Rattle.export_read.specs.declared.draft.Draft.{Draft}
use Rattle.export_read.specs.declared.halt.Halt.{Halt}
use Rattle.export_read.specs.declared.halt.Halt.TheVariants.{Memory, Refused}

abbrev pub first : List ℕ → List ℕ
first bytes = before_first is_newline bytes

abbrev pub behind : List ℕ → List ℕ
behind bytes = after_first is_newline bytes

pub cut_first : (b : ℕ) (bytes : List ℕ) → lines_of (b ∷ bytes) ≡ first (b ∷ bytes) ∷ lines_of (behind (b ∷ bytes))
cut_first b [] =
    elim (is_newline b) as (λ v. cond v ([] ∷ []) ((b ∷ []) ∷ []) ≡ take (cond (not v) 1 0) (b ∷ []) ∷ lines_of (drop (cond (not v) 1 0 + 1) (b ∷ []))) [ true ↦ refl | false ↦ refl ]
cut_first b (c ∷ bytes) =
    elim (is_newline b) as (λ v. cond v ([] ∷ lines_of (c ∷ bytes)) (with_first b (lines_of (c ∷ bytes)))
    ≡ take (cond (not v) (1 + position_or_len is_newline (c ∷ bytes)) 0) (b ∷ (c ∷ bytes)) ∷ lines_of (drop (cond (not v) (1 + position_or_len is_newline (c ∷ bytes)) 0 + 1) (b ∷ (c ∷ bytes)))) [
      | true ↦ refl
      | false ↦
          let n : 1 + position_or_len is_newline (c ∷ bytes) ≡ suc (position_or_len is_newline (c ∷ bytes)) = omega arith in
          let m : 1 + position_or_len is_newline (c ∷ bytes) + 1 ≡ suc (position_or_len is_newline (c ∷ bytes) + 1) = omega arith in
          rw (m, n) (ap (with_first b) (cut_first c bytes))
    ]

pub cut_line : (bytes : List ℕ) → 0 < length bytes → lines_of bytes ≡ first bytes ∷ lines_of (behind bytes)
cut_line [] h = absurd (omega (arith, h))
cut_line (b ∷ bytes) h = cut_first b bytes

pub behind_less : (bytes : List ℕ) → 0 < length bytes → length (behind bytes) < length bytes
behind_less bytes h = let n = length-drop (position_or_len is_newline bytes + 1) bytes in omega (arith, n, h)

pub lines_taken : (bytes : List ℕ) (left : ℕ) → 0 < length bytes → 0 < left → ended (take left (lines_of bytes)) ≡ (first bytes ++ 10 ∷ []) ++ ended (take (left - 1) (lines_of (behind bytes)))
lines_taken bytes zero h l = absurd (omega (arith, l))
lines_taken bytes (suc left) h l = let n : suc left - 1 ≡ left = omega arith in rw (cut_line bytes h, n) refl

pub none_left : (bytes : List ℕ) (left : ℕ) → length bytes ≡ 0 → ended (take left (lines_of bytes)) ≡ []
none_left [] zero h = refl
none_left [] (suc left) h = refl
none_left (b ∷ bytes) left h = absurd (omega (arith, h))

pub lines_fewer : (bytes : List ℕ) → 0 < length bytes → length (lines_of bytes) ≡ length (lines_of (behind bytes)) + 1
lines_fewer bytes h = ap length (cut_line bytes h) ∙ (let n : suc (length (lines_of (behind bytes))) ≡ length (lines_of (behind bytes)) + 1 = omega arith in n)

pub lines_few : (bytes : List ℕ) → length (lines_of bytes) ≤ length bytes
lines_few [] = omega arith
lines_few (b ∷ bytes) =
    let rest = lines_few bytes in
    elim (is_newline b) as (λ v. length (cond v ([] ∷ lines_of bytes) (with_first b (lines_of bytes))) ≤ suc (length bytes)) [
      | true ↦ omega (arith, rest)
      | false ↦ elim (lines_of bytes) as (λ l. length l ≤ length bytes → length (with_first b l) ≤ suc (length bytes)) [ [] ↦ λ g. omega arith | line ∷ lines ↦ λ g. omega (arith, g) ] rest
    ]

-- a line that is put leads on
pub line_put : (bytes : List ℕ) (d e : Draft) → 0 < length bytes → option_and_then (λ x. put x d) (command_of (first bytes)) ≡ Some e → drafted (lines_of bytes) d ≡ drafted (lines_of (behind bytes)) e
unfolding drafted
line_put bytes d e h is = ap (λ l. drafted l d) (cut_line bytes h) ∙ ap (option_and_then (drafted (lines_of (behind bytes)))) is

-- one that is not ends the reading
halts : (bytes : List ℕ) (d : Draft) (halt : Halt) (whole : Option Draft) → 0 < length bytes → (let r : Result Draft Halt = Err halt in Puts (option_and_then (λ x. put x d) (command_of (first bytes))) r)
    → drafted (lines_of bytes) d ≡ whole → (let r : Result Draft Halt = Err halt in Puts whole r)
unfolding drafted
halts bytes d Memory whole h is e = tt
halts bytes d Refused whole h is e = sym e ∙ ap (λ l. drafted l d) (cut_line bytes h) ∙ ap (option_and_then (drafted (lines_of (behind bytes)))) is

pub line_halted : (bytes line : List ℕ) (d : Draft) (halt : Halt) (whole : Option Draft) → 0 < length bytes → line ≡ first bytes
    → (let r : Result Draft Halt = Err halt in Puts (option_and_then (λ x. put x d) (command_of line)) r) → drafted (lines_of bytes) d ≡ whole → (let r : Result Draft Halt = Err halt in Puts whole r)
line_halted bytes line d halt whole some is h e =
    let r : Result Draft Halt = Err halt in
    let P : List ℕ → Type 0 = λ l. Puts (option_and_then (λ x. put x d) (command_of l)) r in
    halts bytes d halt whole some (subst P is h) e

pub lines_end : (bytes : List ℕ) (d : Draft) → length bytes ≡ 0 → drafted (lines_of bytes) d ≡ Some d
unfolding drafted
lines_end [] d h = refl
lines_end (b ∷ bytes) d h = absurd (omega (arith, h))

-- one more line at the end of those taken
pub front_more : (front new bytes line rest : List ℕ) (left : ℕ) (whole : List ℕ) → front ++ ended (take left (lines_of bytes)) ≡ whole → 0 < length bytes → 0 < left
    → line ≡ first bytes → rest ≡ behind bytes → new ≡ front ++ (line ++ 10 ∷ []) → new ++ ended (take (left - 1) (lines_of rest)) ≡ whole
front_more front new bytes line rest left whole h some more is gone put =
    let last = ended (take (left - 1) (lines_of (behind bytes))) in
    ap (λ l. l ++ ended (take (left - 1) (lines_of rest))) (put ∙ ap (λ l. front ++ (l ++ 10 ∷ [])) is) ∙ ap (λ r. (front ++ (first bytes ++ 10 ∷ [])) ++ ended (take (left - 1) (lines_of r))) gone
    ∙ append_assoc front (first bytes ++ 10 ∷ []) last ∙ ap (λ l. front ++ l) (sym (lines_taken bytes left some more)) ∙ h
