-- What the role of a byte says of the byte.
use Rattle.std.proofs.Common.{◌≡◌, ◌≢◌, ℕ, Bool, true, false, cond, ◌&&◌, nat_le, refl, arith}
use Rattle.std.specs.Prelude.{◌==◌}
use Rattle.std.proofs.lemmas.Bool.Decides.{nat_tests}
use Rattle.zn_base.specs.Text.{is_text_byte}
use Rattle.zonecfg_lex.specs.declared.scope.Role.{Role}
use Rattle.zonecfg_lex.specs.declared.scope.Role.TheVariants.{Blank, Letter, Sign, Quote, Stray}
use Rattle.zonecfg_lex.specs.declared.scope.Scope.{Scope}
use Rattle.zonecfg_lex.specs.declared.scope.Scope.TheVariants.{Between, InWord, Round, Square}
use Rattle.zonecfg_lex.specs.declared.token.TokenKind.{TokenKind}
use Rattle.zonecfg_lex.specs.declared.token.TokenKind.TheVariants.{ListOpen, Close, ListClose, Equals}
use Rattle.zonecfg_lex.specs.Tokens.{is_blank, is_mark, is_word, printable_role, role_between, role_in_bracket, role_in_word, role_of}

-- a byte that is not printable is a blank or stray
pub unprintable : (scope : Scope) (b : ℕ) → is_text_byte b ≡ false → role_of scope b ≡ cond (is_blank b) Blank Stray
unfolding role_of
unprintable scope b h =
    let quote : (b == 34) ≡ false = grind (arith, nat_tests) in
    let equals : (b == 61) ≡ false = grind (arith, nat_tests) in
    let range : (nat_le 33 b && nat_le b 126) ≡ false = grind (arith, nat_tests) in
    rw (quote, equals, range) refl

-- what counts is printable
pub printable : (scope : Scope) (b : ℕ) → role_of scope b ≢ Blank → role_of scope b ≢ Stray → is_text_byte b ≡ true
printable scope b blank stray =
    elim (is_text_byte b) as (λ v. is_text_byte b ≡ v → v ≡ true) [
      | true ↦ λ _. refl
      | false ↦ λ e. elim (is_blank b) as (λ v. role_of scope b ≡ cond v Blank Stray → false ≡ true) [
        | true ↦ λ f. absurd (blank f)
        | false ↦ λ f. absurd (stray f)
      ] (unprintable scope b e)
    ] refl

-- a role that is no sign of a word
abbrev NoWord : Role → Type 0
NoWord (Sign kind) = is_word kind ≡ false
NoWord role = Unit {0}

cond-NoWord : (v : Bool) (r s : Role) → NoWord r → NoWord s → NoWord (cond v r s)
cond-NoWord true r s h k = h
cond-NoWord false r s h k = k

in_word-NoWord : (b : ℕ) → NoWord (role_in_word b)
in_word-NoWord b = cond-NoWord (b == 59) _ _ refl (cond-NoWord (b == 40) _ _ refl (cond-NoWord (b == 41) _ _ tt tt))

in_bracket-NoWord : (closing : ℕ) (kind : TokenKind) (b : ℕ) → is_word kind ≡ false → NoWord (role_in_bracket closing kind b)
in_bracket-NoWord closing kind b h = cond-NoWord (b == 44) _ _ refl (cond-NoWord (b == closing) _ _ h (cond-NoWord (is_mark b) _ _ tt tt))

printable-NoWord : (scope : Scope) (b : ℕ) → NoWord (printable_role scope b)
printable-NoWord Between b = cond-NoWord (b == 91) _ _ refl (cond-NoWord (b == 93) _ _ tt (in_word-NoWord b))
printable-NoWord InWord b = in_word-NoWord b
printable-NoWord (Round place) b = in_bracket-NoWord 41 Close b refl
printable-NoWord (Square place) b = in_bracket-NoWord 93 ListClose b refl

role-NoWord : (scope : Scope) (b : ℕ) → NoWord (role_of scope b)
unfolding role_of
role-NoWord scope b =
    cond-NoWord (is_blank b) _ _ tt (cond-NoWord (b == 34) _ _ tt (cond-NoWord (b == 61) _ _ refl (cond-NoWord (nat_le 33 b && nat_le b 126) _ _ (printable-NoWord scope b) tt)))

-- no sign is a word
pub sign_no_word : (scope : Scope) (b : ℕ) (kind : TokenKind) → role_of scope b ≡ Sign kind → is_word kind ≡ false
sign_no_word scope b kind e = rw e at (role-NoWord scope b)

same_between : (b : ℕ) → role_in_word b ≢ Letter → role_in_word b ≡ role_between b
same_between b h =
    elim (b == 91) as (λ v. (b == 91) ≡ v → role_in_word b ≡ cond v (Sign ListOpen) (cond (b == 93) Stray (role_in_word b))) [
      | true ↦ λ e.
          let semi : (b == 59) ≡ false = grind (arith, nat_tests) in
          let open_ : (b == 40) ≡ false = grind (arith, nat_tests) in
          let close : (b == 41) ≡ false = grind (arith, nat_tests) in
          absurd (h (rw (semi, open_, close) refl))
      | false ↦ λ _. elim (b == 93) as (λ v. (b == 93) ≡ v → role_in_word b ≡ cond v Stray (role_in_word b)) [
        | true ↦ λ e.
            let semi : (b == 59) ≡ false = grind (arith, nat_tests) in
            let open_ : (b == 40) ≡ false = grind (arith, nat_tests) in
            let close : (b == 41) ≡ false = grind (arith, nat_tests) in
            absurd (h (rw (semi, open_, close) refl))
        | false ↦ λ _. refl
      ] refl
    ] refl

-- a byte that does not go on with a word is the same after it as between words
pub behind_word : (b : ℕ) → role_of InWord b ≢ Letter → role_of InWord b ≡ role_of Between b
unfolding role_of
behind_word b =
    elim (is_blank b) as (λ v. cond v Blank (cond (b == 34) Quote (cond (b == 61) (Sign Equals) (cond (nat_le 33 b && nat_le b 126) (role_in_word b) Stray))) ≢ Letter → cond v Blank (cond (b == 34) Quote (cond (b == 61) (Sign Equals) (cond (nat_le 33 b && nat_le b 126) (role_in_word b) Stray))) ≡ cond v Blank (cond (b == 34) Quote (cond (b == 61) (Sign Equals) (cond (nat_le 33 b && nat_le b 126) (role_between b) Stray)))) [
      | true ↦ λ _. refl
      | false ↦ elim (b == 34) as (λ v. cond v Quote (cond (b == 61) (Sign Equals) (cond (nat_le 33 b && nat_le b 126) (role_in_word b) Stray)) ≢ Letter → cond v Quote (cond (b == 61) (Sign Equals) (cond (nat_le 33 b && nat_le b 126) (role_in_word b) Stray)) ≡ cond v Quote (cond (b == 61) (Sign Equals) (cond (nat_le 33 b && nat_le b 126) (role_between b) Stray))) [
        | true ↦ λ _. refl
        | false ↦ elim (b == 61) as (λ v. cond v (Sign Equals) (cond (nat_le 33 b && nat_le b 126) (role_in_word b) Stray) ≢ Letter → cond v (Sign Equals) (cond (nat_le 33 b && nat_le b 126) (role_in_word b) Stray) ≡ cond v (Sign Equals) (cond (nat_le 33 b && nat_le b 126) (role_between b) Stray)) [
          | true ↦ λ _. refl
          | false ↦ elim (nat_le 33 b && nat_le b 126) as (λ v. cond v (role_in_word b) Stray ≢ Letter → cond v (role_in_word b) Stray ≡ cond v (role_between b) Stray) [
            | true ↦ same_between b
            | false ↦ λ _. refl
          ]
        ]
      ]
    ]
