-- What bytes are read as does not hang on where they stand.
use Rattle.std.proofs.Common.{◌≡◌, ◌+◌, ◌-◌, ℕ, true, false, cond, List, [], ◌∷◌, Option, Some, None, Result, Ok, Err, map, nat_lt, ◌&&◌, refl, ap, sym, subst, arith, ◌∙◌}
use Rattle.std.specs.Prelude.{◌==◌}
use Rattle.std.proofs.lemmas.Bool.{eqb-true, eq-eqb, ne_eqb}
use Rattle.zn_base.specs.Text.{is_text_byte}
use Rattle.zonecfg_lex.specs.declared.fault.LexFault.{LexFault}
use Rattle.zonecfg_lex.specs.declared.fault.LexFault.TheVariants.{StrayByte}
use Rattle.zonecfg_lex.specs.declared.scope.Role.{Role}
use Rattle.zonecfg_lex.specs.declared.scope.Role.TheVariants.{Blank, Letter, Sign, Quote, Stray}
use Rattle.zonecfg_lex.specs.declared.scope.Scope.{Scope}
use Rattle.zonecfg_lex.specs.declared.scope.Scope.TheVariants.{Between, InWord, Round, Square}
use Rattle.zonecfg_lex.specs.declared.token.Token.{Token}
use Rattle.zonecfg_lex.specs.declared.token.TokenKind.{TokenKind}
use Rattle.zonecfg_lex.specs.declared.token.TokenKind.TheVariants.{Word, Quoted, Equals, Comma, Open, Close, ListOpen, ListClose, Semi}
use Rattle.zonecfg_lex.specs.Subcommands.{counted_from}
use Rattle.zonecfg_lex.specs.Tokens.{behind, behind_sign, before_read, in_word, is_word, nothing_unless, open_at_end, or_stray, out_of_word, part_tokens_of, place_of, quote_behind, result_map, role_of, token, tokens_from, with_word_byte, word}

-- a token k places further on
abbrev right : ℕ → Token → Token
right k t = token t.kind (t.start + k) (t.end + k)

-- the second is the first k places further on; a fault is one too
abbrev Moved : ℕ → Result (List Token) LexFault → Result (List Token) LexFault → Type 0
Moved k (Ok us) (Ok ts) = ts ≡ map (right k) us
Moved k (Ok us) (Err fault) = ⊥
Moved k (Err fault) (Ok ts) = ⊥
Moved k (Err fault) (Err other) = Unit {0}

abbrev moved_quote : ℕ → Option ℕ → Option ℕ
moved_quote k None = None
moved_quote k (Some p) = Some (p + k)

abbrev moved_scope : ℕ → Scope → Scope
moved_scope k Between = Between
moved_scope k InWord = InWord
moved_scope k (Round p) = Round (p + k)
moved_scope k (Square p) = Square (p + k)

role_moved : (k : ℕ) (scope : Scope) (b : ℕ) → role_of (moved_scope k scope) b ≡ role_of scope b
unfolding role_of
role_moved k Between b = refl
role_moved k InWord b = refl
role_moved k (Round p) b = refl
role_moved k (Square p) b = refl

in_moved : (k : ℕ) (scope : Scope) → in_word (moved_scope k scope) ≡ moved_scope k (in_word scope)
in_moved k Between = refl
in_moved k InWord = refl
in_moved k (Round p) = refl
in_moved k (Square p) = refl

out_moved : (k : ℕ) (scope : Scope) → out_of_word (moved_scope k scope) ≡ moved_scope k (out_of_word scope)
out_moved k Between = refl
out_moved k InWord = refl
out_moved k (Round p) = refl
out_moved k (Square p) = refl

token_moved : (k : ℕ) (t u : Token) (read other : Result (List Token) LexFault) → ((ts : List Token) → u ∷ ts ≡ right k t ∷ ts) → Moved k read other → Moved k (result_map (λ ts. t ∷ ts) read) (result_map (λ ts. u ∷ ts) other)
token_moved k t u (Ok us) (Ok ts) e h = ap (λ vs. u ∷ vs) h ∙ e (map (right k) us)
token_moved k t u (Ok us) (Err fault) e h = h
token_moved k t u (Err fault) (Ok ts) e h = h
token_moved k t u (Err fault) (Err other) e h = tt

module _ (k p q : ℕ) (at : q ≡ p + k) where
  sign_moved : (scope : Scope) (kind : TokenKind) → behind_sign (moved_scope k scope) kind q ≡ moved_scope k (behind_sign scope kind p)
  sign_moved scope Word = out_moved k scope
  sign_moved scope Quoted = out_moved k scope
  sign_moved scope Equals = out_moved k scope
  sign_moved scope Comma = out_moved k scope
  sign_moved scope Open = ap Round at
  sign_moved scope Close = refl
  sign_moved scope ListOpen = ap Square at
  sign_moved scope ListClose = refl
  sign_moved scope Semi = out_moved k scope

  behind_moved : (scope : Scope) (role : Role) → behind (moved_scope k scope) role q ≡ moved_scope k (behind scope role p)
  behind_moved scope Blank = out_moved k scope
  behind_moved scope Letter = in_moved k scope
  behind_moved scope (Sign kind) = sign_moved scope kind
  behind_moved scope Quote = out_moved k scope
  behind_moved scope Stray = out_moved k scope

  quote_moved : (role : Role) → quote_behind role q ≡ moved_quote k (quote_behind role p)
  quote_moved Blank = refl
  quote_moved Letter = refl
  quote_moved (Sign kind) = refl
  quote_moved Quote = ap Some at
  quote_moved Stray = refl

  next : q + 1 ≡ p + 1 + k
  next = omega (arith, at)

  one_byte : (kind : TokenKind) (ts : List Token) → token kind q (q + 1) ∷ ts ≡ right k (token kind p (p + 1)) ∷ ts
  one_byte kind ts = ap (λ m. token kind m (q + 1) ∷ ts) at ∙ ap (λ m. token kind (p + k) m ∷ ts) next

  word_moved : (us : List Token) → with_word_byte q (map (right k) us) ≡ map (right k) (with_word_byte p us)
  word_moved [] = one_byte Word []
  word_moved (u ∷ us) =
      let test : (u.start + k == q + 1) ≡ (u.start == p + 1) = elim (u.start == p + 1) as (λ v. (u.start == p + 1) ≡ v → (u.start + k == q + 1) ≡ v) [
        | true ↦ λ e. let here : u.start ≡ p + 1 = eqb-true u.start (p + 1) e in eq-eqb (u.start + k) (q + 1) (omega (arith, here, at))
        | false ↦ λ e. ne_eqb (u.start + k) (q + 1) (λ h. let here : u.start ≡ p + 1 = omega (arith, h, at) in absurd (cc (e, eq-eqb u.start (p + 1) here)))
      ] refl in
      ap (λ v. cond (is_word u.kind && v) (word q (u.end + k) ∷ map (right k) us) (word q (q + 1) ∷ right k u ∷ map (right k) us)) test
      ∙ elim (is_word u.kind && (u.start == p + 1)) as (λ v. cond v (word q (u.end + k) ∷ map (right k) us) (word q (q + 1) ∷ right k u ∷ map (right k) us) ≡ map (right k) (cond v (word p u.end ∷ us) (word p (p + 1) ∷ u ∷ us))) [
        | true ↦ ap (λ m. word m (u.end + k) ∷ map (right k) us) at
        | false ↦ one_byte Word (right k u ∷ map (right k) us)
      ]

  stray_moved : (read other : Result (List Token) LexFault) → Moved k read other → Moved k (or_stray (Some p) read) (or_stray (Some q) other)
  stray_moved (Ok us) (Ok ts) h = tt
  stray_moved (Ok us) (Err fault) h = absurd h
  stray_moved (Err fault) (Ok ts) h = absurd h
  stray_moved (Err fault) (Err other) h =
      elim (nat_lt (place_of fault) p) as (λ v. Moved k (cond v (Err fault) (Err (StrayByte p))) (cond (nat_lt (place_of other) q) (Err other) (Err (StrayByte q)))) [
        | true ↦ elim (nat_lt (place_of other) q) as (λ v. Moved k (Err fault) (cond v (Err other) (Err (StrayByte q)))) [ true ↦ tt | false ↦ tt ]
        | false ↦ elim (nat_lt (place_of other) q) as (λ v. Moved k (Err (StrayByte p)) (cond v (Err other) (Err (StrayByte q)))) [ true ↦ tt | false ↦ tt ]
      ]

  letter_moved : (read other : Result (List Token) LexFault) → Moved k read other → Moved k (result_map (with_word_byte p) read) (result_map (with_word_byte q) other)
  letter_moved (Ok us) (Ok ts) h = ap (with_word_byte q) h ∙ word_moved us
  letter_moved (Ok us) (Err fault) h = h
  letter_moved (Err fault) (Ok ts) h = h
  letter_moved (Err fault) (Err other) h = tt

  before_moved : (role : Role) (read other : Result (List Token) LexFault) → Moved k read other → Moved k (before_read role p read) (before_read role q other)
  before_moved Blank read other h = h
  before_moved Letter read other h = letter_moved read other h
  before_moved (Sign kind) read other h = token_moved k (token kind p (p + 1)) (token kind q (q + 1)) read other (λ ts. one_byte kind ts) h
  before_moved Quote read other h = h
  before_moved Stray read other h = stray_moved read other h

nothing_moved : (k : ℕ) (quote : Option ℕ) (scope : Scope) → Moved k (nothing_unless (open_at_end quote scope)) (nothing_unless (open_at_end (moved_quote k quote) (moved_scope k scope)))
nothing_moved k None Between = refl
nothing_moved k None InWord = refl
nothing_moved k None (Round p) = tt
nothing_moved k None (Square p) = tt
nothing_moved k (Some p) Between = tt
nothing_moved k (Some p) InWord = tt
nothing_moved k (Some p) (Round q) = tt
nothing_moved k (Some p) (Square q) = tt

-- what is read k places further on is what is read here, moved
moves : (xs : List ℕ) (k : ℕ) (quote : Option ℕ) (scope : Scope) (p q : ℕ) → q ≡ p + k → Moved k (tokens_from quote scope p xs) (tokens_from (moved_quote k quote) (moved_scope k scope) q xs)
moves [] k quote scope p q at = nothing_moved k quote scope
moves (b ∷ xs) k None scope p q at =
    let role = role_of scope b in
    let rest = moves xs k (quote_behind role p) (behind scope role p) (p + 1) (q + 1) (omega (arith, at)) in
    let same : tokens_from (moved_quote k (quote_behind role p)) (moved_scope k (behind scope role p)) (q + 1) xs ≡ tokens_from (quote_behind role q) (behind (moved_scope k scope) role q) (q + 1) xs =
    sym (ap (λ o. tokens_from o (behind (moved_scope k scope) role q) (q + 1) xs) (quote_moved k p q at role) ∙ ap (λ s. tokens_from (moved_quote k (quote_behind role p)) s (q + 1) xs) (behind_moved k p q at scope role)) in
    let there = before_moved k p q at role (tokens_from (quote_behind role p) (behind scope role p) (p + 1) xs) (tokens_from (quote_behind role q) (behind (moved_scope k scope) role q) (q + 1) xs) (subst (Moved k (tokens_from (quote_behind role p) (behind scope role p) (p + 1) xs)) same rest) in
    subst (λ r. Moved k (before_read role p (tokens_from (quote_behind role p) (behind scope role p) (p + 1) xs)) (before_read r q (tokens_from (quote_behind r q) (behind (moved_scope k scope) r q) (q + 1) xs))) (sym (role_moved k scope b)) there
moves (b ∷ xs) k (Some start) scope p q at =
    let closed = moves xs k None scope (p + 1) (q + 1) (omega (arith, at)) in
    let quoted = moves xs k (Some start) scope (p + 1) (q + 1) (omega (arith, at)) in
    elim (b == 34) as (λ v. Moved k (cond v (result_map (λ ts. token Quoted start p ∷ ts) (tokens_from None scope (p + 1) xs)) (or_stray (cond (is_text_byte b) None (Some p)) (tokens_from (Some start) scope (p + 1) xs)))
    (cond v (result_map (λ ts. token Quoted (start + k) q ∷ ts) (tokens_from None (moved_scope k scope) (q + 1) xs)) (or_stray (cond (is_text_byte b) None (Some q)) (tokens_from (Some (start + k)) (moved_scope k scope) (q + 1) xs)))) [
      | true ↦ token_moved k (token Quoted start p) (token Quoted (start + k) q) (tokens_from None scope (p + 1) xs) (tokens_from None (moved_scope k scope) (q + 1) xs) (λ ts. ap (λ m. token Quoted (start + k) m ∷ ts) at) closed
      | false ↦ elim (is_text_byte b) as (λ v. Moved k (or_stray (cond v None (Some p)) (tokens_from (Some start) scope (p + 1) xs)) (or_stray (cond v None (Some q)) (tokens_from (Some (start + k)) (moved_scope k scope) (q + 1) xs))) [
        | true ↦ quoted
        | false ↦ stray_moved k p q at (tokens_from (Some start) scope (p + 1) xs) (tokens_from (Some (start + k)) (moved_scope k scope) (q + 1) xs) quoted
      ]
    ]

back : (k : ℕ) (us : List Token) → us ≡ map (counted_from k) (map (right k) us)
back k [] = refl
back k (u ∷ us) =
    let start : u.start ≡ u.start + k - k = omega arith in
    let end : u.end ≡ u.end + k - k = omega arith in
    ap (λ m. token u.kind m u.end ∷ us) start ∙ ap (λ m. token u.kind (u.start + k - k) m ∷ us) end ∙ ap (λ vs. token u.kind (u.start + k - k) (u.end + k - k) ∷ vs) (back k us)

came_from : (k : ℕ) (read other : Result (List Token) LexFault) (ts : List Token) → Moved k read other → other ≡ Ok ts → read ≡ Ok (map (counted_from k) ts)
came_from k (Ok us) (Ok vs) ts h e = let f : map (right k) us ≡ ts = cc (h, e) in ap Ok (back k us ∙ ap (map (counted_from k)) f)
came_from k (Ok us) (Err fault) ts h e = absurd h
came_from k (Err fault) (Ok vs) ts h e = absurd h
came_from k (Err fault) (Err other) ts h e = absurd (cc)

-- what is read between words at a place is read alone, counted from there
pub alone : (k : ℕ) (xs : List ℕ) (ts : List Token) → tokens_from None Between k xs ≡ Ok ts → part_tokens_of xs ≡ Ok (map (counted_from k) ts)
unfolding part_tokens_of
alone k xs ts h = came_from k (tokens_from None Between 0 xs) (tokens_from None Between k xs) ts (moves xs k None Between 0 k (omega arith)) h
