-- What stands before the first semicolon, and what follows it, is read alone as it is read in its line.
use Rattle.std.proofs.Common.{◌≡◌, ◌<◌, ◌+◌, ◌⊎◌, inl, inr, ℕ, suc, Bool, true, false, cond, List, [], ◌∷◌, Option, Some, None, Result, Ok, Err, take, drop, length, nat_lt, nat_le, ◌&&◌, refl, ap, sym, subst, arith, ◌∙◌}
use Rattle.std.specs.Prelude.{◌==◌}
use Rattle.zn_base.specs.Text.{is_text_byte}
use Rattle.zonecfg_lex.specs.declared.fault.LexFault.{LexFault}
use Rattle.zonecfg_lex.specs.declared.fault.LexFault.TheVariants.{StrayByte}
use Rattle.zonecfg_lex.specs.declared.scope.Role.{Role}
use Rattle.zonecfg_lex.specs.declared.scope.Role.TheVariants.{Blank, Letter, Sign, Quote, Stray}
use Rattle.zonecfg_lex.specs.declared.scope.Scope.{Scope}
use Rattle.zonecfg_lex.specs.declared.scope.Scope.TheVariants.{Between, InWord, Round, Square}
use Rattle.zonecfg_lex.specs.declared.token.Token.{Token}
use Rattle.zonecfg_lex.specs.declared.token.TokenKind.{TokenKind}
use Rattle.zonecfg_lex.specs.declared.token.TokenKind.TheVariants.{Word, Quoted, Equals, Comma, Open, Close, ListOpen, ListClose, Semi}
use Rattle.zonecfg_lex.specs.Parts.{is_semi}
use Rattle.zonecfg_lex.specs.Tokens.{behind, before_read, is_blank, is_mark, is_word, nothing_unless, open_at_end, or_stray, place_of, printable_role, quote_behind, result_map, role_in_bracket, role_of, token, tokens_from, with_word_byte, word}

-- the tokens before the first semicolon, those after it, and itself
abbrev pub front : List Token → List Token
front [] = []
front (t ∷ ts) = cond (is_semi t.kind) [] (t ∷ front ts)

abbrev pub past : List Token → List Token
past [] = []
past (t ∷ ts) = cond (is_semi t.kind) ts (past ts)

abbrev pub first_semi : List Token → Option Token
first_semi [] = None
first_semi (t ∷ ts) = cond (is_semi t.kind) (Some t) (first_semi ts)

-- the bytes before a semicolon give the tokens before it, and those after it the others
pub record IsCut (quote : Option ℕ) (scope : Scope) (p : ℕ) (xs : List ℕ) (ts : List Token) (t : Token) : Type 0 where
  pub n : ℕ
  pub at : t ≡ token Semi (p + n) (p + n + 1)
  pub inside : n < length xs
  pub before : tokens_from quote scope p (take n xs) ≡ Ok (front ts)
  pub after : tokens_from None Between (p + n + 1) (drop (suc n) xs) ≡ Ok (past ts)

abbrev pub CutAt : Option ℕ → Scope → ℕ → List ℕ → List Token → Option Token → Type 0
CutAt quote scope p xs ts None = Unit {0}
CutAt quote scope p xs ts (Some t) = IsCut quote scope p xs ts t

abbrev pub Cuts : Option ℕ → Scope → ℕ → List ℕ → Result (List Token) LexFault → Type 0
Cuts quote scope p xs (Ok ts) = CutAt quote scope p xs ts (first_semi ts)
Cuts quote scope p xs (Err fault) = Unit {0}

-- what is added to tokens before a semicolon
record Adds (f : List Token → List Token) : Type 0 where
  semi : (ts : List Token) → first_semi (f ts) ≡ first_semi ts
  before : (ts : List Token) → front (f ts) ≡ f (front ts)
  after : (ts : List Token) → past (f ts) ≡ past ts

adds_none : Adds (λ ts. ts)
adds_none = record { semi = λ ts. refl; before = λ ts. refl; after = λ ts. refl }

adds_token : (t : Token) → is_semi t.kind ≡ false → Adds (λ ts. t ∷ ts)
adds_token t e = record {
  semi = λ ts. ap (λ v. cond v (Some t) (first_semi ts)) e;
  before = λ ts. ap (λ v. cond v [] (t ∷ front ts)) e;
  after = λ ts. ap (λ v. cond v ts (past ts)) e;
}

-- a token's kind where it is a semicolon or not
semi_no_word : (kind : TokenKind) → is_semi kind ≡ true → is_word kind ≡ false
semi_no_word Word h = absurd (cc)
semi_no_word Quoted h = refl
semi_no_word Equals h = refl
semi_no_word Comma h = refl
semi_no_word Open h = refl
semi_no_word Close h = refl
semi_no_word ListOpen h = refl
semi_no_word ListClose h = refl
semi_no_word Semi h = refl

-- no word byte joins a semicolon
letter_at_semi : (p : ℕ) (t : Token) (ts : List Token) → is_semi t.kind ≡ true → with_word_byte p (t ∷ ts) ≡ word p (p + 1) ∷ t ∷ ts
letter_at_semi p t ts e = ap (λ v. cond (v && (t.start == p + 1)) (word p t.end ∷ ts) (word p (p + 1) ∷ t ∷ ts)) (semi_no_word t.kind e)

front_at : (t : Token) (ts : List Token) (v : Bool) → is_semi t.kind ≡ v → front (t ∷ ts) ≡ cond v [] (t ∷ front ts)
front_at t ts v e = ap (λ v. cond v [] (t ∷ front ts)) e

past_at : (t : Token) (ts : List Token) (v : Bool) → is_semi t.kind ≡ v → past (t ∷ ts) ≡ cond v ts (past ts)
past_at t ts v e = ap (λ v. cond v ts (past ts)) e

first_at : (t : Token) (ts : List Token) (v : Bool) → is_semi t.kind ≡ v → first_semi (t ∷ ts) ≡ cond v (Some t) (first_semi ts)
first_at t ts v e = ap (λ v. cond v (Some t) (first_semi ts)) e

letter_semi : (p : ℕ) (ts : List Token) → first_semi (with_word_byte p ts) ≡ first_semi ts
letter_semi p [] = refl
letter_semi p (t ∷ ts) =
    elim (is_semi t.kind) as (λ v. is_semi t.kind ≡ v → first_semi (with_word_byte p (t ∷ ts)) ≡ first_semi (t ∷ ts)) [
      | true ↦ λ e. ap first_semi (letter_at_semi p t ts e)
      | false ↦ λ e. elim (is_word t.kind && (t.start == p + 1)) as (λ v. first_semi (cond v (word p t.end ∷ ts) (word p (p + 1) ∷ t ∷ ts)) ≡ first_semi (t ∷ ts)) [
        | true ↦ sym (first_at t ts false e)
        | false ↦ refl
      ]
    ] refl

letter_past : (p : ℕ) (ts : List Token) → past (with_word_byte p ts) ≡ past ts
letter_past p [] = refl
letter_past p (t ∷ ts) =
    elim (is_semi t.kind) as (λ v. is_semi t.kind ≡ v → past (with_word_byte p (t ∷ ts)) ≡ past (t ∷ ts)) [
      | true ↦ λ e. ap past (letter_at_semi p t ts e)
      | false ↦ λ e. elim (is_word t.kind && (t.start == p + 1)) as (λ v. past (cond v (word p t.end ∷ ts) (word p (p + 1) ∷ t ∷ ts)) ≡ past (t ∷ ts)) [
        | true ↦ sym (past_at t ts false e)
        | false ↦ refl
      ]
    ] refl

letter_front : (p : ℕ) (ts : List Token) → front (with_word_byte p ts) ≡ with_word_byte p (front ts)
letter_front p [] = refl
letter_front p (t ∷ ts) =
    elim (is_semi t.kind) as (λ v. is_semi t.kind ≡ v → front (with_word_byte p (t ∷ ts)) ≡ with_word_byte p (front (t ∷ ts))) [
      | true ↦ λ e.
          let none : front (t ∷ ts) ≡ [] = front_at t ts true e in
          ap front (letter_at_semi p t ts e) ∙ ap (λ us. word p (p + 1) ∷ us) none ∙ sym (ap (with_word_byte p) none)
      | false ↦ λ e.
          let more : front (t ∷ ts) ≡ t ∷ front ts = front_at t ts false e in
          elim (is_word t.kind && (t.start == p + 1)) as (λ v. front (cond v (word p t.end ∷ ts) (word p (p + 1) ∷ t ∷ ts)) ≡ cond v (word p t.end ∷ front ts) (word p (p + 1) ∷ t ∷ front ts)) [
            | true ↦ refl
            | false ↦ ap (λ us. word p (p + 1) ∷ us) more
          ] ∙ sym (ap (with_word_byte p) more)
    ] refl

adds_letter : (p : ℕ) → Adds (with_word_byte p)
adds_letter p = record { semi = letter_semi p; before = letter_front p; after = letter_past p }

-- a byte more before what was cut
later : (quote inner : Option ℕ) (scope within : Scope) (p b : ℕ) (xs : List ℕ) (ts us : List Token) (t : Token) (cut : IsCut inner within (p + 1) xs us t)
    → tokens_from quote scope p (b ∷ take cut.n xs) ≡ Ok (front ts) → past ts ≡ past us → IsCut quote scope p (b ∷ xs) ts t
later quote inner scope within p b xs ts us t cut before after =
    let there : p + 1 + cut.n ≡ p + suc cut.n = omega arith in
    record {
      n = suc cut.n;
      at = cut.at ∙ ap (λ k. token Semi k (k + 1)) there;
      inside = omega (arith, cut.inside);
      before = before;
      after = ap (λ k. tokens_from None Between (k + 1) (drop (suc cut.n) xs)) (sym there) ∙ cut.after ∙ ap Ok (sym after);
    }

-- what is read after a byte that adds to the tokens is cut where it was
passes : (f : List Token → List Token) (quote inner : Option ℕ) (scope within : Scope) (p b : ℕ) (xs : List ℕ) (read : Result (List Token) LexFault) → Adds f
    → ((ys : List ℕ) (us : List Token) → tokens_from inner within (p + 1) ys ≡ Ok us → tokens_from quote scope p (b ∷ ys) ≡ Ok (f us))
    → Cuts inner within (p + 1) xs read → Cuts quote scope p (b ∷ xs) (result_map f read)
passes f quote inner scope within p b xs (Err fault) adds step h = tt
passes f quote inner scope within p b xs (Ok us) adds step h =
    elim (first_semi us) as (λ o. CutAt inner within (p + 1) xs us o → (first_semi (f us) ≡ o) → CutAt quote scope p (b ∷ xs) (f us) (first_semi (f us))) [
      | None ↦ λ _ e. subst (CutAt quote scope p (b ∷ xs) (f us)) (sym e) tt
      | Some t ↦ λ cut e. subst (CutAt quote scope p (b ∷ xs) (f us)) (sym e)
          (later quote inner scope within p b xs (f us) us t cut (step (take cut.n xs) (front us) cut.before ∙ ap Ok (sym (adds.before us))) (adds.after us))
    ] h (adds.semi us)

same_read : (read : Result (List Token) LexFault) → result_map (λ ts. ts) read ≡ read
same_read (Ok ts) = refl
same_read (Err fault) = refl

-- the same of a byte that adds no token
passes_by : (quote inner : Option ℕ) (scope within : Scope) (p b : ℕ) (xs : List ℕ) (read : Result (List Token) LexFault)
    → ((ys : List ℕ) (us : List Token) → tokens_from inner within (p + 1) ys ≡ Ok us → tokens_from quote scope p (b ∷ ys) ≡ Ok us)
    → Cuts inner within (p + 1) xs read → Cuts quote scope p (b ∷ xs) read
passes_by quote inner scope within p b xs read step h =
    subst (Cuts quote scope p (b ∷ xs)) (same_read read) (passes (λ ts. ts) quote inner scope within p b xs read adds_none step h)

-- a stray byte leaves nothing to cut
stray_cut : (quote : Option ℕ) (scope : Scope) (p place : ℕ) (xs : List ℕ) (read : Result (List Token) LexFault) → Cuts quote scope p xs (or_stray (Some place) read)
stray_cut quote scope p place xs (Ok ts) = tt
stray_cut quote scope p place xs (Err fault) =
    elim (nat_lt (place_of fault) place) as (λ v. Cuts quote scope p xs (cond v (Err fault) (Err (StrayByte place)))) [ true ↦ tt | false ↦ tt ]

nothing_cut : (quote : Option ℕ) (scope : Scope) (p : ℕ) (fault : Option LexFault) → Cuts quote scope p [] (nothing_unless fault)
nothing_cut quote scope p None = tt
nothing_cut quote scope p (Some fault) = tt

-- no semicolon of a bracket is a sign
NoSemi : Role → Type 0
NoSemi (Sign kind) = is_semi kind ≡ false
NoSemi role = Unit {0}

cond-NoSemi : (v : Bool) (r s : Role) → NoSemi r → NoSemi s → NoSemi (cond v r s)
unfolding NoSemi
cond-NoSemi true r s h k = h
cond-NoSemi false r s h k = k

bracket-NoSemi : (scope : Scope) (closing : ℕ) (kind : TokenKind) (b : ℕ) → is_semi kind ≡ false → printable_role scope b ≡ role_in_bracket closing kind b → NoSemi (role_of scope b)
unfolding NoSemi role_of
bracket-NoSemi scope closing kind b h e =
    let bracket : NoSemi (role_in_bracket closing kind b) = cond-NoSemi (b == 44) _ _ refl (cond-NoSemi (b == closing) _ _ h (cond-NoSemi (is_mark b) _ _ tt tt)) in
    cond-NoSemi (is_blank b) _ _ tt (cond-NoSemi (b == 34) _ _ tt (cond-NoSemi (b == 61) _ _ refl (cond-NoSemi (nat_le 33 b && nat_le b 126) _ _ (subst NoSemi (sym e) bracket) tt)))

no_semi : (role : Role) → NoSemi role → role ≡ Sign Semi → ⊥
unfolding NoSemi
no_semi role h e = cc (subst NoSemi e h)

-- a semicolon that is a sign stands outside brackets
outside : (scope : Scope) (b : ℕ) → role_of scope b ≡ Sign Semi → (scope ≡ Between) ⊎ (scope ≡ InWord)
outside Between b e = inl refl
outside InWord b e = inr refl
outside (Round place) b e = absurd (no_semi _ (bracket-NoSemi (Round place) 41 Close b refl refl) e)
outside (Square place) b e = absurd (no_semi _ (bracket-NoSemi (Square place) 93 ListClose b refl refl) e)

-- what is read of a byte whose role is known
by_role : (scope : Scope) (p b : ℕ) (ys : List ℕ) (role : Role) → role_of scope b ≡ role → tokens_from None scope p (b ∷ ys) ≡ before_read role p (tokens_from (quote_behind role p) (behind scope role p) (p + 1) ys)
by_role scope p b ys role e = ap (λ role. before_read role p (tokens_from (quote_behind role p) (behind scope role p) (p + 1) ys)) e

semi_here : (scope : Scope) (p b : ℕ) (xs : List ℕ) (read : Result (List Token) LexFault) → (scope ≡ Between) ⊎ (scope ≡ InWord) → tokens_from None Between (p + 1) xs ≡ read
    → Cuts None scope p (b ∷ xs) (result_map (λ ts. token Semi p (p + 1) ∷ ts) read)
semi_here scope p b xs (Err fault) at e = tt
semi_here scope p b xs (Ok us) at e =
    let here : p ≡ p + 0 = omega arith in
    let open_at_semi : nothing_unless (open_at_end None scope) ≡ Ok [] = elim at [ inl f ↦ ap (λ s. nothing_unless (open_at_end None s)) f | inr f ↦ ap (λ s. nothing_unless (open_at_end None s)) f ] in
    record {
      n = 0;
      at = ap (λ k. token Semi k (k + 1)) here;
      inside = omega arith;
      before = open_at_semi;
      after = ap (λ k. tokens_from None Between (k + 1) xs) (sym here) ∙ e;
    }

sign_cuts : (scope : Scope) (p b : ℕ) (xs : List ℕ) (kind : TokenKind) → role_of scope b ≡ Sign kind → is_semi kind ≡ false → Cuts None (behind scope (Sign kind) p) (p + 1) xs (tokens_from None (behind scope (Sign kind) p) (p + 1) xs)
    → Cuts None scope p (b ∷ xs) (before_read (Sign kind) p (tokens_from None (behind scope (Sign kind) p) (p + 1) xs))
sign_cuts scope p b xs kind e plain h =
    passes (λ ts. token kind p (p + 1) ∷ ts) None None scope (behind scope (Sign kind) p) p b xs _ (adds_token (token kind p (p + 1)) plain)
    (λ ys us f. by_role scope p b ys (Sign kind) e ∙ ap (result_map (λ ts. token kind p (p + 1) ∷ ts)) f) h

semi_cuts : (scope : Scope) (p b : ℕ) (xs : List ℕ) → role_of scope b ≡ Sign Semi → Cuts None scope p (b ∷ xs) (before_read (Sign Semi) p (tokens_from None (behind scope (Sign Semi) p) (p + 1) xs))
semi_cuts scope p b xs e =
    let at = outside scope b e in
    let left : behind scope (Sign Semi) p ≡ Between = elim at [ inl f ↦ ap (λ s. behind s (Sign Semi) p) f | inr f ↦ ap (λ s. behind s (Sign Semi) p) f ] in
    semi_here scope p b xs (tokens_from None (behind scope (Sign Semi) p) (p + 1) xs) at (ap (λ s. tokens_from None s (p + 1) xs) (sym left))

role_cuts : (scope : Scope) (p b : ℕ) (xs : List ℕ) (role : Role) → role_of scope b ≡ role → Cuts (quote_behind role p) (behind scope role p) (p + 1) xs (tokens_from (quote_behind role p) (behind scope role p) (p + 1) xs)
    → Cuts None scope p (b ∷ xs) (before_read role p (tokens_from (quote_behind role p) (behind scope role p) (p + 1) xs))
role_cuts scope p b xs Blank e h = passes_by None None scope (behind scope Blank p) p b xs (tokens_from (quote_behind Blank p) (behind scope Blank p) (p + 1) xs) (λ ys us f. by_role scope p b ys Blank e ∙ f) h
role_cuts scope p b xs Letter e h = passes (with_word_byte p) None None scope (behind scope Letter p) p b xs (tokens_from (quote_behind Letter p) (behind scope Letter p) (p + 1) xs) (adds_letter p) (λ ys us f. by_role scope p b ys Letter e ∙ ap (result_map (with_word_byte p)) f) h
role_cuts scope p b xs (Sign Word) e h = sign_cuts scope p b xs Word e refl h
role_cuts scope p b xs (Sign Quoted) e h = sign_cuts scope p b xs Quoted e refl h
role_cuts scope p b xs (Sign Equals) e h = sign_cuts scope p b xs Equals e refl h
role_cuts scope p b xs (Sign Comma) e h = sign_cuts scope p b xs Comma e refl h
role_cuts scope p b xs (Sign Open) e h = sign_cuts scope p b xs Open e refl h
role_cuts scope p b xs (Sign Close) e h = sign_cuts scope p b xs Close e refl h
role_cuts scope p b xs (Sign ListOpen) e h = sign_cuts scope p b xs ListOpen e refl h
role_cuts scope p b xs (Sign ListClose) e h = sign_cuts scope p b xs ListClose e refl h
role_cuts scope p b xs (Sign Semi) e h = semi_cuts scope p b xs e
role_cuts scope p b xs Quote e h = passes_by None (Some p) scope (behind scope Quote p) p b xs (tokens_from (quote_behind Quote p) (behind scope Quote p) (p + 1) xs) (λ ys us f. by_role scope p b ys Quote e ∙ f) h
role_cuts scope p b xs Stray e h = stray_cut None scope p p (b ∷ xs) _

-- what is read inside a quote
abbrev in_quote : Bool → Bool → ℕ → Scope → ℕ → List ℕ → Result (List Token) LexFault
in_quote ends text start scope p xs =
    cond ends (result_map (λ ts. token Quoted start p ∷ ts) (tokens_from None scope (p + 1) xs)) (or_stray (cond text None (Some p)) (tokens_from (Some start) scope (p + 1) xs))

by_quote : (start : ℕ) (scope : Scope) (p b : ℕ) (ys : List ℕ) (ends text : Bool) → (b == 34) ≡ ends → is_text_byte b ≡ text → tokens_from (Some start) scope p (b ∷ ys) ≡ in_quote ends text start scope p ys
by_quote start scope p b ys ends text e f = ap (λ v. in_quote v (is_text_byte b) start scope p ys) e ∙ ap (λ v. in_quote ends v start scope p ys) f

quote_cuts : (start : ℕ) (scope : Scope) (p b : ℕ) (xs : List ℕ) (ends text : Bool) → (b == 34) ≡ ends → is_text_byte b ≡ text
    → Cuts None scope (p + 1) xs (tokens_from None scope (p + 1) xs) → Cuts (Some start) scope (p + 1) xs (tokens_from (Some start) scope (p + 1) xs)
    → Cuts (Some start) scope p (b ∷ xs) (in_quote ends text start scope p xs)
quote_cuts start scope p b xs true text e f h k =
    passes (λ ts. token Quoted start p ∷ ts) (Some start) None scope scope p b xs (tokens_from None scope (p + 1) xs) (adds_token (token Quoted start p) refl)
    (λ ys us g. by_quote start scope p b ys true text e f ∙ ap (result_map (λ ts. token Quoted start p ∷ ts)) g) h
quote_cuts start scope p b xs false true e f h k = passes_by (Some start) (Some start) scope scope p b xs (tokens_from (Some start) scope (p + 1) xs) (λ ys us g. by_quote start scope p b ys false true e f ∙ g) k
quote_cuts start scope p b xs false false e f h k = stray_cut (Some start) scope p p (b ∷ xs) _

-- what is read of bytes is cut at its first semicolon
pub cuts : (xs : List ℕ) (quote : Option ℕ) (scope : Scope) (p : ℕ) → Cuts quote scope p xs (tokens_from quote scope p xs)
cuts [] quote scope p = nothing_cut quote scope p (open_at_end quote scope)
cuts (b ∷ xs) None scope p =
    let role = role_of scope b in
    role_cuts scope p b xs role refl (cuts xs (quote_behind role p) (behind scope role p) (p + 1))
cuts (b ∷ xs) (Some start) scope p = quote_cuts start scope p b xs (b == 34) (is_text_byte b) refl refl (cuts xs None scope (p + 1)) (cuts xs (Some start) scope (p + 1))

pub cut_at : (quote : Option ℕ) (scope : Scope) (p : ℕ) (xs : List ℕ) (ts : List Token) (t : Token) → tokens_from quote scope p xs ≡ Ok ts → first_semi ts ≡ Some t → IsCut quote scope p xs ts t
cut_at quote scope p xs ts t e f = subst (CutAt quote scope p xs ts) f (subst (Cuts quote scope p xs) e (cuts xs quote scope p))
