-- A run of word bytes is one token.
use Rattle.std.proofs.Common.{◌≡◌, ◌≢◌, ◌≤◌, ◌<◌, ◌+◌, ◌-◌, ℕ, zero, suc, true, false, cond, ◌&&◌, nat_lt, List, [], ◌∷◌, Option, Some, None, Result, Ok, Err, get_or, drop, length, length-drop, refl, ap, sym, subst, arith, ◌∙◌}
use Rattle.std.specs.Prelude.{◌==◌}
use Rattle.std.proofs.lemmas.List.{get_or-drop, drop-drop, drop_more, drop_all}
use Rattle.std.proofs.lemmas.Bool.Decides.{nat_tests}
use Rattle.zn_base.specs.Text.{is_text_byte}
use Rattle.zonecfg_lex.specs.declared.fault.LexFault.{LexFault}
use Rattle.zonecfg_lex.specs.declared.fault.LexFault.TheVariants.{StrayByte}
use Rattle.zonecfg_lex.specs.declared.scope.Role.{Role}
use Rattle.zonecfg_lex.specs.declared.scope.Role.TheVariants.{Blank, Letter, Sign, Quote, Stray}
use Rattle.zonecfg_lex.specs.declared.scope.Scope.{Scope}
use Rattle.zonecfg_lex.specs.declared.scope.Scope.TheVariants.{Between, InWord, Round, Square}
use Rattle.zonecfg_lex.specs.declared.token.Token.{Token}
use Rattle.zonecfg_lex.specs.declared.token.TokenKind.{TokenKind}
use Rattle.zonecfg_lex.specs.declared.token.TokenKind.TheVariants.{Quoted, Word, Equals, Comma, Open, Close, ListOpen, ListClose, Semi}
use Rattle.zonecfg_lex.specs.Tokens.{behind, before_read, in_word, is_word, nothing_unless, open_at_end, or_stray, place_of, quote_behind, result_map, role_of, token, tokens_from, with_word_byte, word}
use Rattle.zonecfg_lex.proofs.Rising.{ReadsSoundly, first_of_rest, reads_soundly}
use Rattle.zonecfg_lex.proofs.Roles.{behind_word, sign_no_word}

-- one more token, and then those that were read
abbrev pub with_token : Token → Result (List Token) LexFault → Result (List Token) LexFault
with_token t read = result_map (λ us. t ∷ us) read

-- the first n bytes go on with a word
abbrev pub Letters : Scope → ℕ → List ℕ → Type 0
Letters scope zero xs = Unit {0}
Letters scope (suc n) [] = ⊥
Letters scope (suc n) (x ∷ xs) = (role_of scope x ≡ Letter) × Letters scope n xs

-- no word goes on here
abbrev pub Stops : Scope → List ℕ → Type 0
Stops scope [] = Unit {0}
Stops scope (x ∷ xs) = role_of scope x ≢ Letter

-- no word begins what was read at a place
abbrev NoWordAt : ℕ → Result (List Token) LexFault → Type 0
NoWordAt q (Ok []) = Unit {0}
NoWordAt q (Ok (t ∷ ts)) = (is_word t.kind && (t.start == q)) ≡ false
NoWordAt q (Err fault) = Unit {0}

no_word-token : (q : ℕ) (t : Token) (read : Result (List Token) LexFault) → is_word t.kind ≡ false → NoWordAt q (with_token t read)
no_word-token q t (Ok ts) h = ap (λ v. v && (t.start == q)) h
no_word-token q t (Err fault) h = tt

no_word-stray : (q : ℕ) (stray : Option ℕ) (read : Result (List Token) LexFault) → NoWordAt q read → NoWordAt q (or_stray stray read)
no_word-stray q None read h = h
no_word-stray q (Some place) (Ok ts) h = tt
no_word-stray q (Some place) (Err fault) h =
    elim (nat_lt (place_of fault) place) as (λ v. NoWordAt q (cond v (Err fault) (Err (StrayByte place)))) [ true ↦ tt | false ↦ tt ]

no_word-later : (line : List ℕ) (q p : ℕ) (read : Result (List Token) LexFault) → q < p → ReadsSoundly line p read → NoWordAt q read
no_word-later line q p (Ok []) l h = tt
no_word-later line q p (Ok (t ∷ ts)) l h =
    let e : (t.start == q) ≡ false = grind (arith, nat_tests, h.0) in
    rw e (elim (is_word t.kind) as (λ v. (v && false) ≡ false) [ true ↦ refl | false ↦ refl ])
no_word-later line q p (Err fault) l h = tt

no_word-nothing : (q : ℕ) (fault : Option LexFault) → NoWordAt q (nothing_unless fault)
no_word-nothing q None = tt
no_word-nothing q (Some fault) = tt

no_word-quote : (q start p : ℕ) (scope : Scope) (xs : List ℕ) → NoWordAt q (tokens_from (Some start) scope p xs)
no_word-quote q start p scope [] = no_word-nothing q (open_at_end (Some start) scope)
no_word-quote q start p scope (b ∷ xs) =
    elim (b == 34) as (λ v. NoWordAt q (cond v (with_token (token Quoted start p) (tokens_from None scope (p + 1) xs)) (or_stray (cond (is_text_byte b) None (Some p)) (tokens_from (Some start) scope (p + 1) xs)))) [
      | true ↦ no_word-token q (token Quoted start p) (tokens_from None scope (p + 1) xs) refl
      | false ↦ no_word-stray q (cond (is_text_byte b) None (Some p)) (tokens_from (Some start) scope (p + 1) xs) (no_word-quote q start (p + 1) scope xs)
    ]

no_word-role : (line xs : List ℕ) (p b : ℕ) (scope : Scope) (role : Role) → drop (p + 1) line ≡ xs → role ≢ Letter → ((kind : TokenKind) → role ≡ Sign kind → is_word kind ≡ false) → NoWordAt p (before_read role p (tokens_from (quote_behind role p) (behind scope role p) (p + 1) xs))
no_word-role line xs p b scope Blank e h k = no_word-later line p (p + 1) _ (omega arith) (reads_soundly line xs None (behind scope Blank p) (p + 1) e tt)
no_word-role line xs p b scope Letter e h k = absurd (h refl)
no_word-role line xs p b scope (Sign kind) e h k = no_word-token p (token kind p (p + 1)) _ (k kind refl)
no_word-role line xs p b scope Quote e h k = no_word-quote p p (p + 1) (behind scope Quote p) xs
no_word-role line xs p b scope Stray e h k = no_word-stray p (Some p) _ (no_word-later line p (p + 1) _ (omega arith) (reads_soundly line xs None (behind scope Stray p) (p + 1) e tt))

-- where a word stops, none begins
no_word-stop : (line xs : List ℕ) (p : ℕ) (scope : Scope) → drop p line ≡ xs → Stops scope xs → NoWordAt p (tokens_from None scope p xs)
no_word-stop line [] p scope e h = no_word-nothing p (open_at_end None scope)
no_word-stop line (b ∷ xs) p scope e h =
    no_word-role line xs p b scope (role_of scope b) (first_of_rest line p b xs e).2 h (λ kind f. sign_no_word scope b kind f)

-- a word byte before a gap is a word of its own
apart : (p : ℕ) (read : Result (List Token) LexFault) → NoWordAt (p + 1) read → result_map (with_word_byte p) read ≡ with_token (word p (p + 1)) read
apart p (Ok []) h = refl
apart p (Ok (t ∷ ts)) h = ap (λ v. Ok (cond v (word p t.end ∷ ts) (word p (p + 1) ∷ t ∷ ts))) h
apart p (Err fault) h = refl

-- a word byte joins the word after it
joins : (p e : ℕ) (read : Result (List Token) LexFault) → result_map (with_word_byte p) (with_token (word (p + 1) e) read) ≡ with_token (word p e) read
joins p e (Ok ts) =
    let f : (p + 1 == p + 1) ≡ true = grind (arith, nat_tests) in
    ap (λ v. Ok (cond v (word p e ∷ ts) (word p (p + 1) ∷ word (p + 1) e ∷ ts))) f
joins p e (Err fault) = refl

-- a word byte is taken onto the tokens after it
first_byte : (p x : ℕ) (scope : Scope) (xs : List ℕ) → role_of scope x ≡ Letter → tokens_from None scope p (x ∷ xs) ≡ result_map (with_word_byte p) (tokens_from None (in_word scope) (p + 1) xs)
first_byte p x scope xs h = ap (λ role. before_read role p (tokens_from (quote_behind role p) (behind scope role p) (p + 1) xs)) h

-- the bytes after a word byte are inside its word
twice : (scope : Scope) → in_word (in_word scope) ≡ in_word scope
twice Between = refl
twice InWord = refl
twice (Round place) = refl
twice (Square place) = refl

-- a run of n + 1 word bytes in a scope, up to where it stops
run : (line xs : List ℕ) (p n x : ℕ) (scope : Scope) → drop p line ≡ x ∷ xs → role_of scope x ≡ Letter → Letters (in_word scope) n xs → Stops (in_word scope) (drop n xs)
    → tokens_from None scope p (x ∷ xs) ≡ with_token (word p (p + suc n)) (tokens_from None (in_word scope) (p + suc n) (drop n xs))
run line xs p zero x scope e f h s =
    first_byte p x scope xs f ∙ apart p _ (no_word-stop line xs (p + 1) (in_word scope) (first_of_rest line p x xs e).2 s)
run line [] p (suc n) x scope e f h s = absurd h
run line (y ∷ xs) p (suc n) x scope e f h s =
    let there : p + 1 + suc n ≡ p + suc (suc n) = omega arith in
    let P : Scope → Type 0 = λ (inner : Scope). tokens_from None (in_word scope) (p + 1) (y ∷ xs) ≡ with_token (word (p + 1) (p + 1 + suc n)) (tokens_from None inner (p + 1 + suc n) (drop n xs)) in
    let L : Scope → Type 0 = λ (inner : Scope). Letters inner n xs in
    let S : Scope → Type 0 = λ (inner : Scope). Stops inner (drop n xs) in
    let same = twice scope in
    let rest = run line xs (p + 1) n y (in_word scope) (first_of_rest line p x (y ∷ xs) e).2 h.0 (subst L (sym same) h.1) (subst S (sym same) s) in
    first_byte p x scope (y ∷ xs) f ∙ ap (result_map (with_word_byte p)) (subst P same rest)
    ∙ joins p (p + 1 + suc n) (tokens_from None (in_word scope) (p + 1 + suc n) (drop n xs))
    ∙ ap (λ m. with_token (word p m) (tokens_from None (in_word scope) m (drop n xs))) there

behind_alike : (role : Role) (p : ℕ) → role ≢ Letter → behind InWord role p ≡ behind Between role p
behind_alike Blank p h = refl
behind_alike Letter p h = absurd (h refl)
behind_alike (Sign Word) p h = refl
behind_alike (Sign Quoted) p h = refl
behind_alike (Sign Equals) p h = refl
behind_alike (Sign Comma) p h = refl
behind_alike (Sign Open) p h = refl
behind_alike (Sign Close) p h = refl
behind_alike (Sign ListOpen) p h = refl
behind_alike (Sign ListClose) p h = refl
behind_alike (Sign Semi) p h = refl
behind_alike Quote p h = refl
behind_alike Stray p h = refl

-- where a word stops, its scope is left
left : (scope : Scope) (p : ℕ) (xs : List ℕ) → Stops (in_word scope) xs → tokens_from None (in_word scope) p xs ≡ tokens_from None scope p xs
left Between p [] s = refl
left Between p (b ∷ xs) s =
    let same = behind_word b s in
    ap (λ scope. before_read (role_of InWord b) p (tokens_from (quote_behind (role_of InWord b) p) scope (p + 1) xs)) (behind_alike (role_of InWord b) p s)
    ∙ ap (λ role. before_read role p (tokens_from (quote_behind role p) (behind Between role p) (p + 1) xs)) same
left InWord p xs s = refl
left (Round place) p xs s = refl
left (Square place) p xs s = refl

-- one word byte more
Letters-more : (scope : Scope) (n : ℕ) (xs : List ℕ) → Letters scope n xs → n < length xs → role_of scope (get_or xs n 0) ≡ Letter → Letters scope (suc n) xs
Letters-more scope zero [] h l e = omega arith
Letters-more scope zero (x ∷ xs) h l e = (e, tt)
Letters-more scope (suc n) [] h l e = absurd h
Letters-more scope (suc n) (x ∷ xs) h l e = (h.0, Letters-more scope n xs h.1 (omega arith) e)

-- the word bytes from one place to another, and one more
pub more_at : (scope : Scope) (start end : ℕ) (line : List ℕ) → start ≤ end → end < length line → Letters scope (end - start) (drop start line) → role_of scope (get_or line end 0) ≡ Letter → Letters scope (end + 1 - start) (drop start line)
more_at scope start end line after inside words e =
    let len : end - start < length (drop start line) = omega (arith, length-drop start line) in
    let at : get_or (drop start line) (end - start) 0 ≡ get_or line end 0 = get_or-drop start line (end - start) 0 ∙ ap (λ i. get_or line i 0) (omega arith) in
    let n : suc (end - start) ≡ end + 1 - start = omega arith in
    let P : ℕ → Type 0 = λ k. Letters scope k (drop start line) in
    subst P n (Letters-more scope (end - start) (drop start line) words len (ap (role_of scope) at ∙ e))

-- a word from one place to another
pub found : (scope : Scope) (start end : ℕ) (line : List ℕ) → start < end → start < length line → role_of scope (get_or line start 0) ≡ Letter → Letters (in_word scope) (end - (start + 1)) (drop (start + 1) line) → Stops (in_word scope) (drop end line)
    → tokens_from None scope start (drop start line) ≡ with_token (word start end) (tokens_from None scope end (drop end line))
found scope start end line after inside first words stops =
    let cut = drop_more line start 0 inside in
    let there : start + suc (end - (start + 1)) ≡ end = omega arith in
    let rest : drop (end - (start + 1)) (drop (start + 1) line) ≡ drop end line = drop-drop (end - (start + 1)) (start + 1) line ∙ ap (λ k. drop k line) (omega arith) in
    let S : List ℕ → Type 0 = λ xs. Stops (in_word scope) xs in
    ap (tokens_from None scope start) cut
    ∙ run line (drop (start + 1) line) start (end - (start + 1)) (get_or line start 0) scope cut first words (subst S (sym rest) stops)
    ∙ ap (λ xs. with_token (word start (start + suc (end - (start + 1)))) (tokens_from None (in_word scope) (start + suc (end - (start + 1))) xs)) rest
    ∙ ap (λ k. with_token (word start k) (tokens_from None (in_word scope) k (drop end line))) there
    ∙ ap (with_token (word start end)) (left scope end (drop end line) stops)

pub stops_at : (scope : Scope) (end : ℕ) (line : List ℕ) → end < length line → role_of scope (get_or line end 0) ≢ Letter → Stops scope (drop end line)
stops_at scope end line inside e = subst (λ xs. Stops scope xs) (sym (drop_more line end 0 inside)) e

pub stops_past : (scope : Scope) (end : ℕ) (line : List ℕ) → length line ≤ end → Stops scope (drop end line)
stops_past scope end line past = subst (λ xs. Stops scope xs) (sym (drop_all end line past)) tt
