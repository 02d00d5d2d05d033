-- The spans that hold a token, found from the left.
use Rattle.std.proofs.Common.{◌≡◌, ◌≤◌, ◌<◌, ℕ, Bool, true, false, cond, nat_le, ◌&&◌, ◌||◌, List, [], ◌∷◌, ◌++◌, Ok, Err, All, drop, filter, length, append_assoc, refl, ap, sym, arith, ◌∙◌}
use Rattle.std.specs.List.{list_any}
use Rattle.std.proofs.lemmas.Bool.{and_right, or_right}
use Rattle.std.proofs.lemmas.Bool.Decides.{nat_tests}
use Rattle.std.proofs.lemmas.List.{drop_all}
use Rattle.std.proofs.lemmas.List.Elements.{All-cons, All-head, All-nil, All-tail}
use Rattle.std.proofs.lemmas.List.Folds.{list_any-append}
use Rattle.zonecfg_lex.specs.declared.fault.LexFault.{LexFault}
use Rattle.zonecfg_lex.specs.declared.token.Span.{Span}
use Rattle.zonecfg_lex.specs.declared.token.Token.{Token}
use Rattle.zonecfg_lex.specs.Parts.{holds_one, is_semi, parts_of, span, spans_between, IsSpanWithin, SpansRiseFrom}
use Rattle.zonecfg_lex.specs.Tokens.{tokens_of, AreRisingFrom, IsWithin}

-- the spans from a place to an end that hold a token, where the first one does already or not yet
abbrev pub filled : ℕ → Bool → ℕ → List Token → List Span
filled start held end [] = cond held (span start end ∷ []) []
filled start held end (t ∷ ts) =
    cond (is_semi t.kind) (cond held (span start t.start ∷ filled t.end false end ts) (filled t.end false end ts)) (filled start true end ts)

-- tokens before a place, none empty
abbrev EndBy : ℕ → List Token → Type 0
EndBy p [] = Unit {0}
EndBy p (t ∷ ts) = (t.start < t.end) × (t.end ≤ p) × EndBy p ts

end_later : (p q : ℕ) (ts : List Token) → p ≤ q → EndBy p ts → EndBy q ts
end_later p q [] l h = tt
end_later p q (t ∷ ts) l h = (h.0, omega (arith, h.1), end_later p q ts l h.2)

end_push : (p : ℕ) (ts : List Token) (t : Token) → EndBy p ts → t.start < t.end → t.end ≤ p → EndBy p (ts ++ t ∷ [])
end_push p [] t h l u = (l, u, tt)
end_push p (s ∷ ts) t h l u = (h.0, h.1, end_push p ts t h.2 l u)

-- a token begins at a place or after it
abbrev begins_behind : ℕ → Token → Bool
begins_behind start t = nat_le start t.start

-- a token lies from one place to another
abbrev lies : ℕ → ℕ → Token → Bool
lies start q t = nat_le start t.start && nat_le t.end q

any_before : (start q p : ℕ) (ts : List Token) → EndBy p ts → p ≤ q → list_any (lies start q) ts ≡ list_any (begins_behind start) ts
any_before start q p [] h l = refl
any_before start q p (t ∷ ts) h l =
    let e : nat_le t.end q ≡ true = grind (arith, nat_tests, h.1) in
    let f : lies start q t ≡ begins_behind start t = ap (λ v. nat_le start t.start && v) e ∙ elim (nat_le start t.start) as (λ v. (v && true) ≡ v) [ true ↦ refl | false ↦ refl ] in
    rw f (ap (λ v. begins_behind start t || v) (any_before start q p ts h.2 l))

none_ahead : (start q p : ℕ) (ts : List Token) → AreRisingFrom p ts → q ≤ p → list_any (lies start q) ts ≡ false
none_ahead start q p [] h l = refl
none_ahead start q p (t ∷ ts) h l =
    let e : nat_le t.end q ≡ false = grind (arith, nat_tests, h.0, h.1) in
    let f : lies start q t ≡ false = and_right (nat_le start t.start) (nat_le t.end q) e in
    rw f (none_ahead start q t.end ts h.2 (omega (arith, h.0, h.1)))

none_before : (start p : ℕ) (ts : List Token) → EndBy p ts → p ≤ start → list_any (begins_behind start) ts ≡ false
none_before start p [] h l = refl
none_before start p (t ∷ ts) h l =
    let e : nat_le start t.start ≡ false = grind (arith, nat_tests, h.0, h.1) in
    rw e (none_before start p ts h.2 l)

some_behind : (start : ℕ) (ts : List Token) (t : Token) → start ≤ t.start → list_any (begins_behind start) (ts ++ t ∷ []) ≡ true
some_behind start ts t l =
    let e : nat_le start t.start ≡ true = grind (arith, nat_tests) in
    list_any-append (begins_behind start) ts (t ∷ []) ∙ or_right (list_any (begins_behind start) ts) (nat_le start t.start || false) (ap (λ v. v || false) e)

-- where the tokens before p are done and those from p on are left, whether a span up to p holds one
held_here : (start q p : ℕ) (done rest : List Token) → EndBy p done → p ≤ q → AreRisingFrom q rest → list_any (lies start q) (done ++ rest) ≡ list_any (begins_behind start) done
held_here start q p done rest h l r =
    list_any-append (lies start q) done rest
    ∙ ap (λ v. list_any (lies start q) done || v) (none_ahead start q q rest r (omega arith))
    ∙ elim (list_any (lies start q) done) as (λ v. (v || false) ≡ v) [ true ↦ refl | false ↦ refl ]
    ∙ any_before start q p done h l

-- the spans found from the left are those of the definition
filled_is : (done rest : List Token) (start p end : ℕ) → EndBy p done → start ≤ p → p ≤ end → AreRisingFrom p rest → All (IsWithin end) rest
    → filled start (list_any (begins_behind start) done) end rest ≡ filter (holds_one (done ++ rest)) (spans_between start end rest)
filled_is done [] start p end h l u r w =
    let e : holds_one (done ++ []) (span start end) ≡ list_any (begins_behind start) done = held_here start end p done [] h u tt in
    rw e refl
filled_is done (t ∷ ts) start p end h l u r w =
    let same : done ++ t ∷ [] ++ ts ≡ done ++ (t ∷ ts) = append_assoc done (t ∷ []) ts in
    let inside : t.end ≤ end = (All-head (IsWithin end) t ts w).inside in
    let more : EndBy t.end (done ++ t ∷ []) = end_push t.end done t (end_later p t.end done (omega (arith, r.0, r.1)) h) r.1 (omega arith) in
    elim (is_semi t.kind) as (λ v. cond v (cond (list_any (begins_behind start) done) (span start t.start ∷ filled t.end false end ts) (filled t.end false end ts)) (filled start true end ts) ≡ filter (holds_one (done ++ t ∷ ts)) (cond v (span start t.start ∷ spans_between t.end end ts) (spans_between start end ts))) [
      | true ↦
          let none : list_any (begins_behind t.end) (done ++ t ∷ []) ≡ false = none_before t.end t.end (done ++ t ∷ []) more (omega arith) in
          let rest = filled_is (done ++ t ∷ []) ts t.end t.end end more (omega arith) inside r.2 (All-tail (IsWithin end) t ts w) in
          let rest' : filled t.end false end ts ≡ filter (holds_one (done ++ t ∷ ts)) (spans_between t.end end ts) = rw (none, same) at rest in
          let e : holds_one (done ++ t ∷ ts) (span start t.start) ≡ list_any (begins_behind start) done = held_here start t.start p done (t ∷ ts) h r.0 (omega arith, r.1, r.2) in
          rw (e, rest') refl
      | false ↦
          let one : list_any (begins_behind start) (done ++ t ∷ []) ≡ true = some_behind start done t (omega (arith, r.0)) in
          let rest = filled_is (done ++ t ∷ []) ts start t.end end more (omega (arith, r.0, r.1)) inside r.2 (All-tail (IsWithin end) t ts w) in
          rw (one, same) at rest
    ]

-- the spans found from the left are those of the definition
pub filled-filter : (ts : List Token) (end : ℕ) → AreRisingFrom 0 ts → All (IsWithin end) ts → filled 0 false end ts ≡ filter (holds_one ts) (spans_between 0 end ts)
filled-filter ts end r w = filled_is [] ts 0 0 end tt (omega arith) (omega arith) r w

-- spans from a place on, none empty, that end by an end
abbrev AreGoodFrom : ℕ → ℕ → List Span → Type 0
AreGoodFrom end place [] = Unit {0}
AreGoodFrom end place (s ∷ ss) = (place ≤ s.start) × (s.start < s.end) × (s.end ≤ end) × AreGoodFrom end s.end ss

good_later : (end p q : ℕ) (ss : List Span) → p ≤ q → AreGoodFrom end q ss → AreGoodFrom end p ss
good_later end p q [] l h = tt
good_later end p q (s ∷ ss) l h = (omega (arith, h.0), h.1, h.2, h.3)

good : (start p end : ℕ) (held : Bool) (ts : List Token) → start ≤ p → (held ≡ true → start < p) → p ≤ end → AreRisingFrom p ts → All (IsWithin end) ts → AreGoodFrom end start (filled start held end ts)
good start p end true [] l f u r w = (omega arith, omega (arith, f refl), omega arith, tt)
good start p end false [] l f u r w = tt
good start p end held (t ∷ ts) l f u r w =
    let inside : t.end ≤ end = (All-head (IsWithin end) t ts w).inside in
    let tail = All-tail (IsWithin end) t ts w in
    let rest : AreGoodFrom end t.end (filled t.end false end ts) = good t.end t.end end false ts (omega arith) (λ e. absurd (cc)) inside r.2 tail in
    elim (is_semi t.kind) as (λ v. AreGoodFrom end start (cond v (cond held (span start t.start ∷ filled t.end false end ts) (filled t.end false end ts)) (filled start true end ts))) [
      | true ↦ elim held as (λ v. held ≡ v → AreGoodFrom end start (cond v (span start t.start ∷ filled t.end false end ts) (filled t.end false end ts))) [
        | true ↦ λ e. (omega arith, omega (arith, f e, r.0), omega (arith, r.1), good_later end t.start t.end _ (omega (arith, r.1)) rest)
        | false ↦ λ _. good_later end start t.end _ (omega (arith, r.0, r.1)) rest
      ] refl
      | false ↦ good start t.end end true ts (omega (arith, r.0, r.1)) (λ _. omega (arith, r.0, r.1)) inside r.2 tail
    ]

good_rise : (end place : ℕ) (ss : List Span) → AreGoodFrom end place ss → SpansRiseFrom place ss
good_rise end place [] h = tt
good_rise end place (s ∷ ss) h = (h.0, h.1, good_rise end s.end ss h.3)

good_within : (end place : ℕ) (ss : List Span) → AreGoodFrom end place ss → All (IsSpanWithin end) ss
good_within end place [] h = All-nil (IsSpanWithin end)
good_within end place (s ∷ ss) h = All-cons (IsSpanWithin end) s ss (record { ordered = omega (arith, h.1); inside = h.2 }) (good_within end s.end ss h.3)

pub filled_rise : (ts : List Token) (end : ℕ) → AreRisingFrom 0 ts → All (IsWithin end) ts → SpansRiseFrom 0 (filled 0 false end ts)
filled_rise ts end r w = good_rise end 0 _ (good 0 0 end false ts (omega arith) (λ e. absurd (cc)) (omega arith) r w)

pub filled_within : (ts : List Token) (end : ℕ) → AreRisingFrom 0 ts → All (IsWithin end) ts → All (IsSpanWithin end) (filled 0 false end ts)
filled_within ts end r w = good_within end 0 _ (good 0 0 end false ts (omega arith) (λ e. absurd (cc)) (omega arith) r w)

-- the spans so far and the last one are all
pub all_found : (spans out : List Span) (start end i : ℕ) (held : Bool) (ts : List Token) → length ts ≤ i → spans ++ filled start held end (drop i ts) ≡ filled 0 false end ts → out ≡ spans ++ cond held (span start end ∷ []) [] → out ≡ filled 0 false end ts
all_found spans out start end i held ts l h e = e ∙ sym (ap (λ us. spans ++ filled start held end us) (drop_all i ts l)) ∙ h

pub parts_of-Err : (line : List ℕ) (fault : LexFault) → tokens_of line ≡ Err fault → parts_of line ≡ Err fault
unfolding parts_of
parts_of-Err line fault h = rw h refl

pub parts_of-Ok : (line : List ℕ) (ts us : List Token) (spans : List Span) → tokens_of line ≡ Ok ts → us ≡ ts → spans ≡ filter (holds_one us) (spans_between 0 (length line) us) → parts_of line ≡ Ok spans
unfolding parts_of
parts_of-Ok line ts us spans h e f = rw (h, ← e) (ap Ok (sym f))
