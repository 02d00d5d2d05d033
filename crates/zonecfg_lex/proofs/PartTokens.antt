-- The tokens of a line, counted from the begins of its parts, are those of its parts.
use Rattle.std.proofs.Common.{◌≡◌, ◌≤◌, ◌<◌, ◌+◌, ◌-◌, ℕ, suc, Bool, true, false, cond, List, [], ◌∷◌, ◌++◌, Some, None, Result, Ok, Err, All, get_or, set, map, take, drop, length, length-drop, append_assoc, append-nil, refl, ap, sym, subst, arith, ◌∙◌}
use Rattle.std.specs.Prelude.{slice_range}
use Rattle.std.proofs.lemmas.List.{drop-drop, drop-set-lt, drop_all, drop_more, map-append, take_all, take_more_set}
use Rattle.std.proofs.lemmas.List.Elements.{All-head, All-nil, All-tail}
use Rattle.zonecfg_lex.specs.declared.fault.LexFault.{LexFault}
use Rattle.zonecfg_lex.specs.declared.scope.Scope.TheVariants.{Between}
use Rattle.zonecfg_lex.specs.declared.token.Token.{Token}
use Rattle.zonecfg_lex.specs.Parts.{is_semi, parts_of, span, span_text}
use Rattle.zonecfg_lex.specs.Subcommands.{before_semi, counted_from, counted_in_parts, part_start, part_text, text_if, texts_from, AreRead, EndsPart, ReadsInParts, subcommands_of}
use Rattle.zonecfg_lex.specs.Tokens.{is_comment, part_tokens_of, result_map, tokens_from, tokens_of, AreRisingFrom, IsWithin}
use Rattle.zonecfg_lex.proofs.Cuts.{cut_at, first_semi, front, past}
use Rattle.zonecfg_lex.proofs.FilledSpans.{filled, filled-filter, parts_of-Err, parts_of-Ok}
use Rattle.zonecfg_lex.proofs.MadeValues.{first_and_rest}
use Rattle.zonecfg_lex.proofs.Moves.{alone}

-- no semicolon is among some tokens
abbrev NoneEnds : List Token → Type 0
NoneEnds [] = Unit {0}
NoneEnds (t ∷ ts) = (is_semi t.kind ≡ false) × NoneEnds ts

none_more : (us : List Token) (t : Token) → NoneEnds us → is_semi t.kind ≡ false → NoneEnds (us ++ t ∷ [])
none_more [] t h e = (e, tt)
none_more (u ∷ us) t h e = (h.0, none_more us t h.1 e)

first_behind : (us ts : List Token) (t : Token) → NoneEnds us → is_semi t.kind ≡ true → first_semi (us ++ t ∷ ts) ≡ Some t
first_behind [] ts t h e = ap (λ v. cond v (Some t) (first_semi ts)) e
first_behind (u ∷ us) ts t h e = ap (λ v. cond v (Some u) (first_semi (us ++ t ∷ ts))) h.0 ∙ first_behind us ts t h.1 e

front_is : (us ts : List Token) (t : Token) → NoneEnds us → is_semi t.kind ≡ true → front (us ++ t ∷ ts) ≡ us
front_is [] ts t h e = ap (λ v. cond v [] (t ∷ front ts)) e
front_is (u ∷ us) ts t h e = ap (λ v. cond v [] (u ∷ front (us ++ t ∷ ts))) h.0 ∙ ap (λ vs. u ∷ vs) (front_is us ts t h.1 e)

past_is : (us ts : List Token) (t : Token) → NoneEnds us → is_semi t.kind ≡ true → past (us ++ t ∷ ts) ≡ ts
past_is [] ts t h e = ap (λ v. cond v ts (past ts)) e
past_is (u ∷ us) ts t h e = ap (λ v. cond v (us ++ t ∷ ts) (past (us ++ t ∷ ts))) h.0 ∙ past_is us ts t h.1 e

are_read : (part : List ℕ) (ts : List Token) → part_tokens_of part ≡ Ok ts → AreRead part ts
are_read part [] h = tt
are_read part (t ∷ ts) h = h

-- a semicolon ends the part before it, and what follows is read alone
record Ended (k : ℕ) (xs : List ℕ) (us ts : List Token) (t : Token) : Type 0 where
  ends : EndsPart xs (map (counted_from k) us) (counted_from k t)
  rest : tokens_from None Between t.end (drop (t.end - k) xs) ≡ Ok ts

ended : (k : ℕ) (xs : List ℕ) (us ts : List Token) (t : Token) → tokens_from None Between k xs ≡ Ok (us ++ t ∷ ts) → NoneEnds us → is_semi t.kind ≡ true → Ended k xs us ts t
ended k xs us ts t h none e =
    let cut = cut_at None Between k xs (us ++ t ∷ ts) t h (first_behind us ts t none e) in
    let start : t.start ≡ k + cut.n = ap (λ (t : Token). t.start) cut.at in
    let end : t.end ≡ k + cut.n + 1 = ap (λ (t : Token). t.end) cut.at in
    let bytes : cut.n ≡ t.start - k = omega (arith, start) in
    let more : suc cut.n ≡ t.end - k = omega (arith, end) in
    let read : part_tokens_of (take cut.n xs) ≡ Ok (map (counted_from k) us) = alone k (take cut.n xs) us (cut.before ∙ ap Ok (front_is us ts t none e)) in
    record {
      ends = record {
        ordered = omega (arith, start, end);
        inside = omega (arith, end, cut.inside);
        read = are_read (take (t.start - k) xs) (map (counted_from k) us) (ap (λ n. part_tokens_of (take n xs)) (sym bytes) ∙ read);
      };
      rest = ap (λ m. tokens_from None Between m (drop (t.end - k) xs)) end ∙ ap (λ n. tokens_from None Between (k + cut.n + 1) (drop n xs)) (sym more) ∙ cut.after ∙ ap Ok (past_is us ts t none e);
    }

-- tokens read between words at a place, those of the part so far and then the others
pub reads : (k : ℕ) (xs : List ℕ) (us ts : List Token) → tokens_from None Between k xs ≡ Ok (us ++ ts) → NoneEnds us → ReadsInParts xs (map (counted_from k) us) (counted_in_parts k ts)
reads k xs us [] h none = are_read xs (map (counted_from k) us) (alone k xs us (h ∙ ap Ok (append-nil us)))
reads k xs us (t ∷ ts) h none = (
  λ e.
      let it = ended k xs us ts t h none e in
      let rest : ReadsInParts (drop (t.end - k) xs) [] (counted_in_parts t.end ts) = reads t.end (drop (t.end - k) xs) [] ts it.rest tt in
      (it.ends, subst (λ m. ReadsInParts (drop (t.end - k) xs) [] (counted_in_parts m ts)) (sym (ap (λ v. cond v t.end k) e)) rest),
  λ e.
      let rest : ReadsInParts xs (map (counted_from k) (us ++ t ∷ [])) (counted_in_parts k ts) = reads k xs (us ++ t ∷ []) ts (h ∙ ap Ok (sym (append_assoc us (t ∷ []) ts))) (none_more us t none e) in
      let more : ReadsInParts xs (map (counted_from k) us ++ counted_from k t ∷ []) (counted_in_parts k ts) = subst (λ vs. ReadsInParts xs vs (counted_in_parts k ts)) (map-append (counted_from k) us (t ∷ [])) rest in
      subst (λ m. ReadsInParts xs (map (counted_from k) us ++ counted_from k t ∷ []) (counted_in_parts m ts)) (sym (ap (λ v. cond v t.end k) e)) more,
)

lower : (p q : ℕ) (ts : List Token) → p ≤ q → AreRisingFrom q ts → AreRisingFrom p ts
lower p q [] l r = tt
lower p q (t ∷ ts) l r = (omega (arith, r.0), r.1, r.2)

-- the texts of the parts are those of the spans that hold a token
pub texts_are : (line : List ℕ) (k : ℕ) (held : Bool) (ts : List Token) → k ≤ length line → AreRisingFrom k ts → All (IsWithin (length line)) ts
    → texts_from held (drop k line) (counted_in_parts k ts) ≡ map (span_text line) (filled k held (length line) ts)
texts_are line k held [] l r w =
    let whole : drop k line ≡ slice_range line k (length line) = sym (take_all (length line - k) (drop k line) (omega (arith, length-drop k line))) in
    elim held as (λ v. text_if v (drop k line) ≡ map (span_text line) (cond v (span k (length line) ∷ []) [])) [ true ↦ ap (λ x. x ∷ []) whole | false ↦ refl ]
texts_are line k held (t ∷ ts) l r w =
    let inside : t.end ≤ length line = (All-head (IsWithin (length line)) t ts w).inside in
    let tail = All-tail (IsWithin (length line)) t ts w in
    elim (is_semi t.kind) as (λ v. cond v (text_if held (take (t.start - k) (drop k line)) ++ texts_from false (drop (t.end - k) (drop k line)) (counted_in_parts (cond v t.end k) ts)) (texts_from true (drop k line) (counted_in_parts (cond v t.end k) ts))
    ≡ map (span_text line) (cond v (cond held (span k t.start ∷ filled t.end false (length line) ts) (filled t.end false (length line) ts)) (filled k true (length line) ts))) [
      | true ↦
          let there : drop (t.end - k) (drop k line) ≡ drop t.end line = drop-drop (t.end - k) k line ∙ ap (λ n. drop n line) (omega (arith, r.0, r.1)) in
          let rest : texts_from false (drop (t.end - k) (drop k line)) (counted_in_parts t.end ts) ≡ map (span_text line) (filled t.end false (length line) ts) =
          ap (λ xs. texts_from false xs (counted_in_parts t.end ts)) there ∙ texts_are line t.end false ts inside r.2 tail in
          elim held as (λ v. text_if v (take (t.start - k) (drop k line)) ++ texts_from false (drop (t.end - k) (drop k line)) (counted_in_parts t.end ts)
          ≡ map (span_text line) (cond v (span k t.start ∷ filled t.end false (length line) ts) (filled t.end false (length line) ts))) [
            | true ↦ ap (λ xs. take (t.start - k) (drop k line) ∷ xs) rest
            | false ↦ rest
          ]
      | false ↦ texts_are line k true ts l (lower k t.end ts (omega (arith, r.0, r.1)) r.2) tail
    ]

-- where no semicolon is left, a text is one part
pub reads_whole : (text : List ℕ) (us ts : List Token) → ReadsInParts text us ts → drop (before_semi ts) ts ≡ [] → AreRead text (us ++ ts)
reads_whole text us [] h e = subst (AreRead text) (sym (append-nil us)) h
reads_whole text us (t ∷ ts) h e =
    elim (is_semi t.kind) as (λ v. is_semi t.kind ≡ v → drop (cond v 0 (suc (before_semi ts))) (t ∷ ts) ≡ [] → AreRead text (us ++ t ∷ ts)) [
      | true ↦ λ _ e. absurd (cc)
      | false ↦ λ f e. subst (AreRead text) (append_assoc us (t ∷ []) ts) (reads_whole text (us ++ t ∷ []) ts (h.1 f) e)
    ] refl e

-- the text of the first part, where it holds a token before some others or among them
abbrev first_text : Bool → List ℕ → List Token → List (List ℕ)
first_text true text ts = text ∷ []
first_text false text ts = part_text text ts

texts_whole : (held : Bool) (text : List ℕ) (ts : List Token) → drop (before_semi ts) ts ≡ [] → texts_from held text ts ≡ first_text held text ts
texts_whole true text [] e = refl
texts_whole false text [] e = refl
texts_whole held text (t ∷ ts) e =
    elim (is_semi t.kind) as (λ v. drop (cond v 0 (suc (before_semi ts))) (t ∷ ts) ≡ [] → cond v (text_if held (take t.start text) ++ texts_from false (drop t.end text) ts) (texts_from true text ts) ≡ first_text held text (t ∷ ts)) [
      | true ↦ λ e. absurd (cc)
      | false ↦ λ e. texts_whole true text ts e ∙ elim held as (λ v. text ∷ [] ≡ first_text v text (t ∷ ts)) [ true ↦ refl | false ↦ refl ]
    ] e

pub one_text : (text : List ℕ) (ts : List Token) → drop (before_semi ts) ts ≡ [] → texts_from false text ts ≡ part_text text ts
one_text text ts e = texts_whole false text ts e

-- the first part, where a semicolon ends it, and what follows
pub record ReadsFirst (text : List ℕ) (us : List Token) (s : Token) (ts : List Token) : Type 0 where
  pub ends : EndsPart text us s
  pub rest : ReadsInParts (drop s.end text) [] ts

pub reads_first : (text : List ℕ) (us ts vs : List Token) (s : Token) → ReadsInParts text us ts → drop (before_semi ts) ts ≡ s ∷ vs → ReadsFirst text (us ++ take (before_semi ts) ts) s vs
reads_first text us [] vs s h e = absurd (cc)
reads_first text us (t ∷ ts) vs s h e =
    elim (is_semi t.kind) as (λ v. is_semi t.kind ≡ v → drop (cond v 0 (suc (before_semi ts))) (t ∷ ts) ≡ s ∷ vs → ReadsFirst text (us ++ take (cond v 0 (suc (before_semi ts))) (t ∷ ts)) s vs) [
      | true ↦ λ f e.
          let it = h.0 f in
          let token_is : t ≡ s = cc in
          let rest_is : ts ≡ vs = cc in
          subst (λ us. ReadsFirst text us s vs) (sym (append-nil us))
          (subst (λ s. ReadsFirst text us s vs) token_is (subst (λ vs. ReadsFirst text us t vs) rest_is (record { ends = it.0; rest = it.1 })))
      | false ↦ λ f e. subst (λ us. ReadsFirst text us s vs) (append_assoc us (t ∷ []) (take (before_semi ts) ts)) (reads_first text (us ++ t ∷ []) ts vs s (h.1 f) e)
    ] refl e

texts_first : (held : Bool) (text : List ℕ) (ts vs : List Token) (s : Token) → drop (before_semi ts) ts ≡ s ∷ vs
    → texts_from held text ts ≡ first_text held (take s.start text) (take (before_semi ts) ts) ++ texts_from false (drop s.end text) vs
texts_first held text [] vs s e = absurd (cc)
texts_first held text (t ∷ ts) vs s e =
    elim (is_semi t.kind) as (λ v. drop (cond v 0 (suc (before_semi ts))) (t ∷ ts) ≡ s ∷ vs
    → cond v (text_if held (take t.start text) ++ texts_from false (drop t.end text) ts) (texts_from true text ts)
    ≡ first_text held (take s.start text) (take (cond v 0 (suc (before_semi ts))) (t ∷ ts)) ++ texts_from false (drop s.end text) vs) [
      | true ↦ λ e.
          let token_is : t ≡ s = cc in
          let rest_is : ts ≡ vs = cc in
          elim held as (λ v. text_if v (take t.start text) ++ texts_from false (drop t.end text) ts ≡ first_text v (take t.start text) [] ++ texts_from false (drop t.end text) ts) [ true ↦ refl | false ↦ refl ]
          ∙ ap (λ (s : Token). first_text held (take s.start text) [] ++ texts_from false (drop s.end text) ts) token_is
          ∙ ap (λ vs. first_text held (take s.start text) [] ++ texts_from false (drop s.end text) vs) rest_is
      | false ↦ λ e. texts_first true text ts vs s e
          ∙ elim held as (λ v. take s.start text ∷ texts_from false (drop s.end text) vs ≡ first_text v (take s.start text) (t ∷ take (before_semi ts) ts) ++ texts_from false (drop s.end text) vs) [ true ↦ refl | false ↦ refl ]
    ] e

pub more_texts : (text : List ℕ) (ts vs : List Token) (s : Token) → drop (before_semi ts) ts ≡ s ∷ vs
    → texts_from false text ts ≡ part_text (take s.start text) (take (before_semi ts) ts) ++ texts_from false (drop s.end text) vs
more_texts text ts vs s e = texts_first false text ts vs s e

-- what a split at the first semicolon gives
pub record SplitsAt (text : List ℕ) (ts us : List Token) (s : Token) (vs : List Token) : Type 0 where
  pub first : ReadsFirst text us s vs
  pub texts : texts_from false text ts ≡ part_text (take s.start text) us ++ texts_from false (drop s.end text) vs

pub splits_at : (text : List ℕ) (ts us back : List Token) (n : ℕ) (d : Token) → ReadsInParts text [] ts → n ≡ before_semi ts → us ≡ take n ts → back ≡ drop n ts → 1 ≤ length back
    → SplitsAt text ts us (get_or back 0 d) (take (length back - 1) (drop 1 back))
splits_at text ts us back n d h count front behind filled =
    let e : drop (before_semi ts) ts ≡ get_or back 0 d ∷ take (length back - 1) (drop 1 back) = ap (λ n. drop n ts) (sym count) ∙ sym behind ∙ first_and_rest back d filled in
    let f : take (before_semi ts) ts ≡ us = ap (λ n. take n ts) (sym count) ∙ sym front in
    record {
      first = subst (λ us. ReadsFirst text us (get_or back 0 d) (take (length back - 1) (drop 1 back))) f (reads_first text [] ts _ _ h e);
      texts = subst (λ us. texts_from false text ts ≡ part_text (take (get_or back 0 d).start text) us ++ texts_from false (drop (get_or back 0 d).end text) (take (length back - 1) (drop 1 back))) f (more_texts text ts _ _ e);
    }

-- where a split finds no semicolon, none is there
pub none_behind : (ts back : List Token) (n : ℕ) → n ≡ before_semi ts → back ≡ drop n ts → length back < 1 → drop (before_semi ts) ts ≡ []
none_behind ts [] n count behind empty = ap (λ n. drop n ts) (sym count) ∙ sym behind
none_behind ts (t ∷ back) n count behind empty = absurd (omega (arith, empty))

pub rest_of_text : (text : List ℕ) (n : ℕ) → take (length text - n) (drop n text) ≡ drop n text
rest_of_text text n = take_all (length text - n) (drop n text) (omega (arith, length-drop n text))

-- one more token that counts from the begin of its part
pub counted_more : (now : List Token) (i start : ℕ) (d u : Token) (all : List Token) → i < length now → AreRisingFrom start (drop i now)
    → take i now ++ counted_in_parts start (drop i now) ≡ all → u ≡ counted_from start (get_or now i d)
    → (take (i + 1) (set now i u) ++ counted_in_parts (part_start start (get_or now i d)) (drop (i + 1) (set now i u)) ≡ all) × AreRisingFrom (part_start start (get_or now i d)) (drop (i + 1) (set now i u))
counted_more now i start d u all l r h e =
    let cut : drop i now ≡ get_or now i d ∷ drop (i + 1) now = drop_more now i d l in
    let behind : drop (i + 1) (set now i u) ≡ drop (i + 1) now = drop-set-lt (i + 1) now i u (omega arith) in
    let front : take (i + 1) (set now i u) ≡ take i now ++ u ∷ [] = take_more_set now i u l in
    let rising = subst (AreRisingFrom start) cut r in (
      ap (λ xs. xs ++ counted_in_parts (part_start start (get_or now i d)) (drop (i + 1) (set now i u))) front
          ∙ ap (λ xs. (take i now ++ u ∷ []) ++ counted_in_parts (part_start start (get_or now i d)) xs) behind
          ∙ append_assoc (take i now) (u ∷ []) (counted_in_parts (part_start start (get_or now i d)) (drop (i + 1) now))
          ∙ ap (λ u. take i now ++ u ∷ counted_in_parts (part_start start (get_or now i d)) (drop (i + 1) now)) e
          ∙ sym (ap (λ xs. take i now ++ counted_in_parts start xs) cut)
          ∙ h,
      subst (AreRisingFrom (part_start start (get_or now i d))) (sym behind)
          (elim (is_semi (get_or now i d).kind) as (λ v. AreRisingFrom (cond v (get_or now i d).end start) (drop (i + 1) now)) [
            | true ↦ rising.2
            | false ↦ lower start (get_or now i d).end (drop (i + 1) now) (omega (arith, rising.0, rising.1)) rising.2
          ]),
    )

-- the tokens of a line
pub line_texts : (line : List ℕ) (ts us : List Token) → tokens_of line ≡ Ok ts → AreRisingFrom 0 ts → All (IsWithin (length line)) ts → us ≡ counted_in_parts 0 ts → subcommands_of line ≡ Ok (texts_from false line us)
unfolding subcommands_of
line_texts line ts us h r w e =
    let spans : parts_of line ≡ Ok (filled 0 false (length line) ts) = parts_of-Ok line ts ts (filled 0 false (length line) ts) h refl (filled-filter ts (length line) r w) in
    ap (result_map (map (span_text line))) spans ∙ ap Ok (sym (texts_are line 0 false ts (omega arith) r w)) ∙ ap (λ us. Ok (texts_from false line us)) (sym e)

pub line_reads : (line : List ℕ) (ts us : List Token) → tokens_of line ≡ Ok ts → us ≡ counted_in_parts 0 ts → ReadsInParts line [] us
unfolding tokens_of part_tokens_of
line_reads line ts us h e =
    subst (ReadsInParts line []) (sym e)
    (elim (is_comment line) as (λ v. cond v (Ok []) (tokens_from None Between 0 line) ≡ Ok ts → ReadsInParts line [] (counted_in_parts 0 ts)) [
      | true ↦ λ f. let none : [] ≡ ts = cc in subst (λ ts. ReadsInParts line [] (counted_in_parts 0 ts)) none tt
      | false ↦ λ f. reads 0 line [] ts f tt
    ] h)

pub line_fault : (line : List ℕ) (fault : LexFault) → tokens_of line ≡ Err fault → subcommands_of line ≡ Err fault
unfolding subcommands_of
line_fault line fault h = ap (result_map (map (span_text line))) (parts_of-Err line fault h)

length-counted : (start : ℕ) (ts : List Token) → length (counted_in_parts start ts) ≡ length ts
length-counted start [] = refl
length-counted start (t ∷ ts) = ap suc (length-counted (part_start start t) ts)

-- what was written over the tokens is all that there is
pub written_back : (items now new : List Token) (len : ℕ) → len ≡ length items → now ≡ items → new ≡ counted_in_parts 0 now → take len (new ++ drop (length new) items) ≡ counted_in_parts 0 items
written_back items now new len all same e =
    let written : new ≡ counted_in_parts 0 items = e ∙ ap (counted_in_parts 0) same in
    let long : length new ≡ length items = ap length written ∙ length-counted 0 items in
    ap (λ xs. take len (new ++ xs)) (drop_all (length new) items (omega (arith, long))) ∙ ap (take len) (append-nil new) ∙ take_all len new (omega (arith, long, all)) ∙ written

pub comment_texts : (line : List ℕ) → is_comment line ≡ true → subcommands_of line ≡ Ok []
unfolding tokens_of
comment_texts line h = line_texts line [] [] (ap (λ v. cond v (Ok []) (part_tokens_of line)) h) tt (All-nil (IsWithin (length line))) refl

-- a line that is no comment is read as a part
pub no_comment : (line : List ℕ) (read : Result (List Token) LexFault) → is_comment line ≡ false → tokens_from None Between 0 line ≡ read → tokens_of line ≡ read
unfolding tokens_of part_tokens_of
no_comment line read h e = ap (λ v. cond v (Ok []) (tokens_from None Between 0 line)) h ∙ e
