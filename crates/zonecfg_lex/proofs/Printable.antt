-- Parts of a line that are texts.
use Rattle.std.proofs.Common.{◌≡◌, ◌≤◌, ◌<◌, ◌+◌, ◌-◌, ℕ, true, false, cond, not, nat_lt, List, [], ◌∷◌, Some, None, Result, Ok, Err, IfOk, IsTrue, All, Vec, Global, get_or, drop, length, length-take, get_or-take, get_or-drop, refl, ap, subst, arith, ◌∙◌}
use Rattle.std.specs.Prelude.{is_ok, position, slice_range}
use Rattle.std.proofs.lemmas.Bool.Decides.{nat_tests}
use Rattle.std.proofs.lemmas.List.Elements.{All-nil, All-weaker}
use Rattle.std.proofs.lemmas.List.Quantifiers.{position-Some}
use Rattle.std.proofs.lemmas.Result.{IfOk-weaker}
use Rattle.zn_base.specs.Answers.{AnswersUnless}
use Rattle.zn_base.specs.declared.text.TextFault.TheVariants.{TextLong}
use Rattle.zn_base.specs.Text.{is_text, is_text_byte, text_of as text_in, text_unless}
use Rattle.zonecfg_lex.specs.declared.fault.LexFault.{LexFault}
use Rattle.zonecfg_lex.specs.declared.fault.LexFault.TheVariants.{Memory}
use Rattle.zonecfg_lex.specs.declared.scope.Scope.TheVariants.{Between}
use Rattle.zonecfg_lex.specs.declared.token.Token.{Token}
use Rattle.zonecfg_lex.specs.Tokens.{part_tokens_of, result_map, text_of, tokens_from, AreRising, IsWithin}
use Rattle.zonecfg_lex.specs.Subcommands.{AreRead}
use Rattle.zonecfg_lex.specs.Value.{is_quoted, IsReadable}
use Rattle.zonecfg_lex.proofs.Rising.{AreSoundFrom, IsFilledIn, PrintsFrom, ReadsSoundly, each_sound, reads_soundly, rise}

is_text-printing : (xs : List ℕ) → length xs ≤ 4200 → ((k : ℕ) → k < length xs → is_text_byte (get_or xs k 0) ≡ true) → is_text xs ≡ true
is_text-printing xs l h =
    elim (position (λ b. not (is_text_byte b)) xs) as (λ o. position (λ b. not (is_text_byte b)) xs ≡ o → is_ok (text_unless o xs) ≡ true) [
      | None ↦ λ _. let short : nat_lt 4200 (length xs) ≡ false = grind (arith, nat_tests) in rw short refl
      | Some i ↦ λ e.
          let bad = position-Some (λ b. not (is_text_byte b)) xs i 0 e in
          let good = h i bad.0 in
          absurd (cc (bad.1, ap not good))
    ] refl

-- a text is the bytes that it was read from
pub text_in-Ok : (xs ys : List ℕ) → text_in xs ≡ Ok ys → xs ≡ ys
text_in-Ok xs ys =
    elim (position (λ b. not (is_text_byte b)) xs) as (λ o. text_unless o xs ≡ Ok ys → xs ≡ ys) [
      | None ↦ elim (nat_lt 4200 (length xs)) as (λ v. cond v (Err TextLong) (Ok xs) ≡ Ok ys → xs ≡ ys) [
        | true ↦ λ e. absurd (cc)
        | false ↦ λ e. cc
      ]
      | Some i ↦ λ e. absurd (cc)
    ]

-- a printable part of a line is a text
pub is_text-slice : (line : List ℕ) (start end : ℕ) → length line ≤ 4200 → end ≤ length line → PrintsFrom line start end → is_text (slice_range line start end) ≡ true
is_text-slice line start end short inside prints =
    let len : length (slice_range line start end) ≤ end - start = omega (arith, length-take (end - start) (drop start line)) in
    is_text-printing (slice_range line start end) (omega arith) (λ k l.
    let at : get_or (slice_range line start end) k 0 ≡ get_or line (start + k) 0 = get_or-take (end - start) (drop start line) k 0 (omega arith) ∙ get_or-drop start line k 0 in
    rw at (prints (start + k) (omega arith) (omega arith)))

-- what the tokens of a line keep to
pub record KeepTo (line : List ℕ) (ts : List Token) : Type 0 where
  pub within : All (IsWithin (length line)) ts
  pub rising : AreRising ts
  pub printable : All (λ t. IsTrue (is_text (text_of line t))) ts
  pub readable : All (IsReadable line) ts

module _ (line : List ℕ) where
  reads_are_sound : (r : Result (Vec Token Global) LexFault) → AnswersUnless Memory (tokens_from None Between 0 line) (result_map (λ (v : Vec Token Global). v.items) r) → IfOk r (λ v. AreSoundFrom line 0 v.items)
  reads_are_sound (Ok v) h = subst (ReadsSoundly line 0) h (reads_soundly line line None Between 0 refl tt)
  reads_are_sound (Err e) h = tt

  all_within : (ts : List Token) → AreSoundFrom line 0 ts → All (IsWithin (length line)) ts
  all_within ts h = All-weaker (IsFilledIn line) (IsWithin (length line)) (λ t s. record { ordered = omega (arith, s.0); inside = s.1.inside }) ts (each_sound line 0 ts h)

  all_printable : length line ≤ 4200 → (ts : List Token) → AreSoundFrom line 0 ts → All (λ t. IsTrue (is_text (text_of line t))) ts
  all_printable short ts h = All-weaker (IsFilledIn line) (λ t. IsTrue (is_text (text_of line t))) (λ t s. is_text-slice line t.start t.end short s.1.inside s.1.prints) ts (each_sound line 0 ts h)

  readable : length line ≤ 4200 → (t : Token) → IsFilledIn line t → IsReadable line t
  readable short t s = record {
    filled = s.0;
    inside = s.1.inside;
    printable = elim (is_quoted t.kind) as (λ v. is_text (slice_range line (cond v (t.start + 1) t.start) t.end) ≡ true) [
      | true ↦ is_text-slice line (t.start + 1) t.end short s.1.inside (λ k l u. s.1.prints k (omega arith) u)
      | false ↦ is_text-slice line t.start t.end short s.1.inside s.1.prints
    ];
  }

  all_readable : length line ≤ 4200 → (ts : List Token) → AreSoundFrom line 0 ts → All (IsReadable line) ts
  all_readable short ts h = All-weaker (IsFilledIn line) (IsReadable line) (readable short) ts (each_sound line 0 ts h)

  -- what a line is read as is readable
  pub readable_in : length line ≤ 4200 → (ts : List Token) → AreRead line ts → All (IsReadable line) ts
  unfolding part_tokens_of
  readable_in short [] h = All-nil (IsReadable line)
  readable_in short (t ∷ ts) h = all_readable short (t ∷ ts) (subst (ReadsSoundly line 0) h (reads_soundly line line None Between 0 refl tt))

  -- what the tokens of a line that is read keep to
  pub sound_tokens : length line ≤ 4200 → (ts : List Token) → tokens_from None Between 0 line ≡ Ok ts → KeepTo line ts
  sound_tokens short ts h =
      let s = subst (ReadsSoundly line 0) h (reads_soundly line line None Between 0 refl tt) in
      record { within = all_within ts s; rising = rise line 0 ts s; printable = all_printable short ts s; readable = all_readable short ts s }

  pub keep : length line ≤ 4200 → (r : Result (Vec Token Global) LexFault) → AnswersUnless Memory (tokens_from None Between 0 line) (result_map (λ (v : Vec Token Global). v.items) r) → IfOk r (λ v. KeepTo line v.items)
  keep short r h =
      IfOk-weaker r (λ (v : Vec Token Global). AreSoundFrom line 0 v.items) (λ (v : Vec Token Global). KeepTo line v.items)
      (λ v s. record { within = all_within v.items s; rising = rise line 0 v.items s; printable = all_printable short v.items s; readable = all_readable short v.items s }) (reads_are_sound r h)
