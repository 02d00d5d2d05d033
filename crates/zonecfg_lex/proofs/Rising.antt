-- Tokens rise, lie within their line and are printable.
use Rattle.std.proofs.Common.{◌≡◌, ◌≢◌, inl, inr, ◌≤◌, ◌<◌, ◌+◌, ℕ, true, false, cond, ◌&&◌, nat_lt, List, [], ◌∷◌, Option, Some, None, Result, Ok, Err, All, get_or, drop, length, length-drop, refl, ap, sym, subst, arith, ◌∙◌}
use Rattle.std.specs.Prelude.{◌==◌}
use Rattle.std.proofs.lemmas.Bool.{cases_lt, and_parts, eqb-true}
use Rattle.std.proofs.lemmas.List.{drop_more}
use Rattle.std.proofs.lemmas.List.Elements.{All-nil, All-cons}
use Rattle.zn_base.specs.Text.{is_text_byte}
use Rattle.zonecfg_lex.specs.declared.fault.LexFault.{LexFault}
use Rattle.zonecfg_lex.specs.declared.fault.LexFault.TheVariants.{StrayByte}
use Rattle.zonecfg_lex.specs.declared.scope.Role.{Role}
use Rattle.zonecfg_lex.specs.declared.scope.Role.TheVariants.{Blank, Letter, Sign, Quote, Stray}
use Rattle.zonecfg_lex.specs.declared.scope.Scope.{Scope}
use Rattle.zonecfg_lex.specs.declared.token.Token.{Token}
use Rattle.zonecfg_lex.specs.declared.token.TokenKind.{TokenKind}
use Rattle.zonecfg_lex.specs.declared.token.TokenKind.TheVariants.{Quoted, Word}
use Rattle.zonecfg_lex.specs.Tokens.{behind, before_read, is_word, nothing_unless, open_at_end, or_stray, place_of, quote_behind, result_map, role_of, token, tokens_from, with_word_byte, word, AreRisingFrom}
use Rattle.zonecfg_lex.proofs.Roles.{printable}

-- the bytes of a line from one place to another are printable
abbrev pub PrintsFrom : List ℕ → ℕ → ℕ → Type 0
PrintsFrom line start end = (k : ℕ) → start ≤ k → k < end → is_text_byte (get_or line k 0) ≡ true

-- a token ends within its line and is printable
pub record IsSoundIn (line : List ℕ) (t : Token) : Type 0 where
  pub inside : t.end ≤ length line
  pub prints : PrintsFrom line t.start t.end

-- tokens from a place on, each filled and sound, and the next ones from its end on
abbrev pub AreSoundFrom : List ℕ → ℕ → List Token → Type 0
AreSoundFrom line place [] = Unit {0}
AreSoundFrom line place (t ∷ ts) = (place ≤ t.start) × (t.start < t.end) × IsSoundIn line t × AreSoundFrom line t.end ts

abbrev pub ReadsSoundly : List ℕ → ℕ → Result (List Token) LexFault → Type 0
ReadsSoundly line place (Ok ts) = AreSoundFrom line place ts
ReadsSoundly line place (Err fault) = Unit {0}

pub rise : (line : List ℕ) (p : ℕ) (ts : List Token) → AreSoundFrom line p ts → AreRisingFrom p ts
rise line p [] h = tt
rise line p (t ∷ ts) h = (h.0, h.1, rise line t.end ts h.3)

-- a token that has a byte, and is sound
abbrev pub IsFilledIn : List ℕ → Token → Type 0
IsFilledIn line t = (t.start < t.end) × IsSoundIn line t

pub each_sound : (line : List ℕ) (p : ℕ) (ts : List Token) → AreSoundFrom line p ts → All (IsFilledIn line) ts
each_sound line p [] h = All-nil (IsFilledIn line)
each_sound line p (t ∷ ts) h = All-cons (IsFilledIn line) t ts (h.1, h.2) (each_sound line t.end ts h.3)

sound_before : (line : List ℕ) (p q : ℕ) (read : Result (List Token) LexFault) → p ≤ q → ReadsSoundly line q read → ReadsSoundly line p read
sound_before line p q (Ok []) l h = tt
sound_before line p q (Ok (t ∷ ts)) l h = (omega (arith, h.0), h.1, h.2, h.3)
sound_before line p q (Err fault) l h = tt

-- a stray byte leaves no tokens
stray_sound : (line : List ℕ) (p place : ℕ) (read : Result (List Token) LexFault) → ReadsSoundly line p (or_stray (Some place) read)
stray_sound line p place (Ok ts) = tt
stray_sound line p place (Err fault) =
    elim (nat_lt (place_of fault) place) as (λ v. ReadsSoundly line p (cond v (Err fault) (Err (StrayByte place)))) [ true ↦ tt | false ↦ tt ]

sound_with_token : (line : List ℕ) (p : ℕ) (t : Token) (read : Result (List Token) LexFault) → p ≤ t.start → t.start < t.end → IsSoundIn line t → ReadsSoundly line t.end read → ReadsSoundly line p (result_map (λ ts. t ∷ ts) read)
sound_with_token line p t (Ok ts) l filled h k = (l, filled, h, k)
sound_with_token line p t (Err fault) l filled h k = tt

one_byte : (line : List ℕ) (p : ℕ) → is_text_byte (get_or line p 0) ≡ true → PrintsFrom line p (p + 1)
one_byte line p h k l u = let e : p ≡ k = omega arith in subst (λ (n : ℕ). is_text_byte (get_or line n 0) ≡ true) e h

prints_more : (line : List ℕ) (p q r : ℕ) → PrintsFrom line p q → PrintsFrom line q r → PrintsFrom line p r
prints_more line p q r h k n l u = elim (cases_lt n q) [ inl below ↦ h n l below | inr above ↦ k n above u ]

byte_sound : (line : List ℕ) (p : ℕ) (kind : TokenKind) → p < length line → is_text_byte (get_or line p 0) ≡ true → IsSoundIn line (token kind p (p + 1))
byte_sound line p kind l b = record { inside = omega arith; prints = one_byte line p b }

sound_word_byte : (line : List ℕ) (p : ℕ) (ts : List Token) → p < length line → is_text_byte (get_or line p 0) ≡ true → AreSoundFrom line (p + 1) ts → AreSoundFrom line p (with_word_byte p ts)
sound_word_byte line p [] l b h = (omega arith, omega arith, byte_sound line p Word l b, tt)
sound_word_byte line p (t ∷ ts) l b h =
    elim (is_word t.kind && (t.start == p + 1)) as (λ v. (is_word t.kind && (t.start == p + 1)) ≡ v → AreSoundFrom line p (cond v (word p t.end ∷ ts) (word p (p + 1) ∷ t ∷ ts))) [
      | true ↦ λ e.
          let next : (t.start == p + 1) ≡ true = (and_parts (is_word t.kind) (t.start == p + 1) e).1 in
          let at : t.start ≡ p + 1 = eqb-true t.start (p + 1) next in
          let behind : PrintsFrom line (p + 1) t.end = subst (λ (n : ℕ). PrintsFrom line n t.end) at h.2.prints in
          (omega arith, omega (arith, h.0, h.1), record { inside = h.2.inside; prints = prints_more line p (p + 1) t.end (one_byte line p b) behind }, h.3)
      | false ↦ λ _. (omega arith, omega arith, byte_sound line p Word l b, h)
    ] refl

sound_letter : (line : List ℕ) (p : ℕ) (read : Result (List Token) LexFault) → p < length line → is_text_byte (get_or line p 0) ≡ true → ReadsSoundly line (p + 1) read → ReadsSoundly line p (result_map (with_word_byte p) read)
sound_letter line p (Ok ts) l b h = sound_word_byte line p ts l b h
sound_letter line p (Err fault) l b h = tt

-- where what is read begins
abbrev from : Option ℕ → ℕ → ℕ
from None place = place
from (Some start) place = start

-- a quote that is open at a place began before it, and is printable so far
abbrev pub QuotesSoundly : List ℕ → Option ℕ → ℕ → Type 0
QuotesSoundly line None place = Unit {0}
QuotesSoundly line (Some start) place = (start < place) × PrintsFrom line start place

nothing_sound : (line : List ℕ) (p : ℕ) (fault : Option LexFault) → ReadsSoundly line p (nothing_unless fault)
nothing_sound line p None = tt
nothing_sound line p (Some fault) = tt

-- a byte of some role at a place, before what was read after it
role_sound : (line : List ℕ) (p : ℕ) (role : Role) (read : Result (List Token) LexFault) → p < length line → (role ≢ Blank → role ≢ Stray → is_text_byte (get_or line p 0) ≡ true) → ReadsSoundly line (from (quote_behind role p) (p + 1)) read → ReadsSoundly line p (before_read role p read)
role_sound line p Blank read l b h = sound_before line p (p + 1) read (omega arith) h
role_sound line p Letter read l b h = sound_letter line p read l (b (λ e. absurd (cc)) (λ e. absurd (cc))) h
role_sound line p (Sign kind) read l b h = sound_with_token line p (token kind p (p + 1)) read (omega arith) (omega arith) (byte_sound line p kind l (b (λ e. absurd (cc)) (λ e. absurd (cc)))) h
role_sound line p Quote read l b h = h
role_sound line p Stray read l b h = stray_sound line p p read

quote_sound : (line : List ℕ) (p : ℕ) (role : Role) → (role ≢ Blank → role ≢ Stray → is_text_byte (get_or line p 0) ≡ true) → QuotesSoundly line (quote_behind role p) (p + 1)
quote_sound line p Blank b = tt
quote_sound line p Letter b = tt
quote_sound line p (Sign kind) b = tt
quote_sound line p Quote b = (omega arith, one_byte line p (b (λ e. absurd (cc)) (λ e. absurd (cc))))
quote_sound line p Stray b = tt

-- what stands from a place on begins with the byte there
pub first_of_rest : (line : List ℕ) (p b : ℕ) (xs : List ℕ) → drop p line ≡ b ∷ xs → (p < length line) × (get_or line p 0 ≡ b) × (drop (p + 1) line ≡ xs)
first_of_rest line p b xs e =
    let l : p < length line = omega (arith, ap length e, length-drop p line) in
    let f : get_or line p 0 ∷ drop (p + 1) line ≡ b ∷ xs = sym (drop_more line p 0 l) ∙ e in
    (l, cc, cc)

-- what is read of a line is sound
pub reads_soundly : (line xs : List ℕ) (quote : Option ℕ) (scope : Scope) (p : ℕ) → drop p line ≡ xs → QuotesSoundly line quote p → ReadsSoundly line (from quote p) (tokens_from quote scope p xs)
reads_soundly line [] quote scope p e h = nothing_sound line (from quote p) (open_at_end quote scope)
reads_soundly line (b ∷ xs) None scope p e h =
    let at = first_of_rest line p b xs e in
    let role = role_of scope b in
    let prints : role ≢ Blank → role ≢ Stray → is_text_byte (get_or line p 0) ≡ true = λ blank stray. rw at.1 (printable scope b blank stray) in
    role_sound line p role _ at.0 prints (reads_soundly line xs (quote_behind role p) (behind scope role p) (p + 1) at.2 (quote_sound line p role prints))
reads_soundly line (b ∷ xs) (Some start) scope p e h =
    let at = first_of_rest line p b xs e in
    elim (b == 34) as (λ v. ReadsSoundly line start (cond v (result_map (λ ts. token Quoted start p ∷ ts) (tokens_from None scope (p + 1) xs)) (or_stray (cond (is_text_byte b) None (Some p)) (tokens_from (Some start) scope (p + 1) xs)))) [
      | true ↦ sound_with_token line start (token Quoted start p) _ (omega arith) h.0 (record { inside = omega (arith, at.0); prints = h.1 }) (sound_before line p (p + 1) _ (omega arith) (reads_soundly line xs None scope (p + 1) at.2 tt))
      | false ↦ elim (is_text_byte b) as (λ v. is_text_byte b ≡ v → ReadsSoundly line start (or_stray (cond v None (Some p)) (tokens_from (Some start) scope (p + 1) xs))) [
        | true ↦ λ text. reads_soundly line xs (Some start) scope (p + 1) at.2 (omega (arith, h.0), prints_more line start p (p + 1) h.1 (one_byte line p (rw at.1 text)))
        | false ↦ λ _. stray_sound line start p (tokens_from (Some start) scope (p + 1) xs)
      ] refl
    ]
