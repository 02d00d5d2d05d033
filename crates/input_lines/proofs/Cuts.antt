-- The first line of an input.
use Rattle.std.proofs.Common.{◌≡◌, ◌+◌, ◌≤◌, ◌<◌, ℕ, Bool, true, false, cond, not, nat_lt, suc, is_some, List, [], ◌∷◌, ◌++◌, ◌||◌, length, take, drop, Option, Some, None, IfSome, refl, ap, sym, ◌∙◌, arith, append_assoc, append-nil, length-append, inl}
use Rattle.std.proofs.lemmas.Bool.Decides.{nat_tests}
use Rattle.std.proofs.lemmas.List.{take_all, drop_all, nil_from_length, take-append-drop}
use Rattle.std.proofs.lemmas.List.Folds.{list_any-append}
use Rattle.std.specs.Option.{option_map}
use Rattle.std.specs.List.{position, position_or_len, before_first, after_first, list_any}
use Rattle.std.specs.Io.KnownBytes.{IsAtEnd}
use Rattle.zn_io.specs.Streams.{before_known}
use Rattle.zn_base.specs.Lines.{lines_of, with_first, is_newline}
use Rattle.input_lines.specs.Lines.{has_newline}
use Rattle.input_lines.specs.Reading.{lines_left, FirstIsLong, TakesLine}

-- a newline ends the first line
pub cut_at : (p rest : List ℕ) → has_newline p ≡ false → lines_of (p ++ 10 ∷ rest) ≡ p ∷ lines_of rest
cut_at [] rest h = refl
cut_at (b ∷ p) rest h =
    elim (is_newline b) as (λ v. (v || has_newline p) ≡ false → cond v ([] ∷ lines_of (p ++ 10 ∷ rest)) (with_first b (lines_of (p ++ 10 ∷ rest))) ≡ (b ∷ p) ∷ lines_of rest) [
      | true ↦ λ g. absurd (cc)
      | false ↦ λ g. ap (with_first b) (cut_at p rest g)
    ] h

-- what has no newline is one line
cut_end : (b : ℕ) (p : List ℕ) → has_newline (b ∷ p) ≡ false → lines_of (b ∷ p) ≡ (b ∷ p) ∷ []
cut_end b [] h =
    elim (is_newline b) as (λ v. (v || false) ≡ false → cond v ([] ∷ []) (with_first b []) ≡ (b ∷ []) ∷ []) [
      | true ↦ λ g. absurd (cc)
      | false ↦ λ g. refl
    ] h
cut_end b (c ∷ p) h =
    elim (is_newline b) as (λ v. (v || has_newline (c ∷ p)) ≡ false → cond v ([] ∷ lines_of (c ∷ p)) (with_first b (lines_of (c ∷ p))) ≡ (b ∷ c ∷ p) ∷ []) [
      | true ↦ λ g. absurd (cc)
      | false ↦ λ g. ap (with_first b) (cut_end c p g)
    ] h

lt_step : (m n : ℕ) → nat_lt (1 + m) (suc n) ≡ nat_lt m n
lt_step m n = grind (arith, nat_tests)

any_position : (p : ℕ → Bool) (xs : List ℕ) → nat_lt (position_or_len p xs) (length xs) ≡ list_any p xs
any_position p [] = refl
any_position p (x ∷ xs) =
    elim (p x) as (λ v. nat_lt (cond (not v) (1 + position_or_len p xs) 0) (suc (length xs)) ≡ (v || list_any p xs)) [
      | true ↦ grind (arith, nat_tests)
      | false ↦ lt_step (position_or_len p xs) (length xs) ∙ any_position p xs
    ]

some_is : (b : Bool) (x : ℕ) → is_some (cond b (Some x) None) ≡ b
some_is true x = refl
some_is false x = refl

-- a newline is found exactly where there is one
pub found_is : (xs : List ℕ) → is_some (position is_newline xs) ≡ has_newline xs
found_is xs = some_is _ (position_or_len is_newline xs) ∙ any_position is_newline xs

pub found_some : (xs : List ℕ) (i : ℕ) → position is_newline xs ≡ Some i → true ≡ has_newline xs
found_some xs i e = sym (ap is_some e) ∙ found_is xs

pub found_none : (xs : List ℕ) → position is_newline xs ≡ None → false ≡ has_newline xs
found_none xs e = sym (ap is_some e) ∙ found_is xs

-- a list with a newline is what stands before the first, the newline, and what stands after
parts : (xs : List ℕ) → has_newline xs ≡ true → xs ≡ before_first is_newline xs ++ 10 ∷ after_first is_newline xs
parts [] h = absurd (cc)
parts (x ∷ xs) h =
    elim (is_newline x) as (λ v. is_newline x ≡ v → (v || has_newline xs) ≡ true → x ∷ xs ≡ take (cond (not v) (1 + position_or_len is_newline xs) 0) (x ∷ xs) ++ 10 ∷ drop (cond (not v) (1 + position_or_len is_newline xs) 0 + 1) (x ∷ xs)) [
      | true ↦ λ e _. let is : x ≡ 10 = grind (arith, nat_tests) in ap (λ b. b ∷ xs) is
      | false ↦ λ e g.
          let n : 1 + position_or_len is_newline xs ≡ suc (position_or_len is_newline xs) = omega arith in
          let m : 1 + position_or_len is_newline xs + 1 ≡ suc (position_or_len is_newline xs + 1) = omega arith in
          rw (m, n) (ap (λ bs. x ∷ bs) (parts xs g))
    ] refl h

clean_front : (xs : List ℕ) → has_newline (before_first is_newline xs) ≡ false
clean_front [] = refl
clean_front (x ∷ xs) =
    elim (is_newline x) as (λ v. is_newline x ≡ v → has_newline (take (cond (not v) (1 + position_or_len is_newline xs) 0) (x ∷ xs)) ≡ false) [
      | true ↦ λ e. refl
      | false ↦ λ e.
          let n : 1 + position_or_len is_newline xs ≡ suc (position_or_len is_newline xs) = omega arith in
          rw (n, e) (clean_front xs)
    ] refl

-- with no newline all stands before it
no_parts : (xs : List ℕ) → has_newline xs ≡ false → length xs ≤ position_or_len is_newline xs
no_parts xs h = let e : nat_lt (position_or_len is_newline xs) (length xs) ≡ false = any_position is_newline xs ∙ h in grind (arith, nat_tests)

pub all_front : (xs : List ℕ) → has_newline xs ≡ false → before_first is_newline xs ≡ xs
all_front xs h = take_all (position_or_len is_newline xs) xs (no_parts xs h)

pub none_behind : (xs : List ℕ) → has_newline xs ≡ false → after_first is_newline xs ≡ []
none_behind xs h = let l = no_parts xs h in drop_all (position_or_len is_newline xs + 1) xs (omega (arith, l))

both_clean : (xs ys : List ℕ) → has_newline xs ≡ false → has_newline ys ≡ false → has_newline (xs ++ ys) ≡ false
both_clean xs ys h k = list_any-append is_newline xs ys ∙ rw (h, k) refl

pub cut_whole : (p : List ℕ) → has_newline p ≡ false → 0 < length p → lines_of p ≡ p ∷ []
cut_whole [] h l = absurd (omega arith)
cut_whole (b ∷ p) h l = cut_end b p h

abbrev FirstHas : ℕ → List (List ℕ) → Type 0
FirstHas n [] = ⊥
FirstHas n (line ∷ lines) = n ≤ length line

has_one_more : (n b : ℕ) (ls : List (List ℕ)) → FirstHas n ls → FirstHas (suc n) (with_first b ls)
has_one_more n b [] h = absurd h
has_one_more n b (l ∷ ls) h = omega arith

has_one : (b : ℕ) (ls : List (List ℕ)) → FirstHas 1 (with_first b ls)
has_one b [] = omega arith
has_one b (l ∷ ls) = omega arith

first_has : (b : ℕ) (p rest : List ℕ) → has_newline (b ∷ p) ≡ false → FirstHas (suc (length p)) (lines_of ((b ∷ p) ++ rest))
first_has b [] rest h =
    elim (is_newline b) as (λ v. (v || false) ≡ false → FirstHas 1 (cond v ([] ∷ lines_of rest) (with_first b (lines_of rest)))) [
      | true ↦ λ g. absurd (cc)
      | false ↦ λ g. has_one b (lines_of rest)
    ] h
first_has b (c ∷ p) rest h =
    elim (is_newline b) as (λ v. (v || has_newline (c ∷ p)) ≡ false → FirstHas (suc (suc (length p))) (cond v ([] ∷ lines_of ((c ∷ p) ++ rest)) (with_first b (lines_of ((c ∷ p) ++ rest))))) [
      | true ↦ λ g. absurd (cc)
      | false ↦ λ g. has_one_more (suc (length p)) b (lines_of ((c ∷ p) ++ rest)) (first_has c p rest g)
    ] h

long_from : (n : ℕ) (ls : List (List ℕ)) → 4096 < n → FirstHas n ls → FirstIsLong ls
long_from n [] l h = absurd h
long_from n (x ∷ ls) l h = omega arith

long_first : (p rest : List ℕ) → has_newline p ≡ false → 4096 < length p → FirstIsLong (lines_of (p ++ rest))
long_first [] rest h l = absurd (omega arith)
long_first (b ∷ p) rest h l = long_from (suc (length p)) _ l (first_has b p rest h)

-- at the end of the input, what has come of a line is the last line
pub last_line : (all left : Option (List ℕ)) (line ahead : List ℕ) → all ≡ before_known line (before_known ahead left) → has_newline line ≡ false → 0 < length line → ahead ≡ [] → IsAtEnd left → option_map lines_of all ≡ option_map (λ ls. line ∷ ls) (lines_left ahead left)
last_line all None line ahead e clean some a end = ap (option_map lines_of) e
last_line all (Some xs) line ahead e clean some a end =
    ap (option_map lines_of) e ∙ ap Some (rw (a, end, append-nil) (cut_whole line clean some))

-- and there is none where nothing has come
pub no_line : (all left : Option (List ℕ)) (line ahead : List ℕ) → all ≡ before_known line (before_known ahead left) → length line ≡ 0 → ahead ≡ [] → IsAtEnd left → IfSome (option_map lines_of all) (λ ls. ls ≡ [])
no_line all None line ahead e none a end = rw e tt
no_line all (Some xs) line ahead e none a end = rw (e, a, end, nil_from_length line none) refl

-- where a newline is ahead, the line ends there
pub whole_line : (all left : Option (List ℕ)) (line ahead : List ℕ) → all ≡ before_known line (before_known ahead left) → has_newline line ≡ false → has_newline ahead ≡ true → option_map lines_of all ≡ option_map (λ ls. (line ++ before_first is_newline ahead) ∷ ls) (lines_left (after_first is_newline ahead) left)
whole_line all None line ahead e clean has = ap (option_map lines_of) e
whole_line all (Some xs) line ahead e clean has =
    let front = before_first is_newline ahead in
    let behind = after_first is_newline ahead in
    let cut : line ++ (ahead ++ xs) ≡ (line ++ front) ++ 10 ∷ (behind ++ xs) =
    ap (λ bs. line ++ (bs ++ xs)) (parts ahead has) ∙ ap (λ bs. line ++ bs) (append_assoc front (10 ∷ behind) xs) ∙ sym (append_assoc line front (10 ∷ (behind ++ xs))) in
    ap (option_map lines_of) e ∙ ap Some (ap lines_of cut ∙ cut_at (line ++ front) (behind ++ xs) (both_clean line front clean (clean_front ahead)))

-- what has come of the line and what stands before a newline are too long together
pub long_line : (all left : Option (List ℕ)) (line ahead : List ℕ) → all ≡ before_known line (before_known ahead left) → has_newline line ≡ false → 4096 < length line + length (before_first is_newline ahead) → IfSome (option_map lines_of all) FirstIsLong
long_line all None line ahead e clean long = rw e tt
long_line all (Some xs) line ahead e clean long =
    let front = before_first is_newline ahead in
    let back = drop (position_or_len is_newline ahead) ahead in
    let cut : line ++ (ahead ++ xs) ≡ (line ++ front) ++ (back ++ xs) =
    ap (λ bs. line ++ (bs ++ xs)) (sym (take-append-drop (position_or_len is_newline ahead) ahead)) ∙ ap (λ bs. line ++ bs) (append_assoc front back xs) ∙ sym (append_assoc line front (back ++ xs)) in
    rw (e, cut) (long_first (line ++ front) (back ++ xs) (both_clean line front clean (clean_front ahead)) (omega (arith, length-append line front)))

-- where no newline is ahead, all of it goes onto the line
pub goes_on : (all left : Option (List ℕ)) (line ahead : List ℕ) → all ≡ before_known line (before_known ahead left) → has_newline ahead ≡ false → all ≡ before_known (line ++ before_first is_newline ahead) (before_known (after_first is_newline ahead) left)
goes_on all None line ahead e none = e
goes_on all (Some xs) line ahead e none = e ∙ ap Some (rw (all_front ahead none, none_behind ahead none) (sym (append_assoc line ahead xs)))

pub clean_on : (line ahead : List ℕ) → has_newline line ≡ false → has_newline ahead ≡ false → has_newline (line ++ before_first is_newline ahead) ≡ false
clean_on line ahead h k = both_clean line (before_first is_newline ahead) h (clean_front ahead)

-- where a newline is ahead, the line and its newline were taken
pub took_line : (all left : Option (List ℕ)) (line ahead : List ℕ) → all ≡ before_known line (before_known ahead left) → has_newline line ≡ false → has_newline ahead ≡ true → TakesLine (line ++ before_first is_newline ahead) all (before_known (after_first is_newline ahead) left)
took_line all left line ahead e clean has = record {
  clean = both_clean line (before_first is_newline ahead) clean (clean_front ahead);
  ended = inl (bytes left e);
}
  where
    bytes : (left : Option (List ℕ)) → all ≡ before_known line (before_known ahead left) → all ≡ before_known ((line ++ before_first is_newline ahead) ++ 10 ∷ []) (before_known (after_first is_newline ahead) left)
    bytes None e = e
    bytes (Some xs) e =
        let front = before_first is_newline ahead in
        let behind = after_first is_newline ahead in
        e ∙ ap Some (ap (λ bs. line ++ (bs ++ xs)) (parts ahead has) ∙ ap (λ bs. line ++ bs) (append_assoc front (10 ∷ behind) xs)
        ∙ sym (append_assoc line front (10 ∷ (behind ++ xs))) ∙ sym (append_assoc (line ++ front) (10 ∷ []) (behind ++ xs)))

-- nothing before what is known
pub nothing_before : (ahead : List ℕ) (left known : Option (List ℕ)) → ahead ≡ [] → known ≡ left → before_known ahead left ≡ known
nothing_before ahead None known none same = sym same
nothing_before ahead (Some bs) known none same = ap (λ front. Some (front ++ bs)) none ∙ sym same
