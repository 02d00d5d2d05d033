-- Scripts whose sessions are numbered are the scripts of those lines.
use Rattle.std.proofs.Common.{◌≡◌, ◌≢◌, ℕ, ◌+◌, ◌^◌, ◌<◌, ◌≤◌, ◌==◌, Bool, true, false, List, [], ◌∷◌, ◌++◌, length, if◌then◌else◌, suc, sym, refl, ◌∙◌, arith}
use Rattle.std.specs.List.{All}
use Rattle.std.proofs.lemmas.Bool.{eq-eqb, ne_eqb}
use Rattle.std.proofs.lemmas.List.Elements.{All-nil, All-cons}
use Rattle.zone_threads.specs.Ends.{IsScript}
use Rattle.zone_threads.specs.declared.run.Script.{Script}
use Rattle.threads_tests.specs.Runs.{Numbered, lines_of}
use Rattle.threads_tests.specs.declared.toy.Line.{Line}

pub numbered_more : (n : ℕ) (xs : List (Script Line)) (x : Script Line) → Numbered n xs → x.session ≡ n + length xs → Numbered n (xs ++ x ∷ [])
numbered_more n [] x are is = (omega (arith, is), tt)
numbered_more n (y ∷ ys) x are is = (are.0, numbered_more (n + 1) ys x are.1 (omega (arith, is)))

own_lines : (x : Script Line) (xs : List (Script Line)) → lines_of (x ∷ xs) x.session ≡ x.lines.items
own_lines x xs = rw (eq-eqb x.session x.session refl) refl

later_lines : (x : Script Line) (xs : List (Script Line)) (s : ℕ) → x.session ≢ s → lines_of (x ∷ xs) s ≡ lines_of xs s
later_lines x xs s other = rw (ne_eqb x.session s other) refl

below : (n m s : ℕ) → m ≡ n → n + 1 ≤ s → m ≢ s
below n m s is more same = omega arith

above : (n m : ℕ) → m ≡ n → 0 < n → m ≢ 0
above n m is some same = omega arith

fit : (f : ℕ → List Line) (n : ℕ) (xs : List (Script Line)) → 0 < n → n + length xs ≤ 65 → Numbered n xs → ((s : ℕ) → n ≤ s → lines_of xs s ≡ f s) → All (IsScript f) xs
fit f n [] some few are same = All-nil (IsScript f)
fit f n (x ∷ xs) some few are same =
    All-cons (IsScript f) x xs
    (above n x.session are.0 some, omega (arith, are.0, few), sym (own_lines x xs) ∙ same x.session (omega (arith, are.0)))
    (fit f (n + 1) xs (omega arith) (omega (arith, few)) are.1 (λ s more. sym (later_lines x xs s (below n x.session s are.0 more)) ∙ same s (omega (arith, more))))

pub are_scripts : (xs : List (Script Line)) → Numbered 1 xs → length xs < 65 → All (IsScript (lines_of xs)) xs
are_scripts xs are few = fit (lines_of xs) 1 xs (omega arith) (omega (arith, few)) are (λ s more. refl)

pub none_other : (xs : List (Script Line)) (s : ℕ) → All (λ (x : Script Line). x.session ≢ s) xs → lines_of xs s ≡ []
none_other [] s away = refl
none_other (x ∷ xs) s away = later_lines x xs s (away 0 x (omega arith)) ∙ none_other xs s (λ k d n. away (suc k) d (omega arith))

either : (b : Bool) (us vs : List Line) → length us < 2 ^ 64 → length vs < 2 ^ 64 → length (if b then us else vs) < 2 ^ 64
either true us vs p q = p
either false us vs p q = q

pub are_short : (xs : List (Script Line)) (s : ℕ) → length (lines_of xs s) < 2 ^ 64
are_short [] s = omega arith
are_short (x ∷ xs) s = either (x.session == s) x.lines.items (lines_of xs s) (let ok = x.lines.ok in let small = x.lines.small in omega arith) (are_short xs s)
