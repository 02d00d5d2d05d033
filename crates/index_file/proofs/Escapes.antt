-- What an escaped path is without its backslashes.
use Rattle.std.proofs.Common.{◌≡◌, Bool, true, false, ◌&&◌, ◌||◌, not, ℕ, List, [], ◌∷◌, ◌++◌, if◌then◌else◌, refl, ap, ◌∙◌}
use Rattle.std.specs.Prelude.{◌==◌}
use Rattle.index_file.specs.Index.{backslash, colon, escaped}

-- the bytes without each backslash that stands before another byte; whether one was just passed
abbrev pub unescaped : Bool → List ℕ → List ℕ
unescaped held [] = []
unescaped held (b ∷ bytes) = if (b == backslash) && not held then unescaped true bytes else b ∷ unescaped false bytes

-- a byte after a backslash is taken as it is
behind : (b : ℕ) (bytes : List ℕ) → unescaped true (b ∷ bytes) ≡ b ∷ unescaped false bytes
behind b bytes = elim (b == backslash) as (λ v. (if v && false then unescaped true bytes else b ∷ unescaped false bytes) ≡ b ∷ unescaped false bytes) [ true ↦ refl | false ↦ refl ]

one : (b : ℕ) (bytes : List ℕ) → unescaped false ((if b == colon || b == backslash then backslash ∷ b ∷ [] else b ∷ []) ++ bytes) ≡ b ∷ unescaped false bytes
one b bytes =
    elim (b == colon) as (λ v. unescaped false ((if v || b == backslash then backslash ∷ b ∷ [] else b ∷ []) ++ bytes) ≡ b ∷ unescaped false bytes) [
      | true ↦ behind b bytes
      | false ↦ elim (b == backslash) as (λ v. (b == backslash) ≡ v → unescaped false ((if v then backslash ∷ b ∷ [] else b ∷ []) ++ bytes) ≡ b ∷ unescaped false bytes) [
        | true ↦ λ e. behind b bytes
        | false ↦ λ e. rw e refl
      ] refl
    ]

pub unescaped-escaped : (path : List ℕ) → unescaped false (escaped path) ≡ path
unescaped-escaped [] = refl
unescaped-escaped (b ∷ path) = one b (escaped path) ∙ ap (λ l. b ∷ l) (unescaped-escaped path)
