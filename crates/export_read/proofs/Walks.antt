-- Walks: commands of which each can be put, while after each the text of a configuration begins with all so far.
use Rattle.std.proofs.Common.{◌≡◌, ℕ, List, [], ◌∷◌, ◌++◌, Some, refl, ap, sym, subst, ◌∙◌, append_assoc, append-nil}
use Rattle.std.specs.List.{flat_map}
use Rattle.std.proofs.lemmas.List.Concat.{flat_map-append}
use Rattle.export_read.proofs.Texts.{text_of}
use Rattle.export_read.specs.declared.command.Command.{Command}
use Rattle.zone_config.specs.Export.{export_text}
use Rattle.zone_config.specs.declared.terms.Contents.{Contents}
use Rattle.export_read.specs.Drafts.{completed, put}
use Rattle.export_read.specs.declared.draft.Draft.{Draft}

-- a draft is completed to a configuration whose text begins with commands
abbrev pub Begins : List Command → Draft → Type 0
Begins q d = (c : Contents) × (completed d ≡ Some c) × ((tail : List ℕ) × (export_text c ≡ text_of q ++ tail))

abbrev pub Walks : List Command → Draft → List Command → Draft → Type 0
Walks q d [] e = d ≡ e
Walks q d (x ∷ xs) e = (next : Draft) × (put x d ≡ Some next) × Begins (q ++ x ∷ []) next × Walks (q ++ x ∷ []) next xs e

-- two walks, one after another
pub walk-then : (xs ys q : List Command) (d m e : Draft) → Walks q d xs m → Walks (q ++ xs) m ys e → Walks q d (xs ++ ys) e
walk-then [] ys q d m e w v =
    let P : Draft → Type 0 = λ d. Walks q d ys e in
    let R : List Command → Type 0 = λ l. Walks l m ys e in
    subst P (sym w) (subst R (append-nil q) v)
walk-then (x ∷ xs) ys q d m e w v =
    let P : List Command → Type 0 = λ l. Walks l m ys e in
    (w.0, w.1, w.2, walk-then xs ys (q ++ x ∷ []) w.0 m e w.3 (subst P (sym (append_assoc q (x ∷ []) xs)) v))

-- a walk of one command
pub walk-one : (q : List Command) (x : Command) (d e : Draft) → put x d ≡ Some e → Begins (q ++ x ∷ []) e → Walks q d (x ∷ []) e
walk-one q x d e h b = (e, h, b, refl)

-- a list is walked where each of its items is
pub walk-each : {A : Type 0} (commands : A → List Command) (state : List A → Draft) (q : List Command) (all pre xs : List A) → pre ++ xs ≡ all
    → ((before after : List A) (x : A) → before ++ x ∷ after ≡ all → Walks (q ++ flat_map commands before) (state before) (commands x) (state (before ++ x ∷ [])))
    → Walks (q ++ flat_map commands pre) (state pre) (flat_map commands xs) (state (pre ++ xs))
walk-each commands state q all pre [] e each = ap state (sym (append-nil pre))
walk-each {A} commands state q all pre (x ∷ xs) e each =
    let go : pre ++ x ∷ xs ≡ (pre ++ x ∷ []) ++ xs = sym (append_assoc pre (x ∷ []) xs) in
    let more : q ++ flat_map commands (pre ++ x ∷ []) ≡ (q ++ flat_map commands pre) ++ commands x =
    ap (λ l. q ++ l) (flat_map-append commands pre (x ∷ []) ∙ ap (λ l. flat_map commands pre ++ l) (append-nil (commands x)))
    ∙ sym (append_assoc q (flat_map commands pre) (commands x)) in
    let W : List Command → Type 0 = λ l. Walks l (state (pre ++ x ∷ [])) (flat_map commands xs) (state ((pre ++ x ∷ []) ++ xs)) in
    let E : List A → Type 0 = λ l. Walks (q ++ flat_map commands pre) (state pre) (commands x ++ flat_map commands xs) (state l) in
    subst E (sym go) (walk-then (commands x) (flat_map commands xs) (q ++ flat_map commands pre) (state pre) (state (pre ++ x ∷ [])) (state ((pre ++ x ∷ []) ++ xs))
    (each pre xs x e) (subst W more (walk-each commands state q all (pre ++ x ∷ []) xs (sym go ∙ e) each)))
