-- The first of several flaws.
use Rattle.std.proofs.Common.{◌≡◌, ◌∙◌, ◌+◌, ◌++◌, ◌<◌, ℕ, List, [], ◌∷◌, Result, Ok, Err, length, get_or, take, drop, refl, sym, ap, inl, inr, append-nil}
use Rattle.std.proofs.lemmas.List.{drop_more, take_more}
use Rattle.zn_base.specs.Answers.{AnswersUnless}
use Rattle.config_verify.specs.declared.flaw.Flaw.{Flaw}
use Rattle.config_verify.specs.declared.flaw.Flaw.TheVariants.{Memory}
use Rattle.config_verify.specs.Flaws.{each_behind, first, Finds}

-- a flaw of the first of two lists is the first flaw
fails_in : (a b : List Flaw) (e : Flaw) → AnswersUnless Memory (first a) (Err e) → AnswersUnless Memory (first (a ++ b)) (Err e)
fails_in [] b e (inl memory) = inl memory
fails_in [] b e (inr said) = absurd (cc)
fails_in (flaw ∷ a) b e h = h

pub fails : {a : List Flaw} {e : Flaw} (b : List Flaw) → Finds a (Err e) → Finds (a ++ b) (Err e)
fails {a} {e} b h = record { answers = fails_in a b e h.answers }

-- where the first has none, it is that of the second
passes_in : (a b : List Flaw) (x : Unit {0}) (answer : Result (Unit {0}) Flaw) → first a ≡ Ok x → AnswersUnless Memory (first b) answer → AnswersUnless Memory (first (a ++ b)) answer
passes_in [] b x answer h found = found
passes_in (flaw ∷ a) b x answer h found = absurd (cc)

pub passes : {a b : List Flaw} {x : Unit {0}} {answer : Result (Unit {0}) Flaw} → Finds a (Ok x) → Finds b answer → Finds (a ++ b) answer
passes {a} {b} {x} {answer} h found = record { answers = passes_in a b x answer h.answers found.answers }

pub alone : {a : List Flaw} {answer : Result (Unit {0}) Flaw} → Finds a answer → Finds (a ++ []) answer
alone {a} h = rw append-nil h

both_none : (a b : List Flaw) → a ++ b ≡ [] → (a ≡ []) × (b ≡ [])
both_none [] b h = (refl, h)
both_none (flaw ∷ a) b h = absurd (cc)

-- the one flaw that there may be between others
pub brand_alone : {b : List Flaw} {answer : Result (Unit {0}) Flaw} (a c : List Flaw) → a ++ c ≡ [] → Finds b answer → Finds (a ++ (b ++ c)) answer
brand_alone {b} {answer} a c h found = let both = both_none a c h in rw (both.0, both.1) (alone found)

none_in : (flaws : List Flaw) (x : Unit {0}) → first flaws ≡ Ok x → flaws ≡ []
none_in [] x h = refl
none_in (flaw ∷ flaws) x h = absurd (cc)

-- where Ok is found there is none
pub none_found : {flaws : List Flaw} {x : Unit {0}} → Finds flaws (Ok x) → flaws ≡ []
none_found {flaws} {x} h = none_in flaws x h.answers

-- the flaws from a place of a list on
pub each_at : {A : Type 0} (flaws : List A → A → List Flaw) (xs : List A) (place : ℕ) (d : A) → place < length xs
    → each_behind flaws (take place xs) (drop place xs) ≡ flaws (take place xs) (get_or xs place d) ++ each_behind flaws (take (place + 1) xs) (drop (place + 1) xs)
each_at flaws xs place d inside =
    ap (each_behind flaws (take place xs)) (drop_more xs place d inside)
    ∙ ap (λ before. flaws (take place xs) (get_or xs place d) ++ each_behind flaws before (drop (place + 1) xs)) (sym (take_more xs place d inside))

-- the first flaw of a list where those before a place have none
carried : (whole rest : List Flaw) (answer : Result (Unit {0}) Flaw) → first whole ≡ first rest → Finds rest answer → Finds whole answer
carried whole rest answer same h = record { answers = rw same h.answers }

skipped : (a b : List Flaw) (x : Unit {0}) → first a ≡ Ok x → first (a ++ b) ≡ first b
skipped [] b x h = refl
skipped (flaw ∷ a) b x h = absurd (cc)

pub each_fails : {A : Type 0} (flaws : List A → A → List Flaw) (xs : List A) (place : ℕ) (x : A) (e : Flaw) → place < length xs → x ≡ get_or xs place x
    → first (each_behind flaws [] xs) ≡ first (each_behind flaws (take place xs) (drop place xs)) → Finds (flaws (take place xs) x) (Err e) → Finds (each_behind flaws [] xs) (Err e)
each_fails flaws xs place x e inside is same h =
    let later = each_behind flaws (take (place + 1) xs) (drop (place + 1) xs) in
    let at : each_behind flaws (take place xs) (drop place xs) ≡ flaws (take place xs) x ++ later = each_at flaws xs place x inside ∙ ap (λ y. flaws (take place xs) y ++ later) (sym is) in
    carried (each_behind flaws [] xs) (flaws (take place xs) x ++ later) (Err e) (same ∙ ap first at) (fails later h)

pub each_passes : {A : Type 0} (flaws : List A → A → List Flaw) (xs : List A) (place : ℕ) (x : A) (u : Unit {0}) → place < length xs → x ≡ get_or xs place x
    → first (each_behind flaws [] xs) ≡ first (each_behind flaws (take place xs) (drop place xs)) → Finds (flaws (take place xs) x) (Ok u)
    → first (each_behind flaws [] xs) ≡ first (each_behind flaws (take (place + 1) xs) (drop (place + 1) xs))
each_passes flaws xs place x u inside is same h =
    let later = each_behind flaws (take (place + 1) xs) (drop (place + 1) xs) in
    let at : each_behind flaws (take place xs) (drop place xs) ≡ flaws (take place xs) x ++ later = each_at flaws xs place x inside ∙ ap (λ y. flaws (take place xs) y ++ later) (sym is) in
    same ∙ ap first at ∙ skipped (flaws (take place xs) x) later u h.answers
