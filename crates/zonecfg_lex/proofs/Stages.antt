-- The stages of a value, and the grammar.
use Rattle.std.proofs.Common.{◌≡◌, ◌≢◌, inl, inr, ℕ, List, [], ◌∷◌, ◌++◌, Option, Some, None, refl, ap, sym, subst, ◌∙◌}
use Rattle.std.proofs.lemmas.List.{append-nil, append_assoc, map-append}
use Rattle.zonecfg_lex.specs.declared.grammar.Stage.{Stage}
use Rattle.zonecfg_lex.specs.declared.grammar.Stage.TheVariants.{Start, Name, Sign, Given, Parted, First, Item, Listed, Done}
use Rattle.zonecfg_lex.specs.declared.token.Token.{Token}
use Rattle.zonecfg_lex.specs.declared.token.TokenKind.{TokenKind}
use Rattle.zonecfg_lex.specs.declared.token.TokenKind.TheVariants.{Word, Quoted, Equals, Comma, Open, Close, ListOpen, ListClose}
use Rattle.zonecfg_lex.specs.Grammar.{kinds, BeginsValue, IsText, IsPairs, IsItems, IsValue, StopsAt}
use Rattle.zonecfg_lex.specs.Grammar.IsText.{word, quoted}
use Rattle.zonecfg_lex.specs.Grammar.IsPairs.{last_pair, pair_before}
use Rattle.zonecfg_lex.specs.Grammar.IsItems.{last_item, item_before}
use Rattle.zonecfg_lex.specs.Grammar.IsValue.{simple, complex, empty_list, list}
use Rattle.zonecfg_lex.specs.Value.{first_misfit, misfit_at_end, stage_behind}

-- how a value goes on after some kinds, where they may stand there
abbrev behind_all : Option Stage → List TokenKind → Option Stage
behind_all None ks = None
behind_all (Some stage) [] = Some stage
behind_all (Some stage) (k ∷ ks) = behind_all (stage_behind stage k) ks

-- what completes a value that stands at a stage
abbrev Completes : Stage → List TokenKind → Type 0
Completes Start ks = IsValue ks
Completes Name ks = (pairs : List TokenKind) × IsPairs pairs × (ks ≡ pairs ++ Close ∷ [])
Completes Sign ks = (pairs : List TokenKind) × IsPairs pairs × (Word ∷ ks ≡ pairs ++ Close ∷ [])
Completes Given ks = (pairs : List TokenKind) × IsPairs pairs × (Word ∷ Equals ∷ ks ≡ pairs ++ Close ∷ [])
Completes Parted ks = (k : TokenKind) → IsText k → (pairs : List TokenKind) × IsPairs pairs × (Word ∷ Equals ∷ k ∷ ks ≡ pairs ++ Close ∷ [])
Completes First ks = IsValue (ListOpen ∷ ks)
Completes Item ks = (items : List TokenKind) × IsItems items × (ks ≡ items ++ ListClose ∷ [])
Completes Listed ks = (k : TokenKind) → IsText k → (items : List TokenKind) × IsItems items × (k ∷ ks ≡ items ++ ListClose ∷ [])
Completes Done ks = ks ≡ []

-- a kind goes before what completes the value after it
abbrev GoesBefore : Option Stage → Stage → TokenKind → List TokenKind → Type 0
GoesBefore None stage k ks = Unit {0}
GoesBefore (Some next) stage k ks = Completes next ks → Completes stage (k ∷ ks)

list_of : (ks : List TokenKind) → Completes Item ks → IsValue (ListOpen ∷ ks)
list_of ks h = subst (λ us. IsValue (ListOpen ∷ us)) (sym h.2) (list h.1)

goes_before : (stage : Stage) (k : TokenKind) (ks : List TokenKind) → GoesBefore (stage_behind stage k) stage k ks
goes_before Start Word ks = λ h. subst (λ us. IsValue (Word ∷ us)) (sym h) (simple word)
goes_before Start Quoted ks = λ h. subst (λ us. IsValue (Quoted ∷ us)) (sym h) (simple quoted)
goes_before Start Open ks = λ h. subst (λ us. IsValue (Open ∷ us)) (sym h.2) (complex h.1)
goes_before Start ListOpen ks = λ h. h
goes_before Name Word ks = λ h. h
goes_before Sign Equals ks = λ h. h
goes_before Given Word ks = λ h. h Word word
goes_before Given Quoted ks = λ h. h Quoted quoted
goes_before Parted Comma ks = λ h k t. (Word ∷ Equals ∷ k ∷ Comma ∷ h.0, pair_before t h.1, ap (λ us. Word ∷ Equals ∷ k ∷ Comma ∷ us) h.2)
goes_before Parted Close ks = λ h k t. (Word ∷ Equals ∷ k ∷ [], last_pair t, ap (λ us. Word ∷ Equals ∷ k ∷ Close ∷ us) h)
goes_before First Word ks = λ h. list_of (Word ∷ ks) (h Word word)
goes_before First Quoted ks = λ h. list_of (Quoted ∷ ks) (h Quoted quoted)
goes_before First ListClose ks = λ h. subst (λ us. IsValue (ListOpen ∷ ListClose ∷ us)) (sym h) empty_list
goes_before Item Word ks = λ h. h Word word
goes_before Item Quoted ks = λ h. h Quoted quoted
goes_before Listed Comma ks = λ h k t. (k ∷ Comma ∷ h.0, item_before t h.1, ap (λ us. k ∷ Comma ∷ us) h.2)
goes_before Listed ListClose ks = λ h k t. (k ∷ [], last_item t, ap (λ us. k ∷ ListClose ∷ us) h)
goes_before stage k ks = tt

-- what ends a value completes it
completes : (ks : List TokenKind) (stage : Stage) → behind_all (Some stage) ks ≡ Some Done → Completes stage ks
completes [] Done h = refl
completes [] stage h = absurd (cc)
completes (k ∷ ks) stage h =
    elim (stage_behind stage k) as (λ o. GoesBefore o stage k ks → behind_all o ks ≡ Some Done → Completes stage (k ∷ ks)) [
      | None ↦ λ _ e. absurd (cc)
      | Some next ↦ λ f e. f (completes ks next e)
    ] (goes_before stage k ks) h

-- pairs and their closing bracket end a value
pairs_end : (ks : List TokenKind) → IsPairs ks → behind_all (Some Name) (ks ++ Close ∷ []) ≡ Some Done
pairs_end _ (last_pair word) = refl
pairs_end _ (last_pair quoted) = refl
pairs_end _ (pair_before word h) = pairs_end _ h
pairs_end _ (pair_before quoted h) = pairs_end _ h

items_end : (ks : List TokenKind) → IsItems ks → behind_all (Some Item) (ks ++ ListClose ∷ []) ≡ Some Done
items_end _ (last_item word) = refl
items_end _ (last_item quoted) = refl
items_end _ (item_before word h) = items_end _ h
items_end _ (item_before quoted h) = items_end _ h

-- the first item of a list stands where its end may stand too
list_end : (ks : List TokenKind) → IsItems ks → behind_all (Some First) (ks ++ ListClose ∷ []) ≡ Some Done
list_end _ (last_item word) = refl
list_end _ (last_item quoted) = refl
list_end _ (item_before word h) = items_end _ h
list_end _ (item_before quoted h) = items_end _ h

value_ends : (ks : List TokenKind) → IsValue ks → behind_all (Some Start) ks ≡ Some Done
value_ends _ (simple word) = refl
value_ends _ (simple quoted) = refl
value_ends _ (complex h) = pairs_end _ h
value_ends _ empty_list = refl
value_ends _ (list h) = list_end _ h

ends_value : (ks : List TokenKind) → behind_all (Some Start) ks ≡ Some Done → IsValue ks
ends_value ks h = completes ks Start h

fitting_ends : (end : ℕ) (ts : List Token) (stage : Stage) → first_misfit end stage ts ≡ None → behind_all (Some stage) (kinds ts) ≡ Some Done
fitting_ends end [] Done h = refl
fitting_ends end [] stage h = absurd (cc)
fitting_ends end (t ∷ ts) stage h =
    elim (stage_behind stage t.kind) as (λ o. elim o as (λ _. Option ℕ) [ None ↦ Some t.start | Some next ↦ first_misfit end next ts ] ≡ None → behind_all o (kinds ts) ≡ Some Done) [
      | None ↦ λ e. absurd (cc)
      | Some next ↦ λ e. fitting_ends end ts next e
    ] h

ends_fitting : (end : ℕ) (ts : List Token) (stage : Stage) → behind_all (Some stage) (kinds ts) ≡ Some Done → first_misfit end stage ts ≡ None
ends_fitting end [] Done h = refl
ends_fitting end [] stage h = absurd (cc)
ends_fitting end (t ∷ ts) stage h =
    elim (stage_behind stage t.kind) as (λ o. behind_all o (kinds ts) ≡ Some Done → elim o as (λ _. Option ℕ) [ None ↦ Some t.start | Some next ↦ first_misfit end next ts ] ≡ None) [
      | None ↦ λ e. absurd (cc)
      | Some next ↦ λ e. ends_fitting end ts next e
    ] h

-- tokens that misfit nowhere are a value
pub fitting_value : (end : ℕ) (ts : List Token) → first_misfit end Start ts ≡ None → IsValue (kinds ts)
fitting_value end ts h = ends_value (kinds ts) (fitting_ends end ts Start h)

pub value_fitting : (end : ℕ) (ts : List Token) → IsValue (kinds ts) → first_misfit end Start ts ≡ None
value_fitting end ts h = ends_fitting end ts Start (value_ends (kinds ts) h)

behind_all-append : (o : Option Stage) (ks us : List TokenKind) → behind_all o (ks ++ us) ≡ behind_all (behind_all o ks) us
behind_all-append None ks us = refl
behind_all-append (Some stage) [] us = refl
behind_all-append (Some stage) (k ∷ ks) us = behind_all-append (stage_behind stage k) ks us

-- kinds that complete a value that stands at a stage
shortest_end : Stage → List TokenKind
shortest_end Start = Word ∷ []
shortest_end Name = Word ∷ Equals ∷ Word ∷ Close ∷ []
shortest_end Sign = Equals ∷ Word ∷ Close ∷ []
shortest_end Given = Word ∷ Close ∷ []
shortest_end Parted = Close ∷ []
shortest_end First = ListClose ∷ []
shortest_end Item = Word ∷ ListClose ∷ []
shortest_end Listed = ListClose ∷ []
shortest_end Done = []

-- each stage can come to the end of a value
comes_to_end : (stage : Stage) → behind_all (Some stage) (shortest_end stage) ≡ Some Done
unfolding shortest_end
comes_to_end Start = refl
comes_to_end Name = refl
comes_to_end Sign = refl
comes_to_end Given = refl
comes_to_end Parted = refl
comes_to_end First = refl
comes_to_end Item = refl
comes_to_end Listed = refl
comes_to_end Done = refl

begins : (ks : List TokenKind) (stage : Stage) → behind_all (Some Start) ks ≡ Some stage → BeginsValue ks
begins ks stage h =
    let all : behind_all (Some Start) (ks ++ shortest_end stage) ≡ Some Done = behind_all-append (Some Start) ks (shortest_end stage) ∙ ap (λ o. behind_all o (shortest_end stage)) h ∙ comes_to_end stage in
    (shortest_end stage, ends_value (ks ++ shortest_end stage) all)

begins_none : (ks : List TokenKind) → behind_all (Some Start) ks ≡ None → BeginsValue ks → ⊥
begins_none ks h b =
    let none : behind_all (Some Start) (ks ++ b.0) ≡ None = behind_all-append (Some Start) ks b.0 ∙ ap (λ o. behind_all o b.0) h in
    let done : behind_all (Some Start) (ks ++ b.0) ≡ Some Done = value_ends (ks ++ b.0) b.1 in
    absurd (cc)

behind_one_more : (before : List Token) (t : Token) (stage : Stage) → behind_all (Some Start) (kinds before) ≡ Some stage → behind_all (Some Start) (kinds (before ++ t ∷ [])) ≡ behind_all (stage_behind stage t.kind) []
behind_one_more before t stage h =
    ap (behind_all (Some Start)) (map-append (λ (t : Token). t.kind) before (t ∷ []))
    ∙ behind_all-append (Some Start) (kinds before) (t.kind ∷ [])
    ∙ ap (λ o. behind_all o (t.kind ∷ [])) h

unfinished : (end : ℕ) (stage : Stage) → stage ≢ Done → misfit_at_end end stage ≡ Some end
unfinished end Done h = absurd (h refl)
unfinished end stage h = refl

stops_at_end : (end : ℕ) (ts : List Token) (stage : Stage) (place : ℕ) → behind_all (Some Start) (kinds ts) ≡ Some stage → misfit_at_end end stage ≡ Some place → StopsAt end ts place
stops_at_end end ts Done place h e = absurd (cc)
stops_at_end end ts stage place h e =
    let lacks : IsValue (kinds ts) → ⊥ = λ v. let done : behind_all (Some Start) (kinds ts) ≡ Some Done = value_ends (kinds ts) v in absurd (cc) in
    inr (record { begins = begins (kinds ts) stage h; lacks = lacks; there = cc })

stops : (end : ℕ) (before ts : List Token) (stage : Stage) (place : ℕ) → behind_all (Some Start) (kinds before) ≡ Some stage → first_misfit end stage ts ≡ Some place → StopsAt end (before ++ ts) place
stops end before [] stage place h e = subst (λ us. StopsAt end us place) (sym (append-nil before)) (stops_at_end end before stage place h e)
stops end before (t ∷ ts) stage place h e =
    elim (stage_behind stage t.kind) as (λ o. behind_all (Some Start) (kinds (before ++ t ∷ [])) ≡ behind_all o [] → elim o as (λ _. Option ℕ) [ None ↦ Some t.start | Some next ↦ first_misfit end next ts ] ≡ Some place → StopsAt end (before ++ t ∷ ts) place) [
      | None ↦ λ m f. inl (record { before = before; token = t; behind = ts; are = refl; begins = begins (kinds before) stage h; misfits = begins_none (kinds (before ++ t ∷ [])) m; there = cc })
      | Some next ↦ λ m f. subst (λ us. StopsAt end us place) (append_assoc before (t ∷ []) ts) (stops end (before ++ t ∷ []) ts next place m f)
    ] (behind_one_more before t stage h) e

-- where tokens misfit they stop being a value
pub misfit_stops : (end : ℕ) (ts : List Token) (place : ℕ) → first_misfit end Start ts ≡ Some place → StopsAt end ts place
misfit_stops end ts place h = stops end [] ts Start place refl h

misfit_behind : (end : ℕ) (before ts : List Token) (from stage : Stage) → behind_all (Some from) (kinds before) ≡ Some stage → first_misfit end from (before ++ ts) ≡ first_misfit end stage ts
misfit_behind end [] ts from stage h = ap (λ s. first_misfit end s ts) (cc)
misfit_behind end (t ∷ before) ts from stage h =
    elim (stage_behind from t.kind) as (λ o. behind_all o (kinds before) ≡ Some stage → elim o as (λ _. Option ℕ) [ None ↦ Some t.start | Some next ↦ first_misfit end next (before ++ ts) ] ≡ first_misfit end stage ts) [
      | None ↦ λ e. absurd (cc)
      | Some next ↦ λ e. misfit_behind end before ts next stage e
    ] h

-- the first token after a beginning of a value misfits where no value goes on with it
misfits_here : (end : ℕ) (before ts : List Token) (t : Token) (stage : Stage) → behind_all (Some Start) (kinds before) ≡ Some stage → (BeginsValue (kinds (before ++ t ∷ [])) → ⊥) → first_misfit end stage (t ∷ ts) ≡ Some t.start
misfits_here end before ts t stage h none =
    elim (stage_behind stage t.kind) as (λ o. behind_all (Some Start) (kinds (before ++ t ∷ [])) ≡ behind_all o [] → elim o as (λ _. Option ℕ) [ None ↦ Some t.start | Some next ↦ first_misfit end next ts ] ≡ Some t.start) [
      | None ↦ λ m. refl
      | Some next ↦ λ m. absurd (none (begins (kinds (before ++ t ∷ [])) next m))
    ] (behind_one_more before t stage h)

-- the stage after what begins a value
record Reaches (ks : List TokenKind) : Type 0 where
  pub stage : Stage
  pub is : behind_all (Some Start) ks ≡ Some stage

reaches : (ks : List TokenKind) → BeginsValue ks → Reaches ks
reaches ks b =
    elim (behind_all (Some Start) ks) as (λ o. behind_all (Some Start) ks ≡ o → Reaches ks) [
      | None ↦ λ e. absurd (begins_none ks e b)
      | Some stage ↦ λ e. record { stage = stage; is = e }
    ] refl

-- where they stop being one they misfit
pub stops_misfit : (end : ℕ) (ts : List Token) (place : ℕ) → StopsAt end ts place → first_misfit end Start ts ≡ Some place
stops_misfit end ts place (inl s) =
    let r = reaches (kinds s.before) s.begins in
    ap (first_misfit end Start) s.are
    ∙ misfit_behind end s.before (s.token ∷ s.behind) Start r.stage r.is
    ∙ misfits_here end s.before s.behind s.token r.stage r.is s.misfits
    ∙ ap Some (sym s.there)
stops_misfit end ts place (inr s) =
    let r = reaches (kinds ts) s.begins in
    let open_ : r.stage ≢ Done = λ e. s.lacks (ends_value (kinds ts) (r.is ∙ ap Some e)) in
    ap (first_misfit end Start) (sym (append-nil ts))
    ∙ misfit_behind end ts [] Start r.stage r.is
    ∙ unfinished end r.stage open_
    ∙ ap Some (sym s.there)
