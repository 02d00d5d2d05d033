-- Reading the tokens of a subcommand one after another.
use Rattle.std.proofs.Common.{◌≡◌, ◌+◌, ◌<◌, ℕ, List, ◌∷◌, None, suc, add-one, drop, drop-cons, length, ap, sym, subst, ◌∙◌}
use Rattle.zonecfg_lex.specs.declared.token.Token.{Token}
use Rattle.zonecfg_lex.specs.Tokens.{word}
use Rattle.zonecfg_scopes.specs.Commands.{list_named}
use Rattle.zonecfg_scopes.specs.Forms.{remove_item_or, remove_matching, remove_of}
use Rattle.zonecfg_scopes.specs.Words.{first_value_missed, or_else, said, value_missed}

skipped : (end : ℕ) (ts us : List Token) (t : Token) → ts ≡ t ∷ us → value_missed end ts ≡ None → first_value_missed end us ≡ first_value_missed end ts
skipped end ts us t e missed =
    let here : value_missed end (t ∷ us) ≡ None = ap (value_missed end) (sym e) ∙ missed in
    sym (ap (first_value_missed end) e ∙ ap (λ o. or_else o (first_value_missed end us)) here)

-- where nothing is missed at a token, what is missed first is missed after it
pub first_value_missed-skipped : (end : ℕ) (ts : List Token) (at : ℕ) → at < length ts → value_missed end (drop at ts) ≡ None → first_value_missed end (drop (at + 1) ts) ≡ first_value_missed end (drop at ts)
first_value_missed-skipped end ts at inside missed =
    let e = drop-cons ts at (word 0 0) inside in
    rw add-one (skipped end (drop at ts) (drop (suc at) ts) _ e missed)

-- where no list is named first, `remove` has a matching
pub remove_of-matching : (line : List ℕ) (ts us : List Token) (t : Token) → ts ≡ t ∷ us → list_named (said line t) ≡ None → remove_of line ts ≡ remove_matching line ts
remove_of-matching line ts us t e unnamed =
    let P : List Token → Type 0 = λ xs. remove_of line xs ≡ remove_matching line xs in
    subst P (sym e) (ap (λ o. remove_item_or o line us (remove_matching line (t ∷ us))) unnamed)
