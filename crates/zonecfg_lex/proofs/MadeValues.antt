-- The value of tokens, by where they first misfit.
use Rattle.std.proofs.Common.{◌≡◌, ◌≤◌, ◌-◌, ℕ, suc, List, [], ◌∷◌, Some, None, Ok, Err, get_or, take, drop, length, ap, sym, arith, ◌∙◌}
use Rattle.std.proofs.lemmas.List.{take_all}
use Rattle.zonecfg_lex.specs.declared.fault.LexFault.TheVariants.{NoValue}
use Rattle.zonecfg_lex.specs.declared.grammar.Stage.TheVariants.{Start}
use Rattle.zonecfg_lex.specs.declared.token.Token.{Token}
use Rattle.zonecfg_lex.specs.Value.{first_misfit, made_value, value_of, value_unless}

pub value_of-misfit : (line : List ℕ) (ts : List Token) (place : ℕ) → first_misfit (length line) Start ts ≡ Some place → value_of line ts ≡ Err (NoValue place)
unfolding value_of
value_of-misfit line ts place h = ap (λ o. value_unless o (made_value line ts)) h

pub value_of-fitting : (line : List ℕ) (ts us : List Token) → first_misfit (length line) Start ts ≡ None → ts ≡ us → value_of line ts ≡ Ok (made_value line us)
unfolding value_of
value_of-fitting line ts us h e = ap (λ o. value_unless o (made_value line ts)) h ∙ ap (λ ts. Ok (made_value line ts)) e

-- the first token, and the rest
pub first_and_rest : (ts : List Token) (d : Token) → 1 ≤ length ts → ts ≡ get_or ts 0 d ∷ take (length ts - 1) (drop 1 ts)
first_and_rest [] d h = absurd (omega arith)
first_and_rest (t ∷ ts) d h = ap (λ us. t ∷ us) (sym (take_all (suc (length ts) - 1) ts (omega arith)))
