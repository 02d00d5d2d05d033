use Rattle.std.proofs.Common.{inl, inr, subst, sym}
use Rattle.zonecfg_lex.proofs.Letters.{TellsLetters, between, in_word, round, square}
use Rattle.zonecfg_lex.proofs.scope.Scope.least_letter.Goals as goal

pub returns-in-InWord : goal.returns-in-InWord
returns-in-InWord c = subst (TellsLetters 49) (sym c.in-InWord.is) in_word

pub returns-in-Between : goal.returns-in-Between
returns-in-Between c = subst (TellsLetters 50) (sym c.in-Between.is) between

pub returns-in-Round : goal.returns-in-Round
returns-in-Round c =
    elim c.in-Round.is [
      | inl e ↦ subst (TellsLetters 51) (sym e.1) (round e.0)
      | inr e ↦ subst (TellsLetters 51) (sym e.1) (square e.0)
    ]
