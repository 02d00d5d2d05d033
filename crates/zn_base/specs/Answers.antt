-- Answers that yield only where memory runs out.
use Rattle.std.specs.Prelude.{◌≡◌, ◌⊎◌, Result, Ok, Err}

-- the answer is the one that a definition gives, or that memory ran out
abbrev pub AnswersUnless : {T E : Type 0} → E → Result T E → Result T E → Type 0
AnswersUnless memory said (Ok x) = said ≡ Ok x
AnswersUnless memory said (Err e) = (e ≡ memory) ⊎ (said ≡ Err e)
