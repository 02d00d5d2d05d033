-- What an answer tells that is the one of the definition, or that memory ran out.
use Rattle.std.proofs.Common.{◌≡◌, ℕ, List, ◌∷◌, Ok, Err, IfOk, IfErr, IsTrue, length, ap, inl, inr, sym, subst}
use Rattle.zn_base.specs.Answers.{AnswersUnless}
use Rattle.process_calls.specs.declared.call.CallFault.TheVariants.{Memory}
use Rattle.process_calls.specs.Calls.{Said, call_by, call_of, call_of_words, is_call}
use Rattle.process_calls.specs.Words.{IsWithin, Word, words}
use Rattle.process_calls.proofs.Places.{place_within}
use Rattle.process_calls.proofs.Spelled.{call_is_written}

pub told_by : (text : List ℕ) (first : Word) (more : List Word) (r : Said) → words text ≡ first ∷ more → AnswersUnless Memory (call_by (length text) first more) r → AnswersUnless Memory (call_of text) r
unfolding call_of
told_by text first more r is h = subst (λ said. AnswersUnless Memory said r) (sym (ap (call_of_words (length text)) is)) h

pub right_told : (text : List ℕ) (r : Said) → AnswersUnless Memory (call_of text) r → IfOk r (λ call. IsTrue (is_call call))
right_told text (Ok call) h = (call_is_written text call h).right
right_told text (Err fault) h = tt

pub place_told : (text : List ℕ) (r : Said) → AnswersUnless Memory (call_of text) r → IfErr r (IsWithin (length text))
place_told text (Ok call) h = tt
place_told text (Err fault) h = elim h [
  | inl none ↦ subst (IsWithin (length text)) (sym none) tt
  | inr said ↦ place_within text fault said
]
