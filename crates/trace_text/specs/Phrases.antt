-- A phrase: a word, and what follows it.
use Rattle.std.specs.Prelude.{ℕ, List, ◌∷◌, ◌++◌}
use Rattle.std.specs.Fmt.{decimal}
use Rattle.trace_text.specs.Edit_faults.{edit_text}
use Rattle.trace_text.specs.Flaws.{flaw_text, limit_fault_text}
use Rattle.trace_text.specs.Turns.{claim_text, counted_text}
use Rattle.trace_text.specs.declared.phrases.Phrase.{Phrase}
use Rattle.trace_text.specs.declared.phrases.Phrase.TheVariants.{Bare, Text, State, Number, Numbers, Counted, Claimed, Edit, Flawed, Limited}
use Rattle.zn_base.specs.States.{state_text}

abbrev pub phrase_text : Phrase → List ℕ
phrase_text (Bare word) = word.now
phrase_text (Text word text) = word.now ++ text.now
phrase_text (State word state) = word.now ++ state_text state
phrase_text (Number word n) = word.now ++ decimal n
phrase_text (Numbers word m n) = word.now ++ decimal m ++ 32 ∷ decimal n
phrase_text (Counted word n) = counted_text word.now n.now
phrase_text (Claimed word claim) = word.now ++ claim_text claim.now
phrase_text (Flawed flaw) = flaw_text flaw.now
phrase_text (Edit fault) = edit_text fault
phrase_text (Limited fault) = limit_fault_text fault
