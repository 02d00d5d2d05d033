use Rattle.std.proofs.Common.{map}
use Rattle.export_read.proofs.Pieces.{AreTexts}
use Rattle.export_read.proofs.reading.texts_of.Given as goal

abbrev pub invariant-loop-piece : goal.invariant-loop-piece
invariant-loop-piece l = AreTexts l.texts (map (λ x. x.now) l.yielded)
