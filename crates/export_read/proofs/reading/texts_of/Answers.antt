use Rattle.std.proofs.Common.{length, rules, sym, tests, ◌∙◌}
use Rattle.std.specs.List.{slice_split}
use Rattle.std.proofs.lemmas.Iterator.Consumers.{YieldsList-end, YieldsList-turn}
use Rattle.std.proofs.lemmas.Iterator.Splits.{YieldsList-from_slice_split}
use Rattle.export_read.specs.Reading.{is_comma}
use Rattle.export_read.proofs.Pieces.{all_taken, refused_piece}
use Rattle.export_read.proofs.reading.texts_of.Goals as goal

pub returns-in_default : goal.returns-in_default
returns-in_default c =
    let t = YieldsList-turn (YieldsList-from_slice_split _ is_comma c.args.bytes.now (cc) (cc) (cc) (λ x b q k. search (rules, tests))) c.loop-piece.yielded _ c.loop-piece.yielded_by _ _ c.in-Some.piece c.in-Some.is c.next.ensures.steps in
    refused_piece (slice_split is_comma c.args.bytes.now) (length c.loop-piece.yielded) c.in-Some.piece.now t (sym c.in_ok-option.ensures ∙ c.in_default.is)

pub returns : goal.returns
returns c =
    let t = YieldsList-end (YieldsList-from_slice_split _ is_comma c.args.bytes.now (cc) (cc) (cc) (λ x b q k. search (rules, tests))) c.loop-piece.yielded _ c.loop-piece.yielded_by _ _ c.in-None.is c.next.ensures.steps in
    all_taken c.loop-piece.texts _ _ c.loop-piece.invariant t.0
