use Rattle.std.proofs.Common.{◌<◌, arith, length}
use Rattle.std.proofs.lemmas.Bool.Decides.{nat_tests}
use Rattle.std.proofs.lemmas.Result.{err_from_is_err_and}
use Rattle.zn_base.specs.Lines.{lines_of}
use Rattle.export_read.specs.Drafts.{drafted, start}
use Rattle.export_read.proofs.Steps.{line_halted}
use Rattle.export_read.proofs.reader.drafted.Goals as goal

pub returns-in_err-draft-2 : goal.returns-in_err-draft-2
returns-in_err-draft-2 c =
    let some : 0 < length c.loop-rest.rest.now = grind (arith, nat_tests) in
    let p = err_from_is_err_and c.from_residual-in_err-draft-2.result c.from_residual-in_err-draft-2.ensures.1 in
    rw (p.1, p.2) (line_halted c.loop-rest.rest.now c.first_line.result.now c.loop-rest.draft _ (drafted (lines_of c.args.text.now) start) some c.first_line.ensures c.in_err-draft-2.ensures c.loop-rest.invariant)
