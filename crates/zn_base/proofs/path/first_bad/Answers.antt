use Rattle.std.proofs.Common.{◌≡◌, ◌+◌, Some, arith, ◌∙◌, length-drop}
use Rattle.std.specs.Prelude.{position}
use Rattle.zn_base.specs.Path.{is_slash}
use Rattle.zn_base.proofs.Splits.{first_bad_more, split_some}
use Rattle.zn_base.proofs.path.first_bad.Goals as goal

pub loop-end-preserved : goal.loop-end-preserved
loop-end-preserved c =
    let bytes = c.loop-end.rest.now in
    let at : position is_slash bytes ≡ Some c.in-Some.end = cc in
    record {
      same = rw c.rest_behind-rest.ensures (first_bad_more c.loop-end.place c.in-Some.end bytes at (cc) ∙ c.loop-end.invariant.same);
      room = rw c.rest_behind-rest.ensures (omega (arith, (split_some is_slash bytes c.in-Some.end at).0, length-drop (c.in-Some.end + 1) bytes));
    }
