use Rattle.std.proofs.Common.{IsTrue, sym, subst, arith}
use Rattle.std.proofs.lemmas.Grind.{common_steps}
use Rattle.std.proofs.lemmas.List.Elements.{All-more}
use Rattle.zn_base.specs.States.{is_stored}
use Rattle.index_file.specs.Index.{IsIndexRow}
use Rattle.index_file.specs.declared.rows.IndexRow.{IndexRow}
use Rattle.index_file.proofs.printing.print_index.Goals as goal

pub loop-row-preserved : goal.loop-row-preserved
loop-row-preserved c =
    let stored : IsTrue (is_stored c.row-item.result.state) = subst (λ (r : IndexRow). IsTrue (is_stored r.state)) (sym c.row-item.is) (c.requires.stored c.loop-row.row-index c.row-item.result c.loop-row-test.true) in
    record {
      text = grind (arith, common_steps);
      each = All-more IsIndexRow c.args.rows.now c.loop-row.row-index c.row-item.result c.loop-row-test.true c.loop-row.invariant.each
          (subst IsIndexRow c.row-item.is (c.in_ok-push_line.ensures.row stored));
    }
