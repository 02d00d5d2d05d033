use Rattle.std.proofs.Common.{true, inr, ◌+◌, ◌≡◌, length, arith}
use Rattle.std.proofs.lemmas.Grind.{common_steps}
use Rattle.std.specs.List.{Any}
use Rattle.index_file.specs.declared.rows.IndexRow.{IndexRow}
use Rattle.index_file.specs.Index.{line_text, IsIndexRow}
use Rattle.index_file.proofs.Walk.{index_push, lines_push, repeats, IsNewName}
use Rattle.index_file.proofs.reading.read_index.Goals as goal

pub returns-then-has_name-clause-fault : goal.returns-then-has_name-clause-fault
returns-then-has_name-clause-fault c =
    let row : IsIndexRow c.in-Some.row × (c.cut_line.result.0.now ≡ line_text c.in-Some.row) = rw c.in-Some.is at c.in_ok-row.ensures.row in
    let earlier : Any (λ (r : IndexRow). r.name ≡ c.in-Some.row.name) c.loop-rest.rows.items = rw c.deref.ensures.value at (c.has_name.ensures.0 c.if-has_name.true) in
    let count : c.len-number.result + 1 ≡ length c.loop-rest.rows.items + 1 = grind (arith, common_steps) in
    inr (repeats c.args.text.now c.loop-rest.rows.items c.in-Some.row c.cut_line.result.0.now c.cut_line.result.1.now c.loop-rest.rest.now (c.len-number.result + 1)
    c.loop-rest.invariant.index c.loop-rest.invariant.lines c.cut_line.ensures.whole row.0 row.1 earlier count)

pub loop-rest-preserved : goal.loop-rest-preserved
loop-rest-preserved c =
    let row : IsIndexRow c.in-Some.row × (c.cut_line.result.0.now ≡ line_text c.in-Some.row) = rw c.in-Some.is at c.in_ok-row.ensures.row in
    let fresh : IsNewName c.loop-rest.rows.items c.in-Some.row.name = λ earlier. let found : c.has_name.result ≡ true = c.has_name.ensures.1 (rw (← c.deref.ensures.value) at earlier) in absurd (cc) in
    rw c.in_ok-push.ensures.items record {
      index = index_push c.loop-rest.rows.items c.in-Some.row c.loop-rest.invariant.index row.0 fresh;
      lines = lines_push c.args.text.now c.loop-rest.rows.items c.in-Some.row c.cut_line.result.0.now c.cut_line.result.1.now c.loop-rest.rest.now c.loop-rest.invariant.lines c.cut_line.ensures.whole row.1;
    }
