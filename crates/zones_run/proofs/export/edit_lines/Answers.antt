use Rattle.std.proofs.Common.{◌≡◌, ◌+◌, Err, ap, rules, sym, ◌∙◌, arith}
use Rattle.input_lines.specs.declared.lines.ReadFault.TheVariants.{Failed}
use Rattle.input_lines.proofs.Begins.{takes_just, takes_none}
use Rattle.zones_run.proofs.ExportRuns.{obeys_line, obeys_read, obeys_up_to}
use Rattle.std.specs.Option.{option_map}
use Rattle.zn_base.specs.Lines.{lines_of}
use Rattle.zones_run.specs.Exporting.{edited}
use Rattle.zones_run.proofs.Runs.{limit_begins}
use Rattle.zones_run.proofs.export.edit_lines.Goals as goal

pub returns-then-branch-clause-whole : goal.returns-then-branch-clause-whole
returns-then-branch-clause-whole g c =
    let left = g.S.Source.left in
    let o = c.loop-before.editor.opened in
    let last : c.loop-before.before + 1 ≡ 200001 = omega (arith, c.loop-before-test.false, c.loop-before.auto.before-end) in
    let same = rw last at c.loop-before.invariant.same in
    limit_begins o c.refill.new.self (left c.refill.new.source) (left c.args.source.now) (c.in_ok-refill.ensures.more c.if-branch.true)
    (ap (λ known. option_map (edited 200001 o) (option_map lines_of known)) (sym c.in_ok-refill.ensures.bytes) ∙ same)

pub returns-in_err-next_line-clause-taken : goal.returns-in_err-next_line-clause-taken
returns-in_err-next_line-clause-taken g c = obeys_up_to _ _ _ _ _ c.loop-before.invariant.obeyed c.in_err-next_line.ensures.taken

pub returns-in_err-next_line-clause-read : goal.returns-in_err-next_line-clause-read
returns-in_err-next_line-clause-read g c = λ is.
    let failed : c.in_err-next_line.field-0.0 ≡ Failed = search rules in
    obeys_read _ _ _ _ _ c.loop-before.invariant.obeyed (c.in_err-next_line.ensures.begun (ap Err failed))

pub returns-in-End-clause-taken : goal.returns-in-End-clause-taken
returns-in-End-clause-taken g c = obeys_up_to _ _ _ _ _ c.loop-before.invariant.obeyed c.in_ok-next_line.ensures.taken

pub returns-in-TooLong-clause-taken : goal.returns-in-TooLong-clause-taken
returns-in-TooLong-clause-taken g c = obeys_up_to _ _ _ _ _ c.loop-before.invariant.obeyed c.in_ok-next_line.ensures.taken

pub returns-in-Err-Memory-clause-taken : goal.returns-in-Err-Memory-clause-taken
returns-in-Err-Memory-clause-taken g c = obeys_up_to _ _ _ _ _ c.loop-before.invariant.obeyed c.in_ok-next_line.ensures.taken

pub returns-in-Err-clause-taken : goal.returns-in-Err-clause-taken
returns-in-Err-clause-taken g c = obeys_up_to _ _ _ _ _ c.loop-before.invariant.obeyed c.in_ok-next_line.ensures.taken

pub returns-then-branch-clause-taken : goal.returns-then-branch-clause-taken
returns-then-branch-clause-taken g c = obeys_up_to _ _ _ _ _ c.loop-before.invariant.obeyed (takes_just _ _ _ c.in_ok-refill.ensures.bytes c.in_ok-refill.ensures.few)

pub returns-clause-taken : goal.returns-clause-taken
returns-clause-taken g c = obeys_up_to _ _ _ _ _ c.loop-before.invariant.obeyed (takes_just _ _ _ c.in_ok-refill.ensures.bytes c.in_ok-refill.ensures.few)

pub loop-before-preserved : goal.loop-before-preserved
loop-before-preserved g c =
    let line = rw c.in-Line.is at c.in_ok-next_line.ensures.got in
    let took = rw c.in-Line.is at c.in_ok-next_line.ensures.took in
    let obeyed = rw c.deref.ensures.value at c.in-Ok.ensures in
    record {
      same = search rules;
      obeyed = obeys_line _ _ _ _ _ _ _ c.loop-before.invariant.obeyed (omega arith) took line.1 obeyed;
      later = omega (arith, c.loop-before.invariant.later, c.next_line.ensures.later);
    }

pub returns-in_err-refill-clause-taken : goal.returns-in_err-refill-clause-taken
returns-in_err-refill-clause-taken g c = obeys_up_to _ _ _ _ _ c.loop-before.invariant.obeyed (takes_none _ _ c.in_err-refill.ensures.kept).0

pub returns-in_err-refill-clause-read : goal.returns-in_err-refill-clause-read
returns-in_err-refill-clause-read g c = λ _. obeys_read _ _ _ _ _ c.loop-before.invariant.obeyed (takes_none _ _ c.in_err-refill.ensures.kept)
