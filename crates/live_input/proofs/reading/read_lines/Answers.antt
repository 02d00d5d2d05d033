use Rattle.std.proofs.Common.{◌≡◌, ◌+◌, Ok, Err, OnOk, ap, subst, sym, ◌∙◌, arith}
use Rattle.std.specs.List.{All}
use Rattle.std.proofs.lemmas.List.Elements.{All-nil}
use Rattle.std.specs.Option.{option_map}
use Rattle.zn_base.specs.Lines.{lines_of}
use Rattle.live_input.specs.Input.{IsNumbered, input_from}
use Rattle.live_input.proofs.Further.{at_end, at_ended, at_limit, at_long, begins, behind, further, none_left}
use Rattle.live_input.proofs.Numbered.{numbered_more}
use Rattle.live_input.proofs.reading.read_lines.Goals as goal

pub loop-before-init : goal.loop-before-init
loop-before-init g c = record {
  same = begins c.new-ahead.result (g.S.Source.left c.args.source.now) c.args.events.now.items c.new-ahead.ensures c.requires;
  numbered = subst (All IsNumbered) (sym c.requires) (All-nil IsNumbered);
  later = omega arith;
}

pub returns-in-End-clause-whole : goal.returns-in-End-clause-whole
returns-in-End-clause-whole g c = at_end _ _ _ _ _ c.loop-before.invariant.same (rw c.in-End.is at c.in_ok-next_line.ensures.got)

pub returns-in-TooLong-clause-whole : goal.returns-in-TooLong-clause-whole
returns-in-TooLong-clause-whole g c = at_long _ _ _ _ _ c.loop-before.invariant.same (rw c.in-TooLong.is at c.in_ok-next_line.ensures.got)

pub returns-in-Err-clause-whole : goal.returns-in-Err-clause-whole
returns-in-Err-clause-whole g c =
    let line = rw c.in-Line.is at c.in_ok-next_line.ensures.got in
    let says = rw c.deref.ensures.value at c.in-Err.ensures.err in
    rw (c.ended_at.ensures, c.in-Err.ensures.same) (at_ended c.loop-before.events.items c.loop-before.started (c.loop-before.before + 1) c.next_line.new.line.items c.in-Err.fault _ _ _ c.loop-before.invariant.same line.0 (omega (arith, c.loop-before-test.true, c.loop-before.auto.before-end)) line.1 says)

pub returns-in-Err-clause-numbered : goal.returns-in-Err-clause-numbered
returns-in-Err-clause-numbered g c = elim c.ended_at.result as (λ r. OnOk r (All IsNumbered c.put_line.new.events.items)) [
  | Ok ending ↦ subst (All IsNumbered) (sym c.in-Err.ensures.same) c.loop-before.invariant.numbered
  | Err fault ↦ tt
]

pub loop-before-preserved : goal.loop-before-preserved
loop-before-preserved g c =
    let line = rw c.in-Line.is at c.in_ok-next_line.ensures.got in
    let puts = rw c.deref.ensures.value at c.in-Ok.ensures.ok in
    record {
      same = further c.loop-before.started c.in-Ok.now (c.loop-before.before + 1) c.next_line.new.line.items c.loop-before.events.items c.put_line.new.events.items _ _ _ c.loop-before.invariant.same line.0 (omega (arith, c.loop-before-test.true, c.loop-before.auto.before-end)) line.1 puts;
      numbered = numbered_more c.read_events_are_right.ensures.live c.loop-before.started c.in-Ok.now c.next_line.new.line.items c.loop-before.events.items c.put_line.new.events.items puts c.loop-before.invariant.numbered;
      later = omega (arith, c.loop-before.invariant.later, c.next_line.ensures.later);
    }

pub returns-then-branch-clause-whole : goal.returns-then-branch-clause-whole
returns-then-branch-clause-whole g c =
    let left = g.S.Source.left in
    let last : c.loop-before.before + 1 ≡ 4001 = omega (arith, c.loop-before-test.false, c.loop-before.auto.before-end) in
    let same = rw last at c.loop-before.invariant.same in
    at_limit c.loop-before.events.items c.loop-before.started c.refill.new.self (left c.refill.new.source) (left c.args.source.now) (c.in_ok-refill.ensures.more c.if-branch.true)
    (ap (λ known. option_map (λ lines. behind c.loop-before.events.items (input_from c.loop-before.started 4001 lines)) (option_map lines_of known)) (sym c.in_ok-refill.ensures.bytes) ∙ same)

pub returns-clause-whole : goal.returns-clause-whole
returns-clause-whole g c =
    let left = g.S.Source.left in
    let done = c.in_ok-refill.ensures.end c.if-branch.false in
    at_end c.loop-before.events.items c.loop-before.started (c.loop-before.before + 1) _ (left c.args.source.now) c.loop-before.invariant.same
    (none_left c.loop-before.ahead c.refill.new.self (left c.loop-before.source) (left c.refill.new.source) c.in_ok-refill.ensures.bytes done.0 done.1)
