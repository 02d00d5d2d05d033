use Rattle.std.proofs.Common.{◌≤◌, ◌∙◌, length, Err, Ok, None, Some, inr, refl, sym, ap, arith}
use Rattle.trace_text.proofs.Fair.{given_told, split_length, told_at, ungiven}
use Rattle.trace_text.proofs.given.read_given.Goals as goal

pub returns-in_default : goal.returns-in_default
returns-in_default c = inr (ungiven c.args.started c.args.line.now (sym c.if-is_no_event.ensures) c.in_default.ensures.every)

pub moved-requires-clause-fault : goal.moved-requires-clause-fault
moved-requires-clause-fault c =
    let rest = c.in-Some.rest.now in
    let size = split_length c.args.line.now rest c.in-Some.grant c.in-Some.ensures.some in
    let few : length rest ≤ 4200 = omega (arith, c.requires, size) in
    told_at c.args.started rest c.in-Err.fault 4200 few c.in-Err.ensures

pub returns-in-Ok-Some : goal.returns-in-Ok-Some
returns-in-Ok-Some c =
    rw c.in-Ok-Some.field-0-is
    (given_told c.args.started c.args.line.now c.in-Some.rest.now c.in-Some.grant _ (Ok (Some c.in-Ok-Some.event)) (sym c.if-is_no_event.ensures) c.in-Some.ensures.some refl
    (c.in-Ok-Some.ensures ∙ ap Ok c.in-Ok-Some.field-0-is))

pub returns-in-Ok-None : goal.returns-in-Ok-None
returns-in-Ok-None c =
    given_told c.args.started c.args.line.now c.in-Some.rest.now c.in-Some.grant _ (Ok None) (sym c.if-is_no_event.ensures) c.in-Some.ensures.some refl
    (c.in-Ok-None.ensures ∙ ap Ok c.in-Ok-None.field-0-is)

pub returns-in-Err : goal.returns-in-Err
returns-in-Err c =
    rw c.moved.ensures
    (given_told c.args.started c.args.line.now c.in-Some.rest.now c.in-Some.grant _ (Err c.in-Err.fault) (sym c.if-is_no_event.ensures) c.in-Some.ensures.some refl c.in-Err.ensures)
