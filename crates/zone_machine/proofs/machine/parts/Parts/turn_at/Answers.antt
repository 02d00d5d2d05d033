use Rattle.std.proofs.Common.{◌≡◌, None, Option, Some, ap, rules, subst, sym, ◌∙◌}
use Rattle.std.specs.Prelude.{IsSomeAnd}
use Rattle.brand_hooks.specs.declared.table.HookAnswer.{HookAnswer}
use Rattle.zone_pools.specs.Decisions.{Just}
use Rattle.zone_pools.specs.declared.grant.Grant.{Grant}
use Rattle.zone_pools.specs.declared.grant.Grant.TheVariants.{Nothing}
use Rattle.zone_cases.specs.Code.Cells.{IsHeardIn, Outside, cell_objects}
use Rattle.zone_cases.specs.declared.cell.Cell.{Cell}
use Rattle.zone_cases.specs.declared.events.Event.{Event}
use Rattle.zone_cases.specs.declared.events.Subject.TheVariants.{Zone}
use Rattle.zoneadmd_steps.specs.Code.Cases.{turn_decision_of}
use Rattle.zoneadmd_steps.specs.Code.Desks.{as_desk}
use Rattle.zoneadmd_steps.specs.Turns.{local_turn}
use Rattle.zone_machine.specs.Code.Cells.{cell_at}
use Rattle.zone_machine.specs.Code.Decided.{entry_of}
use Rattle.zone_machine.specs.Code.Local_turns.{IsLocalTurn}
use Rattle.zone_machine.specs.Code.Reads.{is_turn, subject_in}
use Rattle.zone_machine.specs.Code.Records.{KeepsBodies}
use Rattle.zone_machine.specs.Code.Steps.{IsStepUnder}
use Rattle.zone_machine.proofs.At_once.{answered-at-once, as-it-was, keeps-at-once, left, memory-left, noted, turn_entry, unstated}
use Rattle.zone_machine.proofs.Local_doing.{done-local}
use Rattle.zone_machine.proofs.Stepping.{heard-at, here_at, some_is}
use Rattle.zone_machine.proofs.machine.parts.Parts.turn_at.Goals as goal

pub returns-in_err-reply-clause-fault : goal.returns-in_err-reply-clause-fault
returns-in_err-reply-clause-fault g c =
    let m = c.args.self.now in let z = c.args.zone.now in let i = c.args.at in let old = c.index_mut.result.now in let d = c.do_local.new.cell in
    let here : cell_at z m ≡ Some old = here_at m z i old c.requires.at c.index_mut.ensures.value in
    memory-left c.from_residual-in_err-reply.result c.args.stated m (left m z i old d c.args.hook c.requires.at here m.shared) c.args.event.now (search rules)
    (as-it-was m z i old d c.args.hook c.requires.at here c.in_err-reply.ensures.memory)

pub returns-in-Some-clause-ok : goal.returns-in-Some-clause-ok
returns-in-Some-clause-ok g c =
    let m = c.args.self.now in let z = c.args.zone.now in let i = c.args.at in let old = c.index_mut.result.now in let d = c.do_local.new.cell in let case = c.in-Some.case in let reply = c.in_ok-reply.reply in
    let here : cell_at z m ≡ Some old = here_at m z i old c.requires.at c.index_mut.ensures.value in
    let same : c.index.result.now ≡ old = some_is c.index.result.now old (sym (here_at m z i c.index.result.now c.requires.at c.index.ensures) ∙ here) in
    let next : (out : Outside) → IsHeardIn out.brands old c.args.hook → IsSomeAnd (local_turn out.brands (cell_objects old) (as_desk old.desk)) (λ t. Just t ≡ turn_decision_of old.desk case) =
    subst (λ (x : Cell). (out : Outside) → IsHeardIn out.brands x c.args.hook → IsSomeAnd (local_turn out.brands (cell_objects x) (as_desk x.desk)) (λ t. Just t ≡ turn_decision_of x.desk case)) same (rw c.in-Some.is at c.in_ok-case.ensures.some) in
    let turn : IsLocalTurn z old c.args.hook (turn_entry z reply) d = done-local z old d c.args.hook (turn_entry z reply) (turn_decision_of old.desk case) next (ap (turn_entry z) c.in_ok-reply.ensures.reply) c.in_ok-reply.ensures.done in
    let heard : IsHeardIn m.shared.brands old c.args.hook = heard-at m c.args.event.now z old c.args.hook c.requires.hook (ap (subject_in m.shared) c.requires.turn) here (ap is_turn c.requires.turn) in
    let u = left m z i old d c.args.hook c.requires.at here (noted m z i old d c.args.hook c.requires.at here) in
    subst (λ (s : Option Grant). IsStepUnder s m c.args.event.now (entry_of (Zone z) c.args.event.now Nothing reply) u) (sym (unstated c.args.stated c.is_none.result c.is_none.ensures c.if-is_none.true))
    (subst (λ (e : Event). IsStepUnder None m e (entry_of (Zone z) e Nothing reply) u) (sym c.requires.turn) (answered-at-once m z i old d c.args.hook c.requires.at here reply heard turn))

pub returns-in-Some-clause-bodies : goal.returns-in-Some-clause-bodies
returns-in-Some-clause-bodies g c =
    let m = c.args.self.now in let z = c.args.zone.now in let i = c.args.at in let old = c.index_mut.result.now in let d = c.do_local.new.cell in let case = c.in-Some.case in let reply = c.in_ok-reply.reply in
    let here : cell_at z m ≡ Some old = here_at m z i old c.requires.at c.index_mut.ensures.value in
    let same : c.index.result.now ≡ old = some_is c.index.result.now old (sym (here_at m z i c.index.result.now c.requires.at c.index.ensures) ∙ here) in
    let next : (out : Outside) → IsHeardIn out.brands old c.args.hook → IsSomeAnd (local_turn out.brands (cell_objects old) (as_desk old.desk)) (λ t. Just t ≡ turn_decision_of old.desk case) =
    subst (λ (x : Cell). (out : Outside) → IsHeardIn out.brands x c.args.hook → IsSomeAnd (local_turn out.brands (cell_objects x) (as_desk x.desk)) (λ t. Just t ≡ turn_decision_of x.desk case)) same (rw c.in-Some.is at c.in_ok-case.ensures.some) in
    let turn : IsLocalTurn z old c.args.hook (turn_entry z reply) d = done-local z old d c.args.hook (turn_entry z reply) (turn_decision_of old.desk case) next (ap (turn_entry z) c.in_ok-reply.ensures.reply) c.in_ok-reply.ensures.done in
    let heard : IsHeardIn m.shared.brands old c.args.hook = heard-at m c.args.event.now z old c.args.hook c.requires.hook (ap (subject_in m.shared) c.requires.turn) here (ap is_turn c.requires.turn) in
    let bodies = c.args.bank.now.records in
    subst (λ (s : Option Grant). KeepsBodies s m c.args.event.now bodies bodies) (sym (unstated c.args.stated c.is_none.result c.is_none.ensures c.if-is_none.true))
    (subst (λ (e : Event). KeepsBodies None m e bodies bodies) (sym c.requires.turn) (keeps-at-once m z i old d c.args.hook c.requires.at here reply heard turn bodies))
