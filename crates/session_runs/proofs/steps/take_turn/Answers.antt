use Rattle.std.proofs.Common.{◌++◌, ◌∷◌, ◌∙◌, [], List, ap, refl, subst, sym}
use Rattle.zone_cases.specs.declared.events.Entry.{Entry}
use Rattle.zone_cases.specs.declared.events.Event.TheVariants.{Turn}
use Rattle.zone_machine.specs.Code.Openings.{StandsFor}
use Rattle.session_runs.proofs.Stepping.{turn-adds}
use Rattle.session_runs.specs.Midway.{AddsOn}
use Rattle.session_runs.proofs.steps.take_turn.Goals as goal

pub returns-clause-adds : goal.returns-clause-adds
returns-clause-adds g c = λ S p scripts n w m waits zone.
    let v = g.D.Disk.view c.args.machine.now.bank.disk in
    let u = g.D.Disk.view c.step.new.machine.bank.disk in
    let e = c.in_ok-entry.entry in
    subst (λ (l : List Entry). AddsOn S p scripts c.note_turn.new.far.items c.args.entries.now.items l (λ T. StandsFor T c.step.new.machine) v u) (sym (c.push_reserved.ensures.items ∙ ap (λ (l : List Entry). l ++ e ∷ []) c.step.ensures.same))
    (turn-adds S p scripts c.args.far.now.items (λ T. StandsFor T c.args.machine.now) m (Turn c.args.zone) e (λ T. StandsFor T c.step.new.machine) v u (c.in_ok-entry.ensures.takes S m.stood)
    c.no_turn_is_idle_while_a_session_waits.ensures.awake c.args.entries.now.items c.note_turn.new.far.items c.args.zone n w waits zone refl c.note_turn.ensures.len c.note_turn.ensures.each)
