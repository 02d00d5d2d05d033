use Rattle.std.proofs.Common.{◌+◌, ◌++◌, ◌∷◌, ◌∙◌, [], List, ap, refl, set, subst, sym}
use Rattle.zone_cases.specs.declared.events.Entry.{Entry}
use Rattle.zone_cases.specs.declared.events.Event.TheVariants.{Session}
use Rattle.zone_machine.specs.Code.Openings.{StandsFor}
use Rattle.session_runs.proofs.Machine_steps.{err-all, up-to-none}
use Rattle.session_runs.proofs.Stepping.{line-adds, line-up-to}
use Rattle.session_runs.specs.Midway.{AddsOn, AddsUpTo}
use Rattle.session_runs.proofs.steps.type_line.Goals as goal

pub returns-in_err-text-clause-halts : goal.returns-in_err-text-clause-halts
returns-in_err-text-clause-halts g c = λ S p scripts m differ here so_far. err-all c.from_residual.result _
    (λ fault. up-to-none g.D.Disk.view S p c.args.entries.now.items c.args.machine.now fault m.stood (g.met.D.Disk.sound c.args.machine.now.bank.disk) c.requires.ready)

pub returns-in_err-awaits-clause-halts : goal.returns-in_err-awaits-clause-halts
returns-in_err-awaits-clause-halts g c = λ S p scripts m differ here so_far.
    let v = g.D.Disk.view c.args.machine.now.bank.disk in
    let u = g.D.Disk.view c.step.new.machine.bank.disk in
    let e = c.in_ok-entry.entry in
    let text = c.in_ok-text.text in
    let old = c.args.entries.now.items in
    err-all c.from_residual-in_err-awaits.result _ (λ fault. subst (λ (l : List Entry). AddsUpTo fault S p old l (λ T. StandsFor T c.step.new.machine) v u) (sym (c.push_reserved.ensures.items ∙ ap (λ (l : List Entry). l ++ e ∷ []) c.step.ensures.same))
    (line-up-to S p scripts c.args.far.now.items (λ T. StandsFor T c.args.machine.now) m (Session c.args.script.now.session text) e (λ T. StandsFor T c.step.new.machine) v u (c.in_ok-entry.ensures.takes S m.stood)
    old c.args.at c.args.number c.args.script.now text c.index.result.now differ here c.requires.at so_far refl c.requires.number (sym c.index.ensures ∙ sym c.in_ok-text.ensures) fault))

pub returns-clause-adds : goal.returns-clause-adds
returns-clause-adds g c = λ S p scripts m differ here so_far.
    let v = g.D.Disk.view c.args.machine.now.bank.disk in
    let u = g.D.Disk.view c.step.new.machine.bank.disk in
    let e = c.in_ok-entry.entry in
    let text = c.in_ok-text.text in
    let old = c.args.entries.now.items in
    let o = c.in_ok-awaits.field-0 in
    let far = set c.args.far.now.items c.args.at (record { done = c.args.number + 1; awaits = o }) in
    subst (λ (l : List Entry). AddsOn S p scripts far old l (λ T. StandsFor T c.step.new.machine) v u) (sym (c.push_reserved.ensures.items ∙ ap (λ (l : List Entry). l ++ e ∷ []) c.step.ensures.same))
    (line-adds S p scripts c.args.far.now.items (λ T. StandsFor T c.args.machine.now) m (Session c.args.script.now.session text) e (λ T. StandsFor T c.step.new.machine) v u (c.in_ok-entry.ensures.takes S m.stood)
    old c.args.at c.args.number c.args.script.now text c.index.result.now differ here c.requires.at so_far refl c.requires.number (sym c.index.ensures ∙ sym c.in_ok-text.ensures) far o c.in_ok-awaits.ensures refl)
