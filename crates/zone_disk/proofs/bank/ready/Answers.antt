use Rattle.std.proofs.Common.{sym, ◌∙◌}
use Rattle.std.proofs.lemmas.Bool.{false≢true}
use Rattle.zone_disk.specs.Image.{IsUnformatted}
use Rattle.zone_disk.specs.declared.read.Records.{Records}
use Rattle.zone_disk.proofs.Outcome.{says_before}
use Rattle.zone_disk.proofs.bank.ready.Goals as goal

pub returns-clause-answers : goal.returns-clause-answers
returns-clause-answers g c keeps =
    let now = c.prepare.ensures.model.0 keeps in
    let other : IsUnformatted (g.D.Disk.view c.args.disk.now).reads → ⊥ = λ u. false≢true (sym c.if-branch.false ∙ (c.in_ok-prepare.ensures.unformatted keeps).1 u) in
    says_before _ (g.D.Disk.view c.prepare.new.disk).reads other (c.prepare.ensures.other keeps other) (λ (r : Records). r.bodies.items) _ (c.read_all.ensures.ok now) (c.read_all.ensures.err now)
