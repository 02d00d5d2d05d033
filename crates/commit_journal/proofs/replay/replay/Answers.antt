use Rattle.std.proofs.Common.{◌≡◌, ◌+◌, ◌++◌, ◌∷◌, [], List, ℕ, take, ap, sym, subst, ◌∙◌, refl, Ok, Bool}
use Rattle.std.proofs.lemmas.List.{take_more}
use Rattle.commit_journal.specs.declared.records.Record.{Record}
use Rattle.commit_journal.specs.Replay.{TakesIn}
use Rattle.commit_journal.specs.Store.{HasZones}
use Rattle.commit_journal.specs.Zones.{rows_of}
use Rattle.zn_base.specs.Names.{Name}
use Rattle.commit_journal.proofs.Kept.{zones_none, zones_taken}
use Rattle.commit_journal.proofs.Says.{first_bad}
use Rattle.commit_journal.proofs.replay.replay.Goals as goal

pub returns-then-not-branch-clause-fault : goal.returns-then-not-branch-clause-fault
returns-then-not-branch-clause-fault c =
    let bodies = c.args.bodies.now in
    let at = c.loop-place.place in
    let more : take (at + 1) bodies ≡ take at bodies ++ c.bytes.result.now ∷ [] =
    take_more bodies at c.index-bodies-place.result c.loop-place-test.true ∙ ap (λ (b : List ℕ). take at bodies ++ b ∷ []) (sym c.index-bodies-place.is ∙ sym c.bytes.ensures) in
    first_bad bodies at (at + 1) c.bytes.result.now (rows_of c.loop-place.zones.entries) refl c.loop-place-test.true more c.loop-place.invariant.leave
    (c.take_in.ensures.refused (c.in_ok-take_in.was ∙ ap (λ (b : Bool). Ok b) c.if-not-branch.true))

pub loop-place-preserved : goal.loop-place-preserved
loop-place-preserved c =
    let bodies = c.args.bodies.now in
    let at = c.loop-place.place in
    let more : take (at + 1) bodies ≡ take at bodies ++ c.bytes.result.now ∷ [] =
    take_more bodies at c.index-bodies-place.result c.loop-place-test.true ∙ ap (λ (b : List ℕ). take at bodies ++ b ∷ []) (sym c.index-bodies-place.is ∙ sym c.bytes.ensures) in
    let taken : TakesIn c.bytes.result.now (rows_of c.loop-place.zones.entries) (rows_of c.take_in.new.zones.entries) = c.in_ok-take_in.ensures.taken c.if-not-branch.false in
    zones_taken (take at bodies) (take (at + 1) bodies) (rows_of c.loop-place.zones.entries) (rows_of c.take_in.new.zones.entries) c.bytes.result.now c.loop-place.invariant taken more

pub loop-place-init : goal.loop-place-init
loop-place-init c = subst (λ (es : List (Name × Record)). HasZones [] (rows_of es)) (sym c.new-zones.ensures.empty) zones_none
