use Rattle.std.proofs.Common.{◌≡◌, Some, ap, refl, true}
use Rattle.std.specs.Prelude.{is_some}
use Rattle.indexmap.specs.IndexMap.{with_value_at}
use Rattle.zoneadmd_steps.proofs.Results.{if_ok}
use Rattle.zone_machine.proofs.Banking.{parts-goes, parts-keeps, parts-more}
use Rattle.zone_machine.proofs.Results.{if_err_both, on_ok}
use Rattle.zone_machine.proofs.Stepping.{IsStep-cell, Keeps-at, Leaves-cell, here_at}
use Rattle.zone_machine.specs.Code.Cells.{cell_at}
use Rattle.zone_cases.specs.Code.Cells.{world_or_empty}
use Rattle.zone_machine.specs.Code.Decided.{entry_of}
use Rattle.zone_machine.specs.Code.Records.{StoresUnder, stored_by}
use Rattle.zone_cases.specs.declared.events.Subject.TheVariants.{Zone}
use Rattle.zone_machine.specs.declared.machine.parts.Parts.{Parts}
use Rattle.zone_machine.proofs.machine.parts.Parts.do_at.Goals as goal

pub perform_case-requires-clause-case : goal.perform_case-requires-clause-case
perform_case-requires-clause-case g c = c.requires.case c.index_mut.result.now (here_at c.args.self.now c.args.zone.now c.args.at c.index_mut.result.now c.requires.at c.index_mut.ensures.value)

pub perform_case-requires-clause-free : goal.perform_case-requires-clause-free
perform_case-requires-clause-free g c = c.requires.free c.index_mut.result.now (here_at c.args.self.now c.args.zone.now c.args.at c.index_mut.result.now c.requires.at c.index_mut.ensures.value)

pub returns-clause-step : goal.returns-clause-step
returns-clause-step g c =
    let m = c.args.self.now in let z = c.args.zone.now in let i = c.args.at in let d = c.perform_case.new.cell in let old = c.index_mut.result.now in let h = c.requires.at in
    let u : Parts = record { cells = with_value_at m.cells i d; shared = c.perform_case.new.shared } in
    let here : cell_at z m ≡ Some old = here_at m z i old h c.index_mut.ensures.value in
    if_ok c.perform_case.result _ _
    (λ reply. IsStep-cell m u z c.args.event.now old d (λ out. ap (world_or_empty out) here) (Keeps-at m u z i d h.unique h.index refl) c.args.grant (entry_of (Zone z) c.args.event.now c.args.grant reply) c.requires.of)
    c.perform_case.ensures.step

pub returns-clause-fault : goal.returns-clause-fault
returns-clause-fault g c =
    let m = c.args.self.now in let z = c.args.zone.now in let i = c.args.at in let d = c.perform_case.new.cell in let old = c.index_mut.result.now in let h = c.requires.at in
    let u : Parts = record { cells = with_value_at m.cells i d; shared = c.perform_case.new.shared } in
    let here : cell_at z m ≡ Some old = here_at m z i old h c.index_mut.ensures.value in
    let more : is_some (stored_by c.args.case c.args.grant) ≡ true → StoresUnder (Some c.args.grant) m c.args.event.now =
    parts-more m z old c.args.event.now c.args.case c.args.grant (c.requires.case old here) c.requires.numbered c.requires.of (λ out. ap (world_or_empty out) here) in
    if_err_both c.perform_case.result _ _ _ (λ fault left would. Leaves-cell m u z c.args.event.now old d (λ out. ap (world_or_empty out) here) (Keeps-at m u z i d h.unique h.index refl) c.args.grant fault left (λ is. more (would is)))
    c.perform_case.ensures.fault c.perform_case.ensures.would

pub returns-clause-goes : goal.returns-clause-goes
returns-clause-goes g c =
    let m = c.args.self.now in let z = c.args.zone.now in let old = c.index_mut.result.now in
    let here : cell_at z m ≡ Some old = here_at m z c.args.at old c.requires.at c.index_mut.ensures.value in
    parts-goes m z old c.args.event.now c.args.case c.args.grant (c.requires.case old here) c.requires.numbered c.requires.of (λ out. ap (world_or_empty out) here) _ _ _ c.perform_case.ensures.writes

pub returns-clause-bodies : goal.returns-clause-bodies
returns-clause-bodies g c =
    let m = c.args.self.now in let z = c.args.zone.now in let old = c.index_mut.result.now in
    let here : cell_at z m ≡ Some old = here_at m z c.args.at old c.requires.at c.index_mut.ensures.value in
    on_ok c.perform_case.result _ _ (parts-keeps m z old c.args.event.now c.args.case c.args.grant (c.requires.case old here) c.requires.numbered c.requires.of (λ out. ap (world_or_empty out) here) _ _) c.perform_case.ensures.records
