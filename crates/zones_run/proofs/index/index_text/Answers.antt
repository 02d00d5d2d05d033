use Rattle.std.proofs.Common.{◌∙◌, List, All, IsTrue, ap, subst, sym}
use Rattle.index_file.specs.Index.{NamesDiffer, index_text}
use Rattle.index_file.specs.declared.rows.IndexRow.{IndexRow}
use Rattle.zn_base.specs.States.{is_stored}
use Rattle.zone_machine.specs.Machine.{opening}
use Rattle.zones_run.proofs.Indexed.{index_differs, index_left, index_rests}
use Rattle.zones_run.proofs.index.index_text.Goals as goal

pub print_index-requires-clause-stored : goal.print_index-requires-clause-stored
print_index-requires-clause-stored g c =
    let begun = c.requires.stands in
    let S = opening begun.0 begun.1.0 in
    let same = c.deref.ensures.value ∙ c.in-Ok.ensures.ok S begun.1.1.parts in
    subst (λ (rows : List IndexRow). All (λ (row : IndexRow). IsTrue (is_stored row.state)) rows) (sym same) (index_rests begun.1.0 (index_left S c.args.machine.now (g.D.Disk.view c.args.machine.now.bank.disk) begun.1.1 c.requires.ready))

pub print_index-requires-clause-names : goal.print_index-requires-clause-names
print_index-requires-clause-names g c =
    let begun = c.requires.stands in
    let same = c.deref.ensures.value ∙ c.in-Ok.ensures.ok (opening begun.0 begun.1.0) begun.1.1.parts in
    subst (λ (rows : List IndexRow). NamesDiffer rows) (sym same) (index_differs begun.1.0)

pub returns-in-Ok-print_index : goal.returns-in-Ok-print_index
returns-in-Ok-print_index g c = record { text = λ brands R s. c.in-Ok-print_index.ensures.text ∙ ap index_text (c.deref.ensures.value ∙ c.in-Ok.ensures.ok (opening brands R) s.parts) }
