use Rattle.std.proofs.Common.{◌∙◌, refl, subst, sym}
use Rattle.brand_hooks.specs.Brands.{tables_of}
use Rattle.zones_run.specs.Complaints.{complaint_output}
use Rattle.zones_run.specs.Output.{Output, written}
use Rattle.zones_run.specs.Program.{ReadsNothing}
use Rattle.zones_run.specs.Run.{TellsLine, TellsText}
use Rattle.zones_run.specs.Words.{AsksForFew}
use Rattle.zones_run.proofs.Commands.{answers_export, answers_help, answers_store, answers_usage, answers_version, asks_written, by_outcome, for_export, for_help, for_store, for_usage, for_version, line_usage, line_written, obeys_complained, obeys_written, records_export, records_help, records_store, records_usage, records_version, text_usage, text_written}
use Rattle.zones_run.proofs.Purging.{answers_unread, line_unread, records_unread, text_unread}
use Rattle.zones_run.proofs.Telling.{line_complained, never_store, status_told, text_nothing}
use Rattle.zones_run.proofs.run.run_zones.Goals as goal

pub returns-in-Ok-Text-clause-text : goal.returns-in-Ok-Text-clause-text
returns-in-Ok-Text-clause-text g c = λ found finds. for_export (tables_of c.args.brands.now) _ found (g.S.Source.left c.args.src.now) (λ (o : Output). TellsText o c.write_text.result (g.K.Sink.holds c.args.out.now) (g.K.Sink.holds c.write_text.new.out)) (sym c.in-Ok.ensures.some ∙ (rw c.in-Some-Export.field-0-is at c.in-Some-Export.is))
    (by_outcome (λ (o : Output). TellsText o c.write_text.result (g.K.Sink.holds c.args.out.now) (g.K.Sink.holds c.write_text.new.out)) (written c.in-Ok-Text.text.items) (g.S.Source.left c.args.src.now) (rw c.in-Ok-Text.field-0-is at c.in-Ok-Text.ensures.whole) (text_written c.in-Ok-Text.text.items c.write_text.result (g.K.Sink.holds c.args.out.now) (g.K.Sink.holds c.write_text.new.out) c.write_text.ensures.statuses (rw c.deref.ensures.value at c.write_text.ensures.all) (rw c.deref.ensures.value at c.write_text.ensures.front)))

pub returns-in-Ok-Text-clause-line : goal.returns-in-Ok-Text-clause-line
returns-in-Ok-Text-clause-line g c = λ found finds. for_export (tables_of c.args.brands.now) _ found (g.S.Source.left c.args.src.now) (λ (o : Output). TellsLine o.err c.write_text.result (g.E.Sink.holds c.args.err.now) (g.E.Sink.holds c.write_text.new.err) (g.E.Sink.faults c.args.err.now) (g.E.Sink.faults c.write_text.new.err)) (sym c.in-Ok.ensures.some ∙ (rw c.in-Some-Export.field-0-is at c.in-Some-Export.is))
    (by_outcome (λ (o : Output). TellsLine o.err c.write_text.result (g.E.Sink.holds c.args.err.now) (g.E.Sink.holds c.write_text.new.err) (g.E.Sink.faults c.args.err.now) (g.E.Sink.faults c.write_text.new.err)) (written c.in-Ok-Text.text.items) (g.S.Source.left c.args.src.now) (rw c.in-Ok-Text.field-0-is at c.in-Ok-Text.ensures.whole) (line_written c.write_text.result (g.E.Sink.holds c.args.err.now) (g.E.Sink.holds c.write_text.new.err) (g.E.Sink.faults c.args.err.now) (g.E.Sink.faults c.write_text.new.err) c.write_text.ensures.statuses c.write_text.ensures.quiet c.write_text.ensures.told))

pub returns-in-Ok-Text-clause-answered : goal.returns-in-Ok-Text-clause-answered
returns-in-Ok-Text-clause-answered g c = λ found finds. answers_export (tables_of c.args.brands.now) _ found c.write_text.result _ _ _ _ (sym c.in-Ok.ensures.some ∙ (rw c.in-Some-Export.field-0-is at c.in-Some-Export.is)) (obeys_written c.write_text.result _ _ _ _ c.write_text.ensures.statuses c.in-Ok-Text.ensures.taken)

pub returns-in-Ok-Text-clause-recorded : goal.returns-in-Ok-Text-clause-recorded
returns-in-Ok-Text-clause-recorded g c = λ R is. records_export (tables_of c.args.brands.now) _ R c.write_text.result _ _ _ (g.D.Disk.view c.args.disk) (g.D.Disk.view c.args.disk) (sym c.in-Ok.ensures.some ∙ (rw c.in-Some-Export.field-0-is at c.in-Some-Export.is))

pub returns-in-Ok-Complains-clause-text : goal.returns-in-Ok-Complains-clause-text
returns-in-Ok-Complains-clause-text g c = λ found finds. for_export (tables_of c.args.brands.now) _ found (g.S.Source.left c.args.src.now) (λ (o : Output). TellsText o c.complain.result (g.K.Sink.holds c.args.out.now) (g.K.Sink.holds c.args.out.now)) (sym c.in-Ok.ensures.some ∙ (rw c.in-Some-Export.field-0-is at c.in-Some-Export.is))
    (by_outcome (λ (o : Output). TellsText o c.complain.result (g.K.Sink.holds c.args.out.now) (g.K.Sink.holds c.args.out.now)) (complaint_output c.in-Ok-Complains.complaint) (g.S.Source.left c.args.src.now) (rw c.in-Ok-Complains.field-0-is at c.in-Ok-Complains.ensures.whole) (text_nothing (complaint_output c.in-Ok-Complains.complaint) c.complain.result (g.K.Sink.holds c.args.out.now) refl (status_told c.complain.result c.in-Ok-Complains.complaint c.complain.ensures.statuses)))

pub returns-in-Ok-Complains-clause-line : goal.returns-in-Ok-Complains-clause-line
returns-in-Ok-Complains-clause-line g c = λ found finds. for_export (tables_of c.args.brands.now) _ found (g.S.Source.left c.args.src.now) (λ (o : Output). TellsLine o.err c.complain.result (g.E.Sink.holds c.args.err.now) (g.E.Sink.holds c.complain.new.err) (g.E.Sink.faults c.args.err.now) (g.E.Sink.faults c.complain.new.err)) (sym c.in-Ok.ensures.some ∙ (rw c.in-Some-Export.field-0-is at c.in-Some-Export.is))
    (by_outcome (λ (o : Output). TellsLine o.err c.complain.result (g.E.Sink.holds c.args.err.now) (g.E.Sink.holds c.complain.new.err) (g.E.Sink.faults c.args.err.now) (g.E.Sink.faults c.complain.new.err)) (complaint_output c.in-Ok-Complains.complaint) (g.S.Source.left c.args.src.now) (rw c.in-Ok-Complains.field-0-is at c.in-Ok-Complains.ensures.whole) (line_complained c.complain.result c.in-Ok-Complains.complaint (g.E.Sink.holds c.args.err.now) (g.E.Sink.holds c.complain.new.err) (g.E.Sink.faults c.args.err.now) (g.E.Sink.faults c.complain.new.err) c.complain.ensures.statuses c.complain.ensures.refused c.complain.ensures.line c.complain.ensures.told))

pub returns-in-Ok-Complains-clause-answered : goal.returns-in-Ok-Complains-clause-answered
returns-in-Ok-Complains-clause-answered g c = λ found finds. answers_export (tables_of c.args.brands.now) _ found c.complain.result _ _ _ _ (sym c.in-Ok.ensures.some ∙ (rw c.in-Some-Export.field-0-is at c.in-Some-Export.is)) (obeys_complained c.complain.result _ _ _ _ c.in-Ok-Complains.complaint c.complain.ensures.statuses refl c.in-Ok-Complains.ensures.taken)

pub returns-in-Ok-Complains-clause-recorded : goal.returns-in-Ok-Complains-clause-recorded
returns-in-Ok-Complains-clause-recorded g c = λ R is. records_export (tables_of c.args.brands.now) _ R c.complain.result _ _ _ (g.D.Disk.view c.args.disk) (g.D.Disk.view c.args.disk) (sym c.in-Ok.ensures.some ∙ (rw c.in-Some-Export.field-0-is at c.in-Some-Export.is))

pub returns-in-Err-clause-text : goal.returns-in-Err-clause-text
returns-in-Err-clause-text g c = λ found finds. text_unread (tables_of c.args.brands.now) c.fail.result c.fail.ensures.status _ (g.K.Sink.holds c.args.out.now)

pub returns-in-Err-clause-line : goal.returns-in-Err-clause-line
returns-in-Err-clause-line g c = λ found finds. line_unread (tables_of c.args.brands.now) c.fail.result c.fail.ensures.status _ _ _ _ _

pub returns-in-Err-clause-answered : goal.returns-in-Err-clause-answered
returns-in-Err-clause-answered g c = λ found finds. answers_unread (tables_of c.args.brands.now) c.fail.result c.fail.ensures.status _ c.in-Err.ensures.memory found _ _

pub returns-in-Err-clause-recorded : goal.returns-in-Err-clause-recorded
returns-in-Err-clause-recorded g c = λ R is. records_unread (tables_of c.args.brands.now) c.fail.result c.fail.ensures.status _ c.in-Err.ensures.memory R _ _ (g.D.Disk.view c.args.disk) (g.met.D.Disk.sound c.args.disk) is

pub returns-in-Some-OnStore-clause-text : goal.returns-in-Some-OnStore-clause-text
returns-in-Some-OnStore-clause-text g c = λ found finds. for_store (tables_of c.args.brands.now) _ found (g.S.Source.left c.args.src.now) _ c.in-Some-OnStore.task (sym c.in-Ok.ensures.some ∙ (rw c.in-Some-OnStore.field-0-is at c.in-Some-OnStore.is)) (c.run_on_store.ensures.text found finds)

pub returns-in-Some-OnStore-clause-line : goal.returns-in-Some-OnStore-clause-line
returns-in-Some-OnStore-clause-line g c = λ found finds. for_store (tables_of c.args.brands.now) _ found (g.S.Source.left c.args.src.now) _ c.in-Some-OnStore.task (sym c.in-Ok.ensures.some ∙ (rw c.in-Some-OnStore.field-0-is at c.in-Some-OnStore.is)) (c.run_on_store.ensures.line found finds)

pub returns-in-Some-OnStore-clause-answered : goal.returns-in-Some-OnStore-clause-answered
returns-in-Some-OnStore-clause-answered g c = λ found finds. answers_store (tables_of c.args.brands.now) _ found c.run_on_store.result.0 _ _ _ _ c.in-Some-OnStore.task (sym c.in-Ok.ensures.some ∙ (rw c.in-Some-OnStore.field-0-is at c.in-Some-OnStore.is)) (c.run_on_store.ensures.answered found finds)

pub returns-in-Some-OnStore-clause-recorded : goal.returns-in-Some-OnStore-clause-recorded
returns-in-Some-OnStore-clause-recorded g c = λ R is. records_store (tables_of c.args.brands.now) _ R c.run_on_store.result.0 _ _ _ (g.D.Disk.view c.args.disk) (g.D.Disk.view c.run_on_store.result.1) c.in-Some-OnStore.task (sym c.in-Ok.ensures.some ∙ (rw c.in-Some-OnStore.field-0-is at c.in-Some-OnStore.is)) (c.run_on_store.ensures.recorded R is)

pub returns-in-Some-Help-clause-text : goal.returns-in-Some-Help-clause-text
returns-in-Some-Help-clause-text g c = λ found finds. for_help (tables_of c.args.brands.now) _ found (g.S.Source.left c.args.src.now) (λ (o : Output). TellsText o c.write_text-in-Some-Help.result (g.K.Sink.holds c.args.out.now) (g.K.Sink.holds c.write_text-in-Some-Help.new.out)) (sym c.in-Ok.ensures.some ∙ (rw c.in-Some-Help.field-0-is at c.in-Some-Help.is)) (text_written _ c.write_text-in-Some-Help.result (g.K.Sink.holds c.args.out.now) (g.K.Sink.holds c.write_text-in-Some-Help.new.out) c.write_text-in-Some-Help.ensures.statuses c.write_text-in-Some-Help.ensures.all c.write_text-in-Some-Help.ensures.front)

pub returns-in-Some-Help-clause-line : goal.returns-in-Some-Help-clause-line
returns-in-Some-Help-clause-line g c = λ found finds. for_help (tables_of c.args.brands.now) _ found (g.S.Source.left c.args.src.now) (λ (o : Output). TellsLine o.err c.write_text-in-Some-Help.result (g.E.Sink.holds c.args.err.now) (g.E.Sink.holds c.write_text-in-Some-Help.new.err) (g.E.Sink.faults c.args.err.now) (g.E.Sink.faults c.write_text-in-Some-Help.new.err)) (sym c.in-Ok.ensures.some ∙ (rw c.in-Some-Help.field-0-is at c.in-Some-Help.is)) (line_written c.write_text-in-Some-Help.result (g.E.Sink.holds c.args.err.now) (g.E.Sink.holds c.write_text-in-Some-Help.new.err) (g.E.Sink.faults c.args.err.now) (g.E.Sink.faults c.write_text-in-Some-Help.new.err) c.write_text-in-Some-Help.ensures.statuses c.write_text-in-Some-Help.ensures.quiet c.write_text-in-Some-Help.ensures.told)

pub returns-in-Some-Help-clause-answered : goal.returns-in-Some-Help-clause-answered
returns-in-Some-Help-clause-answered g c = λ found finds. answers_help (tables_of c.args.brands.now) _ found c.write_text-in-Some-Help.result _ _ _ _ (sym c.in-Ok.ensures.some ∙ (rw c.in-Some-Help.field-0-is at c.in-Some-Help.is)) (asks_written c.write_text-in-Some-Help.result _ _ _ _ c.write_text-in-Some-Help.ensures.statuses refl)

pub returns-in-Some-Help-clause-recorded : goal.returns-in-Some-Help-clause-recorded
returns-in-Some-Help-clause-recorded g c = λ R is. records_help (tables_of c.args.brands.now) _ R c.write_text-in-Some-Help.result _ _ _ (g.D.Disk.view c.args.disk) (g.D.Disk.view c.args.disk) (sym c.in-Ok.ensures.some ∙ (rw c.in-Some-Help.field-0-is at c.in-Some-Help.is))

pub returns-in-Some-Version-clause-text : goal.returns-in-Some-Version-clause-text
returns-in-Some-Version-clause-text g c = λ found finds. for_version (tables_of c.args.brands.now) _ found (g.S.Source.left c.args.src.now) (λ (o : Output). TellsText o c.write_text-in-Some-Version.result (g.K.Sink.holds c.args.out.now) (g.K.Sink.holds c.write_text-in-Some-Version.new.out)) (sym c.in-Ok.ensures.some ∙ (rw c.in-Some-Version.field-0-is at c.in-Some-Version.is)) (text_written _ c.write_text-in-Some-Version.result (g.K.Sink.holds c.args.out.now) (g.K.Sink.holds c.write_text-in-Some-Version.new.out) c.write_text-in-Some-Version.ensures.statuses c.write_text-in-Some-Version.ensures.all c.write_text-in-Some-Version.ensures.front)

pub returns-in-Some-Version-clause-line : goal.returns-in-Some-Version-clause-line
returns-in-Some-Version-clause-line g c = λ found finds. for_version (tables_of c.args.brands.now) _ found (g.S.Source.left c.args.src.now) (λ (o : Output). TellsLine o.err c.write_text-in-Some-Version.result (g.E.Sink.holds c.args.err.now) (g.E.Sink.holds c.write_text-in-Some-Version.new.err) (g.E.Sink.faults c.args.err.now) (g.E.Sink.faults c.write_text-in-Some-Version.new.err)) (sym c.in-Ok.ensures.some ∙ (rw c.in-Some-Version.field-0-is at c.in-Some-Version.is)) (line_written c.write_text-in-Some-Version.result (g.E.Sink.holds c.args.err.now) (g.E.Sink.holds c.write_text-in-Some-Version.new.err) (g.E.Sink.faults c.args.err.now) (g.E.Sink.faults c.write_text-in-Some-Version.new.err) c.write_text-in-Some-Version.ensures.statuses c.write_text-in-Some-Version.ensures.quiet c.write_text-in-Some-Version.ensures.told)

pub returns-in-Some-Version-clause-answered : goal.returns-in-Some-Version-clause-answered
returns-in-Some-Version-clause-answered g c = λ found finds. answers_version (tables_of c.args.brands.now) _ found c.write_text-in-Some-Version.result _ _ _ _ (sym c.in-Ok.ensures.some ∙ (rw c.in-Some-Version.field-0-is at c.in-Some-Version.is)) (asks_written c.write_text-in-Some-Version.result _ _ _ _ c.write_text-in-Some-Version.ensures.statuses refl)

pub returns-in-Some-Version-clause-recorded : goal.returns-in-Some-Version-clause-recorded
returns-in-Some-Version-clause-recorded g c = λ R is. records_version (tables_of c.args.brands.now) _ R c.write_text-in-Some-Version.result _ _ _ (g.D.Disk.view c.args.disk) (g.D.Disk.view c.args.disk) (sym c.in-Ok.ensures.some ∙ (rw c.in-Some-Version.field-0-is at c.in-Some-Version.is))

pub returns-in-None-clause-text : goal.returns-in-None-clause-text
returns-in-None-clause-text g c = λ found finds. for_usage (tables_of c.args.brands.now) _ found (g.S.Source.left c.args.src.now) (λ (o : Output). TellsText o 2 (g.K.Sink.holds c.args.out.now) (g.K.Sink.holds c.args.out.now)) (sym c.in-Ok.ensures.some ∙ c.in-None.is) (text_usage (g.K.Sink.holds c.args.out.now))

pub returns-in-None-clause-line : goal.returns-in-None-clause-line
returns-in-None-clause-line g c = λ found finds. for_usage (tables_of c.args.brands.now) _ found (g.S.Source.left c.args.src.now) (λ (o : Output). TellsLine o.err 2 (g.E.Sink.holds c.args.err.now) (g.E.Sink.holds c.tell.new.err) (g.E.Sink.faults c.args.err.now) (g.E.Sink.faults c.tell.new.err)) (sym c.in-Ok.ensures.some ∙ c.in-None.is) (line_usage (g.E.Sink.holds c.args.err.now) (g.E.Sink.holds c.tell.new.err) (g.E.Sink.faults c.args.err.now) (g.E.Sink.faults c.tell.new.err) c.tell.ensures.front)

pub returns-in-None-clause-answered : goal.returns-in-None-clause-answered
returns-in-None-clause-answered g c = λ found finds. answers_usage (tables_of c.args.brands.now) _ found 2 _ _ _ _ (sym c.in-Ok.ensures.some ∙ c.in-None.is) (record { taken = refl; nothing = λ f. refl })

pub returns-in-None-clause-recorded : goal.returns-in-None-clause-recorded
returns-in-None-clause-recorded g c = λ R is. records_usage (tables_of c.args.brands.now) _ R 2 _ _ _ (g.D.Disk.view c.args.disk) (g.D.Disk.view c.args.disk) (sym c.in-Ok.ensures.some ∙ c.in-None.is)

pub returns-in-Ok-Complains-clause-store : goal.returns-in-Ok-Complains-clause-store
returns-in-Ok-Complains-clause-store g c = λ is _. absurd (never_store c.complain.result c.in-Ok-Complains.complaint c.complain.ensures.statuses (rw c.in-Ok-Complains.field-0-is at c.in-Ok-Complains.ensures.kind) is)

pub returns-in-Err-clause-form : goal.returns-in-Err-clause-form
returns-in-Err-clause-form g c = λ none. absurd (cc (none, c.in-Err.ensures.memory.1))

pub run_on_store-requires-clause-few : goal.run_on_store-requires-clause-few
run_on_store-requires-clause-few g c = subst AsksForFew (rw c.in-Some-OnStore.field-0-is at c.in-Some-OnStore.is) c.in-Ok.ensures.few

pub returns-in-Some-OnStore-clause-unread : goal.returns-in-Some-OnStore-clause-unread
returns-in-Some-OnStore-clause-unread g c = λ none. c.run_on_store.ensures.unread (subst ReadsNothing (sym c.in-Ok.ensures.some ∙ (rw c.in-Some-OnStore.field-0-is at c.in-Some-OnStore.is)) none)
