use Rattle.index_file.specs.Index.{index_text}
use Rattle.zone_machine.specs.Machine.Indexed.{index_of}
use Rattle.zones_run.proofs.Commands.{text_written}
use Rattle.zones_run.proofs.run.run_index.Goals as goal

pub returns-in-Ok-clause-text : goal.returns-in-Ok-clause-text
returns-in-Ok-clause-text g c = λ brands R s.
    let is = c.in-Ok.ensures.text brands R s in
    text_written (index_text (index_of R)) c.write_text.result (g.K.Sink.holds c.args.out.now) (g.K.Sink.holds c.write_text.new.out) c.write_text.ensures.statuses (rw is at (rw c.deref.ensures.value at c.write_text.ensures.all)) (rw is at (rw c.deref.ensures.value at c.write_text.ensures.front))
