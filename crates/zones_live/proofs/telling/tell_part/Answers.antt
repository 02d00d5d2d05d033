use Rattle.zones_live.specs.Records.{record_text}
use Rattle.zones_live.proofs.Written.{front-either}
use Rattle.zones_live.proofs.telling.tell_part.Goals as goal

pub returns-clause-front : goal.returns-clause-front
returns-clause-front g c = front-either (g.K.Sink.holds c.args.out.now) c.write_record.result (g.K.Sink.holds c.write_record.new.out) (record_text c.args.entries) c.write_record.ensures.all c.write_record.ensures.front
