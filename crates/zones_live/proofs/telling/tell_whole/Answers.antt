use Rattle.std.proofs.Common.{◌≡◌, Option, [], subst, ℕ}
use Rattle.zones_live.specs.Records.{first_refused, record_text, told_record, told_refused}
use Rattle.zones_run.proofs.Telling.{line_failed}
use Rattle.zones_run.specs.Run.{TellsLine}
use Rattle.zones_live.proofs.Told.{line-behind, text-whole}
use Rattle.zones_live.proofs.Written.{front-all}
use Rattle.zones_live.proofs.telling.tell_whole.Goals as goal

pub returns-in-Ok-clause-text : goal.returns-in-Ok-clause-text
returns-in-Ok-clause-text g c =
    let es = c.args.entries in
    text-whole (record_text es) (first_refused 1 es) c.tell_refused.result (g.K.Sink.holds c.args.out.now) (g.K.Sink.holds c.write_record.new.out) c.in-Ok.ensures.all
    (λ d. subst (λ (o : Option ℕ). c.tell_refused.result ≡ (told_refused [] o).status) c.in-Ok.ensures.refused (c.tell_refused.ensures.decided d))

pub returns-in-Ok-clause-front : goal.returns-in-Ok-clause-front
returns-in-Ok-clause-front g c = front-all (g.K.Sink.holds c.args.out.now) (g.K.Sink.holds c.write_record.new.out) (record_text c.args.entries) c.in-Ok.ensures.all

pub returns-in-Err-clause-line : goal.returns-in-Err-clause-line
returns-in-Err-clause-line g c = line_failed (told_record c.args.entries).err c.in-Err.fault c.fail.result _ _ _ _ c.fail.ensures.status (λ f. (c.fail.ensures.write f).1)

pub returns-in-Ok-clause-line : goal.returns-in-Ok-clause-line
returns-in-Ok-clause-line g c =
    let es = c.args.entries in
    let told = c.tell_refused.result in
    let holds = g.E.Sink.holds in
    let faults = g.E.Sink.faults in
    line-behind (record_text es) (first_refused 1 es) told (holds c.args.err.now) (holds c.tell_refused.new.err) (faults c.args.err.now) (faults c.tell_refused.new.err)
    (subst (λ (o : Option ℕ). TellsLine (told_refused [] o).err told (holds c.args.err.now) (holds c.tell_refused.new.err) (faults c.args.err.now) (faults c.tell_refused.new.err)) c.in-Ok.ensures.refused c.tell_refused.ensures.line)
