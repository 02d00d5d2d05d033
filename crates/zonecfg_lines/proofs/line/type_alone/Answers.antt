use Rattle.zonecfg_lines.specs.Runs.{alone_run, base_of}
use Rattle.zonecfg_lines.proofs.Replying.{reply_cause, reply_run}
use Rattle.zonecfg_lines.proofs.line.type_alone.Goals as goal

pub returns-clause-run : goal.returns-clause-run
returns-clause-run c =
    let r = alone_run (base_of c.args.stored) c.args.brands.now c.args.line.now c.args.editor.now in
    reply_run r c.obey_alone-end.new.editor c.new-told.result c.obey_alone-end.new.told c.obey_alone-end.result c.reply.result c.reply.ensures c.new-told.ensures c.obey_alone-end.ensures.run

pub returns-clause-cause : goal.returns-clause-cause
returns-clause-cause c =
    let r = alone_run (base_of c.args.stored) c.args.brands.now c.args.line.now c.args.editor.now in
    reply_cause r c.obey_alone-end.new.editor c.new-told.result c.obey_alone-end.new.told c.obey_alone-end.result c.reply.result c.reply.ensures c.new-told.ensures c.obey_alone-end.ensures.run
