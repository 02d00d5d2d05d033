use Rattle.zonecfg_lines.specs.Runs.{line_run, base_of}
use Rattle.zonecfg_lines.proofs.Replying.{reply_cause, reply_run}
use Rattle.zonecfg_lines.proofs.line.type_line.Goals as goal

pub returns-clause-run : goal.returns-clause-run
returns-clause-run c =
    let r = line_run (base_of c.args.stored) c.args.brands.now c.args.line.now c.args.editor.now in
    reply_run r c.obey_line-end.new.editor c.new-told.result c.obey_line-end.new.told c.obey_line-end.result c.reply.result c.reply.ensures c.new-told.ensures c.obey_line-end.ensures.run

pub returns-clause-cause : goal.returns-clause-cause
returns-clause-cause c =
    let r = line_run (base_of c.args.stored) c.args.brands.now c.args.line.now c.args.editor.now in
    reply_cause r c.obey_line-end.new.editor c.new-told.result c.obey_line-end.new.told c.obey_line-end.result c.reply.result c.reply.ensures c.new-told.ensures c.obey_line-end.ensures.run
