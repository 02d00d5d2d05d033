use Rattle.std.proofs.Common.{sym}
use Rattle.zone_config.proofs.Lists.{apart-kept}
use Rattle.zone_config.proofs.resources.is_taken_beside.Goals as goal

pub returns-then-keeps_key : goal.returns-then-keeps_key
returns-then-keeps_key g c = sym (apart-kept g.T.Entry.shown c.args.kind c.args.list.now c.args.place c.args.entry.now c.at.result.now c.requires.once c.at.ensures (sym c.if-keeps_key.ensures))
