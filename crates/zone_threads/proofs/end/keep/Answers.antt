use Rattle.zone_threads.proofs.Gathering.{first_stays, gathered}
use Rattle.zone_threads.proofs.end.keep.Goals as goal

pub returns-clause-roster : goal.returns-clause-roster
returns-clause-roster g c made out was =
    let list = c.requires.list in
    gathered c.args.first.now.knows c.join.new.first.knows c.args.pass.knows made out c.args.logs.now.items c.push_reserved.new.self.items c.args.log c.join.ensures.first list.0 list.1 list.2 c.push_reserved.ensures.items was

pub returns-clause-first : goal.returns-clause-first
returns-clause-first g c = first_stays c.args.first.now.knows c.join.new.first.knows c.args.pass.knows c.join.ensures.first c.requires.first
