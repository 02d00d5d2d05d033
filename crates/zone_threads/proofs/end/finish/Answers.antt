use Rattle.std.proofs.Common.{rules, ◌≡◌, ◌+◌, [], ap, length, vec_len}
use Rattle.zone_turn.specs.Passes.{out_of}
use Rattle.zone_threads.proofs.Gathering.{closed}
use Rattle.zone_threads.proofs.end.finish.Goals as goal

pub close-requires-clause-all_back : goal.close-requires-clause-all_back
close-requires-clause-all_back g c = ap out_of (c.gather.ensures.roster (vec_len c.args.zones + 1) c.requires.first).is

pub returns-clause-closed : goal.returns-clause-closed
returns-clause-closed g c =
    let e = c.close.ensures in
    let f = c.gather.ensures in
    let empty : c.gather.new.first.knows.list ≡ [] = search rules in
    let count : length c.gather.new.logs.items ≡ g.N.Outset.zones = search rules in
    closed g.M.Zoned.machine g.J.Start.starts g.J.Start.scripts g.N.Outset.zones _ _ _ c.gather.new.logs.items c.gather.new.first.knows (vec_len c.args.zones + 1) e.0 e.1.history.tells e.1.mine e.1.kept e.1.apart e.1.whole
    empty (f.roster (vec_len c.args.zones + 1) c.requires.first) f.cells f.near count

pub returns-clause-room : goal.returns-clause-room
returns-clause-room g c = c.close.ensures.1.history.has_room
