use Rattle.std.proofs.lemmas.Result.{IfOk-weaker}
use Rattle.zone_threads.proofs.Gathering.{both_ok, each_done, or_none}
use Rattle.zone_threads.proofs.Words.{partial, whole}
use Rattle.zone_threads.proofs.live.run_scripts.Goals as goal

pub returns-clause-partial : goal.returns-clause-partial
returns-clause-partial g c =
    IfOk-weaker c.started.result _ _ (λ r over s from. partial g.M.Zoned.machine s g.J.Start.scripts r.shared r.entries (over.middle s from) c.requires.few.1) c.started.ensures.over

pub returns-clause-record : goal.returns-clause-record
returns-clause-record g c = IfOk-weaker c.started.result _ _
    (λ r both s from none. whole g.M.Zoned.machine s g.J.Start.scripts r.shared r.entries (both.0.middle s from) c.requires.few.1
    (λ n. or_none (each_done g.M.Zoned.machine g.J.Start.scripts r.entries c.args.scripts.now c.requires.scripts (both.1 s from none) n) (c.requires.others n)))
    (both_ok c.started.result _ _ c.started.ensures.over c.started.ensures.finished)

pub returns-clause-shared : goal.returns-clause-shared
returns-clause-shared g c = IfOk-weaker c.started.result _ _ (λ r over s from. (over.middle s from).shared) c.started.ensures.over

pub returns-clause-cells : goal.returns-clause-cells
returns-clause-cells g c = IfOk-weaker c.started.result _ _ (λ r over s from. over.backs s from) c.started.ensures.over

pub returns-clause-there : goal.returns-clause-there
returns-clause-there g c = IfOk-weaker c.started.result _ _ (λ r over. over.there) c.started.ensures.over

pub returns-clause-sound : goal.returns-clause-sound
returns-clause-sound g c = IfOk-weaker c.started.result _ _ (λ r over. over.free) c.started.ensures.over

pub returns-clause-memory : goal.returns-clause-memory
returns-clause-memory g c = c.started.ensures.memory
