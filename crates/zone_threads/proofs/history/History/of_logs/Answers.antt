use Rattle.std.proofs.Common.{ap, ◌∙◌}
use Rattle.zone_threads.specs.Joined.{joined, tail_of}
use Rattle.zone_threads.specs.Records.{spread}
use Rattle.zone_threads.proofs.Joining.{whole}
use Rattle.zone_threads.proofs.history.History.of_logs.Goals as goal

pub returns : goal.returns
returns g c by h order each =
    let tails = c.args.tails.items in
    ap (λ rs. joined (spread rs) (tail_of tails)) c.from_vec.ensures.items ∙ (ap (λ ps. joined ps (tail_of tails)) order ∙ whole by h (tail_of tails) each)
