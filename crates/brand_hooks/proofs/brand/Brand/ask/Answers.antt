use Rattle.std.proofs.Common.{rules}
use Rattle.brand_hooks.proofs.brand.Brand.ask.Goals as goal

pub returns-clause-answer : goal.returns-clause-answer
returns-clause-answer g c = c.requires.answers c.args.change.now c.call.result (search rules)
