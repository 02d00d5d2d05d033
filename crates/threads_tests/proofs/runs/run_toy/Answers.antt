use Rattle.threads_tests.proofs.Scripts.{are_scripts, are_short, none_other}
use Rattle.threads_tests.proofs.runs.run_toy.Goals as goal

pub run-requires-clause-scripts : goal.run-requires-clause-scripts
run-requires-clause-scripts g c κs near = are_scripts c.args.scripts.now c.requires.scripts.0 c.requires.scripts.1

pub run-requires-clause-others : goal.run-requires-clause-others
run-requires-clause-others g c κs near = none_other c.args.scripts.now

pub run-requires-clause-few : goal.run-requires-clause-few
run-requires-clause-few g c κs near = are_short c.args.scripts.now
