use Rattle.zones_live.proofs.run.run_live.Goals as goal

pub returns-then-is_live-clause-lives : goal.returns-then-is_live-clause-lives
returns-then-is_live-clause-lives g c = λ R form is. c.run_on_store.ensures.lives R is
