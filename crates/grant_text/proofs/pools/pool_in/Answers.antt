use Rattle.std.proofs.Common.{◌≡◌, ◌∙◌, IfSome, subst, sym}
use Rattle.grant_text.specs.Text.{pool_word}
use Rattle.grant_text.proofs.Pool_words.{found_word, pool_found, pools}
use Rattle.grant_text.proofs.pools.pool_in.Goals as goal

pub returns-clause-some : goal.returns-clause-some
returns-clause-some c =
    subst (λ o. IfSome o (λ pool. c.args.word.now ≡ pool_word pool)) (sym c.first_named.ensures) (found_word pools c.args.word.now)

pub returns-clause-every : goal.returns-clause-every
returns-clause-every c = λ pool is. c.first_named.ensures ∙ pool_found c.args.word.now pool is
