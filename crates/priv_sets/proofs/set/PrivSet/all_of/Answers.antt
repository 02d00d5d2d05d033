use Rattle.std.proofs.Common.{◌≡◌, ◌∙◌, ap, arith}
use Rattle.priv_sets.specs.Sets.{all_of, union}
use Rattle.priv_sets.specs.Table.{is_of}
use Rattle.priv_sets.proofs.Classes.{below, below-all, below-more, below-none, below-same}
use Rattle.priv_sets.proofs.set.PrivSet.all_of.Goals as goal
use Rattle.priv_sets.proofs.set.PrivSet.all_of.Goals.{then-is_of, else-is_of}

pub loop-number-init : goal.loop-number-init
loop-number-init c = c.none-set.ensures ∙ below-none (is_of c.args.class)

pub loop-number-preserved : goal.loop-number-preserved
loop-number-preserved c =
    elim c.if-is_of.branch [
      | then-is_of w ↦
          w.set-is ∙ w.union-set.ensures ∙ ap (λ set. union set w.only.result) c.loop-number.invariant ∙ ap (union _) w.only.ensures
          ∙ below-more (is_of c.args.class) c.loop-number.number (cc)
      | else-is_of w ↦ w.set-is ∙ c.loop-number.invariant ∙ below-same (is_of c.args.class) c.loop-number.number (cc)
    ]

pub returns : goal.returns
unfolding all_of
returns c =
    let end : c.loop-number.number ≡ 40 = omega arith in
    c.loop-number.invariant ∙ ap (below (is_of c.args.class)) end ∙ below-all (is_of c.args.class)
