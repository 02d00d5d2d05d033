use Rattle.std.proofs.Common.{rules, sym, subst}
use Rattle.std.specs.Prelude.{IsPermutation}
use Rattle.std.specs.Ordering.{is_lt}
use Rattle.std.proofs.lemmas.List.Sorted.{IsPermutation-trans, answers_always, ranks_by}
use Rattle.zone_cases.specs.State.Worlds.{world}
use Rattle.zone_views.proofs.Views.{object_cmp-total, told-objects}
use Rattle.zone_views.specs.Naming.{Object, objects}
use Rattle.zone_views.specs.Viewing.{object_cmp}
use Rattle.zone_views.proofs.viewing.view.Goals as goal

pub returns-clause-ok : goal.returns-clause-ok
returns-clause-ok g c = λ S h.
    let z = c.args.zone.now in
    record {
      same = IsPermutation-trans _ _ _ (subst (λ l. IsPermutation (objects z (world z S)) l) (sym (c.in_ok-objects.ensures.ok S h)) (told-objects z S c.args.machine.now.parts h)) c.sort_unstable_by.ensures.permutation;
      sorted = c.sort_unstable_by.ensures.sorted (λ a b. is_lt (object_cmp a b)) (ranks_by object_cmp-total (λ (o : Object). o)) (answers_always _ _ _ (λ f a r q k. search rules));
    }
