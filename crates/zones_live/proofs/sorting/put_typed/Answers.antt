use Rattle.std.proofs.Common.{[], ◌∷◌, ◌++◌, ap, refl, subst, sym, ◌∙◌}
use Rattle.session_runs.specs.Far.{Differ, scripts_of}
use Rattle.zones_live.proofs.Sorting_laws.{differ_first, none_of, typed_first, typed_on}
use Rattle.zones_live.proofs.sorting.put_typed.Goals as goal

pub returns-in_ok-push-in-Some-clause-typed : goal.returns-in_ok-push-in-Some-clause-typed
returns-in_ok-push-in-Some-clause-typed c =
    typed_on c.args.scripts.now.items _ c.in-Some.at c.args.session c.args.text c.index_mut.result.now _ c.in-Some.ensures c.deref.ensures.value c.index_mut.ensures.value refl c.in_ok-push-in-Some.ensures.items

pub returns-in_ok-push-in-None-2-clause-typed : goal.returns-in_ok-push-in-None-2-clause-typed
returns-in_ok-push-in-None-2-clause-typed c = λ n.
    let scripts = c.args.scripts.now.items in
    let lines = c.in_ok-push-in-None.ensures.items ∙ ap (λ l. l ++ c.args.text ∷ []) c.new-lines.ensures.items in
    ap (λ l. scripts_of l n) c.in_ok-push-in-None-2.ensures.items
    ∙ typed_first scripts c.args.session c.args.text _ (none_of scripts _ c.args.session c.in-None.ensures c.deref.ensures.value) refl lines n

pub returns-in_ok-push-in-None-2-clause-differ : goal.returns-in_ok-push-in-None-2-clause-differ
returns-in_ok-push-in-None-2-clause-differ c = λ differ.
    let scripts = c.args.scripts.now.items in
    subst Differ (sym c.in_ok-push-in-None-2.ensures.items) (differ_first scripts c.args.session _ (none_of scripts _ c.args.session c.in-None.ensures c.deref.ensures.value) refl differ)
