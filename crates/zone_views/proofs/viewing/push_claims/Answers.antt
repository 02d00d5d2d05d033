use Rattle.std.proofs.Common.{◌∙◌, ◌++◌, ap, map}
use Rattle.zone_views.proofs.Views.{three_parts}
use Rattle.zone_views.specs.Naming.{Address, Dataset, Link, object}
use Rattle.zone_views.proofs.viewing.push_claims.Goals as goal

pub returns-clause-ok : goal.returns-clause-ok
returns-clause-ok g c = λ S h.
    let z = c.args.zone.now in
    three_parts _ _ _ _
    (c.in_ok-push_items.ensures ∙ ap (λ l. c.args.objects.now.items ++ map (object z Link) l) (c.deref.ensures.value ∙ c.in_ok-links.ensures.ok S h))
    (c.in_ok-push_items-2.ensures ∙ ap (λ l. c.push_items.new.objects.items ++ map (object z Address) l) (c.deref-2.ensures.value ∙ c.in_ok-addresses.ensures.ok S h))
    (c.in_ok-push_items-3.ensures ∙ ap (λ l. c.push_items-2.new.objects.items ++ map (object z Dataset) l) (c.deref-3.ensures.value ∙ c.in_ok-datasets.ensures.ok S h))
