use Rattle.std.proofs.Common.{◌∙◌, arith, subst, sym, take}
use Rattle.std.specs.Cmp.Lexicographic.{slice_cmp}
use Rattle.std.specs.List.{filter_map}
use Rattle.std.specs.List.Sorted.{IsSorted}
use Rattle.std.specs.Ordering.{nat_cmp}
use Rattle.std.proofs.lemmas.Grind.{common_steps}
use Rattle.std.proofs.lemmas.List.Elements.{filter_map-append}
use Rattle.zoneadmd_steps.proofs.Byte_order.{in_order_more, in_order_sorted}
use Rattle.zoneadmd_steps.proofs.plans.in_order.Goals as goal

pub place-at-requires : goal.place-at-requires
place-at-requires c =
    let so_far = filter_map (λ f. f.dir) (take c.loop-file_system.file_system-index c.args.fs.now) in
    subst (IsSorted (slice_cmp nat_cmp)) (sym (c.deref.ensures.value ∙ c.loop-file_system.invariant)) (in_order_sorted so_far)

pub loop-file_system-preserved : goal.loop-file_system-preserved
loop-file_system-preserved c = grind (arith, common_steps, filter_map-append, in_order_more)
