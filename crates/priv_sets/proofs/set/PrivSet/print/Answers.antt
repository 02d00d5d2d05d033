use Rattle.std.proofs.Common.{◌≡◌, ◌∙◌, ap, arith, sym}
use Rattle.priv_sets.specs.Sets.{print_of, set_of_bits, with_name}
use Rattle.priv_sets.proofs.Printed.{printed, printed-more, printed-none, printed-same, printed_all}
use Rattle.priv_sets.proofs.set.PrivSet.print.Goals as goal
use Rattle.priv_sets.proofs.set.PrivSet.print.Goals.{then-is_set+in_ok-push_name, else-is_set}

pub loop-number-init : goal.loop-number-init
loop-number-init c = c.in_ok-text.ensures.items ∙ sym (printed-none (set_of_bits c.self.inside.bits))

pub loop-number-preserved : goal.loop-number-preserved
loop-number-preserved c =
    let set = set_of_bits c.self.inside.bits in
    elim c.if-is_set.branch [
      | then-is_set+in_ok-push_name w ↦
          let more = printed-more set c.loop-number.number w.row.result.now c.loop-number-test.true (sym c.is_set.ensures ∙ w.if-is_set.true) w.row.ensures in
          ap (λ t. t.items) w.text-is ∙ w.in_ok-push_name.ensures ∙ ap (λ text. with_name text w.as_bytes.result.now) c.loop-number.invariant ∙ ap (with_name (printed set c.loop-number.number)) w.as_bytes.ensures.value ∙ more
      | else-is_set w ↦
          ap (λ t. t.items) w.text-is ∙ c.loop-number.invariant ∙ printed-same set c.loop-number.number (sym c.is_set.ensures ∙ w.if-is_set.false)
    ]

pub returns : goal.returns
returns c =
    let end : c.loop-number.number ≡ 40 = omega arith in
    c.loop-number.invariant ∙ ap (printed (set_of_bits c.self.inside.bits)) end ∙ printed_all c.self.inside.bits ∙ ap print_of c.self.view_is
