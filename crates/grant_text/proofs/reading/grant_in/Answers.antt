use Rattle.std.proofs.Common.{◌∙◌, ap, refl, Some, sym}
use Rattle.zone_pools.specs.declared.grant.Grant.TheVariants.{Nothing, Yes}
use Rattle.grant_text.proofs.Same_bytes.{is_fixed}
use Rattle.grant_text.proofs.Splits.{differ}
use Rattle.grant_text.proofs.reading.grant_in.Goals as goal

pub returns-then-eq-clause-every : goal.returns-then-eq-clause-every
returns-then-eq-clause-every c = λ grant right is.
    ap Some (differ Nothing grant refl right (sym (is_fixed _ _ _ c.if-eq.ensures c.as_slice.ensures) ∙ is))

pub returns-then-eq-2-clause-every : goal.returns-then-eq-2-clause-every
returns-then-eq-2-clause-every c = λ grant right is.
    ap Some (differ Yes grant refl right (sym (is_fixed _ _ _ c.if-eq-2.ensures c.as_slice-else-eq.ensures) ∙ is))
