use Rattle.config_verify.specs.Flaws.{flaws}
use Rattle.config_verify.proofs.Chains.{brand_alone}
use Rattle.config_verify.proofs.config.verify_brand.Goals as goal

pub returns : goal.returns
unfolding flaws
returns c = brand_alone _ _ c.requires (rw c.contents.ensures.same at c.brand_flaw.ensures)
