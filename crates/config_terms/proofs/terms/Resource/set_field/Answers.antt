use Rattle.std.proofs.Common.{◌≡◌, true, arith}
use Rattle.config_terms.specs.declared.rules.Rule.TheVariants.{RootedPath}
use Rattle.config_terms.specs.Rules.{obeys}
use Rattle.config_terms.proofs.Paths.{obeyed_fits}
use Rattle.config_terms.proofs.terms.Resource.set_field.Goals as goal

pub path_kept-requires : goal.path_kept-requires
path_kept-requires c =
    let allowed : obeys RootedPath c.bytes-bytes.result.now ≡ true = grind arith in
    obeyed_fits RootedPath c.bytes-bytes.result.now allowed
