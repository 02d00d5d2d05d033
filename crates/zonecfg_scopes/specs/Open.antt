-- What is open: nothing, a configuration in the global scope, or a resource of one.
use Rattle.std.specs.Prelude.{ℕ, Option}
use Rattle.config_terms.specs.declared.terms.Resource.{Resource}
use Rattle.zone_config.specs.declared.terms.Contents.{Contents}

-- a resource that is new has no place; one that was selected has the place where it stands in the configuration
pub data Open : Type 0 where
  Nothing : Open
  Whole : (c : Contents) → Open
  Inside : (c : Contents) (r : Resource) (at : Option ℕ) → Open
