-- What is open, by the configuration and the scope that are kept.
use Rattle.std.specs.Prelude.{Option, Some, None}
use Rattle.zone_config.specs.declared.terms.Contents.{Contents}
use Rattle.zonecfg_scopes.specs.declared.resource_scope.ResourceScope.{ResourceScope}
use Rattle.zonecfg_scopes.specs.Open.{Open, Nothing, Whole, Inside}

abbrev pub open_of : Option Contents → Option ResourceScope → Open
open_of None scope = Nothing
open_of (Some c) None = Whole c
open_of (Some c) (Some s) = Inside c s.resource s.place

-- the configuration that is open
abbrev pub config_of : Open → Option Contents
config_of Nothing = None
config_of (Whole c) = Some c
config_of (Inside c r at) = Some c
