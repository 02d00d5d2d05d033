-- Whether the configuration that is open is changed.
use Rattle.std.proofs.Common.{Option}
use Rattle.std.specs.Bool.{Decides}
use Rattle.std.specs.Option.{IsSome, is_some}
use Rattle.std.proofs.lemmas.Bool.Decides.{Decides-and, Decides-not}
use Rattle.zonecfg_scopes.specs.Edited.{Edited, IsChanged, base_config, is_changed}
use Rattle.zonecfg_scopes.specs.OpenOf.{config_of}
use Rattle.zone_config.specs.Same.{same_contents}
use Rattle.zone_config.proofs.SameEntries.{option-Decides}
use Rattle.zone_config.proofs.Sameness.{contents-Decides}

some-Decides : {A : Type 0} (o : Option A) → Decides (is_some o) (IsSome o)
some-Decides o = (λ h. h, λ h. h)

pub is_changed_decides : (e : Edited) → Decides (is_changed e) (IsChanged e)
is_changed_decides e =
    Decides-and _ _ (some-Decides (config_of e.opened)) (Decides-not _ (option-Decides same_contents contents-Decides (config_of e.opened) (base_config e.base)))
