-- What the machine's parts tell of a zone is told of its world in every state that they stand for.
use Rattle.std.proofs.Common.{◌≡◌, ◌∙◌, ap, sym}
use Rattle.zn_base.specs.Names.{Name}
use Rattle.zone_cases.specs.State.Worlds.{World}
use Rattle.zone_machine.proofs.Stepping.{world-stands}
use Rattle.zone_machine.specs.Code.Told.{IsTold, world_in}
use Rattle.zone_machine.specs.declared.machine.parts.Parts.{Parts}

pub IsTold-in : {A : Type 0} (tells : World → A) (p : Parts) (z : Name) (told : A) → told ≡ tells (world_in z p) → IsTold p z tells told
IsTold-in tells p z told is S h = is ∙ ap tells (sym (world-stands S p z h))
