-- What the kernel's calls see of a zone's objects.
use Rattle.std.proofs.Common.{◌≡◌, Option, Some, None, ap, refl}
use Rattle.kernel_objects.specs.declared.objects.Id.{Id}
use Rattle.zone_pools.specs.Firsts.{first_of}
use Rattle.zoneadmd_steps.specs.Code.Cases.{as_objects}
use Rattle.zoneadmd_steps.specs.Objects.{ids_of, kernel_of}
use Rattle.zoneadmd_steps.specs.declared.objects.Objects.{Objects}

-- a zone's only id
first_id : (id : Option Id) → first_of (ids_of id) ≡ id
first_id None = refl
first_id (Some i) = refl

pub kernel_itself : (o : Objects) → kernel_of (as_objects o) ≡ o.kernel.now
kernel_itself o = ap (λ id. record { id = id; processes = o.kernel.now.processes; devices = o.kernel.now.devices }) (first_id o.kernel.now.id)
