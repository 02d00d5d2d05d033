-- What is told of one zone, outside any event.
use Rattle.std.specs.Prelude.{ℕ, List, Option, Bool, map}
use Rattle.console_link.specs.Consoles.{is_in_use}
use Rattle.datalink_table.specs.Claims.{items_of}
use Rattle.datalink_table.specs.declared.claims.ClaimKind.{ClaimKind}
use Rattle.kernel_objects.specs.Processes.{row_of}
use Rattle.kernel_objects.specs.declared.objects.ProcRow.{ProcRow}
use Rattle.loopback_mounts.specs.Mounts.{listed}
use Rattle.loopback_mounts.specs.declared.mount.Mount.{Mount}
use Rattle.zoneadmd_steps.specs.Objects as objects
use Rattle.zone_cases.specs.State.Worlds.{World}

-- its processes as ps(1) lists them, in order of their numbers
abbrev pub processes : World → List ProcRow
processes w = map row_of w.processes

-- its mounts as mount(8) lists them, in byte order of their directories
abbrev pub mounts : World → List Mount
mounts w = listed w.mounts

-- the items of a kind that it holds, in the order of its claims
abbrev pub claims : ClaimKind → World → List (List ℕ)
claims kind w = items_of kind w.claims

-- the devices that it was given
abbrev pub devices : World → List (List ℕ)
devices w = w.devices

-- whether its console keeps something, or a session has it
abbrev pub console_in_use : World → Bool
console_in_use w = is_in_use w.console

-- the number of its id, if it has one
abbrev pub zid_of : World → Option ℕ
zid_of w = objects.zid_of w.ids
