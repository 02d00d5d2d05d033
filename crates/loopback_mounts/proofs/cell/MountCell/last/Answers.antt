use Rattle.std.proofs.Common.{◌∙◌, List, ap}
use Rattle.loopback_mounts.specs.Mounts.{last_of}
use Rattle.loopback_mounts.specs.declared.mount.MountEntry.{MountEntry}
use Rattle.loopback_mounts.proofs.Kept.{last_read}
use Rattle.loopback_mounts.proofs.cell.MountCell.last.Goals as goal

pub returns : goal.returns
returns c = c.last.ensures.value ∙ (last_read c.entries.result.now ∙ ap (λ (ms : List MountEntry). last_of ms) c.entries.ensures.entries)
