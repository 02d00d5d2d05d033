use Rattle.loopback_mounts.proofs.Alone.{alone}
use Rattle.loopback_mounts.proofs.Over.{is_over, none_over}
use Rattle.loopback_mounts.proofs.laws.the_mount_over_a_path.Goals as goal

pub returns-clause-one : goal.returns-clause-one
returns-clause-one c = is_over

pub returns-clause-none : goal.returns-clause-none
returns-clause-none c = none_over

pub returns-clause-only : goal.returns-clause-only
returns-clause-only c = alone
