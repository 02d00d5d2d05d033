-- What a disk tells of the store that a command opens on it.
use Rattle.std.specs.Prelude.{List, Option, Some, None, Result}
use Rattle.zn_io.specs.Disk.{View}
use Rattle.commit_journal.specs.declared.fault.StoreFault.{StoreFault}
use Rattle.commit_journal.specs.declared.records.Commit.{Commit}
use Rattle.zone_machine.specs.Machine.Images.{OpensAs}

-- the commits of the store, or why there is none; nothing where the disk doesn't tell
abbrev pub Found : Type 0
Found = Option (Result (List Commit) StoreFault)

abbrev pub Finds : View → Found → Type 0
Finds v None = Unit {0}
Finds v (Some found) = v.Keeps × OpensAs v.reads found
