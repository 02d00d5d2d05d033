-- What a run of threads is about.
use Rattle.std.specs.Prelude.{[]}
use Rattle.session_records.specs.Places.{AreApart}
use Rattle.zn_io.specs.Disk.{View}

-- no zone has a place
pub none_apart : AreApart []
none_apart p z is = absurd (cc)

-- a disk that keeps to nothing
abbrev pub no_disk : View
no_disk = record { Keeps = Unit {0}; reads = []; Now = λ image. Unit {0}; moment = 0; Since = λ t image. Unit {0}; faults = 0 }
