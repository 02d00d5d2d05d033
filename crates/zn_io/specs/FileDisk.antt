-- A disk that says nothing but its faults.
use Rattle.std.specs.Prelude.{ℕ, []}
use Rattle.zn_io.specs.Disk.{View, IsSound}

-- it grants nothing of what it reads as, and claims no image
abbrev pub untold : ℕ → View
untold faults = record { Keeps = ⊥; reads = []; Now = λ image. ⊥; moment = 0; Since = λ t image. ⊥; faults = faults }

pub untold_is_sound : (faults : ℕ) → IsSound (untold faults)
untold_is_sound faults = record { reads_now = λ keeps. absurd keeps; counts_now = λ t image le now. now; only_now = λ image since. since }
