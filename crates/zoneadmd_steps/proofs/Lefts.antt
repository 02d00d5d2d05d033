-- A step that no local turn does, and that stands for itself alone.
use Rattle.std.proofs.Common.{◌≡◌, true, false, refl}
use Rattle.std.proofs.lemmas.Bool.{false≢true, true≢false}
use Rattle.zoneadmd_steps.specs.Code.Ahead.{is_for_all}
use Rattle.zoneadmd_steps.specs.Code.Shareds.{is_left, is_of_objects, is_of_store}
use Rattle.zoneadmd_steps.specs.declared.requests.Step.{Step}
use Rattle.zoneadmd_steps.specs.declared.requests.Step.TheVariants.{Hook, Record, Moved, Copy, Erase, Limits, Root, Mounted, Unmount, Release}

-- where it changes nothing that is stored, it is of the objects
pub of_objects : (s : Step) → is_left s ≡ true → is_for_all s ≡ false → is_of_store s ≡ false → is_of_objects s ≡ true
of_objects (Hook x) l a n = absurd (false≢true l)
of_objects (Record x) l a n = absurd (true≢false n)
of_objects Moved l a n = absurd (true≢false n)
of_objects (Copy x) l a n = absurd (false≢true l)
of_objects (Erase x) l a n = absurd (false≢true l)
of_objects Limits l a n = absurd (false≢true l)
of_objects Root l a n = absurd (false≢true l)
of_objects (Mounted x) l a n = absurd (false≢true l)
of_objects (Unmount x) l a n = absurd (true≢false a)
of_objects (Release x) l a n = absurd (true≢false a)
of_objects _ l a n = refl
