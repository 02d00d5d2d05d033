-- What a disk shows, what each call does to it, and what a crash may leave.
use Rattle.std.specs.Prelude.{◌≡◌, ◌⊎◌, ◌↔◌, ℕ, ◌+◌, ◌-◌, ◌≤◌, max, List, ◌++◌, length, take, drop, replicate, Result, OnOk}
use Rattle.zn_io.specs.Streams.{HasCause}

-- all that a disk means
pub record View : Type 1 where
  -- it gives back what was written and keeps to the rules below
  pub Keeps : Type 0
  -- what a read gives
  pub reads : List ℕ
  -- the images that a crash now may leave
  pub Now : List ℕ → Type 0
  -- the moment, a number that doesn't fall
  pub moment : ℕ
  -- the images that a crash at some moment since that one may have left
  pub Since : ℕ → List ℕ → Type 0
  -- how often it has failed
  pub faults : ℕ

-- what holds of every disk at every moment
pub record IsSound (v : View) : Type 0 where
  -- what it reads as is an image that a crash now may leave
  pub reads_now : v.Keeps → v.Now v.reads
  -- this moment is one of those since an earlier one
  pub counts_now : (t : ℕ) (image : List ℕ) → t ≤ v.moment → v.Now image → v.Since t image
  -- since this moment there is no other
  pub only_now : (image : List ℕ) → v.Since v.moment image → v.Now image

-- how every call goes on: time doesn't run back, the past stays as it was, and a fault is counted
pub record GoesOn {T E : Type 0} (old new : View) (result : Result T E) : Type 0 where
  pub model : old.Keeps ↔ new.Keeps
  pub later : old.moment ≤ new.moment
  pub stays : (t : ℕ) (image : List ℕ) → t ≤ old.moment → old.Since t image → new.Since t image
  pub adds_now : (t : ℕ) (image : List ℕ) → t ≤ old.moment → new.Since t image → old.Since t image ⊎ new.Now image
  pub cause : HasCause old.faults new.faults result

-- the bytes put at an offset, after zeros where there is a gap
abbrev pub patched : List ℕ → ℕ → List ℕ → List ℕ
patched image at bytes = take at image ++ replicate (at - length image) 0 ++ bytes ++ drop (at + length bytes) image

-- what a crash may leave of a write of n bytes: any bytes in the range and past the old end, the same elsewhere, and
-- a length from the old one to the new one
pub record Torn (at n : ℕ) (old new : List ℕ) : Type 0 where
  pub before : (k : ℕ) → k ≤ at → k ≤ length old → take k new ≡ take k old
  pub after : drop (at + n) new ≡ drop (at + n) old
  pub no_shorter : length old ≤ length new
  pub no_longer : length new ≤ max (length old) (at + n)

-- each image that a crash may leave now comes by a step from one that it could leave before
abbrev pub Follows : (List ℕ → List ℕ → Type 0) → View → View → Type 0
Follows Step old new = (image : List ℕ) → new.Now image → (was : List ℕ) × old.Now was × Step was image

-- a crash may leave nothing new
abbrev pub NoMore : View → View → Type 0
NoMore old new = (image : List ℕ) → new.Now image → old.Now image

-- a crash leaves what a read gives
abbrev pub IsDurable : View → Type 0
IsDurable v = (image : List ℕ) → v.Now image → image ≡ v.reads

-- from one view to a later one: every image that a crash meanwhile may have left has P
pub record Leaves (old new : View) (P : List ℕ → Type 0) : Type 0 where
  pub later : old.moment ≤ new.moment
  pub each : (image : List ℕ) → new.Since old.moment image → P image
  -- how a run that began earlier goes on
  pub before : (t : ℕ) (image : List ℕ) → t ≤ old.moment → new.Since t image → old.Since t image ⊎ P image

-- what calls that only look keep to
pub record OnlyLooks (old new : View) : Type 0 where
  pub model : old.Keeps ↔ new.Keeps
  pub same : old.Keeps → new.reads ≡ old.reads
  pub crash : NoMore old new
  pub leaves : Leaves old new old.Now
  pub faults : old.faults ≤ new.faults

-- a write and a sync in one: what it leaves where it ends, and at any moment meanwhile
pub record PutsDurably {T E : Type 0} (at : ℕ) (bytes : List ℕ) (old new : View) (result : Result T E) : Type 0 where
  pub model : old.Keeps ↔ new.Keeps
  pub durable : OnOk result (IsDurable new)
  pub reads : old.Keeps → OnOk result (new.reads ≡ patched old.reads at bytes)
  pub any_moment : IsDurable old → Leaves old new (Torn at (length bytes) old.reads)
  pub cause : HasCause old.faults new.faults result
