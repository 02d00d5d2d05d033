-- What a fill of the ranges leaves is an image that a crash may leave.
use Rattle.std.proofs.Common.{◌≡◌, ℕ, List, [], ◌∷◌, refl, sym, subst, arith}
use Rattle.std.specs.Prelude.{replicate, Result, Ok, Err, IfOk}
use Rattle.std.proofs.lemmas.List.{length-replicate}
use Rattle.zn_io.specs.Disk.{Torn, patched}
use Rattle.zn_io.specs.declared.room.Extent.{Extent}
use Rattle.zn_io.specs.declared.room.Fill.{Fill}
use Rattle.zn_io.specs.declared.room.Fill.TheVariants.{Old, New, Byte}
use Rattle.zn_io.specs.MemoryDisk.{MemoryDisk, IsTorn, IsImage, platter, crashed, filled}
use Rattle.zn_io.specs.MemoryDiskIsSound.{torn_patched, reads_now}

torn_self : (at n : ℕ) (image : List ℕ) → Torn at n image image
torn_self at n image = record { before = λ k le le'. refl; after = refl; no_shorter = omega arith; no_longer = omega arith }

old_fill : (kept : List ℕ) (ranges : List Extent) → IsTorn kept ranges kept
old_fill kept [] = refl
old_fill kept (r ∷ ranges) = (kept, torn_self r.at r.size kept, old_fill kept ranges)

byte_fill : (b : ℕ) (kept : List ℕ) (ranges : List Extent) → IsTorn kept ranges (filled b kept ranges)
byte_fill b kept [] = refl
byte_fill b kept (r ∷ ranges) =
    let next = patched kept r.at (replicate r.size b) in
    (next, subst (λ (n : ℕ). Torn r.at n kept next) (length-replicate {A = ℕ} r.size b) (torn_patched r.at kept (replicate r.size b)), byte_fill b next ranges)

pub crashed_image : (fill : Fill) (m : MemoryDisk) → IsImage (platter m) (crashed fill (platter m))
crashed_image Old m = old_fill (platter m).kept (platter m).ranges
crashed_image New m = reads_now m.opening m.changes
crashed_image (Byte b) m = byte_fill b (platter m).kept (platter m).ranges

pub may_be : {V E : Type 0} (r : Result V E) (items : V → List ℕ) (fill : Fill) (m : MemoryDisk) → IfOk r (λ v. items v ≡ crashed fill (platter m)) → IfOk r (λ v. IsImage (platter m) (items v))
may_be (Ok v) items fill m is = subst (IsImage (platter m)) (sym is) (crashed_image fill m)
may_be (Err e) items fill m is = tt
