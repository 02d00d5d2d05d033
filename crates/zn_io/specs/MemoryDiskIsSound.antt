-- A disk in memory is a disk: what it reads as is an image now, and this moment is the last.
use Rattle.std.specs.Prelude.{◌≡◌, ℕ, ◌+◌, ◌-◌, min, List, [], ◌∷◌, ◌++◌, length, take, drop, replicate, refl}
use Rattle.std.proofs.Common.{sym, ◌∙◌, subst, arith, length-append, length-take, length-drop}
use Rattle.std.proofs.lemmas.List.{take_all, take-take, take-append-le, drop_at, length-replicate}
use Rattle.zn_io.specs.Disk.{Torn, patched, IsSound}
use Rattle.zn_io.specs.declared.room.Extent.{Extent}
use Rattle.zn_io.specs.MemoryDisk.{MemoryDisk, Platter, Change, changed, after_changes, platter_of, IsTorn, IsImage, view_of}
use Rattle.zn_io.specs.MemoryDisk.Change.{wrote, synced}

-- a whole write is one of the torn ones
pub torn_patched : (at : ℕ) (old bytes : List ℕ) → Torn at (length bytes) old (patched old at bytes)
torn_patched at old bytes =
    let A = take at old in
    let Z : List ℕ = replicate (at - length old) 0 in
    let D = drop (at + length bytes) old in
    let a : length A ≡ min at (length old) = length-take at old in
    let front : length (A ++ Z) ≡ at = omega (arith, a, length-append A Z, length-replicate {A = ℕ} (at - length old) 0) in
    let fore : length (A ++ Z ++ bytes) ≡ at + length bytes = omega (arith, front, length-append (A ++ Z) bytes) in
    let all : length (A ++ Z ++ bytes ++ D) ≡ at + length bytes + (length old - (at + length bytes)) = omega (arith, fore, length-append (A ++ Z ++ bytes) D, length-drop (at + length bytes) old) in
    record {
      before = λ k le le'. take-append-le k (A ++ Z ++ bytes) D (omega (arith, fore)) ∙ take-append-le k (A ++ Z) bytes (omega (arith, front)) ∙ take-append-le k A Z (omega (arith, a)) ∙ take-take k at old le;
      after = drop_at (A ++ Z ++ bytes) D (at + length bytes) fore;
      no_shorter = omega (arith, all);
      no_longer = omega (arith, all);
    }

-- one write more
pub torn_more : (kept : List ℕ) (ranges : List Extent) (r : Extent) (torn image : List ℕ) → IsTorn kept ranges torn → Torn r.at r.size torn image → IsTorn kept (ranges ++ r ∷ []) image
torn_more kept [] r torn image is t = (image, subst (λ (l : List ℕ). Torn r.at r.size l image) is t, refl)
torn_more kept (first ∷ ranges) r torn image is t = (is.0, is.1, torn_more is.0 ranges r torn image is.2 t)

reads_image : (p : Platter) (changes : List Change) → IsImage p p.reads → IsImage (after_changes p changes) (after_changes p changes).reads
reads_image p [] here = here
reads_image p (wrote at bytes ∷ changes) here = reads_image (changed (wrote at bytes) p) changes (torn_more p.kept p.ranges (record { at = at; size = length bytes }) p.reads (patched p.reads at bytes) here (torn_patched at p.reads bytes))
reads_image p (synced ∷ changes) here = reads_image (changed synced p) changes refl

pub reads_now : (opening : List ℕ) (changes : List Change) → IsImage (platter_of opening changes) (platter_of opening changes).reads
reads_now opening changes = reads_image (record { reads = opening; kept = opening; ranges = [] }) changes refl

pub is_sound : (m : MemoryDisk) → IsSound (view_of m)
is_sound m = record {
  reads_now = λ _. reads_now m.opening m.changes;
  counts_now = λ t image le now. (length m.changes, le, omega arith, subst (λ (l : List Change). IsImage (platter_of m.opening l) image) (sym (take_all (length m.changes) m.changes (omega arith))) now);
  only_now = λ image s. subst (λ (l : List Change). IsImage (platter_of m.opening l) image) (take_all s.0 m.changes s.1) s.3;
}
