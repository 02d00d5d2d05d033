-- What a change does to what a disk in memory means.
use Rattle.std.proofs.Common.{◌≡◌, ◌⊎◌, inl, inr, ℕ, List, [], ◌∷◌, ◌++◌, length, refl, sym, ◌∙◌, ap, subst, arith, length-append}
use Rattle.std.specs.Prelude.{Result}
use Rattle.std.proofs.lemmas.Bool.{cases_lt}
use Rattle.std.proofs.lemmas.List.{take_all, take-append-le}
use Rattle.zn_io.specs.Disk.{GoesOn, Follows, NoMore, Torn, IsDurable, patched}
use Rattle.zn_io.specs.Streams.{HasCause, one_more}
use Rattle.zn_io.specs.declared.room.Extent.{Extent}
use Rattle.zn_io.specs.MemoryDisk.{MemoryDisk, Platter, Change, changed, platter, platter_of, IsTorn, IsImage, SinceOf, view_of, with_change}
use Rattle.zn_io.specs.MemoryDisk.Change.{wrote, synced}
use Rattle.zn_io.specs.MemoryDiskIsSound.{reads_now}
use Rattle.zn_io.proofs.Replay.{after_changes-push}

-- a call that was counted, and then a change
pub record Changes (m n : MemoryDisk) (change : Change) : Type 0 where
  pub opening : n.opening ≡ m.opening
  pub changes : n.changes ≡ m.changes ++ change ∷ []

pub changed_after : (m counted n : MemoryDisk) (change : Change) → counted ≡ record m { calls = one_more m.calls } → n ≡ with_change counted change → Changes m n change
changed_after m counted n change a b = record {
  opening = ap (λ (m : MemoryDisk). m.opening) b ∙ ap (λ (m : MemoryDisk). m.opening) a;
  changes = ap (λ (m : MemoryDisk). m.changes) b ∙ ap (λ (m : MemoryDisk). m.changes ++ change ∷ []) a;
}

pub changed_and_failed : (m n failed : MemoryDisk) (change : Change) → Changes m n change → failed ≡ record n { faults = one_more n.faults } → Changes m failed change
changed_and_failed m n failed change c a = record { opening = ap (λ (m : MemoryDisk). m.opening) a ∙ c.opening; changes = ap (λ (m : MemoryDisk). m.changes) a ∙ c.changes }

-- nothing was changed
pub goes_on_same : {T E : Type 0} (m n : MemoryDisk) (r : Result T E) → n.opening ≡ m.opening → n.changes ≡ m.changes → HasCause m.faults n.faults r → GoesOn (view_of m) (view_of n) r
goes_on_same m n r opening changes cause = record {
  model = (λ k. k, λ k. k);
  later = omega (arith, ap length changes);
  stays = λ t image le s. rw (opening, changes) s;
  adds_now = λ t image le s. inl (rw (opening, changes) at s);
  cause = cause;
}

-- the first n changes, of one more
pub still : (opening : List ℕ) (changes : List Change) (change : Change) (t : ℕ) (image : List ℕ) → SinceOf opening changes t image → SinceOf opening (changes ++ change ∷ []) t image
still opening changes change t image s =
    (s.0, s.1, omega (arith, s.2, length-append changes (change ∷ [])), subst (λ (l : List Change). IsImage (platter_of opening l) image) (sym (take-append-le s.0 changes (change ∷ []) s.2)) s.3)

pub still_or_now : (opening : List ℕ) (changes : List Change) (change : Change) (t : ℕ) (image : List ℕ) → SinceOf opening (changes ++ change ∷ []) t image → SinceOf opening changes t image ⊎ IsImage (platter_of opening (changes ++ change ∷ [])) image
still_or_now opening changes change t image s = elim (cases_lt (length changes) s.0) [
  | inl past ↦ inr (subst (λ (l : List Change). IsImage (platter_of opening l) image) (take_all s.0 (changes ++ change ∷ []) (omega (arith, length-append changes (change ∷ [])))) s.3)
  | inr within ↦ inl (s.0, s.1, within, subst (λ (l : List Change). IsImage (platter_of opening l) image) (take-append-le s.0 changes (change ∷ []) within) s.3)
]

module _ (m n : MemoryDisk) (change : Change) (c : Changes m n change) where
  -- one change more
  pub goes_on_changed : {T E : Type 0} (r : Result T E) → HasCause m.faults n.faults r → GoesOn (view_of m) (view_of n) r
  goes_on_changed r cause = record {
    model = (λ k. k, λ k. k);
    later = omega (arith, ap length c.changes, length-append m.changes (change ∷ []));
    stays = λ t image le s. rw (c.opening, c.changes) (still m.opening m.changes change t image s);
    adds_now = λ t image le s. rw (c.opening, c.changes) (still_or_now m.opening m.changes change t image (rw (c.opening, c.changes) at s));
    cause = cause;
  }

  pub changed_platter : platter n ≡ changed change (platter m)
  changed_platter = rw (c.opening, c.changes) (after_changes-push _ m.changes change)

torn_last : (kept : List ℕ) (ranges : List Extent) (r : Extent) (image : List ℕ) → IsTorn kept (ranges ++ r ∷ []) image → (torn : List ℕ) × IsTorn kept ranges torn × Torn r.at r.size torn image
torn_last kept [] r image is = (kept, refl, subst (λ (l : List ℕ). Torn r.at r.size kept l) (sym is.2) is.1)
torn_last kept (first ∷ ranges) r image is =
    let rest = torn_last is.0 ranges r image is.2 in
    (rest.0, (is.0, is.1, rest.1), rest.2)

pub follows_wrote : (m n : MemoryDisk) (at : ℕ) (bytes : List ℕ) → Changes m n (wrote at bytes) → Follows (Torn at (length bytes)) (view_of m) (view_of n)
follows_wrote m n at bytes c image now =
    torn_last (platter m).kept (platter m).ranges (record { at = at; size = length bytes }) image (subst (λ (p : Platter). IsImage p image) (changed_platter m n (wrote at bytes) c) now)

pub reads_wrote : (m n : MemoryDisk) (at : ℕ) (bytes : List ℕ) → Changes m n (wrote at bytes) → (platter n).reads ≡ patched (platter m).reads at bytes
reads_wrote m n at bytes c = ap (λ (p : Platter). p.reads) (changed_platter m n (wrote at bytes) c)

pub reads_synced : (m n : MemoryDisk) → Changes m n synced → (platter n).reads ≡ (platter m).reads
reads_synced m n c = ap (λ (p : Platter). p.reads) (changed_platter m n synced c)

pub durable_synced : (m n : MemoryDisk) → Changes m n synced → IsDurable (view_of n)
durable_synced m n c image now =
    subst (λ (p : Platter). IsImage p image) (changed_platter m n synced c) now ∙ sym (reads_synced m n c)

pub fewer_synced : (m n : MemoryDisk) → Changes m n synced → NoMore (view_of m) (view_of n)
fewer_synced m n c image now =
    subst (IsImage (platter m)) (sym (subst (λ (p : Platter). IsImage p image) (changed_platter m n synced c) now)) (reads_now m.opening m.changes)
