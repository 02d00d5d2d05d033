-- What a disk in memory holds, after one change more.
use Rattle.std.proofs.Common.{◌≡◌, ◌↔◌, ℕ, ◌+◌, ◌-◌, ◌<◌, ◌≤◌, List, [], ◌∷◌, ◌++◌, length, take, drop, refl, sym, ◌∙◌, ap, arith, length-append, length-take, length-drop}
use Rattle.std.specs.Prelude.{max, replicate, IsTrue, nat_le}
use Rattle.std.proofs.lemmas.Bool.Decides.{nat_tests}
use Rattle.std.proofs.lemmas.List.{take-append-le, drop-append-le, take_all, length-replicate}
use Rattle.zn_io.specs.declared.room.Extent.{Extent}
use Rattle.zn_io.specs.declared.room.Entry.{Entry}
use Rattle.zn_io.specs.declared.room.Entry.TheVariants.{Wrote, Synced}
use Rattle.zn_io.specs.MemoryDisk.{MemoryDisk, HasRoom, IsPlayed, Platter, Change, changed, after_changes, changes_of, platter, platter_of, total, total_size}
use Rattle.zn_io.specs.Disk.{patched}
use Rattle.zn_io.specs.MemoryDisk.Change.{wrote, synced}

pub length-changes_of : (entries : List Entry) (all : List ℕ) → length (changes_of entries all) ≡ length entries
length-changes_of [] all = refl
length-changes_of (Wrote e ∷ entries) all = omega (arith, length-changes_of entries (drop e.size all))
length-changes_of (Synced ∷ entries) all = omega (arith, length-changes_of entries all)

pub total-changes_of : (entries : List Entry) (all : List ℕ) → total_size entries ≡ length all → total (changes_of entries all) ≡ length all
total-changes_of [] all e = e
total-changes_of (Wrote x ∷ entries) all e = omega (arith, e, length-take x.size all, length-drop x.size all, total-changes_of entries (drop x.size all) (omega (arith, length-drop x.size all)))
total-changes_of (Synced ∷ entries) all e = total-changes_of entries all e

pub total_size-push : (entries : List Entry) (x : Extent) → total_size (entries ++ Wrote x ∷ []) ≡ total_size entries + x.size
total_size-push [] x = omega arith
total_size-push (Wrote e ∷ entries) x = omega (arith, total_size-push entries x)
total_size-push (Synced ∷ entries) x = total_size-push entries x

pub total_size-push_sync : (entries : List Entry) → total_size (entries ++ Synced ∷ []) ≡ total_size entries
total_size-push_sync [] = refl
total_size-push_sync (Wrote e ∷ entries) = omega (arith, total_size-push_sync entries)
total_size-push_sync (Synced ∷ entries) = total_size-push_sync entries

pub changes_of-push : (entries : List Entry) (all new : List ℕ) (x : Extent) → total_size entries ≡ length all → x.size ≡ length new → changes_of (entries ++ Wrote x ∷ []) (all ++ new) ≡ changes_of entries all ++ wrote x.at new ∷ []
changes_of-push [] [] new x e n = ap (λ (l : List ℕ). wrote x.at l ∷ []) (take_all x.size new (omega arith))
changes_of-push [] (b ∷ all) new x e n = absurd (omega arith)
changes_of-push (Wrote y ∷ entries) all new x e n =
    let fits : y.size ≤ length all = omega arith in
    let rest = changes_of-push entries (drop y.size all) new x (omega (arith, length-drop y.size all)) n in
    rw (take-append-le y.size all new fits, drop-append-le y.size all new fits) (ap (λ (l : List Change). wrote y.at (take y.size all) ∷ l) rest)
changes_of-push (Synced ∷ entries) all new x e n = ap (λ (l : List Change). synced ∷ l) (changes_of-push entries all new x e n)

pub changes_of-push_sync : (entries : List Entry) (all : List ℕ) → changes_of (entries ++ Synced ∷ []) all ≡ changes_of entries all ++ synced ∷ []
changes_of-push_sync [] all = refl
changes_of-push_sync (Wrote y ∷ entries) all = ap (λ (l : List Change). wrote y.at (take y.size all) ∷ l) (changes_of-push_sync entries (drop y.size all))
changes_of-push_sync (Synced ∷ entries) all = ap (λ (l : List Change). synced ∷ l) (changes_of-push_sync entries all)

pub after_changes-push : (p : Platter) (changes : List Change) (change : Change) → after_changes p (changes ++ change ∷ []) ≡ changed change (after_changes p changes)
after_changes-push p [] change = refl
after_changes-push p (first ∷ changes) change = after_changes-push (changed first p) changes change

-- the test of the room, by the numbers that the code has
pub room_by : (m : MemoryDisk) (bytes entries all : ℕ) (at n : ℕ) → bytes ≡ length (platter m).reads → entries ≡ length m.changes → all ≡ total m.changes → bytes ≤ m.room.length
    → (entries < m.room.calls × at + n ≤ m.room.length × all + n ≤ m.room.written) ↔ HasRoom m at n
room_by m bytes entries all at n b e a within =
    (λ h. record { calls = omega (arith, h.0); within = omega (arith, h.1); written = omega (arith, h.2) }, λ h. (omega (arith, h.calls), omega (arith, h.within), omega (arith, h.written)))

-- what the room says of the lists that are kept
pub room_facts : (m : MemoryDisk) (entries : List Entry) (all : List ℕ) (at n : ℕ) → m.changes ≡ changes_of entries all → total_size entries ≡ length all → HasRoom m at n
    → (length entries < m.room.calls) × (length all + n ≤ m.room.written) × (at + n ≤ m.room.length) × (length (platter m).reads ≤ m.room.length)
room_facts m entries all at n is sized h =
    let l : length m.changes ≡ length entries = ap length is ∙ length-changes_of entries all in
    let t : total m.changes ≡ length all = ap total is ∙ total-changes_of entries all sized in
    (omega (arith, h.calls), omega (arith, h.written), omega (arith, h.within), omega (arith, h.within))

pub length-patched : (image : List ℕ) (at : ℕ) (bytes : List ℕ) → length (patched image at bytes) ≡ max (length image) (at + length bytes)
length-patched image at bytes =
    omega (arith, length-append (take at image ++ replicate (at - length image) 0 ++ bytes) (drop (at + length bytes) image), length-append (take at image ++ replicate (at - length image) 0) bytes, length-append (take at image) (replicate (at - length image) 0), length-take at image, length-replicate {A = ℕ} (at - length image) 0, length-drop (at + length bytes) image)

module _ (opening bytes kept all : List ℕ) (ranges : List Extent) (entries : List Entry) (p : IsPlayed (platter_of opening (changes_of entries all)) bytes kept ranges entries all) where
  pub played_write : (at : ℕ) (new : List ℕ) → IsPlayed (platter_of opening (changes_of (entries ++ Wrote (record { at = at; size = length new }) ∷ []) (all ++ new))) (patched bytes at new) kept (ranges ++ record { at = at; size = length new } ∷ []) (entries ++ Wrote (record { at = at; size = length new }) ∷ []) (all ++ new)
  played_write at new =
      let x : Extent = record { at = at; size = length new } in
      let is : platter_of opening (changes_of (entries ++ Wrote x ∷ []) (all ++ new)) ≡ changed (wrote at new) (platter_of opening (changes_of entries all)) =
      ap (λ (l : List Change). platter_of opening l) (changes_of-push entries all new x p.sized refl) ∙ after_changes-push _ (changes_of entries all) (wrote at new) in
      record {
        reads = ap (λ (l : List ℕ). patched l at new) p.reads ∙ sym (ap (λ (q : Platter). q.reads) is);
        kept = p.kept ∙ sym (ap (λ (q : Platter). q.kept) is);
        ranges = ap (λ (l : List Extent). l ++ x ∷ []) p.ranges ∙ sym (ap (λ (q : Platter). q.ranges) is);
        sized = omega (arith, total_size-push entries x, p.sized, length-append all new);
      }

  pub played_sync : IsPlayed (platter_of opening (changes_of (entries ++ Synced ∷ []) all)) bytes bytes [] (entries ++ Synced ∷ []) all
  played_sync =
      let is : platter_of opening (changes_of (entries ++ Synced ∷ []) all) ≡ changed synced (platter_of opening (changes_of entries all)) =
      ap (λ (l : List Change). platter_of opening l) (changes_of-push_sync entries all) ∙ after_changes-push _ (changes_of entries all) synced in
      record {
        reads = p.reads ∙ sym (ap (λ (q : Platter). q.reads) is);
        kept = p.reads ∙ sym (ap (λ (q : Platter). q.kept) is);
        ranges = sym (ap (λ (q : Platter). q.ranges) is);
        sized = total_size-push_sync entries ∙ p.sized;
      }

pub by_test : (a b c : ℕ) → b ≡ c → (IsTrue (nat_le a b) → a ≤ c) × (a ≤ c → IsTrue (nat_le a b))
by_test a b c e = (λ t. grind (arith, nat_tests), λ le. grind (arith, nat_tests))
