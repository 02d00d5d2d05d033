-- What opening an image as a store comes to.
use Rattle.std.proofs.Common.{◌≡◌, ℕ, List, [], ap, arith, subst}
use Rattle.std.specs.Prelude.{Result, Ok, Err}
use Rattle.zone_disk.specs.declared.fault.BankFault.{BankFault}
use Rattle.zone_disk.specs.declared.fault.BankFault.TheVariants as bank
use Rattle.zone_disk.specs.Bank.{Formats}
use Rattle.zone_disk.specs.Image.{IsUnformatted, Opens, OpensOneWay, Stands}
use Rattle.commit_journal.specs.declared.fault.StoreFault.{StoreFault}
use Rattle.commit_journal.specs.declared.fault.StoreFault.TheVariants.{Memory, NotAStore, BadRecord, DiskFault, BankFull, RecordForm}
use Rattle.commit_journal.specs.Faults.{of_bank}
use Rattle.commit_journal.specs.Journal.{IsFirstBad, Leave}
use Rattle.commit_journal.specs.Replay.{Stops}
use Rattle.commit_journal.specs.Store.{IsOutOfForm, OpensStore, Stores}
use Rattle.commit_journal.specs.Stored.{Rows}
use Rattle.commit_journal.proofs.Says.{first_one, leave_one, none_bad}

-- no bodies stop nothing
none_stops : (e : StoreFault) → Stops [] e → ⊥
none_stops Memory h = absurd (omega arith)
none_stops (RecordForm serial) h = absurd (omega (arith, h.positive, h.within))
none_stops DiskFault h = h
none_stops BankFull h = h
none_stops (NotAStore place) h = h
none_stops (BadRecord place) h = h

-- where bodies stop, the disk had some, so that it was no unformatted one
pub not_unformatted : (old : List ℕ) (bodies : List (List ℕ)) (e : StoreFault) → (IsUnformatted old → bodies ≡ []) → Stops bodies e → IsUnformatted old → ⊥
not_unformatted old bodies e empty stops u = none_stops e (subst (λ (l : List (List ℕ)). Stops l e) (empty u) stops)

pub still_there : (old new : List ℕ) (bodies : List (List ℕ)) (e : StoreFault) → Formats old new → (IsUnformatted old → bodies ≡ []) → Stops bodies e → new ≡ old
still_there old new bodies e formats empty stops = formats.other (not_unformatted old bodies e empty stops)

-- one thing at most
module _ (one_way : OpensOneWay) (image : List ℕ) where
  same_bodies : (a b : List (List ℕ)) → Stands image a → Stands image b → a ≡ b
  same_bodies a b s t = let both : ◌≡◌ {A = Result (List (List ℕ)) BankFault} (Ok a) (Ok b) = one_way image (Ok a) (Ok b) s t in cc

  never : (a : List (List ℕ)) (fault : BankFault) → Stands image a → Opens image (Err fault) → ⊥
  never a fault s t = let both : ◌≡◌ {A = Result (List (List ℕ)) BankFault} (Ok a) (Err fault) = one_way image (Ok a) (Err fault) s t in cc

  same_fault : (a b : BankFault) → Opens image (Err a) → Opens image (Err b) → a ≡ b
  same_fault a b s t = let both : ◌≡◌ {A = Result (List (List ℕ)) BankFault} (Err a) (Err b) = one_way image (Err a) (Err b) s t in cc

  same_store : (a b : List (List ℕ) × Rows) → Stores a.0 a.1 image → Stores b.0 b.1 image → a ≡ b
  same_store a b s t =
      let bodies : a.0 ≡ b.0 = same_bodies a.0 b.0 s.stands t.stands in
      let rows : a.1 ≡ b.1 = leave_one b.0 a.1 b.1 (subst (λ (l : List (List ℕ)). Leave l a.1) bodies s.leave) t.leave in
      let same : (a.0, a.1) ≡ (b.0, b.1) = cc in
      same

  not_out_of_form : (bodies : List (List ℕ)) (rows : Rows) (serial : ℕ) → Stores bodies rows image → IsOutOfForm image serial → ⊥
  not_out_of_form bodies rows serial s t =
      let same = same_bodies t.bodies bodies t.stands s.stands in
      none_bad bodies s.leave.commits serial s.leave.say (subst (λ (l : List (List ℕ)). IsFirstBad l serial) same t.first)

  same_serial : (m n : ℕ) → IsOutOfForm image m → IsOutOfForm image n → m ≡ n
  same_serial m n s t = first_one t.bodies m n (subst (λ (l : List (List ℕ)). IsFirstBad l m) (same_bodies s.bodies t.bodies s.stands t.stands) s.first) t.first

  pub opens_one_way : (a b : Result (List (List ℕ) × Rows) StoreFault) → OpensStore image a → OpensStore image b → a ≡ b
  opens_one_way (Ok a) (Ok b) s t = ap Ok (same_store a b s t)
  opens_one_way (Ok a) (Err (NotAStore p)) s t = absurd (never a.0 (bank.NotAStore p) s.stands t)
  opens_one_way (Ok a) (Err (BadRecord p)) s t = absurd (never a.0 (bank.BadRecord p) s.stands t)
  opens_one_way (Ok a) (Err (RecordForm n)) s t = absurd (not_out_of_form a.0 a.1 n s t)
  opens_one_way (Ok a) (Err Memory) s t = absurd t
  opens_one_way (Ok a) (Err DiskFault) s t = absurd t
  opens_one_way (Ok a) (Err BankFull) s t = absurd t
  opens_one_way (Err (NotAStore p)) (Ok b) s t = absurd (never b.0 (bank.NotAStore p) t.stands s)
  opens_one_way (Err (NotAStore p)) (Err (NotAStore q)) s t = let same = same_fault (bank.NotAStore p) (bank.NotAStore q) s t in ap (λ (f : BankFault). Err (of_bank f)) same
  opens_one_way (Err (NotAStore p)) (Err (BadRecord q)) s t = let same = same_fault (bank.NotAStore p) (bank.BadRecord q) s t in ap (λ (f : BankFault). Err (of_bank f)) same
  opens_one_way (Err (NotAStore p)) (Err (RecordForm n)) s t = absurd (never t.bodies (bank.NotAStore p) t.stands s)
  opens_one_way (Err (NotAStore p)) (Err Memory) s t = absurd t
  opens_one_way (Err (NotAStore p)) (Err DiskFault) s t = absurd t
  opens_one_way (Err (NotAStore p)) (Err BankFull) s t = absurd t
  opens_one_way (Err (BadRecord p)) (Ok b) s t = absurd (never b.0 (bank.BadRecord p) t.stands s)
  opens_one_way (Err (BadRecord p)) (Err (NotAStore q)) s t = let same = same_fault (bank.BadRecord p) (bank.NotAStore q) s t in ap (λ (f : BankFault). Err (of_bank f)) same
  opens_one_way (Err (BadRecord p)) (Err (BadRecord q)) s t = let same = same_fault (bank.BadRecord p) (bank.BadRecord q) s t in ap (λ (f : BankFault). Err (of_bank f)) same
  opens_one_way (Err (BadRecord p)) (Err (RecordForm n)) s t = absurd (never t.bodies (bank.BadRecord p) t.stands s)
  opens_one_way (Err (BadRecord p)) (Err Memory) s t = absurd t
  opens_one_way (Err (BadRecord p)) (Err DiskFault) s t = absurd t
  opens_one_way (Err (BadRecord p)) (Err BankFull) s t = absurd t
  opens_one_way (Err (RecordForm m)) (Ok b) s t = absurd (not_out_of_form b.0 b.1 m t s)
  opens_one_way (Err (RecordForm m)) (Err (NotAStore q)) s t = absurd (never s.bodies (bank.NotAStore q) s.stands t)
  opens_one_way (Err (RecordForm m)) (Err (BadRecord q)) s t = absurd (never s.bodies (bank.BadRecord q) s.stands t)
  opens_one_way (Err (RecordForm m)) (Err (RecordForm n)) s t = ap (λ (k : ℕ). Err (RecordForm k)) (same_serial m n s t)
  opens_one_way (Err (RecordForm m)) (Err Memory) s t = absurd t
  opens_one_way (Err (RecordForm m)) (Err DiskFault) s t = absurd t
  opens_one_way (Err (RecordForm m)) (Err BankFull) s t = absurd t
  opens_one_way (Err Memory) b s t = absurd s
  opens_one_way (Err DiskFault) b s t = absurd s
  opens_one_way (Err BankFull) b s t = absurd s
