-- What a machine that was opened stands for.
use Rattle.std.proofs.Common.{◌≡◌, ℕ, List, length, inl, ap, sym, ◌∙◌, arith}
use Rattle.std.specs.Prelude.{Result, Ok, Err}
use Rattle.std.proofs.lemmas.List.{length-map}
use Rattle.zn_io.specs.Disk.{IsSound, Leaves, View}
use Rattle.zone_disk.specs.Bank.{Account, KeepsMeaning}
use Rattle.zone_disk.specs.Image.{used_by}
use Rattle.commit_journal.specs.Bodies.{body_text}
use Rattle.commit_journal.specs.Journal.{Leave}
use Rattle.commit_journal.specs.Store.{OpensStore, OpensStoreOneWay, Stores}
use Rattle.commit_journal.specs.Stored.{Rows, stored}
use Rattle.commit_journal.specs.Zones.{rows_of}
use Rattle.commit_journal.specs.declared.fault.StoreFault.{StoreFault}
use Rattle.commit_journal.specs.declared.records.Commit.{Commit}
use Rattle.zone_machine.proofs.Writing.{stores-same}
use Rattle.zone_machine.specs.Code.Cells.{SharedOf}
use Rattle.zone_machine.specs.Code.Openings.{HasCommits}
use Rattle.zone_machine.specs.Code.Records.{IsReady}
use Rattle.zone_machine.specs.Machine.Common.{common}
use Rattle.zone_machine.specs.Machine.Images.{Holds, IsStoreOf}
use Rattle.zone_cases.specs.State.{State, bodies_of}
use Rattle.zone_machine.specs.declared.machine.shared.Shared.{Shared}

-- the store that was opened has the bodies and the rows of the commits that the disk stands for
module _ (one : OpensStoreOneWay) (image : List ℕ) (bodies : List (List ℕ)) (rows : Rows) (R : List Commit) (a : Stores bodies rows image) (b : Holds R image) where
  both : ◌≡◌ {A = Result (List (List ℕ) × Rows) StoreFault} (Ok (bodies, rows)) (Ok (bodies_of R, stored R))
  both = one image (Ok (bodies, rows)) (Ok (bodies_of R, stored R)) a b

  pair : ◌≡◌ {A = List (List ℕ) × Rows} (bodies, rows) (bodies_of R, stored R)
  pair = let h = both in cc

  pub same-bodies : bodies_of R ≡ bodies
  same-bodies = sym (ap (λ (p : List (List ℕ) × Rows). p.0) pair)

  pub same-rows : stored R ≡ rows
  same-rows = sym (ap (λ (p : List (List ℕ) × Rows). p.1) pair)

-- a store of some commits
pub has-commits : (bodies : List (List ℕ)) (rows : Rows) (records used : ℕ) (R : List Commit) → records ≡ length bodies → used ≡ used_by bodies → bodies_of R ≡ bodies → stored R ≡ rows → HasCommits bodies rows records used R
has-commits bodies rows records used R many bytes same are = record {
  bodies_are = same;
  rows_are = are;
  count = sym (length-map R body_text) ∙ (ap length same ∙ sym many);
  bytes = ap used_by same ∙ sym bytes;
}

-- the commits that the bodies say
pub leave-bodies : (bodies : List (List ℕ)) (rows : Rows) (leave : Leave bodies rows) → bodies_of leave.commits ≡ bodies
leave-bodies bodies rows leave = sym leave.say.texts

pub leave-holds : (bodies : List (List ℕ)) (rows : Rows) (leave : Leave bodies rows) (image : List ℕ) → Stores bodies rows image → Holds leave.commits image
leave-holds bodies rows leave image h = stores-same bodies (bodies_of leave.commits) rows (stored leave.commits) image leave.say.texts leave.are h

-- a disk that was not touched
pub untouched : (v : View) (R : List Commit) → IsSound v → IsStoreOf v R → Leaves v v (Holds R)
untouched v R sound is = record { later = omega arith; each = λ image since. is.now image (sound.only_now image since); before = λ t image le since. inl since }

-- an image that comes to the same as one that a crash could leave before
pub kept-holds : (v : View) (R : List Commit) → IsStoreOf v R → (image : List ℕ) → KeepsMeaning v image → Holds R image
kept-holds v R is image (was, now, same) = let h = is.now was now in record { stands = (same (bodies_of R)).1 h.stands; leave = h.leave }

-- a bank that may be written has, on every image that a crash could leave, its bodies and the rows of the shared part
pub ready-stores : {D : Type 0} (b : Account D) (s : Shared) (v : View) → IsReady v b s → v.Keeps → (image : List ℕ) → v.Now image → Stores b.records (rows_of s.rows.entries) image
ready-stores b s v h keeps image now = record { stands = h.settled keeps image now; leave = h.zones.leave }

-- and stands for the commits that they are of
pub ready-holds : {D : Type 0} (S : State) (b : Account D) (s : Shared) (v : View) → bodies_of S.commits ≡ b.records → SharedOf s (common S) → IsReady v b s → v.Keeps → (image : List ℕ) → v.Now image → Holds S.commits image
ready-holds S b s v same shared h keeps image now = stores-same b.records (bodies_of S.commits) (rows_of s.rows.entries) (stored S.commits) image (sym same) (sym (ap (λ k. k.rows) shared)) (ready-stores b s v h keeps image now)

-- what is a store is none that is refused
pub never-refused : (one : OpensStoreOneWay) (bodies : List (List ℕ)) (rows : Rows) (image : List ℕ) (fault : StoreFault) → Stores bodies rows image → OpensStore image (Err fault) → ⊥
never-refused one bodies rows image fault stores opens = let same = one image (Ok (bodies, rows)) (Err fault) stores opens in cc
