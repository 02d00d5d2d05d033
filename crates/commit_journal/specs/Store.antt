-- What a store is to its callers, what opening a disk comes to, and what a crash leaves of a change.
use Rattle.std.specs.Prelude.{◌≡◌, ◌⊎◌, ℕ, ◌≤◌, List, [], ◌∷◌, ◌++◌, length, Bool, true, Option, Result, Ok, Err}
use Rattle.zn_io.specs.Disk.{View}
use Rattle.zone_pools.specs.declared.limits.TheConstants.{ZONES_MAX}
use Rattle.zone_pools.specs.Firsts.{first_of}
use Rattle.zn_base.specs.Names.{Name}
use Rattle.zone_pools.specs.Owned_lists.{mine}
use Rattle.zone_disk.specs.Bank.{Account}
use Rattle.zone_disk.specs.Image.{Opens, Stands}
use Rattle.zone_disk.specs.declared.fault.BankFault.TheVariants as bank
use Rattle.commit_journal.specs.declared.fault.StoreFault.{StoreFault}
use Rattle.commit_journal.specs.declared.fault.StoreFault.TheVariants.{Memory, NotAStore, BadRecord, DiskFault, BankFull, RecordForm}
use Rattle.commit_journal.specs.declared.records.Record.{Record}
use Rattle.commit_journal.specs.Bodies.{body_text}
use Rattle.commit_journal.specs.Journal.{IsFirstBad, Leave}
use Rattle.commit_journal.specs.Stored.{with_stored, Rows}

-- a store, to contracts: its bank, and the stored zones in the order of their creation
pub record Ledger (D : Type 0) : Type 0 where
  pub bank : Account D
  pub rows : Rows

-- the bodies leave the rows, and these are not too many
pub record HasZones (bodies : List (List ℕ)) (rows : Rows) : Type 0 where
  pub leave : Leave bodies rows
  pub few : length rows ≤ ZONES_MAX

-- the bodies leave the rows, and while the bank is sound a disk that keeps to its model has the bodies, whatever a crash leaves
pub record IsKept (v : View) (bodies : List (List ℕ)) (sound : Bool) (rows : Rows) : Type 0 where
  pub zones : HasZones bodies rows
  pub settled : sound ≡ true → v.Keeps → (image : List ℕ) → v.Now image → Stands image bodies

-- what is stored of a zone
abbrev pub row_of : Name → Rows → Option Record
row_of z rows = first_of (mine z rows)

-- the body of one change
abbrev pub change_text : Name → Option Record → List ℕ
change_text z row = body_text (record { zone = z; stored = row })

-- an image stands for bodies that leave the rows
pub record Stores (bodies : List (List ℕ)) (rows : Rows) (image : List ℕ) : Type 0 where
  pub stands : Stands image bodies
  pub leave : Leave bodies rows

-- the bodies and rows from before, or these with one change
abbrev pub StoresOneMore : List (List ℕ) → Rows → Name → Option Record → List ℕ → Type 0
StoresOneMore bodies rows z row image = Stores (bodies ++ change_text z row ∷ []) (with_stored z row rows) image

abbrev pub IsBeforeOrAfter : List (List ℕ) → Rows → Name → Option Record → List ℕ → Type 0
IsBeforeOrAfter bodies rows z row image = Stores bodies rows image ⊎ StoresOneMore bodies rows z row image

-- the image stands for bodies of which the one of this number is the first that is out of form, removes a zone that isn't stored, or stores a 257th
pub record IsOutOfForm (image : List ℕ) (serial : ℕ) : Type 0 where
  pub bodies : List (List ℕ)
  pub stands : Stands image bodies
  pub first : IsFirstBad bodies serial

-- what opening an image comes to: bodies and the rows that they leave, or the first fault
abbrev pub OpensStore : List ℕ → Result (List (List ℕ) × Rows) StoreFault → Type 0
OpensStore image (Ok store) = Stores store.0 store.1 image
OpensStore image (Err (NotAStore place)) = Opens image (Err (bank.NotAStore place))
OpensStore image (Err (BadRecord place)) = Opens image (Err (bank.BadRecord place))
OpensStore image (Err (RecordForm serial)) = IsOutOfForm image serial
OpensStore image (Err Memory) = ⊥
OpensStore image (Err DiskFault) = ⊥
OpensStore image (Err BankFull) = ⊥

-- the answer says what opening the image comes to, unless memory or the disk failed
abbrev pub Says : List ℕ → Result (List (List ℕ) × Rows) StoreFault → Type 0
Says image (Ok store) = OpensStore image (Ok store)
Says image (Err fault) = (fault ≡ Memory) ⊎ (fault ≡ DiskFault) ⊎ OpensStore image (Err fault)

-- an answer's bodies and rows, or its fault
abbrev pub outcome_by : {S E : Type 0} → (S → List (List ℕ)) → (S → Rows) → (E → StoreFault) → Result S E → Result (List (List ℕ) × Rows) StoreFault
outcome_by records rows fault (Ok store) = Ok (records store, rows store)
outcome_by records rows fault (Err e) = Err (fault e)

-- a law: opening an image comes to at most one thing
abbrev pub OpensStoreOneWay : Type 0
OpensStoreOneWay = (image : List ℕ) (a b : Result (List (List ℕ) × Rows) StoreFault) → OpensStore image a → OpensStore image b → a ≡ b
