-- What a bank keeps on its disk, and what a crash leaves of it.
use Rattle.std.specs.Prelude.{◌≡◌, ◌⊎◌, ℕ, ◌-◌, ◌≤◌, List, [], ◌∷◌, ◌++◌, length, take, drop, Bool, true, Result, Ok, Err}
use Rattle.zn_io.specs.Disk.{View, IsDurable}
use Rattle.zone_disk.specs.declared.bank.TheConstants.{BANK_BYTES}
use Rattle.zone_disk.specs.declared.fault.BankFault.{BankFault}
use Rattle.zone_disk.specs.declared.fault.BankFault.TheVariants.{DiskFault, Memory}
use Rattle.zone_disk.specs.Image.{four, header, used_by, Stands, Opens, IsFormatted, IsUnformatted, IsSame}

-- a body as it is written: its length, its bytes and a closed gate
abbrev pub framed : List ℕ → List ℕ
framed body = four (length body) ++ (body ++ 0 ∷ [])

-- the bytes between the length and the gate
abbrev pub body_in : List ℕ → List ℕ
body_in bytes = take (length bytes - 5) (drop 4 bytes)

-- a bank, to contracts: its disk, the bodies, the bytes in use, and whether more may be appended
pub record Account (D : Type 0) : Type 0 where
  pub disk : D
  pub records : List (List ℕ)
  pub used : ℕ
  pub sound : Bool

-- the bodies are all there, and a crash leaves them
pub record IsSettled (v : View) (bodies : List (List ℕ)) : Type 0 where
  pub image : IsFormatted v.reads bodies
  pub durable : IsDurable v

-- the numbers of a bank fit its bodies, and while it is sound a disk that keeps to its model has them all
pub record IsKept (v : View) (bodies : List (List ℕ)) (used : ℕ) (sound : Bool) : Type 0 where
  pub counted : used ≡ used_by bodies
  pub within : used ≤ BANK_BYTES
  pub settled : sound ≡ true → v.Keeps → IsSettled v bodies

-- the bodies from before, with the new one or without
abbrev pub IsBeforeOrAfter : List (List ℕ) → List ℕ → List ℕ → Type 0
IsBeforeOrAfter bodies body image = Stands image bodies ⊎ Stands image (bodies ++ body ∷ [])

-- an image stands for what some image stood for that a crash at the start could have left
abbrev pub KeepsMeaning : View → List ℕ → Type 0
KeepsMeaning old image = (was : List ℕ) × old.Now was × IsSame was image

-- a new store: a header and a closed gate
abbrev pub new_store : List ℕ
new_store = header 65 ++ 0 ∷ []

-- opening formats what is unformatted, and leaves every other disk as it was
pub record Formats (old new : List ℕ) : Type 0 where
  pub unformatted : IsUnformatted old → new ≡ new_store
  pub other : (IsUnformatted old → ⊥) → new ≡ old

-- the answer says what opening the image comes to, unless memory or the disk failed
abbrev pub Says : List ℕ → Result (List (List ℕ)) BankFault → Type 0
Says image (Ok bodies) = Opens image (Ok bodies)
Says image (Err fault) = (fault ≡ Memory) ⊎ (fault ≡ DiskFault) ⊎ Opens image (Err fault)

-- an answer's bodies or fault
abbrev pub outcome_by : {R E : Type 0} → (R → List (List ℕ)) → (E → BankFault) → Result R E → Result (List (List ℕ)) BankFault
outcome_by records fault (Ok r) = Ok (records r)
outcome_by records fault (Err e) = Err (fault e)
