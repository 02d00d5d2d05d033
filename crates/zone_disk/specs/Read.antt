-- What reading a disk from its front has found so far.
use Rattle.std.specs.Prelude.{◌≡◌, ◌≢◌, ◌⊎◌, ℕ, ◌+◌, ◌<◌, ◌≤◌, List, ◌++◌, length, take, drop, get_or}
use Rattle.zone_disk.specs.declared.fault.BankFault.{BankFault}
use Rattle.zone_disk.specs.declared.fault.BankFault.TheVariants.{NotAStore, BadRecord, DiskFault, BankFull, Memory}
use Rattle.zone_disk.specs.Image.{front, IsCut, IsFirstWrong, IsBadRecord}

-- the bytes are a front of the image
abbrev pub IsFrontOf : List ℕ → List ℕ → Type 0
IsFrontOf image bytes = bytes ≡ take (length bytes) image

-- the bytes are a front of the image that reaches past the header, or all of it
pub record HasHeaderOf (image bytes : List ℕ) : Type 0 where
  pub front : IsFrontOf image bytes
  pub long : (17 ≤ length bytes) ⊎ (bytes ≡ image)

-- a header and whole records, and then a gate at a place
pub record HasRecords (bytes : List ℕ) (bodies : List (List ℕ)) (place : ℕ) : Type 0 where
  pub is : bytes ≡ front (get_or bytes 9 0) bodies ++ drop place bytes
  pub bank : get_or bytes 9 0 ≢ 66
  pub inside : place < length bytes

-- after an open gate at a place there is no whole record
abbrev pub IsCutAt : List ℕ → ℕ → Type 0
IsCutAt bytes place = (get_or bytes place 1 ≡ 1) × IsCut (drop (place + 1) bytes)

-- why an image can't be read
abbrev pub Explains : BankFault → List ℕ → Type 0
Explains (NotAStore place) image = IsFirstWrong image place
Explains (BadRecord place) image = IsBadRecord image place
Explains DiskFault image = Unit {0}
Explains Memory image = Unit {0}
Explains BankFull image = ⊥
