-- What an image of a disk stands for, and why it stands for nothing.
use Rattle.std.specs.Prelude.{◌≡◌, ◌≢◌, ◌↔◌, ℕ, ◌+◌, ◌/◌, ◌%◌, ◌<◌, ◌≤◌, List, [], ◌∷◌, ◌++◌, length, take, get_or, Bool, true, false, nat_lt, nat_le, not, ◌&&◌, ◌==◌, if◌then◌else◌, Result, Ok, Err, codes}
use Rattle.zone_disk.specs.declared.bank.TheConstants.{BANK_BYTES}
use Rattle.zone_disk.specs.declared.fault.BankFault.{BankFault}
use Rattle.zone_disk.specs.declared.fault.BankFault.TheVariants.{NotAStore, BadRecord, DiskFault, BankFull, Memory}

-- a length as four bytes, the most significant first
abbrev pub four : ℕ → List ℕ
four n = (n / 256 / 256 / 256) ∷ (n / 256 / 256 % 256) ∷ (n / 256 % 256) ∷ (n % 256) ∷ []

-- bodies after open gates, each after its length
abbrev pub blocks : List (List ℕ) → List ℕ
blocks [] = []
blocks (body ∷ bodies) = 1 ∷ (four (length body) ++ (body ++ blocks bodies))

-- the header: an open head gate, the form's name, the selector of a bank, six zeros
abbrev pub header : ℕ → List ℕ
header selector = 1 ∷ codes "ZNSTORE1" ++ selector ∷ 0 ∷ 0 ∷ 0 ∷ 0 ∷ 0 ∷ 0 ∷ []

abbrev pub front : ℕ → List (List ℕ) → List ℕ
front selector bodies = header selector ++ blocks bodies

-- how many of them are in use: the bodies and the closed gate
abbrev pub used_by : List (List ℕ) → ℕ
used_by bodies = length (blocks bodies) + 1

-- a header, the bodies after open gates, one closed gate inside the bank, and then anything
pub record IsFormatted (image : List ℕ) (bodies : List (List ℕ)) : Type 0 where
  pub fore : take (16 + length (blocks bodies)) image ≡ front (get_or image 9 0) bodies
  -- 0x42 selects a bank that this form doesn't have
  pub bank : get_or image 9 0 ≢ 66
  -- past the disk's end there is no closed gate
  pub closed : get_or image (16 + length (blocks bodies)) 1 ≢ 1
  pub inside : used_by bodies ≤ BANK_BYTES

-- at most one byte, or a closed head gate and at most 17 bytes
abbrev pub IsUnformatted : List ℕ → Type 0
IsUnformatted [] = Unit {0}
IsUnformatted (first ∷ []) = Unit {0}
IsUnformatted (first ∷ second ∷ rest) = (first ≢ 1) × (length rest ≤ 15)

-- an unformatted image stands for no body, a formatted one for its bodies
pub data Stands (image : List ℕ) (bodies : List (List ℕ)) : Type 0 where
  unformatted : IsUnformatted image → bodies ≡ [] → Stands image bodies
  formatted : IsFormatted image bodies → Stands image bodies

-- they stand for the same lists
abbrev pub IsSame : List ℕ → List ℕ → Type 0
IsSame old new = (bodies : List (List ℕ)) → Stands new bodies ↔ Stands old bodies

-- a byte that may stand at an offset: the header's, but any selector other than 0x42, and any first gate
abbrev pub may_stand : ℕ → ℕ → Bool
may_stand place byte =
    if nat_le 16 place then true else if place == 9 then not (byte == 66) else byte == get_or (header 65) place 0

-- there is a byte at an offset, and it may stand there
abbrev pub is_right : List ℕ → ℕ → Bool
is_right image place = nat_lt place (length image) && may_stand place (get_or image place 0)

-- the first offset, up to the first gate, whose byte is missing or wrong
pub record IsFirstWrong (image : List ℕ) (place : ℕ) : Type 0 where
  pub within : place ≤ 16
  pub wrong : is_right image place ≡ false
  pub before : (k : ℕ) → k < place → is_right image k ≡ true

-- there is no whole record with a gate after it
abbrev pub IsCut : List ℕ → Type 0
IsCut bytes = (body : List ℕ) (gate : ℕ) (rest : List ℕ) → bytes ≡ four (length body) ++ (body ++ gate ∷ rest) → ⊥

-- within the header and the bank: whole records, and then an open gate with no whole record after it
pub record IsBadRecord (image : List ℕ) (place : ℕ) : Type 0 where
  pub selector : ℕ
  pub bodies : List (List ℕ)
  pub rest : List ℕ
  pub is : take (16 + BANK_BYTES) image ≡ front selector bodies ++ 1 ∷ rest
  pub bank : selector ≢ 66
  pub cut : IsCut rest
  pub there : place ≡ 16 + length (blocks bodies)

-- what opening an image comes to
abbrev pub Opens : List ℕ → Result (List (List ℕ)) BankFault → Type 0
Opens image (Ok bodies) = Stands image bodies
Opens image (Err (NotAStore place)) = (IsUnformatted image → ⊥) × IsFirstWrong image place
Opens image (Err (BadRecord place)) = IsBadRecord image place
Opens image (Err DiskFault) = ⊥
Opens image (Err BankFull) = ⊥
Opens image (Err Memory) = ⊥

-- a law: an image stands for at most one list of bodies
abbrev pub StandsForOne : Type 0
StandsForOne = (image : List ℕ) (a b : List (List ℕ)) → Stands image a → Stands image b → a ≡ b

-- a law: opening an image comes to at most one thing
abbrev pub OpensOneWay : Type 0
OpensOneWay = (image : List ℕ) (a b : Result (List (List ℕ)) BankFault) → Opens image a → Opens image b → a ≡ b
