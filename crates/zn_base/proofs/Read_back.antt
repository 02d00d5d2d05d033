-- Names, paths and states are read as what they were made of, and have bytes of some kinds alone.
use Rattle.std.proofs.Common.{◌≡◌, ℕ, ◌+◌, ◌≤◌, Bool, true, false, cond, not, ◌&&◌, ◌||◌, nat_lt, List, [], ◌∷◌, length, Option, Some, None, Result, Ok, Err, IsTrue, if◌then◌else◌, refl, ap, sym, ◌∙◌, arith}
use Rattle.std.specs.Prelude.{◌==◌, position, is_ok}
use Rattle.std.specs.List.{list_all, onto_first, position_or_len, slice_split}
use Rattle.std.proofs.lemmas.Bool.Decides.{nat_tests}
use Rattle.zn_base.specs.Cuts.{lacks}
use Rattle.zn_base.specs.Names.{first_wrong, is_letter_or_digit, is_name, is_name_byte, is_reserved, name_of, name_unless}
use Rattle.zn_base.specs.Path.{first_bad, first_bad_below_root, is_component, is_component_byte, is_path, is_slash, path_from_root, path_of, path_unless}
use Rattle.zn_base.specs.States.{is_stored, state_text, stored_state}
use Rattle.zn_base.specs.declared.name.NameFault.TheVariants.{Empty, TooLong, Reserved}
use Rattle.zn_base.specs.declared.path.PathFault.TheVariants.{PathLong, NotAbsolute}
use Rattle.zn_base.specs.declared.state.ZoneState.{ZoneState}
use Rattle.zn_base.specs.declared.state.ZoneState.TheVariants.{Configured, Incomplete, Installed, Ready, Running, ShuttingDown, Down}
use Rattle.zn_base.proofs.First_byte.{lacks_by}

-- after tests that refuse, an answer is what it is without them
passed : {T E : Type 0} (b : Bool) (fault : E) (r : Result T E) → is_ok (if b then Err fault else r) ≡ true → ((if b then Err fault else r) ≡ r) × (is_ok r ≡ true)
passed true fault r ok = absurd (cc)
passed false fault r ok = (refl, ok)

all_pass : (p : ℕ → Bool) (xs : List ℕ) → length xs ≤ position_or_len (λ b. not (p b)) xs → list_all p xs ≡ true
all_pass p [] h = refl
all_pass p (x ∷ xs) h =
    elim (p x) as (λ v. length (x ∷ xs) ≤ cond (not (not v)) (1 + position_or_len (λ b. not (p b)) xs) 0 → (v && list_all p xs) ≡ true) [
      | true ↦ λ g. all_pass p xs (omega arith)
      | false ↦ λ g. absurd (omega arith)
    ] h

none_fails : (p : ℕ → Bool) (xs : List ℕ) → position (λ b. not (p b)) xs ≡ None → list_all p xs ≡ true
none_fails p xs h = all_pass p xs (elim (nat_lt (position_or_len (λ b. not (p b)) xs) (length xs)) as (λ v. nat_lt (position_or_len (λ b. not (p b)) xs) (length xs) ≡ v → cond v (Some (position_or_len (λ b. not (p b)) xs)) None ≡ None → length xs ≤ position_or_len (λ b. not (p b)) xs) [
  | true ↦ λ e g. absurd (cc)
  | false ↦ λ e g. grind (arith, nat_tests)
] refl h)

-- a name is read as itself, and has name bytes alone
name_passed : (o : Option ℕ) (name : List ℕ) → is_ok (name_unless o name) ≡ true → (name_unless o name ≡ Ok name) × (o ≡ None)
name_passed (Some place) name ok = absurd (cc)
name_passed None name ok = ((passed (is_reserved name) Reserved (Ok name) ok).0, refl)

name_bytes : (name : List ℕ) → first_wrong name ≡ None → list_all is_name_byte name ≡ true
name_bytes [] none = refl
name_bytes (b ∷ bytes) none =
    elim (is_letter_or_digit b) as (λ v. (if v then position (λ c. not (is_name_byte c)) (b ∷ bytes) else Some 0) ≡ None → list_all is_name_byte (b ∷ bytes) ≡ true) [
      | true ↦ λ e. none_fails is_name_byte (b ∷ bytes) e
      | false ↦ λ e. absurd (cc)
    ] none

pub name_of_name : (name : List ℕ) → IsTrue (is_name name) → (name_of name ≡ Ok name) × (list_all is_name_byte name ≡ true)
name_of_name name ok =
    let first = passed (length name == 0) Empty (if nat_lt 63 (length name) then Err TooLong else name_unless (first_wrong name) name) ok in
    let second = passed (nat_lt 63 (length name)) TooLong (name_unless (first_wrong name) name) first.1 in
    let third = name_passed (first_wrong name) name second.1 in
    (first.0 ∙ second.0 ∙ third.0, name_bytes name third.1)

-- a path is read as itself, and has component bytes and slashes alone
abbrev pub is_path_byte : ℕ → Bool
is_path_byte b = is_slash b || is_component_byte b

good_parts : (place : ℕ) (parts : List (List ℕ)) → first_bad place parts ≡ None → list_all (list_all is_component_byte) parts ≡ true
good_parts place [] none = refl
good_parts place (part ∷ parts) none =
    elim (is_component part) as (λ v. is_component part ≡ v → (if v then first_bad (place + length part + 1) parts else Some place) ≡ None → (list_all is_component_byte part && list_all (list_all is_component_byte) parts) ≡ true) [
      | true ↦ λ good rest.
          let bytes : list_all is_component_byte part ≡ true = grind (arith, nat_tests) in
          rw (bytes, good_parts (place + length part + 1) parts rest) refl
      | false ↦ λ bad e. absurd (cc)
    ] refl none

onto_first_all : (b : ℕ) (parts : List (List ℕ)) → list_all (list_all is_component_byte) (onto_first b parts) ≡ true → (is_component_byte b ≡ true) × (list_all (list_all is_component_byte) parts ≡ true)
onto_first_all b [] all = grind (arith, nat_tests)
onto_first_all b (part ∷ parts) all = grind (arith, nat_tests)

split_bytes : (bytes : List ℕ) → list_all (list_all is_component_byte) (slice_split is_slash bytes) ≡ true → list_all is_path_byte bytes ≡ true
split_bytes [] all = refl
split_bytes (b ∷ bytes) all =
    elim (is_slash b) as (λ v. list_all (list_all is_component_byte) (cond v ([] ∷ slice_split is_slash bytes) (onto_first b (slice_split is_slash bytes))) ≡ true → ((v || is_component_byte b) && list_all is_path_byte bytes) ≡ true) [
      | true ↦ λ g. split_bytes bytes g
      | false ↦ λ g. let parts = onto_first_all b (slice_split is_slash bytes) g in rw (parts.0, split_bytes bytes parts.1) refl
    ] all

below_root : (bytes : List ℕ) → first_bad_below_root bytes ≡ None → list_all is_path_byte bytes ≡ true
below_root [] none = refl
below_root (b ∷ bytes) none = split_bytes (b ∷ bytes) (good_parts 1 (slice_split is_slash (b ∷ bytes)) none)

path_passed : (o : Option ℕ) (path : List ℕ) → is_ok (path_unless o path) ≡ true → (path_unless o path ≡ Ok path) × (o ≡ None)
path_passed (Some place) path ok = absurd (cc)
path_passed None path ok = (refl, refl)

from_root : (path : List ℕ) → is_ok (path_from_root path) ≡ true → (path_from_root path ≡ Ok path) × (list_all is_path_byte path ≡ true)
from_root [] ok = absurd (cc)
from_root (b ∷ bytes) ok =
    elim (is_slash b) as (λ v. is_ok (if v then path_unless (first_bad_below_root bytes) (b ∷ bytes) else Err NotAbsolute) ≡ true → ((if v then path_unless (first_bad_below_root bytes) (b ∷ bytes) else Err NotAbsolute) ≡ Ok (b ∷ bytes)) × (((v || is_component_byte b) && list_all is_path_byte bytes) ≡ true)) [
      | true ↦ λ g. let read = path_passed (first_bad_below_root bytes) (b ∷ bytes) g in (read.0, below_root bytes read.1)
      | false ↦ λ g. absurd (cc)
    ] ok

pub path_of_path : (path : List ℕ) → IsTrue (is_path path) → (path_of path ≡ Ok path) × (list_all is_path_byte path ≡ true)
path_of_path path ok =
    let first = passed (nat_lt 1023 (length path)) PathLong (path_from_root path) ok in
    let second = from_root path first.1 in
    (first.0 ∙ second.0, second.1)

-- a stored state's name is read as the state
pub stored_state_text : (s : ZoneState) → IsTrue (is_stored s) → stored_state (state_text s) ≡ Some s
stored_state_text Configured h = refl
stored_state_text Incomplete h = refl
stored_state_text Installed h = refl
stored_state_text Ready h = absurd (cc)
stored_state_text Running h = absurd (cc)
stored_state_text ShuttingDown h = absurd (cc)
stored_state_text Down h = absurd (cc)

same_some : {X : Type 0} (a b : X) → Some a ≡ Some b → a ≡ b
same_some a b e = cc

-- a stored state's name says it
pub state_of_text : (a b : ZoneState) → IsTrue (is_stored a) → IsTrue (is_stored b) → state_text a ≡ state_text b → a ≡ b
state_of_text a b f g same = same_some a b (sym (stored_state_text a f) ∙ ap stored_state same ∙ stored_state_text b g)

state_bytes : (s : ZoneState) → list_all is_name_byte (state_text s) ≡ true
state_bytes Configured = refl
state_bytes Incomplete = refl
state_bytes Installed = refl
state_bytes Ready = refl
state_bytes Running = refl
state_bytes ShuttingDown = refl
state_bytes Down = refl

-- names of zones and states, and paths, lack each byte that has no place in them
pub state_lacks : (c : ℕ) → is_name_byte c ≡ false → (s : ZoneState) → lacks c (state_text s) ≡ true
state_lacks c none s = lacks_by is_name_byte c none (state_text s) (state_bytes s)

pub name_lacks : (c : ℕ) → is_name_byte c ≡ false → (name : List ℕ) → IsTrue (is_name name) → lacks c name ≡ true
name_lacks c none name ok = lacks_by is_name_byte c none name (name_of_name name ok).1

pub path_lacks : (c : ℕ) → is_path_byte c ≡ false → (path : List ℕ) → IsTrue (is_path path) → lacks c path ≡ true
path_lacks c none path ok = lacks_by is_path_byte c none path (path_of_path path ok).1
