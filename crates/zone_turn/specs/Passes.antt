-- What a pass knows, and what becomes of it.
use Rattle.std.specs.Prelude.{◌≡◌, ◌≢◌, ℕ, ◌+◌, ◌-◌, ◌<◌, Bool, true, false, List, [], ◌∷◌, ◌++◌, length, slice_index_or, Option, None}
use Rattle.std.specs.List.{All}
use lib.ListN.{get_elem?}
use mathlib.Core.Option.{some}
use Rattle.atomic_table.specs.Seated.{TableId}
use Rattle.zone_turn.specs.declared.views.View.{View}
use Rattle.zone_turn.specs.declared.views.Stage.{Stage}
use Rattle.zone_turn.specs.declared.views.Stage.TheVariants.{Idle, Waits, Out}
use Rattle.zone_turn.specs.declared.views.Role.{Role}
use Rattle.zone_turn.specs.declared.views.Role.TheVariants.{Spent, Other, First}

-- a pass as contracts see it: the turn that it is of, and what it knows
pub record Holder (E : Type 0) : Type 0 where
  pub turn : TableId
  pub knows : View E

module _ {E : Type 0} where
  abbrev pub stage_idle : Stage E → Bool
  stage_idle Idle = true
  stage_idle (Waits t) = false
  stage_idle (Out t h) = false

  -- it neither waits for the part nor has it out
  abbrev pub is_idle : View E → Bool
  is_idle v = stage_idle v.stage

  abbrev pub role_first : Role E → Bool
  role_first Spent = false
  role_first Other = false
  role_first (First r) = true

  abbrev pub is_first : View E → Bool
  is_first v = role_first v.role

  -- the first pass of a new turn
  abbrev pub first_view : View E
  first_view = record { number = 0; list = []; stage = Idle; role = First (record { made = 1; out = 0; kept = [] }) }

  abbrev pub waits_for : ℕ → View E → View E
  waits_for t v = record { number = v.number; list = v.list; stage = Waits t; role = v.role }

  -- it has the part out, which stands for the history h of so many gives
  abbrev pub with_part : (gives : ℕ) → (h : List E) → View E → View E
  with_part gives h v = record { number = v.number; list = v.list; stage = Out gives h; role = v.role }

  -- it has the part no more, and its list is es
  abbrev pub idle_with : (es : List E) → View E → View E
  idle_with es v = record { number = v.number; list = es; stage = Idle; role = v.role }

  -- how many passes were made, how many are out, and the lists of those that were taken back, as the first pass knows it
  abbrev pub made_of : Role E → ℕ
  made_of Spent = 0
  made_of Other = 0
  made_of (First r) = r.made

  abbrev pub out_of : Role E → ℕ
  out_of Spent = 0
  out_of Other = 0
  out_of (First r) = r.out

  abbrev pub kept_of : Role E → List (ℕ × List E)
  kept_of Spent = []
  kept_of Other = []
  kept_of (First r) = r.kept

  -- the new pass of a split: its number is the count of passes made before
  abbrev pub new_view : (first : View E) → View E
  new_view v = record { number = made_of v.role; list = []; stage = Idle; role = Other }

  abbrev pub role_after_split : Role E → Role E
  role_after_split Spent = Spent
  role_after_split Other = Other
  role_after_split (First r) = First (record { made = r.made + 1; out = r.out + 1; kept = r.kept })

  -- the first pass after a split
  abbrev pub after_split : (first : View E) → View E
  after_split v = record { number = v.number; list = v.list; stage = v.stage; role = role_after_split v.role }

  abbrev pub role_after_join : (number : ℕ) → (list : List E) → Role E → Role E
  role_after_join n es Spent = Spent
  role_after_join n es Other = Other
  role_after_join n es (First r) = First (record { made = r.made; out = r.out - 1; kept = r.kept ++ (n, es) ∷ [] })

  -- the first pass after a join: it keeps the other's list, with its number
  abbrev pub after_join : (first other : View E) → View E
  after_join v w = record { number = v.number; list = v.list; stage = v.stage; role = role_after_join w.number w.list v.role }

  -- what is left of a pass that was taken back
  abbrev pub spent : View E
  spent = record { number = 0; list = []; stage = Idle; role = Spent }

  abbrev pub role_alive : Role E → ℕ
  role_alive Spent = 0
  role_alive Other = 1
  role_alive (First r) = 1

  -- 1 where the pass is not spent
  abbrev pub alive : View E → ℕ
  alive v = role_alive v.role

  -- the slots in its hand: the one of the part, where it has the part out
  abbrev pub hand_of : {S : Type 0} → Stage E → List (ℕ × Option S)
  hand_of Idle = []
  hand_of (Waits t) = []
  hand_of (Out t h) = (0, None) ∷ []

-- what a pass keeps between calls: it is not spent, and its hand is as its stage says
pub record IsPass {S E : Type 0} (v : View E) (hand : List (ℕ × Option S)) : Type 0 where
  pub holds : hand ≡ hand_of v.stage
  pub lives : alive v ≡ 1

-- the numbers under which lists are kept differ, and none is 0
abbrev pub Apart : {E : Type 0} → List (ℕ × List E) → Type 0
Apart {E} ks = All (λ (k : ℕ × List E). 0 < k.0) ks × ((i j : ℕ) (d : ℕ × List E) → i < j → j < length ks → (slice_index_or ks i d).0 ≢ (slice_index_or ks j d).0)

-- a list is kept under this number
abbrev pub IsKept : {E : Type 0} → List (ℕ × List E) → ℕ → Type 0
IsKept {E} ks n = (k : ℕ) × (es : List E) × (get_elem? ks k ≡ some (n, es))
