-- The rule that a turn's table keeps between any two steps.
-- Word 0 counts the tickets that were drawn, word 1 the batches that were given. Slot 0 has the part.
use Rattle.std.specs.Prelude.{◌≡◌, ◌≢◌, ◌⊎◌, ℕ, ◌+◌, ◌%◌, ◌≤◌, List, [], ◌∷◌, length, Option, Some}
use Rattle.std.specs.List.{All}
use mathlib.Core.Option.{some}
use lib.ListN.{get_elem?}
use Rattle.atomic_table.specs.Table.{State}
use Rattle.zone_turn.specs.declared.limits.TheConstants.{PASSES_OUT_MAX}
use Rattle.zone_turn.specs.declared.views.View.{View}
use Rattle.zone_turn.specs.declared.views.Stage.{Stage}
use Rattle.zone_turn.specs.declared.views.Stage.TheVariants.{Idle, Waits, Out}
use Rattle.zone_turn.specs.declared.views.Role.{Role}
use Rattle.zone_turn.specs.declared.views.Role.TheVariants.{Spent, Other, First}
use Rattle.zone_turn.specs.Passes.{Apart, IsKept, alive}
use Rattle.zone_turn.specs.Histories.{joined, own}

-- what a word holds of a number
abbrev pub in_word : ℕ → ℕ
in_word n = n % 18446744073709551616

-- the numbers f of each, added up
abbrev pub total : {A : Type 0} → (f : A → ℕ) → List A → ℕ
total f [] = 0
total f (x ∷ xs) = f x + total f xs

-- a turn at one moment: who drew each ticket, the batches that were given, the views of all passes that were ever made, and
-- how many passes the first one counts as out
pub record Moment (E : Type 0) : Type 0 where
  pub owners : List ℕ
  pub batches : List (List E)
  pub views : List (View E)
  pub out : ℕ

module _ {E : Type 0} where
  -- the ticket that is served
  abbrev pub serving : Moment E → ℕ
  serving m = length m.batches

  abbrev pub history : Moment E → List E
  history m = joined m.batches

  abbrev pub pass_count : Moment E → ℕ
  pass_count m = length m.views

  abbrev pub stage_holds : Stage E → ℕ
  stage_holds Idle = 0
  stage_holds (Waits t) = 1
  stage_holds (Out t h) = 1

  abbrev pub role_holds : Role E → Stage E → ℕ
  role_holds Spent s = 0
  role_holds Other s = stage_holds s
  role_holds (First r) s = stage_holds s

  -- 1 where the pass holds a ticket
  abbrev pub holds_ticket : View E → ℕ
  holds_ticket v = role_holds v.role v.stage

  -- the pass n was taken back
  abbrev pub IsSpent : Moment E → (n : ℕ) → Type 0
  IsSpent m n = (v : View E) × (get_elem? m.views n ≡ some v) × (v.role ≡ Spent)

  -- who waits holds a ticket that was not served yet, and who has the part out holds the one that is served; the part stood
  -- for the history then
  abbrev pub StageRule : Moment E → (n : ℕ) → Stage E → Type 0
  StageRule m n Idle = Unit {0}
  StageRule m n (Waits t) = (serving m ≤ t) × (get_elem? m.owners t ≡ some n)
  StageRule m n (Out t h) = (t ≡ serving m) × (get_elem? m.owners t ≡ some n) × (h ≡ history m)

  -- the first pass has the number 0, counts the others, and keeps the list of each that was taken back
  abbrev pub RoleRule : (belongs : E → ℕ) → Moment E → (n : ℕ) → Stage E → Role E → Type 0
  RoleRule belongs m n s Spent = s ≡ Idle
  RoleRule belongs m n s Other = n ≢ 0
  RoleRule belongs m n s (First r) = (n ≡ 0) × (r.made ≡ pass_count m) × (r.out ≡ m.out) × All (λ (k : ℕ × List E). (own belongs k.0 (history m) ≡ k.1) × IsSpent m k.0) r.kept × Apart r.kept × ((k : ℕ) → IsSpent m k → IsKept r.kept k)

  abbrev pub moment : List ℕ → List (List E) → List (View E) → ℕ → Moment E
  moment owners batches views out = record { owners = owners; batches = batches; views = views; out = out }

-- the pass n knows what is so: its number, and its list, which is its own entries in their order
pub record Knows {E : Type 0} (belongs : E → ℕ) (m : Moment E) (n : ℕ) (v : View E) : Type 0 where
  pub stage : StageRule m n v.stage
  pub role : RoleRule belongs m n v.stage v.role
  pub mine : alive v ≡ 1 → (v.number ≡ n) × (own belongs n (history m) ≡ v.list)

module _ {T E : Type 0} where
  -- the part is at home, and stands for the history
  abbrev pub IsHome : (stands : T → List E → Type 0) → (h : List E) → State (Option T) (View E) → Type 0
  IsHome stands h s = (x : T) × (s.homes ≡ some (Some x) ∷ []) × stands x h

  -- a pass has the part out
  abbrev pub IsOut : State (Option T) (View E) → Type 0
  IsOut s = (n : ℕ) × (v : View E) × (t : ℕ) × (h : List E) × (get_elem? s.views n ≡ some v) × (v.stage ≡ Out t h)

-- the rule
pub record IsTurn {T E : Type 0} (stands : T → List E → Type 0) (belongs : E → ℕ) (s : State (Option T) (View E)) : Type 0 where
  pub owners : List ℕ
  pub batches : List (List E)
  pub out : ℕ
  pub words : s.words ≡ in_word (length owners) ∷ in_word (length batches) ∷ []
  -- each ticket was served, or a pass holds it
  pub tickets : total holds_ticket s.views + length batches ≡ length owners
  -- all passes but the first and the spent ones are out
  pub living : total alive s.views ≡ out + 1
  pub few : out ≤ PASSES_OUT_MAX
  pub part : IsHome stands (joined batches) s ⊎ IsOut s
  pub each : (n : ℕ) (v : View E) → get_elem? s.views n ≡ some v → Knows belongs (moment owners batches s.views out) n v
  -- no entry belongs to a pass that was never made
  pub unmade : (n : ℕ) → length s.views ≤ n → own belongs n (joined batches) ≡ []
