-- A machine taken apart stands for what it stood for, and so it does with an empty cell more.
use Rattle.indexmap.specs.IndexMap.{get_by}
use Rattle.std.proofs.Common.{◌≡◌, ℕ, Bool, Option, Some, None, true, false, refl, ap, sym, subst, ◌∙◌}
use Rattle.std.specs.Prelude.{bytes_eq, is_some, if◌then◌else◌}
use Rattle.zn_base.specs.Names.{Name}
use Rattle.zone_pools.proofs.Owned_laws.{same_self, same_true}
use Rattle.zone_cases.specs.Code.Cells.{CellOf, Outside, cell_world, empty_world, outside_of, world_or_empty}
use Rattle.zone_cases.specs.State.{State, stored}
use Rattle.zone_cases.specs.State.Worlds.{World, world}
use Rattle.zone_cases.specs.declared.cell.Cell.{Cell}
use Rattle.zone_machine.proofs.Stepping.{Keeps-new}
use Rattle.zone_machine.specs.Code.Cells.{SharedOf, Stands, cell_at}
use Rattle.zone_machine.specs.Code.Openings.{StandsFor}
use Rattle.zone_machine.specs.Code.Partings.{HasNothing, StandApart, cell_apart}
use Rattle.zone_machine.specs.Code.Steps.{AsItWas}
use Rattle.zone_machine.specs.Machine.Common.{common}
use Rattle.zone_machine.specs.declared.machine.Machine.{Machine}
use Rattle.zone_machine.specs.declared.machine.parting.Parted.{Parted}
use Rattle.zone_machine.specs.declared.machine.parts.Parts.{Parts}

-- what a cell that there is, or none, says of a world, and the other way round
has-cell : (w : World) (o : Option Cell) → w ≡ world_or_empty (outside_of w) o → (c : Cell) → o ≡ Some c → CellOf c w
has-cell w o is c h = is ∙ ap (world_or_empty (outside_of w)) h

has-none : (w : World) (o : Option Cell) → w ≡ world_or_empty (outside_of w) o → o ≡ None → HasNothing w
has-none w o is h = is ∙ ap (world_or_empty (outside_of w)) h

has-either : (w : World) (o : Option Cell) → ((c : Cell) → o ≡ Some c → CellOf c w) → (o ≡ None → HasNothing w) → w ≡ world_or_empty (outside_of w) o
has-either w None cells others = others refl
has-either w (Some c) cells others = cells c refl

module _ {D F : Type 0} (m : Machine D F) (p : Parted D F) (cells : p.cells ≡ m.parts.cells) (shared : p.shared ≡ m.parts.shared) (bank : p.bank ≡ m.bank) where
  at : (z : Name) → cell_apart z p ≡ cell_at z m.parts
  at z = ap (λ es. get_by (bytes_eq z) es) cells

  pub apart : (S : State) → StandsFor S m → StandApart S p
  apart S stands = record {
    cells = λ z c h. has-cell (world z S) (cell_at z m.parts) (stands.parts.worlds z) c (sym (at z) ∙ h);
    others = λ z h. has-none (world z S) (cell_at z m.parts) (stands.parts.worlds z) (sym (at z) ∙ h);
    shared = subst (λ t. SharedOf t (common S)) (sym shared) stands.parts.shared;
    bodies = stands.bodies ∙ ap (λ b. b.records) (sym bank);
  }

  pub together : (S : State) → StandApart S p → StandsFor S m
  together S parts = record {
    parts = record {
      worlds = λ z. has-either (world z S) (cell_at z m.parts) (λ c h. parts.cells z c (at z ∙ h)) (λ h. parts.others z (at z ∙ h));
      shared = subst (λ t. SharedOf t (common S)) shared parts.shared;
    };
    bodies = parts.bodies ∙ ap (λ b. b.records) bank;
  }

-- an empty cell where there was none
pub empty-more : (z : Name) (d : Cell) (old new : Name → Option Cell) → ((y : Name) → new y ≡ (if bytes_eq z y then Some d else old y)) → old z ≡ None → ((out : Outside) → cell_world out d ≡ empty_world out)
    → (out : Outside) (y : Name) → world_or_empty out (new y) ≡ world_or_empty out (old y)
empty-more z d old new now none empty out y = Keeps-new z d old new now out y ∙ at_zone (bytes_eq z y) refl
  where
    at_zone : (b : Bool) → bytes_eq z y ≡ b → (if b then cell_world out d else world_or_empty out (old y)) ≡ world_or_empty out (old y)
    at_zone true e = empty out ∙ ap (world_or_empty out) (sym (ap old (sym (same_true z y e)) ∙ none))
    at_zone false e = refl

-- and the others keep theirs
pub kept-more : (z : Name) (d : Cell) (old new : Name → Option Cell) → ((y : Name) → new y ≡ (if bytes_eq z y then Some d else old y)) → (y : Name) → is_some (old y) ≡ true → is_some (new y) ≡ true
kept-more z d old new now y had = ap is_some (now y) ∙ at_zone (bytes_eq z y)
  where
    at_zone : (b : Bool) → is_some (if b then Some d else old y) ≡ true
    at_zone true = refl
    at_zone false = had

pub has-new : (z : Name) (d : Cell) (old new : Name → Option Cell) → ((y : Name) → new y ≡ (if bytes_eq z y then Some d else old y)) → is_some (new z) ≡ true
has-new z d old new now = ap is_some (now z ∙ ap (λ b. if b then Some d else old z) (same_self z))

pub as-it-was : (t u : Parts) → ((out : Outside) (y : Name) → world_or_empty out (cell_at y u) ≡ world_or_empty out (cell_at y t)) → u.shared ≡ t.shared → AsItWas t u
as-it-was t u same shared S = (
  (λ h. record { worlds = λ z. h.worlds z ∙ sym (same (outside_of (world z S)) z); shared = subst (λ s. SharedOf s (common S)) (sym shared) h.shared }),
  (λ h. record { worlds = λ z. h.worlds z ∙ same (outside_of (world z S)) z; shared = subst (λ s. SharedOf s (common S)) shared h.shared }),
)
