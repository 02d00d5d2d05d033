-- What a line of a busy session comes to, by what is known of its case.
use Rattle.std.proofs.Common.{◌≡◌, IfOk, ℕ, List, Option, Result, Ok as Right, Err, refl, ◌∙◌}
use Rattle.zn_base.specs.Names.{Name}
use Rattle.zone_cases.specs.Code.Cells.{cell_world}
use Rattle.zone_cases.specs.State.{stored}
use Rattle.zone_cases.specs.State.Worlds.{view_of, View}
use Rattle.zoneadmd_steps.specs.declared.desks.Desk.{Desk}
use Rattle.zone_cases.specs.declared.cell.Cell.{Cell}
use Rattle.commit_journal.specs.declared.records.Record.{Record}
use Rattle.zone_cases.specs.State.Decisions.{Decision}
use Rattle.zone_cases.specs.Code.Cases.{IsCaseOf, IsNamedCase, decision_of, MountsNothing, IsCaseIn}
use Rattle.zoneadmd_steps.specs.Code.Desks.{as_desk}
use Rattle.zonecfg_scopes.specs.Edited.{Edited}
use Rattle.zone_cases.specs.Session.Commits.{edits_line}
use Rattle.brand_hooks.specs.Brands.{Tabled}
use Rattle.zone_cases.specs.State.Declarations.{Declared}
use Rattle.zone_cases.specs.declared.cases.Case.{Case}

-- a line of a session that edits, by what is known of its case
pub edits-case : {E : Type 0} (r : Result Case E) (z : Name) (c : Cell) (stored : Option Record) (brands : List Tabled) (e : Edited) (text : List ℕ) (decides : View → Decision) → ((v : View) → decides v ≡ edits_line v e text)
    → IfOk r (λ case. (d : Desk) (v : View) → v.zone ≡ z → v.world.stored ≡ stored → v.world.brands ≡ brands → v.world.desk ≡ as_desk c.desk → edits_line v e text ≡ decision_of d case)
    → IfOk r (λ case. (d : Desk) → IsCaseOf d case) → IfOk r (IsNamedCase z) → IfOk r MountsNothing
    → IfOk r (λ case. (declared : Declared) → IsCaseIn z (record { stored = stored; declared = declared; brands = brands }) c decides case)
unfolding view_of
edits-case (Right case) z c stored brands e text decides same decided of named free = λ declared. record {
  decided = same _ ∙ decided c.desk (view_of z (cell_world (record { stored = stored; declared = declared; brands = brands }) c)) refl refl refl refl;
  of = of c.desk;
  named = named;
  free = free c.mounts.list c.claims.claims;
}
edits-case (Err fault) z c stored brands e text decides same decided of named free = tt

-- what is known of a case, where there is one
pub on_case : {E : Type 0} {P Q : Case → Type 0} (r : Result Case E) → ((case : Case) → P case → Q case) → IfOk r P → IfOk r Q
on_case (Right case) f h = f case h
on_case (Err fault) f h = tt
