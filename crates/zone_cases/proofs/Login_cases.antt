-- What the code decides of a line of a session that is logged in, as the definitions have it.
use Rattle.std.proofs.Common.{◌≡◌, ◌∙◌, ℕ, Bool, false, List, [], ◌∷◌, Option, Result, Ok, Err, IfOk, ap, refl, subst, sym, if◌then◌else◌}
use Rattle.process_calls.specs.Calls.{call_of}
use Rattle.process_calls.specs.declared.call.Call.{Call}
use Rattle.zn_base.specs.Names.{Name}
use Rattle.zone_pools.specs.Firsts.{is_nil}
use Rattle.zone_pools.specs.Decisions.{Just}
use Rattle.zoneadmd_steps.specs.Code.Cases.{IsFreeFor}
use Rattle.zoneadmd_steps.specs.Objects.{Process_goes}
use Rattle.zoneadmd_steps.specs.declared.desks.Desk.{Desk}
use Rattle.zone_cases.specs.Calls.{called}
use Rattle.zone_cases.specs.Code.Cases.{IsCaseOf, IsNamedCase, decision_of, IsCaseIn, objects_of}
use Rattle.zone_cases.specs.Code.Cells.{Outside, cell_world}
use Rattle.zone_cases.specs.Session.Logins.{escapes, logged_line, passed_as, said_in, status_of}
use Rattle.zone_cases.specs.State.Decisions.{Decision, done_saying}
use Rattle.zone_cases.specs.State.Edits.{Of_objects}
use Rattle.zone_cases.specs.State.Worlds.{View, view_of}
use Rattle.zone_cases.specs.declared.cases.Case.{Case}
use Rattle.zone_cases.specs.declared.replies.Head.TheVariants.{Status}
use Rattle.zone_cases.specs.declared.cell.Cell.{Cell}

-- a call's case, passed on with the status of the call
pub passed_case : {E : Type 0} (z : Name) (cell : Cell) (pid : ℕ) (call : Call) (case : Case) (status : ℕ) (r : Result Case E) → status ≡ status_of call
    → ((out : Outside) → IsCaseIn z out cell (λ (v : View). called v pid call) case)
    → IfOk r (λ c. (d : Desk) → passed_as status (decision_of d case) ≡ decision_of d c) → IfOk r (λ c. (d : Desk) → IsCaseOf d c)
    → IfOk r (λ c. (y : Name) → IsNamedCase y c) → IfOk r (λ c. objects_of c ≡ objects_of case)
    → IfOk r (λ c. (out : Outside) → IsCaseIn z out cell (λ (v : View). said_in v pid (Ok call)) c)
unfolding called
passed_case z cell pid call case status (Err e) is h decided of named objects = tt
passed_case z cell pid call case status (Ok c) is h decided of named objects = λ out. record {
  decided = ap (passed_as (status_of call)) (h out).decided ∙ ap (λ s. passed_as s (decision_of cell.desk case)) (sym is) ∙ decided cell.desk;
  of = of cell.desk;
  named = named z;
  free = subst (λ o. IsFreeFor o cell.mounts.list cell.claims.claims) (sym objects) (h out).free;
}

-- a line that is a call
neither : (a b : Bool) (x y w : Decision) → a ≡ false → b ≡ false → (if a then x else if b then y else w) ≡ w
neither a b x y w stays typed = rw (stays, typed) refl

is_call : (v : View) (pid : ℕ) (escape : Option ℕ) (text : List ℕ) (call : Call) → escapes escape text ≡ false → is_nil text ≡ false → call_of text ≡ Ok call
    → logged_line v pid escape text ≡ said_in v pid (Ok call)
is_call v pid escape text call stays typed read =
    neither (escapes escape text) (is_nil text) (Just (done_saying (Of_objects (Process_goes pid) ∷ []) (Status 0))) (Just (done_saying [] (Status 0))) (said_in v pid (call_of text)) stays typed ∙ ap (said_in v pid) read

pub called_case : {E : Type 0} (z : Name) (cell : Cell) (pid : ℕ) (escape : Option ℕ) (text : List ℕ) (call : Call) (r : Result Case E)
    → escapes escape text ≡ false → is_nil text ≡ false → call_of text ≡ Ok call
    → IfOk r (λ c. (out : Outside) → IsCaseIn z out cell (λ (v : View). said_in v pid (Ok call)) c)
    → IfOk r (λ c. (out : Outside) → IsCaseIn z out cell (λ (v : View). logged_line v pid escape text) c)
called_case z cell pid escape text call (Err e) stays typed read h = tt
called_case z cell pid escape text call (Ok c) stays typed read h = λ out. record { decided = is_call (view_of z (cell_world out cell)) pid escape text call stays typed read ∙ (h out).decided; of = (h out).of; named = (h out).named; free = (h out).free }
