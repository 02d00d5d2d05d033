-- What sessions leave that were not begun, and whose lines a script has.
use Rattle.std.proofs.Common.{◌≡◌, ◌<◌, ◌∷◌, [], ℕ, suc, zero, List, Some, None, false, arith, length, nat_eq, refl, subst, sym}
use Rattle.std.specs.Prelude.{slice_index_or}
use Rattle.std.proofs.lemmas.Bool.{eq-eqb, ne_eqb}
use Rattle.zn_io.specs.Disk.{View}
use Rattle.zone_cases.specs.State.{State}
use Rattle.zone_machine.specs.Code.Records.{Passes}
use Rattle.session_records.specs.Records.{IsPartial, Scripts}
use Rattle.session_runs.proofs.Machine_steps.{passes-none}
use Rattle.session_runs.specs.Far.{Differ, scripts_of}
use Rattle.session_runs.specs.declared.far.Script.{Script}

pub is-some : {A : Type 0} (a : A) → Some a ≡ None → ⊥
is-some a is = absurd (cc)

-- nothing is a part of a record
pub nothing-is : (S : State) (scripts : Scripts) → IsPartial S scripts []
nothing-is S scripts = record { legal = refl; lines = λ n. (scripts n, refl); others = refl; tickets = refl }

-- a script has the lines that its session has by all of them
later : (x : Script) (xs : List Script) → Differ (x ∷ xs) → Differ xs
later x xs differ i j s ni nj same = let more = differ (suc i) (suc j) s (omega (arith, ni)) (omega (arith, nj)) same in omega (arith, more)

pub script-lines : (scripts : List Script) → Differ scripts → (i : ℕ) (s : Script) → i < length scripts → scripts_of scripts (slice_index_or scripts i s).session ≡ (slice_index_or scripts i s).lines.items
script-lines [] differ i s near = absurd (omega (arith, near))
script-lines (x ∷ xs) differ zero s near = rw (eq-eqb x.session x.session refl) refl
script-lines (x ∷ xs) differ (suc i) s near =
    let it = slice_index_or xs i s in
    let away : nat_eq it.session x.session ≡ false = ne_eqb it.session x.session (λ same. not-first i (differ (suc i) 0 s near (omega arith) same)) in
    rw away (script-lines xs (later x xs differ) i s (omega (arith, near)))
  where
    not-first : (i : ℕ) → suc i ≡ 0 → ⊥
    not-first i is = absurd (omega (arith, is))

pub passes-same : {D : Type 0} (view : D → View) (a b : D) → b ≡ a → Passes (view a) (view b)
passes-same {D} view a b same = subst (λ (x : D). Passes (view a) (view x)) (sym same) (passes-none (view a))
