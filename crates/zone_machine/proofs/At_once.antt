-- A local turn that is answered on its zone's cell alone, while the shared part only notes that an event has come.
use Rattle.std.proofs.Common.{◌≡◌, ◌∙◌, ◌++◌, ℕ, Bool, List, Option, Some, None, Result, false, true, ap, append-nil, refl, sym, subst}
use Rattle.std.specs.Prelude.{IfErr, IsErrOf, bytes_eq, is_some, not}
use Rattle.std.proofs.lemmas.Bool.{false≢true}
use Rattle.indexmap.specs.IndexMap.{with_value_at}
use Rattle.zn_base.specs.Names.{Name}
use Rattle.brand_hooks.specs.Brands.{Tabled}
use Rattle.brand_hooks.specs.declared.table.HookAnswer.{HookAnswer}
use Rattle.zone_pools.specs.declared.grant.Grant.{Grant}
use Rattle.zone_pools.specs.declared.grant.Grant.TheVariants.{Nothing}
use Rattle.zoneadmd_steps.specs.Arrivals.{Arrival, Comes, arrived}
use Rattle.zoneadmd_steps.specs.Turns.{Turn_decision}
use Rattle.zone_pools.specs.Decisions as decisions
use Rattle.zone_cases.specs.Code.Cells.{CellOf, IsHeardIn, world_or_empty}
use Rattle.zone_cases.specs.State.{State, bodies_of}
use Rattle.zone_cases.specs.State.Decisions.{Act, act_of}
use Rattle.zone_cases.specs.State.Worlds.{View, world}
use Rattle.zone_cases.specs.declared.cell.Cell.{Cell}
use Rattle.zone_cases.specs.declared.events.Entry.{Entry}
use Rattle.zone_cases.specs.declared.events.Event.TheVariants.{Turn}
use Rattle.zone_cases.specs.declared.events.Subject.TheVariants.{Zone}
use Rattle.zone_cases.specs.declared.replies.Reply.{Reply}
use Rattle.zone_machine.specs.Code.Cell_steps.{IsCellStep}
use Rattle.zone_machine.specs.Code.Cells.{SharedOf, cell_at}
use Rattle.zone_machine.specs.Code.Decided.{IsCellAt, entry_of}
use Rattle.zone_machine.specs.Code.Local_turns.{IsAsItWas, IsDone, IsLocalTurn}
use Rattle.zone_machine.specs.Code.Records.{KeepsBodies}
use Rattle.zone_machine.specs.Machine.Changes.{committed}
use Rattle.zone_machine.specs.Code.Steps.{AsItWas, IsStepUnder, Leaves}
use Rattle.zone_machine.specs.declared.faults.StepFault.{StepFault}
use Rattle.zone_machine.specs.declared.faults.StepFault.TheVariants.{Memory}
use Rattle.zone_cases.specs.declared.events.Event.{Event}
use Rattle.zone_machine.specs.Machine.{decide, one}
use Rattle.zone_machine.specs.Machine.Common.{Common, common}
use Rattle.zone_machine.specs.Machine.Local.{is_local}
use Rattle.zone_machine.specs.Machine.Pools.{allowed}
use Rattle.zone_machine.specs.declared.machine.parts.Parts.{Parts}
use Rattle.zone_machine.specs.declared.machine.shared.Shared.{Shared}
use Rattle.zone_machine.proofs.Local_laws.{decided, local-common, local-right, local-turn, subject-turn}
use Rattle.zone_machine.proofs.Own_worlds.{view-world}
use Rattle.zone_pools.proofs.Same_laws.{grant-Decides}
use Rattle.zone_machine.proofs.Stepping.{AsItWas-cell, IsStep-cell, Keeps-at, stands-cell}
use Rattle.zone_machine.proofs.Turned_laws.{decide-turn}
use Rattle.zone_machine.proofs.Writing.{commits-zone}

-- it stores nothing
local-commits : (z : Name) (S : State) (e : Entry) (g : Grant) → is_local z (world z S) e ≡ true → (one S (Turn z) g).state.commits ≡ S.commits
local-commits z S e g h =
    let found = local-turn z (world z S) e h in
    commits-zone S (Turn z) g z (subject-turn S z)
    ∙ (ap (λ (a : Option Arrival). S.commits ++ committed z a)
    (ap (λ (v : View). (act_of (decide v (Turn z)) g).came) (view-world z S)
    ∙ (ap (λ (a : Act). a.came) (decide-turn z z (world z S) g) ∙ ap (λ (d : Turn_decision). (decisions.act_of arrived d g).came) (decided (world z S) found.0 found.1.decided)))
    ∙ append-nil S.commits)

abbrev pub turn_entry : Name → Reply → Entry
turn_entry z reply = entry_of (Zone z) (Turn z) Nothing reply

module _ (m : Parts) (z : Name) (i : ℕ) (c d : Cell) (hook : HookAnswer) (at : IsCellAt m i z) (here : cell_at z m ≡ Some c) where
  abbrev pub noted : Shared
  noted = record m.shared { started = true }

  -- the parts with another cell of the zone
  abbrev pub left : Shared → Parts
  left s = record { cells = with_value_at m.cells i d; shared = s }

  module _ (reply : Reply) (heard : IsHeardIn m.shared.brands c hook) (turn : IsLocalTurn z c hook (turn_entry z reply) d) where
    done_in : (S : State) → CellOf c (world z S) → SharedOf m.shared (common S) → IsDone z S (turn_entry z reply) d
    done_in S cell shared = turn S cell (subst (λ (b : List Tabled). IsHeardIn b c hook) (sym (ap (λ (k : Common). k.brands) shared)) heard)

    steps : IsCellStep z c m.shared (Turn z) Nothing (turn_entry z reply) d noted
    steps S cell shared of =
        let done = done_in S cell shared in
        record { told = done.told; cell = done.cell; shared = local-common z S (turn_entry z reply) done.local ∙ ap (λ (k : Common). record k { started = true }) shared }

    pub answered-at-once : IsStepUnder None m (Turn z) (turn_entry z reply) (left noted)
    answered-at-once S h =
        let done = done_in S (stands-cell m (left noted) z (Turn z) c d (λ out. ap (world_or_empty out) here) (Keeps-at m (left noted) z i d at.unique at.index refl) S h) h.shared in
        record {
          takes = (grant-Decides Nothing (allowed S (Turn z))).0 (local-right z S (turn_entry z reply) done.local).1;
          answers = IsStep-cell m (left noted) z (Turn z) c d (λ out. ap (world_or_empty out) here) (Keeps-at m (left noted) z i d at.unique at.index refl) Nothing (turn_entry z reply) refl steps S h;
        }

    pub keeps-at-once : (bodies : List (List ℕ)) → KeepsBodies None m (Turn z) bodies bodies
    keeps-at-once bodies S h same =
        let done = done_in S (stands-cell m (left noted) z (Turn z) c d (λ out. ap (world_or_empty out) here) (Keeps-at m (left noted) z i d at.unique at.index refl) S h) h.shared in
        ap bodies_of (local-commits z S (turn_entry z reply) (allowed S (Turn z)) done.local) ∙ same

  -- where memory runs out, all is as it was
  pub as-it-was : IsAsItWas c d → AsItWas m (left m.shared)
  as-it-was same = AsItWas-cell m (left m.shared) z (Turn z) c d (λ out. ap (world_or_empty out) here) (Keeps-at m (left m.shared) z i d at.unique at.index refl) (record { world = same; rows = refl; common = refl; pools = refl })

pub memory-left : {A : Type 0} (r : Result A StepFault) (stated : Option Grant) (m u : Parts) (e : Event) → IsErrOf r Memory → AsItWas m u → IfErr r (λ fault. Leaves fault stated m e u)
memory-left r stated m u e is same = rw is same

pub unstated : (o : Option Grant) (b : Bool) → is_some o ≡ not b → b ≡ true → o ≡ None
unstated None b h is = refl
unstated (Some g) b h is = absurd (false≢true (sym (h ∙ ap not is)))
