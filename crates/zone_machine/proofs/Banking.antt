-- What an event leaves on the disk, whatever state the machine's parts stand for.
use Rattle.std.proofs.Common.{◌≡◌, ℕ, List, Option, Some, None, ap, sym, subst, true, ◌∙◌}
use Rattle.std.specs.Prelude.{◌≢◌, is_some}
use Rattle.zn_io.specs.Disk.{IsSound, View as Disk_view}
use Rattle.zn_base.specs.Names.{Name}
use Rattle.zone_disk.specs.Bank.{Account}
use Rattle.zone_pools.specs.Decisions.{asked_of}
use Rattle.zone_pools.specs.declared.grant.Grant.{Grant}
use Rattle.commit_journal.specs.Zones.{rows_of}
use Rattle.zoneadmd_steps.specs.Arrivals.{Arrival, in_store}
use Rattle.zone_machine.proofs.Standing.{cell-stands, decide-stands, subject-stands}
use Rattle.zone_machine.proofs.Stepping.{takes-by, world-stands}
use Rattle.zone_machine.proofs.Storing.{case-stored}
use Rattle.zone_machine.proofs.Writing.{bodies-more, commits-global, commits-whole, commits-zone, goes-nowhere, goes-writes, grows}
use Rattle.zone_cases.specs.Code.Cases.{decision_of, IsCaseIn}
use Rattle.zone_cases.specs.Code.Cells.{CellOf, Outside, cell_world, world_or_empty}
use Rattle.zone_machine.specs.Code.Cells.{SharedOf, cell_at, outside_in}
use Rattle.zone_machine.specs.Code.Needs.{pools_in}
use Rattle.zone_machine.specs.Code.Reads.{subject_in}
use Rattle.zone_machine.specs.Code.Records.{GoesInCell, GoesUnder, HasNumber, IsReady, KeepsBodies, KeepsBodiesInCell, StoresUnder, Writes, bodies_with, stored_by, taken}
use Rattle.zone_machine.specs.Code.Steps.{IsGrantFor, IsTaken, Leaves, LeavesGranted, Takes}
use Rattle.zone_machine.specs.Machine.{decide, one, subject}
use Rattle.zone_machine.specs.Machine.Common.{common}
use Rattle.zone_machine.specs.Machine.Images.{Goes}
use Rattle.zone_cases.specs.State.{State, bodies_of}
use Rattle.zone_cases.specs.State.Decisions.{Decision, act_of}
use Rattle.zone_cases.specs.State.Worlds.{View, view, world}
use Rattle.zone_cases.specs.declared.cases.Case.{Case}
use Rattle.zone_cases.specs.declared.events.Event.{Event}
use Rattle.zone_cases.specs.declared.events.Subject.TheVariants.{Global, Whole, Zone}
use Rattle.zone_machine.specs.declared.faults.StepFault.{StepFault}
use Rattle.zone_machine.specs.declared.faults.StepFault.TheVariants.{BadGrant, DiskFault, Memory, NoStore, WouldRecord}
use Rattle.zone_cases.specs.declared.cell.Cell.{Cell}
use Rattle.zone_machine.specs.declared.machine.parts.Parts.{Parts}
use Rattle.zone_machine.specs.declared.machine.shared.Shared.{Shared}

-- a case of an event as it was read
pub case-read : (z : Name) (out : Outside) (c : Cell) (decides : View → Decision) (e : Event) (case : Case) → ((v : View) → decides v ≡ decide v e) → IsCaseIn z out c decides case → IsCaseIn z out c (λ v. decide v e) case
case-read z out c decides e case reads h = record { decided = sym (reads _) ∙ h.decided; of = h.of; named = h.named; free = h.free }

-- an event of z, whose case on its cell is done under a grant
module _ (z : Name) (c : Cell) (s : Shared) (e : Event) (case : Case) (g : Grant) (h : IsCaseIn z (outside_in z s) c (λ v. decide v e) case) (has : HasNumber case g)
    (S : State) (shared : SharedOf s (common S)) (here : world z S ≡ cell_world (outside_in z s) c) (of : subject S e ≡ Zone z) where
  abbrev came : Option Arrival
  came = (act_of (decide (view z S) e) g).came

  stored-is : in_store came ≡ stored_by case g
  stored-is = ap (λ (d : Decision). in_store (act_of d g).came) (decide-stands S z (cell_world (outside_in z s) c) e here ∙ h.decided) ∙ case-stored c.desk case g h.of has

  pub case-goes : (bodies : List (List ℕ)) (v w : Disk_view) → bodies_of S.commits ≡ bodies → Writes z (stored_by case g) bodies (rows_of s.rows.entries) v w → Goes S.commits (one S e g).state.commits v w
  case-goes bodies v w same writes =
      goes-writes z came S.commits (one S e g).state.commits bodies (rows_of s.rows.entries) v w same (ap (λ k. k.rows) shared) (commits-zone S e g z of)
      (subst (λ o. Writes z o bodies (rows_of s.rows.entries) v w) (sym stored-is) writes)

  pub case-more : is_some (stored_by case g) ≡ true → (one S e g).state.commits ≢ S.commits
  case-more some same = grows z came S.commits (ap is_some stored-is ∙ some) (sym (commits-zone S e g z of) ∙ same)

  pub case-keeps : (old new : List (List ℕ)) → bodies_of S.commits ≡ old → new ≡ bodies_with z (stored_by case g) old → bodies_of (one S e g).state.commits ≡ new
  case-keeps old new same is =
      ap bodies_of (commits-zone S e g z of) ∙ (bodies-more z came S.commits ∙ (ap (λ o. bodies_with z o (bodies_of S.commits)) stored-is ∙ (ap (bodies_with z (stored_by case g)) same ∙ sym is)))

-- on the cell and the shared part
module _ (z : Name) (c : Cell) (s : Shared) (e : Event) (case : Case) (g : Grant) (h : IsCaseIn z (outside_in z s) c (λ v. decide v e) case) (has : HasNumber case g) where
  pub cell-goes : (bodies : List (List ℕ)) (v w : Disk_view) → Writes z (stored_by case g) bodies (rows_of s.rows.entries) v w → GoesInCell z (Some g) c s e bodies v w
  cell-goes bodies v w writes S cell shared of same = case-goes z c s e case g h has S shared (cell-stands z S c s cell shared) of bodies v w same writes

  pub cell-keeps : (old new : List (List ℕ)) → new ≡ bodies_with z (stored_by case g) old → KeepsBodiesInCell z (Some g) c s e old new
  cell-keeps old new is S cell shared of same = case-keeps z c s e case g h has S shared (cell-stands z S c s cell shared) of old new same is

-- on the machine's parts, by the cell that has the zone's world
module _ (m : Parts) (z : Name) (c : Cell) (e : Event) (case : Case) (g : Grant) (h : IsCaseIn z (outside_in z m.shared) c (λ v. decide v e) case) (has : HasNumber case g)
    (is : subject_in m.shared e ≡ Zone z) (same : (out : Outside) → world_or_empty out (cell_at z m) ≡ cell_world out c) where
  pub parts-goes : (bodies : List (List ℕ)) (v w : Disk_view) → Writes z (stored_by case g) bodies (rows_of m.shared.rows.entries) v w → GoesUnder (Some g) m e bodies v w
  parts-goes bodies v w writes S stands are =
      case-goes z c m.shared e case g h has S stands.shared (world-stands S m z stands ∙ same (outside_in z m.shared)) (subject-stands S m.shared e stands.shared ∙ is) bodies v w are writes

  pub parts-more : is_some (stored_by case g) ≡ true → StoresUnder (Some g) m e
  parts-more some S stands = case-more z c m.shared e case g h has S stands.shared (world-stands S m z stands ∙ same (outside_in z m.shared)) (subject-stands S m.shared e stands.shared ∙ is) some

  pub parts-keeps : (old new : List (List ℕ)) → new ≡ bodies_with z (stored_by case g) old → KeepsBodies (Some g) m e old new
  parts-keeps old new now S stands are =
      case-keeps z c m.shared e case g h has S stands.shared (world-stands S m z stands ∙ same (outside_in z m.shared)) (subject-stands S m.shared e stands.shared ∙ is) old new are now

-- the grant that was taken is the one that an event takes
taken-is : (stated : Option Grant) (S : State) (e : Event) (g : Grant) → Takes stated S e g → g ≡ taken stated S e
taken-is None S e g takes = takes
taken-is (Some stated) S e g takes = takes.0

module _ (m : Parts) (e : Event) (stated : Option Grant) (g : Grant) (takes : IsTaken m stated e g) where
  pub goes-taken : (bodies : List (List ℕ)) (v w : Disk_view) → GoesUnder (Some g) m e bodies v w → GoesUnder stated m e bodies v w
  goes-taken bodies v w goes S stands same = subst (λ g. Goes S.commits (one S e g).state.commits v w) (taken-is stated S e g (takes S stands)) (goes S stands same)

  pub more-taken : StoresUnder (Some g) m e → StoresUnder stated m e
  more-taken more S stands = subst (λ g. (one S e g).state.commits ≢ S.commits) (taken-is stated S e g (takes S stands)) (more S stands)

  pub keeps-taken : (old new : List (List ℕ)) → KeepsBodies (Some g) m e old new → KeepsBodies stated m e old new
  keeps-taken old new keeps S stands same = subst (λ g. bodies_of (one S e g).state.commits ≡ new) (taken-is stated S e g (takes S stands)) (keeps S stands same)

module _ (z : Name) (c : Cell) (s : Shared) (e : Event) (case : Case) (stated : Option Grant) (g : Grant) (h : IsCaseIn z (outside_in z s) c (λ v. decide v e) case)
    (takes : IsGrantFor z (pools_in s) (asked_of (decision_of c.desk case)) stated g) where
  takes-cell : (S : State) → CellOf c (world z S) → SharedOf s (common S) → subject S e ≡ Zone z → g ≡ taken stated S e
  takes-cell S cell shared of =
      taken-is stated S e g (takes-by S s z (cell_world (outside_in z s) c) e (asked_of (decision_of c.desk case)) shared (cell-stands z S c s cell shared) of (ap asked_of h.decided) stated g takes)

  pub cell-goes-taken : (bodies : List (List ℕ)) (v w : Disk_view) → GoesInCell z (Some g) c s e bodies v w → GoesInCell z stated c s e bodies v w
  cell-goes-taken bodies v w goes S cell shared of same = subst (λ g. Goes S.commits (one S e g).state.commits v w) (takes-cell S cell shared of) (goes S cell shared of same)

  pub cell-keeps-taken : (old new : List (List ℕ)) → KeepsBodiesInCell z (Some g) c s e old new → KeepsBodiesInCell z stated c s e old new
  cell-keeps-taken old new keeps S cell shared of same = subst (λ g. bodies_of (one S e g).state.commits ≡ new) (takes-cell S cell shared of) (keeps S cell shared of same)

-- nothing is written
module _ {D : Type 0} (stated : Option Grant) (m : Parts) (e : Event) (b : Account D) (v : Disk_view) (sound : IsSound v) (ready : IsReady v b m.shared) where
  pub goes-unwritten : GoesUnder stated m e b.records v v
  goes-unwritten S stands same = goes-nowhere S.commits (one S e (taken stated S e)).state.commits b m.shared v same (ap (λ k. k.rows) stands.shared) sound ready

module _ {D : Type 0} (z : Name) (stated : Option Grant) (c : Cell) (s : Shared) (e : Event) (b : Account D) (v : Disk_view) (sound : IsSound v) (ready : IsReady v b s) where
  pub cell-unwritten : GoesInCell z stated c s e b.records v v
  cell-unwritten S cell shared of same = goes-nowhere S.commits (one S e (taken stated S e)).state.commits b s v same (ap (λ k. k.rows) shared) sound ready

-- an event of the global zone, and of the whole system
module _ (stated : Option Grant) (m : Parts) (e : Event) (bodies : List (List ℕ)) where
  pub keeps-global : subject_in m.shared e ≡ Global → KeepsBodies stated m e bodies bodies
  keeps-global is S stands same = ap bodies_of (commits-global S e (taken stated S e) (subject-stands S m.shared e stands.shared ∙ is)) ∙ same

  pub keeps-whole : subject_in m.shared e ≡ Whole → KeepsBodies stated m e bodies bodies
  keeps-whole is S stands same = ap bodies_of (commits-whole S e (taken stated S e) (subject-stands S m.shared e stands.shared ∙ is)) ∙ same

-- what an event leaves that was not answered, by its grant
pub leaves-stated : (stated : Option Grant) (g : Grant) (m u : Parts) (e : Event) → IsTaken m stated e g → (fault : StepFault) → LeavesGranted fault g m e u → Leaves fault stated m e u
leaves-stated stated g m u e takes Memory h = h
leaves-stated stated g m u e takes WouldRecord h = (h.0, more-taken m e stated g takes h.1)
leaves-stated stated g m u e takes BadGrant h = absurd h
leaves-stated stated g m u e takes (NoStore fault) h = absurd h
leaves-stated None g m u e takes DiskFault h = tt
leaves-stated (Some stated) g m u e takes DiskFault h = λ S stands. (takes S stands).1
