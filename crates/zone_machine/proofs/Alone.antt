-- A state in which one zone has a world and no other zone has anything. So what is said of a cell in every state is said of it in
-- every world; and what an entry leaves of a zone's world, in any state.
use Rattle.std.proofs.Common.{◌≡◌, ◌∷◌, ◌&&◌, [], ℕ, List, Bool, Option, Some, None, true, false, map, refl, ap, sym, subst, ◌∙◌}
use Rattle.std.proofs.lemmas.Bool.{and_parts}
use Rattle.zn_base.specs.Names.{Name}
use Rattle.brand_hooks.specs.declared.table.HookAnswer.{HookAnswer}
use Rattle.commit_journal.specs.declared.records.Commit.{Commit}
use Rattle.commit_journal.specs.declared.records.Record.{Record}
use Rattle.zone_pools.proofs.Owned_laws.{same_self}
use Rattle.zone_pools.specs.Owned_lists.{mine, tag}
use Rattle.zone_pools.specs.declared.grant.Grant.TheVariants.{Nothing}
use Rattle.zone_cases.specs.Code.Cells.{CellOf, IsHeardIn}
use Rattle.zone_cases.specs.State.{At, Doing, Idle, Session, State, stored}
use Rattle.zone_cases.specs.State.Worlds.{World, doing, world}
use Rattle.zone_cases.specs.declared.cell.Cell.{Cell}
use Rattle.zone_cases.specs.declared.events.Entry.{Entry}
use Rattle.zone_cases.specs.declared.events.Event.TheVariants.{Turn}
use Rattle.zone_machine.proofs.Own_worlds.{world-one}
use Rattle.zone_machine.proofs.Same_laws.{reply-Decides, subject-Decides}
use Rattle.zone_machine.specs.Code.Local_turns.{IsLocalTurn}
use Rattle.zone_machine.specs.Machine.{one, subject}
use Rattle.zone_machine.specs.Machine.Histories.{after_entry, is_told, world_by, world_one}
use Rattle.zone_machine.specs.Machine.Local.{is_local}
use Rattle.zone_machine.specs.Machine.Same.{same_reply, same_subject}

abbrev sits : Name → Option Doing → Session
sits z None = Idle
sits z (Some d) = At z d

abbrev commits_of : Name → Option Record → List Commit
commits_of z None = []
commits_of z (Some row) = record { zone = z; stored = Some row } ∷ []

abbrev alone : Name → World → State
alone z w = record {
  processes = map (tag z) w.processes;
  mounts = map (tag z) w.mounts;
  claims = map (tag z) w.claims;
  devices = map (tag z) w.devices;
  ids = map (tag z) w.ids;
  commits = commits_of z w.stored;
  sessions = λ n. sits z (w.sessions n);
  desks = λ y. w.desk;
  consoles = λ y. w.console;
  declared = w.declared;
  brands = w.brands;
  last_pid = 1;
  last_zid = 0;
  started = true;
}

mine-tagged : {A : Type 0} (z : Name) (xs : List A) → mine z (map (tag z) xs) ≡ xs
mine-tagged z [] = refl
mine-tagged z (x ∷ xs) = simp (same_self z) (ap (λ ys. x ∷ ys) (mine-tagged z xs))

doing-sits : (z : Name) (o : Option Doing) → doing z (sits z o) ≡ o
doing-sits z None = refl
doing-sits z (Some d) = rw (same_self z) refl

stored-commits : (z : Name) (o : Option Record) → stored z (commits_of z o) ≡ o
stored-commits z None = refl
stored-commits z (Some row) = simp (same_self z)

world-alone : (z : Name) (w : World) → world z (alone z w) ≡ w
world-alone z w = λ i. record {
  processes = mine-tagged z w.processes i;
  mounts = mine-tagged z w.mounts i;
  claims = mine-tagged z w.claims i;
  devices = mine-tagged z w.devices i;
  ids = mine-tagged z w.ids i;
  stored = stored-commits z w.stored i;
  desk = w.desk;
  console = w.console;
  sessions = λ n. doing-sits z (w.sessions n) i;
  declared = w.declared;
  brands = w.brands;
}

pub local-world : (z : Name) (c : Cell) (answer : HookAnswer) (entry : Entry) (d : Cell) → IsLocalTurn z c answer entry d → (w : World) → CellOf c w → IsHeardIn w.brands c answer → (is_local z w entry ≡ true) × CellOf d (world_one z w entry)
local-world z c answer entry d turn w cell hears =
    let S = alone z w in
    let is : world z S ≡ w = world-alone z w in
    let done = turn S (subst (CellOf c) (sym is) cell) hears in
    let left : world z (one S (Turn z) Nothing).state ≡ world_one z w entry =
    world-one z S (Turn z) Nothing ∙ (ap (λ x. world_by (subject S (Turn z)) z x (Turn z) Nothing) is ∙ ap (world_one z w) (sym done.told)) in
    (ap (λ x. is_local z x entry) (sym is) ∙ done.local, subst (CellOf d) left done.cell)

-- an entry that is told as it is
pub moves-world : (z : Name) (S : State) (e : Entry) → is_told S e ≡ true → world z (after_entry S e) ≡ world_one z (world z S) e
moves-world z S e told =
    let whose : e.subject ≡ subject S e.event = (subject-Decides e.subject (subject S e.event)).0 (and_parts (same_subject e.subject (subject S e.event)) (same_reply e.reply (one S e.event e.grant).reply) told).0 in
    world-one z S e.event e.grant ∙ ap (λ s. world_by s z (world z S) e.event e.grant) (sym whose)
