-- Room is taken, and a cell and the shared part are as they were.
use Rattle.std.proofs.Common.{◌≡◌, ◌∷◌, [], Bool, List, false, true, refl, ◌∙◌, ap, subst, sym}
use Rattle.zone_cases.specs.Code.Cells.{Outside, cell_world}
use Rattle.zone_machine.specs.Code.Cells.{common_in, is_up_in, row_in}
use Rattle.zoneadmd_steps.specs.Code.Desks.{as_desk}
use Rattle.zone_cases.specs.Code.Cases.{case_active, decision_of, console_of_case, objects_of, seats}
use Rattle.zone_machine.specs.Code.Rooms.{Alike, HasRoom, HasRoomFor, HasRoomIf, HasRoomIfSits, HasRoomToChange, HasRoomToRise, HasRoomToStore}
use Rattle.loopback_mounts.specs.Mounts.{Mounts}
use Rattle.zoneadmd_steps.specs.Code.Cases.{Holds, IsFreeFor, No_premise, Premise}
use Rattle.zone_cases.specs.Code.Consoles.{HasConsole}
use Rattle.zone_cases.specs.declared.cases.Case.{Case}
use Rattle.zone_pools.specs.Asked.{A_pid, A_source, A_zid, An_item, Asked}
use Rattle.datalink_table.specs.Claims as claims
use Rattle.datalink_table.specs.Claims.{holds}
use Rattle.datalink_table.specs.Shared.{Alike as Claims_alike, Shared as Claim_shared, may_hold}
use Rattle.std.specs.Map.{lookup}
use Rattle.zn_base.specs.Names.{Name}
use Rattle.zone_pools.specs.Decisions.{asked_of}
use Rattle.zone_cases.specs.declared.cell.Cell.{Cell}
use Rattle.zoneadmd_steps.specs.declared.desks.Desk.{Desk}
use Rattle.zoneadmd_steps.specs.Desks as desks
use Rattle.zone_machine.specs.declared.machine.shared.Shared.{Shared}
use Rattle.kernel_objects.specs.Kernel as Kernels
use Rattle.std.specs.Prelude.{bytes_eq, is_some, length, not, ◌&&◌}
use Rattle.commit_journal.specs.Zones.{rows_of}
use Rattle.kernel_objects.specs.Shared.{Alike as Kernel_alike, Shared as Kernel}
use Rattle.zone_pools.specs.Owners.{is_owner}
use Rattle.zone_machine.specs.Code.Needs.{pools_in}
use Rattle.zone_machine.specs.Machine.Pools.{is_installed, kind_of, of_kind, path_taken}

pub alike_then : (c d e : Cell) (s t u : Shared) → Alike c s d t → Alike d t e u → Alike c s e u
alike_then c d e s t u one two = record {
  world = λ row. two.world row ∙ one.world row;
  rows = two.rows ∙ one.rows;
  common = two.common ∙ one.common;
  pools = two.pools ∙ one.pools;
}

-- room on the desk; d is the desk as it is then
pub alike_desk : (c : Cell) (s : Shared) (d : Desk) → as_desk d ≡ as_desk c.desk → Alike c s (record c { desk = d }) s
alike_desk c s d h = record { world = λ row i. record (cell_world row c) { desk = h i }; rows = refl; common = refl; pools = refl }

-- room for a mount
pub alike_mounts : (c d : Cell) (s : Shared) → d.mounts.list ≡ c.mounts.list → d ≡ record c { mounts = d.mounts } → Alike c s d s
alike_mounts c d s mounts same = record { world = λ out. ap (cell_world out) same ∙ (λ i. record (cell_world out c) { mounts = mounts i }); rows = refl; common = refl; pools = refl }

-- a console that is as a new one, where there was none
pub alike_console : (c d : Cell) (s : Shared) → ((out : Outside) → cell_world out d ≡ cell_world out c) → Alike c s d s
alike_console c d s world = record { world = world; rows = refl; common = refl; pools = refl }

-- the kernel's shared part is as it was, but for room
pub alike_kernel : (c : Cell) (s : Shared) (t : Kernel) → Kernel_alike s.kernel t → Alike c s c (record s { kernel = t })
alike_kernel c s t alike = record {
  world = λ row. refl;
  rows = refl;
  common = λ i. record (common_in s) {
    pids = λ z n. is_owner z (alike.pids n i);
    zids = λ z n. is_owner z (alike.zids n i);
    last_pid = ap (λ (t : Kernel). t.last_pid) alike.same i;
    last_zid = ap (λ (t : Kernel). t.last_zid) alike.same i;
    declared = ap (λ (t : Kernel). record { items = s.claims.declared; devices = t.devices }) alike.same i;
  };
  pools = λ i. record (pools_in s) {
    pid_used = λ n. is_some (alike.pids n i);
    zid_used = λ n. is_some (alike.zids n i);
    last_pid = ap (λ (t : Kernel). t.last_pid) alike.same i;
    last_zid = ap (λ (t : Kernel). t.last_zid) alike.same i;
  };
}

pub alike_kernels : (c : Cell) (s : Shared) (k : Kernels.Kernel) (t : Kernel) → k ≡ c.kernel → Kernel_alike s.kernel t → Alike c s (record c { kernel = k }) (record s { kernel = t })
alike_kernels c s k t same alike = subst (λ k. Alike c s (record c { kernel = k }) (record s { kernel = t })) (sym same) (alike_kernel c s t alike)

-- so is what other zones may ask of claims
pub alike_claims : (c : Cell) (s : Shared) (d : claims.Cell) (t : Claim_shared) → d.claims ≡ c.claims.claims → Claims_alike s.claims t → Alike c s (record c { claims = d }) (record s { claims = t })
alike_claims c s d t same alike = record {
  world = λ out i. record (cell_world out c) { claims = same i };
  rows = refl;
  common = λ i. record (common_in s) {
    claims = λ z k. is_owner z (alike.holders k i);
    declared = record { items = alike.declared i; devices = s.kernel.devices };
  };
  pools = λ i. record (pools_in s) { may_hold = λ z pool item. of_kind (λ k. holds k (alike.declared i) && may_hold z (alike.holders k i)) (kind_of pool) item };
}

-- room for a record
pub alike_rows : (c : Cell) (s t : Shared) → t.rows.entries ≡ s.rows.entries → t ≡ record s { rows = t.rows } → Alike c s c t
alike_rows c s t rows same = record {
  world = λ row. refl;
  rows = rows;
  common = ap common_in same ∙ ap (λ es. record (common_in s) { rows = rows_of es }) rows;
  pools = ap pools_in same ∙ ap (λ es. record (pools_in s) { zones = length (rows_of es); path_taken = path_taken (rows_of es); may_clone = λ z. is_installed (lookup (bytes_eq z) es) && not (is_up_in s z) }) rows;
}

-- room among the zones that may be up
pub alike_ups : (c : Cell) (s t : Shared) → ((y : Name) → is_up_in t y ≡ is_up_in s y) → t ≡ record s { ups = t.ups } → Alike c s c t
alike_ups c s t ups same = record {
  world = λ row. refl;
  rows = ap (λ (t : Shared). t.rows.entries) same;
  common = ap common_in same ∙ (λ i. record (common_in s) { up = λ y. ups y i });
  pools = ap pools_in same ∙ (λ i. record (pools_in s) { may_clone = λ z. is_installed (row_in z s) && not (ups z i) });
}

-- what an edit takes for granted still holds once something came, which is a claim only where nothing is taken for granted
pub free_came : (p : Premise) (b : Bool) (c d : Cell) → (b ≡ true → p ≡ No_premise) → (b ≡ false → d.claims ≡ c.claims) → d.mounts ≡ c.mounts
    → Holds p c.mounts.list c.claims.claims → Holds p d.mounts.list d.claims.claims
free_came p true c d none same mounts h = subst (λ p. Holds p d.mounts.list d.claims.claims) (sym (none refl)) tt
free_came p false c d none same mounts h = rw (mounts, same refl) h

-- and room doesn't go by what the zone has in the kernel and what it claims

store_came : (asked : List Asked) (s : Shared) (t : Kernel) (u : Claim_shared) → HasRoomToStore asked s → HasRoomToStore asked (record s { kernel = t; claims = u })
store_came [] s t u h = tt
store_came (A_pid ∷ asked) s t u h = tt
store_came (A_zid ∷ asked) s t u h = tt
store_came (An_item pool item ∷ asked) s t u h = tt
store_came (A_source z ∷ asked) s t u h = tt
store_came (_ ∷ asked) s t u h = h

sits_came : (b : Bool) (c : Cell) (s : Shared) (k : Kernels.Kernel) (cs : claims.Cell) (t : Kernel) (u : Claim_shared) → HasRoomIf b c s → HasRoomIf b (record c { kernel = k; claims = cs }) (record s { kernel = t; claims = u })
sits_came true c s k cs t u h = h
sits_came false c s k cs t u h = tt

pub room_came : (z : Name) (case : Case) (c d : Cell) (s t : Shared) → d ≡ record c { kernel = d.kernel; claims = d.claims } → t ≡ record s { kernel = t.kernel; claims = t.claims }
    → IsFreeFor (objects_of case) d.mounts.list d.claims.claims → HasRoom z case c s → HasRoom z case d t
room_came z case c d s t cell shared free room =
    let now = record c { kernel = d.kernel; claims = d.claims } in
    let left : IsFreeFor (objects_of case) c.mounts.list d.claims.claims = subst (λ (m : Mounts). IsFreeFor (objects_of case) m.list d.claims.claims) (ap (λ (c : Cell). c.mounts) cell) free in
    subst (λ d. HasRoom z case d t) (sym cell) (subst (λ t. HasRoom z case now t) (sym shared) (record {
      stored = store_came (asked_of (decision_of c.desk case)) s t.kernel t.claims room.stored;
      objects = (room.objects.0, left);
      sits = sits_came (seats case) c s d.kernel d.claims t.kernel t.claims room.sits;
      console = room.console;
      rises = room.rises;
      desk = room.desk;
    }))

-- room was made, one after another: for what the case does to the cell and for its session, for a record, for a zone that comes up
-- and on the desk
store_kept : (asked : List Asked) (t u : Shared) → u.rows ≡ t.rows → HasRoomToStore asked t → HasRoomToStore asked u
store_kept [] t u same h = tt
store_kept (A_pid ∷ asked) t u same h = tt
store_kept (A_zid ∷ asked) t u same h = tt
store_kept (An_item pool item ∷ asked) t u same h = tt
store_kept (A_source z ∷ asked) t u same h = tt
store_kept (_ ∷ asked) t u same h = rw same h

sits_kept : (b : Bool) (c : Cell) (d : Desk) (s u : Shared) → u.sessions ≡ s.sessions → HasRoomIf b c s → HasRoomIf b (record c { desk = d }) u
sits_kept true c d s u same h = (h.0, rw same h.1)
sits_kept false c d s u same h = tt

pub made_room : (z : Name) (case : Case) (c : Cell) (s t u : Shared) (d : Desk) (asked : List Asked) → t ≡ record s { rows = t.rows } → u ≡ record t { ups = u.ups } → as_desk d ≡ as_desk c.desk → asked_of (decision_of d case) ≡ asked
    → HasRoomToChange (objects_of case) c → HasRoomIfSits case c s → HasConsole (console_of_case case) c.console → HasRoomToStore asked t → HasRoomToRise z case c u → HasRoomFor d case → HasRoom z case (record c { desk = d }) u
made_room z case c s t u d asked stored rises desk asks objects sits console store rise room =
    let active : d.active ≡ c.desk.active = ap (λ (d : desks.Desk). d.active) desk in
    record {
      stored = rw asks (store_kept asked t u (ap (λ (t : Shared). t.rows) rises) store);
      objects = objects;
      sits = sits_kept (seats case) c d s u (ap (λ (t : Shared). t.sessions) rises ∙ ap (λ (t : Shared). t.sessions) stored) sits;
      console = console;
      rises = λ down up. rise (ap is_some (sym active) ∙ down) (ap (λ a. is_some (case_active case a)) (sym active) ∙ up);
      desk = room;
    }
