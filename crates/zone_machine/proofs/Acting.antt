-- A whole act: what comes to the kernel, and then the rest, after which the shared part says whether the zone is up.
use Rattle.std.proofs.Common.{◌≡◌, ℕ, Option, Some, None, Result, Ok, Err, OnOk, IfSome, refl, ap, subst, sym, ◌∙◌}
use Rattle.std.specs.Prelude.{bytes_eq, is_some, nat_eq}
use Rattle.std.specs.List.{list_any}
use Rattle.indexmap.specs.IndexMap.{get}
use Rattle.zn_base.specs.Names.{Name}
use Rattle.std.specs.Map.{lookup}
use Rattle.std.proofs.lemmas.Bool.{false≢true}
use Rattle.zone_pools.proofs.Owned_laws.{same_self, same_true}
use Rattle.zone_pools.specs.Owners.{is_owner, owner}
use Rattle.datalink_table.specs.Claims.{holds}
use Rattle.kernel_objects.specs.Processes.{has_pid}
use Rattle.zoneadmd_steps.specs.Objects.{has_zid}
use Rattle.zone_machine.specs.Code.Cells.{Agree, Does, outside_in}
use Rattle.zone_cases.specs.Code.Cells.{cell_world}
use Rattle.zone_machine.specs.Code.Rooms.{Alike, IsOpenTo}
use Rattle.zone_machine.proofs.Doing_laws.{holds_doing}
use Rattle.zone_machine.specs.Machine.Common.{Common, holding}
use Rattle.zone_cases.specs.State.Worlds.{World}
use Rattle.zone_cases.specs.declared.cell.Cell.{Cell}
use Rattle.zone_machine.specs.declared.machine.shared.Shared.{Shared}

pub alike_both : (c d e : Cell) (s t u : Shared) → Alike c s d t → Alike d t e u → Alike c s e u
alike_both c d e s t u one two = record {
  world = λ out. two.world out ∙ one.world out;
  rows = two.rows ∙ one.rows;
  common = two.common ∙ one.common;
  pools = two.pools ∙ one.pools;
}

-- what comes once room was taken
agree_alike : (z : Name) (c d : Cell) (s t : Shared) → Alike c s d t → Agree z c s → Agree z d t
agree_alike z c d s t alike a =
    let w : cell_world (outside_in z s) d ≡ cell_world (outside_in z s) c = alike.world (outside_in z s) in
    record {
      pids = λ n. ap (λ w. list_any (has_pid n) w.processes) w ∙ (a.pids n ∙ sym (ap (λ k. k.pids z n) alike.common));
      zids = λ n. ap (λ w. list_any (has_zid n) w.ids) w ∙ (a.zids n ∙ sym (ap (λ k. k.zids z n) alike.common));
      claims = λ k. ap (λ w. holds k w.claims) w ∙ (a.claims k ∙ sym (ap (λ c. c.claims z k) alike.common));
      sessions = λ n.
          sym (holds_doing (get nat_eq d.doings n)) ∙ (ap (λ w. is_some (w.sessions n)) w ∙ (holds_doing (get nat_eq c.doings n) ∙ (a.sessions n ∙ sym (ap (λ k. k.sessions z n) alike.common))));
    }

pub outside_alike : (z : Name) (c d : Cell) (s t : Shared) → Alike c s d t → outside_in z t ≡ outside_in z s
outside_alike z c d s t alike = λ i. record { stored = ap (lookup (bytes_eq z)) alike.rows i; declared = (alike.common i).declared; brands = (alike.common i).brands }

pub alike_does : (z : Name) (f : World → World) (g : Common → Common) (c d e : Cell) (s t u : Shared) → Alike c s d t → Does z f g d t e u → Does z f g c s e u
alike_does z f g c d e s t u alike does =
    let w : cell_world (outside_in z t) d ≡ cell_world (outside_in z s) c = ap (λ out. cell_world out d) (outside_alike z c d s t alike) ∙ alike.world (outside_in z s) in
    record {
      world = λ a. does.world (agree_alike z c d s t alike a) ∙ ap f w;
      common = λ a. does.common (agree_alike z c d s t alike a) ∙ λ i. holding z (f (w i)) (g (alike.common i));
    }

-- who holds the same among all zones is the same
same_owner : (a b : Option Name) → ((y : Name) → is_owner y a ≡ is_owner y b) → a ≡ b
same_owner None None h = refl
same_owner (Some x) None h = absurd (false≢true (sym (h x) ∙ same_self x))
same_owner None (Some y) h = absurd (false≢true (h y ∙ same_self y))
same_owner (Some x) (Some y) h = ap Some (same_true x y (sym (h x) ∙ same_self x))

pub same_sessions : (c d : Cell) (s t : Shared) → Alike c s d t → (n : ℕ) → owner nat_eq t.sessions n ≡ owner nat_eq s.sessions n
same_sessions c d s t alike n = same_owner (owner nat_eq t.sessions n) (owner nat_eq s.sessions n) (λ y. ap (λ k. k.sessions y n) alike.common)

pub opens_alike : (z : Name) (n : Option ℕ) (s t : Shared) → ((k : ℕ) → owner nat_eq t.sessions k ≡ owner nat_eq s.sessions k)
    → IfSome n (λ k. IsOpenTo z (owner nat_eq s.sessions k)) → IfSome n (λ k. IsOpenTo z (owner nat_eq t.sessions k))
opens_alike z None s t same opens = tt
opens_alike z (Some k) s t same opens = subst (IsOpenTo z) (sym (same k)) opens

pub on_ok_always : {T E : Type 0} (r : Result T E) (P : Type 0) → P → OnOk r P
on_ok_always (Ok x) P h = h
on_ok_always (Err e) P h = tt
