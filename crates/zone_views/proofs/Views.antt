-- What is told of a zone kind by kind is what it has, and the order in which it is told.
use Rattle.std.proofs.Common.{◌≡◌, [], ◌∷◌, ◌++◌, ◌∙◌, ℕ, false, List, Option, Some, None, append_assoc, ap, arith, sym, subst, map, refl}
use Rattle.std.specs.Prelude.{IsPermutation, is_some, length, not, ◌==◌, ◌||◌}
use Rattle.std.specs.Cmp.{IsTotalOrder}
use Rattle.std.proofs.lemmas.Bool.Decides.{nat_tests}
use Rattle.std.proofs.lemmas.Cmp.{nat_cmp_total, nat_list_cmp_total, on_total, then_total}
use Rattle.std.proofs.lemmas.List.Sorted.{IsPermutation-append_left, IsPermutation-append_right, IsPermutation-cons, IsPermutation-middle, IsPermutation-refl, IsPermutation-sym, IsPermutation-trans}
use Rattle.console_link.specs.Consoles as kept
use Rattle.datalink_table.specs.Claims.{items_of}
use Rattle.datalink_table.specs.declared.claims.Claim.{Claim}
use Rattle.datalink_table.specs.declared.claims.ClaimKind as claim_kinds
use Rattle.datalink_table.specs.declared.claims.ClaimKind.TheVariants as claims
use Rattle.kernel_objects.specs.Processes as kernel
use Rattle.kernel_objects.specs.declared.objects.Id.{Id as Zone_id}
use Rattle.loopback_mounts.specs.Mounts.{listed}
use Rattle.loopback_mounts.specs.declared.mount.MountEntry.{MountEntry}
use Rattle.zn_base.specs.Names.{Name}
use Rattle.zone_cases.specs.Code.Cells.{Outside, world_or_empty}
use Rattle.zone_cases.specs.State.{State}
use Rattle.zone_cases.specs.State.Worlds.{World, world}
use Rattle.zone_cases.specs.declared.cell.Cell.{Cell}
use Rattle.zone_machine.proofs.Stepping.{world-stands}
use Rattle.zone_machine.specs.Code.Cells.{Stands, cell_at, outside_in}
use Rattle.zone_machine.specs.Machine.Told as told
use Rattle.zone_machine.specs.declared.machine.parts.Parts.{Parts}
use Rattle.zone_pools.specs.Firsts.{is_nil}
use Rattle.zoneadmd_steps.specs.Objects.{ids_of, zid_of}
use Rattle.zone_views.specs.Naming.{Address, Dataset, Device, Link, Object, claim, consoles, id, mount, object, objects, process}
use Rattle.zone_views.specs.Viewing.{all_told, claims_told, console_told, id_told, kind_place, mounts_told, object_cmp, processes_told}

pub object_cmp-total : IsTotalOrder object_cmp
object_cmp-total = then_total (on_total (λ (o : Object). kind_place o.kind) nat_cmp_total) (on_total (λ (o : Object). o.key) nat_list_cmp_total)

-- what is put last after a list, part by part
pub three_parts : {X : Type 0} (a b c d : List X) {ab abc abcd : List X} → ab ≡ a ++ b → abc ≡ ab ++ c → abcd ≡ abc ++ d → abcd ≡ a ++ (b ++ (c ++ d))
three_parts a b c d p q r = r ∙ (ap (λ l. l ++ d) (q ∙ ap (λ l. l ++ c) p) ∙ (append_assoc (a ++ b) c d ∙ append_assoc a b (c ++ d)))

pub six_parts : {X : Type 0} (a b c d e f : List X) {ab abc abcd abcde abcdef : List X}
    → ab ≡ a ++ b → abc ≡ ab ++ c → abcd ≡ abc ++ d → abcde ≡ abcd ++ e → abcdef ≡ abcde ++ f → abcdef ≡ a ++ (b ++ (c ++ (d ++ (e ++ f))))
six_parts a b c d e f p q r s t =
    t ∙ (ap (λ l. l ++ f) (s ∙ ap (λ l. l ++ e) (r ∙ ap (λ l. l ++ d) (q ∙ ap (λ l. l ++ c) p)))
    ∙ (append_assoc (((a ++ b) ++ c) ++ d) e f ∙ (append_assoc ((a ++ b) ++ c) d (e ++ f) ∙ (append_assoc (a ++ b) c (d ++ (e ++ f)) ∙ append_assoc a b (c ++ (d ++ (e ++ f)))))))

module _ (z : Name) where
  abbrev links : List Claim → List Object
  links cs = map (object z Link) (items_of claims.Link cs)

  abbrev addresses : List Claim → List Object
  addresses cs = map (object z Address) (items_of claims.Address cs)

  abbrev datasets : List Claim → List Object
  datasets cs = map (object z Dataset) (items_of claims.Dataset cs)

  -- the claims, kind by kind
  more_claims : (k : claim_kinds.ClaimKind) (item : List ℕ) (cs : List Claim) → IsPermutation (map (claim z) cs) (links cs ++ (addresses cs ++ datasets cs))
      → let c : Claim = record { kind = k; item = item } in IsPermutation (map (claim z) (c ∷ cs)) (links (c ∷ cs) ++ (addresses (c ∷ cs) ++ datasets (c ∷ cs)))
  more_claims claims.Link item cs h = IsPermutation-cons _ _ _ h
  more_claims claims.Address item cs h =
      IsPermutation-trans _ _ _ (IsPermutation-cons (object z Address item) _ _ h) (IsPermutation-sym _ _ (IsPermutation-middle (links cs) (object z Address item) (addresses cs ++ datasets cs)))
  more_claims claims.Dataset item cs h =
      IsPermutation-trans _ _ _ (IsPermutation-cons (object z Dataset item) _ _ h)
      (IsPermutation-trans _ _ _ (IsPermutation-sym _ _ (IsPermutation-middle (links cs) (object z Dataset item) (addresses cs ++ datasets cs)))
      (IsPermutation-append_right (links cs) _ _ (IsPermutation-sym _ _ (IsPermutation-middle (addresses cs) (object z Dataset item) (datasets cs)))))

  claims-by_kind : (cs : List Claim) → IsPermutation (map (claim z) cs) (links cs ++ (addresses cs ++ datasets cs))
  claims-by_kind [] = IsPermutation-refl []
  claims-by_kind (c ∷ cs) = more_claims c.kind c.item cs (claims-by_kind cs)

  processes-told : (ps : List kernel.Process) → map (λ (p : kernel.Process). process z p.pid) ps ≡ processes_told z (map kernel.row_of ps)
  processes-told [] = refl
  processes-told (p ∷ ps) = ap (λ l. process z p.pid ∷ l) (processes-told ps)

  mounts-told : (ms : List MountEntry) → map (λ (m : MountEntry). mount z m.mount.dir) ms ≡ mounts_told z (listed ms)
  mounts-told [] = refl
  mounts-told (m ∷ ms) = ap (λ l. mount z m.mount.dir ∷ l) (mounts-told ms)

  -- a zone that the machine's parts have has one id at most
  of_ids : (o : Option Zone_id) → map (λ (i : Zone_id). id z i.zid) (ids_of o) ≡ id_told z (zid_of (ids_of o))
  of_ids None = refl
  of_ids (Some i) = refl

  of_cell : (out : Outside) (o : Option Cell) → map (λ (i : Zone_id). id z i.zid) (world_or_empty out o).ids ≡ id_told z (told.zid_of (world_or_empty out o))
  of_cell out None = refl
  of_cell out (Some c) = of_ids c.kernel.id

  ids-told : (S : State) (p : Parts) → Stands S p → map (λ (i : Zone_id). id z i.zid) (world z S).ids ≡ id_told z (told.zid_of (world z S))
  ids-told S p h = subst (λ (w : World). map (λ (i : Zone_id). id z i.zid) w.ids ≡ id_told z (told.zid_of w)) (sym (world-stands S p z h)) (of_cell (outside_in z p.shared) (cell_at z p))

  in_use : (output : List ℕ) (holder : Option ℕ) → (not (is_nil output) || is_some holder) ≡ (not (length output == 0) || is_some holder)
  in_use [] holder = refl
  in_use (b ∷ output) holder = let some : (length (b ∷ output) == 0) ≡ false = grind (arith, nat_tests) in rw some refl

  console-told : (c : kept.Console) → consoles z c ≡ console_told z (kept.is_in_use c)
  console-told c = ap (console_told z) (in_use c.output c.holder)

  -- all that is told is what the zone has
  pub told-objects : (S : State) (p : Parts) → Stands S p → IsPermutation (objects z (world z S)) (all_told z (world z S))
  told-objects S p h =
      let w = world z S in
      let ps = map (λ (q : kernel.Process). process z q.pid) w.processes in
      let ms = map (λ (m : MountEntry). mount z m.mount.dir) w.mounts in
      let cs = map (claim z) w.claims in
      let ds = map (object z Device) w.devices in
      let is = map (λ (i : Zone_id). id z i.zid) w.ids in
      let k = consoles z w.console in
      let flat : objects z w ≡ ps ++ (ms ++ (cs ++ (ds ++ (is ++ k)))) = six_parts ps ms cs ds is k refl refl refl refl refl in
      let moved : IsPermutation (ps ++ (ms ++ (cs ++ (ds ++ (is ++ k))))) (ps ++ (ms ++ (claims_told z w ++ (ds ++ (is ++ k))))) =
      IsPermutation-append_right ps _ _ (IsPermutation-append_right ms _ _ (IsPermutation-append_left (ds ++ (is ++ k)) _ _ (claims-by_kind w.claims))) in
      let same : ps ++ (ms ++ (claims_told z w ++ (ds ++ (is ++ k)))) ≡ all_told z w =
      ap (λ l. l ++ (ms ++ (claims_told z w ++ (ds ++ (is ++ k))))) (processes-told w.processes)
      ∙ ap (λ l. processes_told z (told.processes w) ++ l)
      (ap (λ l. l ++ (claims_told z w ++ (ds ++ (is ++ k)))) (mounts-told w.mounts)
      ∙ ap (λ l. mounts_told z (told.mounts w) ++ (claims_told z w ++ (ds ++ l))) (ap (λ l. l ++ k) (ids-told S p h) ∙ ap (λ l. id_told z (told.zid_of w) ++ l) (console-told w.console))) in
      subst (λ l. IsPermutation l (all_told z w)) (sym flat) (subst (λ l. IsPermutation (ps ++ (ms ++ (cs ++ (ds ++ (is ++ k))))) l) same moved)
