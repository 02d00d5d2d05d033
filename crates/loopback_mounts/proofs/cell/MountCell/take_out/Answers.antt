use Rattle.std.proofs.Common.{◌≡◌, ◌∙◌, List, ap, not, subst, sym, true}
use Rattle.std.specs.Option.{option_map}
use Rattle.loopback_mounts.specs.Mounts.{Mounts, is_at, mount_at, unmounted, well_kept}
use Rattle.loopback_mounts.specs.Search.{IsGapFor, IsPlaceOf}
use Rattle.loopback_mounts.specs.declared.mount.MountEntry.{MountEntry}
use Rattle.loopback_mounts.proofs.Kept.{goes, none_goes, some_kept}
use Rattle.loopback_mounts.proofs.Orders.{found_by, none_by}
use Rattle.loopback_mounts.proofs.cell.MountCell.take_out.Goals as goal

pub invariant_of-self : goal.invariant_of-self
invariant_of-self c =
    let items = c.self.inside.mounts.items in
    let dir = c.args.dir.now in
    let place : IsPlaceOf dir items c.in-Ok.at = rw (← c.bytes.ensures.bytes, ← c.deref.ensures.value) c.in-Ok.ensures.found in
    let left = c.remove.ensures.items ∙ goes dir items c.in-Ok.at _ place c.remove.ensures.value in
    subst (λ (ms : List MountEntry). well_kept ms ≡ true) (sym left) (some_kept (λ n. not (is_at dir n)) items c.self.invariant)

pub returns-in-Ok-clause-mount : goal.returns-in-Ok-clause-mount
returns-in-Ok-clause-mount c =
    let items = c.self.inside.mounts.items in
    let dir = c.args.dir.now in
    let place : IsPlaceOf dir items c.in-Ok.at = rw (← c.bytes.ensures.bytes, ← c.deref.ensures.value) c.in-Ok.ensures.found in
    sym (ap (option_map (λ (m : MountEntry). m.mount)) (found_by dir items c.in-Ok.at _ place c.remove.ensures.value))
    ∙ ap (λ (s : Mounts). option_map (λ (m : MountEntry). m.mount) (mount_at dir s.list)) c.self.view_is

pub returns-in-Ok-clause-gone : goal.returns-in-Ok-clause-gone
returns-in-Ok-clause-gone c =
    let items = c.self.inside.mounts.items in
    let dir = c.args.dir.now in
    let place : IsPlaceOf dir items c.in-Ok.at = rw (← c.bytes.ensures.bytes, ← c.deref.ensures.value) c.in-Ok.ensures.found in
    c.remove.ensures.items ∙ (goes dir items c.in-Ok.at _ place c.remove.ensures.value ∙ ap (λ (s : Mounts). unmounted dir s.list) c.self.view_is)

pub returns-in-Err-clause-mount : goal.returns-in-Err-clause-mount
returns-in-Err-clause-mount c =
    let items = c.self.inside.mounts.items in
    let dir = c.args.dir.now in
    let gap : IsGapFor dir items c.in-Err.field-0 = rw (← c.bytes.ensures.bytes, ← c.deref.ensures.value) c.in-Err.ensures.free in
    sym (ap (option_map (λ (m : MountEntry). m.mount)) (none_by dir items c.in-Err.field-0 gap))
    ∙ ap (λ (s : Mounts). option_map (λ (m : MountEntry). m.mount) (mount_at dir s.list)) c.self.view_is

pub returns-in-Err-clause-gone : goal.returns-in-Err-clause-gone
returns-in-Err-clause-gone c =
    let items = c.self.inside.mounts.items in
    let dir = c.args.dir.now in
    let gap : IsGapFor dir items c.in-Err.field-0 = rw (← c.bytes.ensures.bytes, ← c.deref.ensures.value) c.in-Err.ensures.free in
    let list = ap (λ (s : Mounts). s.list) c.self.view_is in
    sym list ∙ (none_goes dir items c.in-Err.field-0 gap ∙ ap (unmounted dir) list)
