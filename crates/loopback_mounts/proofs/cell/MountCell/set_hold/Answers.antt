use Rattle.std.proofs.Common.{◌≡◌, ◌∙◌, List, ap, map, subst, sym, true}
use Rattle.loopback_mounts.specs.Mounts.{Mounts, at_dir, well_kept, with_hold}
use Rattle.loopback_mounts.specs.Search.{IsGapFor, IsPlaceOf}
use Rattle.loopback_mounts.specs.declared.mount.MountEntry.{MountEntry}
use Rattle.loopback_mounts.proofs.Kept.{becomes, hold_kept, none_becomes}
use Rattle.loopback_mounts.proofs.cell.MountCell.set_hold.Goals as goal

pub invariant_of-self : goal.invariant_of-self
invariant_of-self c =
    let items = c.self.inside.mounts.items in
    let dir = c.args.dir.now in
    let place : IsPlaceOf dir items c.in-Ok.at = rw (← c.bytes.ensures.bytes, ← c.deref.ensures.value) c.in-Ok.ensures.found in
    let new = becomes dir items c.in-Ok.at _ (with_hold c.args.held) place c.index_mut.ensures.value in
    subst (λ (ms : List MountEntry). well_kept ms ≡ true) (sym new) (hold_kept dir c.args.held items c.self.invariant)

pub returns-in-Ok : goal.returns-in-Ok
returns-in-Ok c =
    let items = c.self.inside.mounts.items in
    let dir = c.args.dir.now in
    let place : IsPlaceOf dir items c.in-Ok.at = rw (← c.bytes.ensures.bytes, ← c.deref.ensures.value) c.in-Ok.ensures.found in
    becomes dir items c.in-Ok.at _ (with_hold c.args.held) place c.index_mut.ensures.value ∙ ap (λ (s : Mounts). map (at_dir dir (with_hold c.args.held)) s.list) c.self.view_is

pub returns-in_default : goal.returns-in_default
returns-in_default c =
    let items = c.self.inside.mounts.items in
    let dir = c.args.dir.now in
    let gap : IsGapFor dir items c.in_default.field-0 = rw (← c.bytes.ensures.bytes, ← c.deref.ensures.value) c.in_default.ensures.free in
    let list = ap (λ (s : Mounts). s.list) c.self.view_is in
    sym list ∙ (none_becomes dir items c.in_default.field-0 (with_hold c.args.held) gap ∙ ap (map (at_dir dir (with_hold c.args.held))) list)
