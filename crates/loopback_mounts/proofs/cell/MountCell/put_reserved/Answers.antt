use Rattle.std.proofs.Common.{◌≡◌, ◌∙◌, List, Ok, ap, refl, subst, sym, true}
use Rattle.zn_base.specs.Path.{is_path}
use Rattle.loopback_mounts.specs.Mounts.{Mounts, mount_answer, mounted, well_kept}
use Rattle.loopback_mounts.specs.Search.{IsGapFor, IsPlaceOf}
use Rattle.loopback_mounts.specs.declared.mount.MountEntry.{MountEntry}
use Rattle.loopback_mounts.proofs.Kept.{comes, few_where_free, not_there, one_more}
use Rattle.loopback_mounts.proofs.cell.MountCell.put_reserved.Goals as goal

pub invariant_of-self : goal.invariant_of-self
invariant_of-self c =
    let items = c.self.inside.mounts.items in
    let gap : IsGapFor c.args.mount.dir items c.in-Err.at = rw (← c.bytes.ensures.bytes, ← c.deref.ensures.value) c.in-Err.ensures.free in
    let path : is_path c.args.mount.dir ≡ true = rw (← c.bytes.ensures.bytes) c.bytes.ensures.path in
    let answer : mount_answer c.args.mount.dir items ≡ Ok tt = ap (λ (s : Mounts). mount_answer c.args.mount.dir s.list) c.self.view_is ∙ c.requires.free in
    subst (λ (ms : List MountEntry). well_kept ms ≡ true) (sym c.in-Ok-insert.ensures.items) (one_more _ items c.in-Err.at c.self.invariant path (few_where_free c.args.mount.dir items answer) gap)

pub returns : goal.returns
returns c =
    let items = c.self.inside.mounts.items in
    let gap : IsGapFor c.args.mount.dir items c.in-Err.at = rw (← c.bytes.ensures.bytes, ← c.deref.ensures.value) c.in-Err.ensures.free in
    c.in-Ok-insert.ensures.items ∙ (comes c.args.mount _ items c.in-Err.at refl gap ∙ ap (λ (s : Mounts). mounted c.args.mount s.list) c.self.view_is)

pub unreachable-requires-in-Ok : goal.unreachable-requires-in-Ok
unreachable-requires-in-Ok c =
    let items = c.self.inside.mounts.items in
    let place : IsPlaceOf c.args.mount.dir items c.in-Ok.field-0 = rw (← c.bytes.ensures.bytes, ← c.deref.ensures.value) c.in-Ok.ensures.found in
    let answer : mount_answer c.args.mount.dir items ≡ Ok tt = ap (λ (s : Mounts). mount_answer c.args.mount.dir s.list) c.self.view_is ∙ c.requires.free in
    not_there c.args.mount.dir items c.in-Ok.field-0 answer place place.inside
