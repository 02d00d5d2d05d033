use Rattle.std.proofs.Common.{◌≡◌, ◌∙◌, Some, None, sym}
use Rattle.loopback_mounts.specs.Mounts.{mount_at}
use Rattle.loopback_mounts.proofs.Kept.{kept}
use Rattle.loopback_mounts.proofs.Over.{over_itself, parent_over, root_over}
use Rattle.loopback_mounts.proofs.places.mount_over.Goals as goal

pub returns-in-Some : goal.returns-in-Some
returns-in-Some c =
    let ms = c.args.mounts.now in
    let dir = c.loop-entry.dir.now in
    let found : mount_at dir ms ≡ Some c.in-Some.entry.now = sym c.in-Some.ensures in
    sym (sym c.loop-entry.invariant.1 ∙ over_itself dir c.loop-entry.invariant.0 ms c.in-Some.entry.now (kept ms c.requires.kept).paths found)

pub returns-then-dir-eq1 : goal.returns-then-dir-eq1
returns-then-dir-eq1 c =
    let ms = c.args.mounts.now in
    let dir = c.loop-entry.dir.now in
    let none : mount_at dir ms ≡ None = sym c.in_default.ensures in
    sym (sym c.loop-entry.invariant.1 ∙ root_over ms dir (kept ms c.requires.kept).paths c.loop-entry.invariant.0 c.if-dir-eq1.true none)

pub loop-entry-preserved : goal.loop-entry-preserved
loop-entry-preserved c =
    let ms = c.args.mounts.now in
    let dir = c.loop-entry.dir.now in
    let none : mount_at dir ms ≡ None = sym c.in_default.ensures in
    let up = c.parent-dir.ensures.parent in
    (up.path_too, sym (parent_over ms dir c.parent-dir.result.now (kept ms c.requires.kept).paths c.loop-entry.invariant.0 up none) ∙ c.loop-entry.invariant.1)
