use Rattle.std.proofs.Common.{◌∙◌, sym}
use Rattle.loopback_mounts.proofs.Parts.{not_below_shorter, not_below_apart, below_slash}
use Rattle.loopback_mounts.proofs.paths.is_below.Goals as goal

pub returns-then-dir-path : goal.returns-then-dir-path
returns-then-dir-path c = sym (not_below_shorter c.args.dir.now c.args.path.now c.requires.dir c.requires.path c.if-dir-path.true)

pub returns-then-not-starts_with : goal.returns-then-not-starts_with
returns-then-not-starts_with c =
    sym (not_below_apart c.args.dir.now c.args.path.now c.requires.dir c.requires.path (sym c.starts_with.ensures.value ∙ c.if-not-starts_with.true))

pub returns-else-dir-eq1 : goal.returns-else-dir-eq1
returns-else-dir-eq1 c =
    below_slash c.args.dir.now c.args.path.now c.requires.dir c.requires.path c.if-dir-path.false (sym c.starts_with.ensures.value ∙ c.if-not-starts_with.false) c.if-dir-eq1.false
