use Rattle.std.proofs.Common.{refl}
use Rattle.zn_io.proofs.Patches.{put_back}
use Rattle.zn_io.proofs.buffers.put.Goals as goal

pub returns-clause-bytes : goal.returns-clause-bytes
returns-clause-bytes c =
    put_back c.args.disk.now.items _ _ _ c.args.bytes.now c.args.at _ _ refl (rw c.unwrap.ensures at c.stretch.ensures.items) c.deref_mut.ensures.value c.deref_mut.ensures.len c.overwrite.ensures
