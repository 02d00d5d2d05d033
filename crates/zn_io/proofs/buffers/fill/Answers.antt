use Rattle.std.proofs.Common.{ℕ, sym}
use Rattle.std.proofs.lemmas.List.{length-replicate}
use Rattle.zn_io.proofs.Patches.{put_back}
use Rattle.zn_io.proofs.buffers.fill.Goals as goal

pub returns : goal.returns
returns c = put_back _ _ _ _ _ _ _ _ (sym (length-replicate {A = ℕ} c.args.range.size c.args.byte)) c.in_ok-stretch.ensures.items c.deref_mut.ensures.value c.deref_mut.ensures.len c.overfill.ensures
