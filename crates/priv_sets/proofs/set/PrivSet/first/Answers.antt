use Rattle.std.proofs.Common.{◌≡◌, [], refl, sym, arith}
use Rattle.priv_sets.proofs.Bits.{bits-none, first-bits}
use Rattle.priv_sets.proofs.set.PrivSet.first.Goals as goal

pub returns-then-self-eq0 : goal.returns-then-self-eq0
returns-then-self-eq0 c = let e : c.args.self.now ≡ [] = cc (bits-none) in rw e refl

pub returns-else-self-eq0 : goal.returns-else-self-eq0
returns-else-self-eq0 c =
    let e = first-bits c.self.inside.bits c.self.invariant (omega arith) in
    sym (rw c.self.view_is at e)
