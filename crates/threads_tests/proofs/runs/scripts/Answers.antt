use Rattle.std.proofs.Common.{◌≡◌, ◌+◌, ◌∷◌, ◌++◌, [], length, length-append, arith}
use Rattle.threads_tests.proofs.Scripts.{numbered_more}
use Rattle.threads_tests.proofs.runs.scripts.Goals as goal

pub loop-i-preserved : goal.loop-i-preserved
loop-i-preserved c =
    let items : c.push.new.self.items ≡ c.loop-i.scripts.items ++ c.in_ok-script.field-0 ∷ [] = c.in_ok-push.ensures.items in
    let session : c.in_ok-script.field-0.session ≡ 1 + length c.loop-i.scripts.items = omega (arith, c.in_ok-script.ensures, c.loop-i.invariant.0, c.loop-i-test.true) in (
      rw items (omega (arith, length-append c.loop-i.scripts.items (c.in_ok-script.field-0 ∷ []), c.loop-i.invariant.0)),
      rw items (numbered_more 1 c.loop-i.scripts.items c.in_ok-script.field-0 c.loop-i.invariant.1 session),
    )
