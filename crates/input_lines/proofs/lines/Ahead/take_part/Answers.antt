use Rattle.std.proofs.Common.{arith}
use Rattle.std.proofs.lemmas.Grind.{common_steps}
use Rattle.std.proofs.lemmas.Bool.Decides.{nat_tests}
use Rattle.input_lines.proofs.Parts.{part_ends, part_goes_on}
use Rattle.input_lines.proofs.lines.Ahead.take_part.Goals as goal

pub returns-in_ok-extend_from_slice-in-Some : goal.returns-in_ok-extend_from_slice-in-Some
returns-in_ok-extend_from_slice-in-Some c =
    part_ends _ _ _ _ c.in-Some.at (cc) (grind (arith, common_steps)) c.skip.ensures (grind (arith, nat_tests))

pub returns-in_ok-extend_from_slice-in-None : goal.returns-in_ok-extend_from_slice-in-None
returns-in_ok-extend_from_slice-in-None c =
    part_goes_on _ _ _ _ (cc) (grind (arith, common_steps)) (grind (arith, common_steps)) (grind (arith, nat_tests))
