use Rattle.std.proofs.Common.{◌≡◌, false, length}
use Rattle.zone_cases.specs.Session.Lines.{words, zlogin_zone}
use Rattle.zone_cases.proofs.session.zlogin_lines.zlogin_zone.Given as goal

abbrev pub invariant-loop-word : goal.invariant-loop-word
invariant-loop-word l = zlogin_zone false (words l.text) ≡ zlogin_zone false (words l.initial.text)

abbrev pub decreases-loop-word : goal.decreases-loop-word
decreases-loop-word l = length (words l.text)
