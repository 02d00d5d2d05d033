use Rattle.std.proofs.Common.{◌≡◌, [], drop, take}
use Rattle.config_verify.specs.Flaws.{each_behind, first, flaws_of_net}
use Rattle.config_verify.proofs.resources.flaw_of_nets.Given as goal

-- those before the place have no flaw
abbrev pub invariant-loop-place : goal.invariant-loop-place
invariant-loop-place l = first (each_behind (flaws_of_net l.ip) [] l.all) ≡ first (each_behind (flaws_of_net l.ip) (take l.place l.all) (drop l.place l.all))
