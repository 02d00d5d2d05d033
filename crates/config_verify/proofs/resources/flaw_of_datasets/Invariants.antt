use Rattle.std.proofs.Common.{◌≡◌, drop}
use Rattle.std.specs.List.{flat_map}
use Rattle.config_verify.specs.Flaws.{first, flaws_of_dataset}
use Rattle.config_verify.proofs.resources.flaw_of_datasets.Given as goal

-- those before the place have no flaw
abbrev pub invariant-loop-dataset : goal.invariant-loop-dataset
invariant-loop-dataset l = first (flat_map flaws_of_dataset l.all) ≡ first (flat_map flaws_of_dataset (drop l.dataset-index l.all))
