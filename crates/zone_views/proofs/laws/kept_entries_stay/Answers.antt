use Rattle.std.proofs.Common.{◌≡◌, subst}
use Rattle.zone_machine.specs.Machine.Histories.{asked, only, run}
use Rattle.zone_machine.specs.Machine.{opening}
use Rattle.zone_views.proofs.Kept_entries.{again}
use Rattle.zone_views.proofs.Purge.{opening-agree, run-asked}
use Rattle.zone_views.proofs.laws.kept_entries_stay.Goals as goal

pub returns : goal.returns
returns c = λ z permits brands commits others h is same.
    subst (λ k. run (opening brands others) (asked (only z k)) ≡ only z k) (run-asked permits (opening brands commits) h is) (again z (asked h) (opening brands commits) (opening brands others) (opening-agree z brands commits others same))
