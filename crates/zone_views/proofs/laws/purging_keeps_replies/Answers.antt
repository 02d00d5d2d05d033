use Rattle.std.proofs.Common.{◌≡◌, ap, refl, sym, ◌∙◌, subst}
use Rattle.zone_machine.specs.Machine.Histories.{asked, only, replies, run}
use Rattle.zone_machine.specs.Machine.{opening}
use Rattle.zone_views.proofs.Purge.{opening-agree, purge, run-asked}
use Rattle.zone_views.proofs.Whole.{purge-whole}
use Rattle.zone_views.specs.Whole.{whole_replies}
use Rattle.zone_views.proofs.laws.purging_keeps_replies.Goals as goal

histories : goal.returns-clause-histories
histories c = λ z permits brands commits others h is same.
    subst (λ k. replies z k ≡ replies z (run (opening brands others) (asked (only z k)))) (run-asked permits (opening brands commits) h is) (purge z (asked h) (opening brands commits) (opening brands others) (opening-agree z brands commits others same))

pub returns-clause-histories : goal.returns-clause-histories
returns-clause-histories = histories

pub returns-clause-alike : goal.returns-clause-alike
returns-clause-alike c = λ z permits brands commits others h k is also same alike.
    histories c z permits brands commits others h is same ∙ (ap (λ es. replies z (run (opening brands others) es)) alike ∙ sym (histories c z permits brands others others k also refl))

pub returns-clause-runs : goal.returns-clause-runs
returns-clause-runs c = λ z brands commits others es same. purge z es (opening brands commits) (opening brands others) (opening-agree z brands commits others same)

pub returns-clause-whole : goal.returns-clause-whole
returns-clause-whole c = λ z permits brands commits others h is.
    subst (λ k. whole_replies k ≡ whole_replies (run (opening brands others) (asked (only z k)))) (run-asked permits (opening brands commits) h is) (purge-whole z (asked h) (opening brands commits) (opening brands others) refl)
