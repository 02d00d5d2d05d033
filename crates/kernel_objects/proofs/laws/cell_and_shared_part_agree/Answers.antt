use Rattle.kernel_objects.proofs.Kept.{agree-activated, agree-come, agree-deactivated, agree-gone}
use Rattle.kernel_objects.proofs.laws.cell_and_shared_part_agree.Goals as goal

pub returns-clause-come : goal.returns-clause-come
returns-clause-come c = λ z k s t p agree took. agree-come z k s t agree p took

pub returns-clause-gone : goal.returns-clause-gone
returns-clause-gone c = λ z k s t freed ps agree frees left. agree-gone z k s t agree freed ps frees left

pub returns-clause-activated : goal.returns-clause-activated
returns-clause-activated c = λ z k s t zid agree took. agree-activated z k s t agree zid took

pub returns-clause-deactivated : goal.returns-clause-deactivated
returns-clause-deactivated c = λ z k s t agree frees. agree-deactivated z k s t agree frees
