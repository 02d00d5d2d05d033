use Rattle.std.proofs.Common.{List, ℕ, Some, ap, ◌∙◌, subst, true, refl}
use Rattle.datalink_table.specs.declared.claims.Claim.{Claim}
use Rattle.zoneadmd_laws.proofs.Answering.{J}
use Rattle.zoneadmd_laws.proofs.Running.{run_told}
use Rattle.zoneadmd_laws.specs.Trails.{Later, Tells, bare_progress, in_full, told}
use Rattle.zoneadmd_laws.proofs.laws.what_ends_is_told.Goals as goal

pub returns : goal.returns
returns c = λ ms w j left job stage ends none go.
    let is = run_told w.brands ms ms (λ k is. is) true w refl j.ticket j.request (j.brand, j.config) j.done left (job ∙ ap (λ s. Some (J j.ticket j.request (j.brand, j.config) j.done s)) stage) (ends, none) go in
    let known = is.known refl in
    subst (λ (p : List (List ℕ) × List Claim). Tells j.ticket (bare_progress j.done) (in_full p.0 p.1 left) (Later w.brands ms j.ticket j.request) (told ms)) (λ i. (known.0 i, known.1 i)) is.tells
