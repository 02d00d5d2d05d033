-- What a failure undoes, by the steps that were told.
use Rattle.datalink_table.specs.declared.claims.Claim.{Claim}
use Rattle.std.proofs.Common.{◌≡◌, ℕ, List, [], ◌∷◌, ◌++◌, map, filter, not, Bool, true, false, Some, if◌then◌else◌, ap, sym, refl, ◌∙◌, true≢false}
use Rattle.std.specs.List.{list_any}
use Rattle.zn_base.specs.declared.state.ZoneState.TheVariants.{Ready, Incomplete}
use Rattle.zn_base.specs.declared.state.ZoneState.{ZoneState}
use Rattle.zone_config.specs.declared.terms.Contents.{Contents}
use Rattle.zoneadmd_laws.specs.Afters.{done}
use Rattle.zoneadmd_laws.specs.Lists.{onto}
use Rattle.zoneadmd_laws.specs.Trails.{in_full, is_hook, is_ready, undone_after, with_steps}
use Rattle.zoneadmd_steps.specs.Configs.{claims_of, fs_dirs}
use Rattle.zoneadmd_steps.specs.Desks.{Progress}
use Rattle.zoneadmd_steps.specs.Plans.{plan}
use Rattle.zoneadmd_steps.specs.Turns.{no_progress, with_step}
use Rattle.zoneadmd_steps.specs.declared.requests.Request.TheVariants as request
use Rattle.zoneadmd_steps.specs.declared.requests.Request.{Request}
use Rattle.zoneadmd_steps.specs.declared.requests.Step.TheVariants as step
use Rattle.zoneadmd_steps.specs.declared.requests.Step.{Step}

-- steps that neither make what is undone nor make the zone ready
abbrev pub makes_nothing : List Step → Bool
makes_nothing [] = true
makes_nothing (step.Zid n ∷ rest) = false
makes_nothing (step.Limits ∷ rest) = false
makes_nothing (step.Devices n ∷ rest) = false
makes_nothing (step.Root ∷ rest) = false
makes_nothing (step.Mounted d ∷ rest) = false
makes_nothing (step.Claimed c ∷ rest) = false
makes_nothing (step.State Ready ∷ rest) = false
makes_nothing (s ∷ rest) = makes_nothing rest

-- a ready part, and then such steps
abbrev pub makes_first : List Step → Bool
makes_first (step.Hook c ∷ rest) = makes_first rest
makes_first (step.Zid n ∷ rest) = makes_first rest
makes_first (step.Limits ∷ rest) = makes_first rest
makes_first (step.Devices n ∷ rest) = makes_first rest
makes_first (step.Root ∷ rest) = makes_first rest
makes_first (step.Mounted d ∷ rest) = makes_first rest
makes_first (step.Claimed c ∷ rest) = makes_first rest
makes_first (step.State Ready ∷ rest) = makes_nothing rest
makes_first _ = false

nothing_ready : (xs : List Step) → makes_nothing xs ≡ true → list_any is_ready xs ≡ false
nothing_ready [] h = refl
nothing_ready (step.Zid n ∷ rest) h = absurd (true≢false (sym h))
nothing_ready (step.Limits ∷ rest) h = absurd (true≢false (sym h))
nothing_ready (step.Devices n ∷ rest) h = absurd (true≢false (sym h))
nothing_ready (step.Root ∷ rest) h = absurd (true≢false (sym h))
nothing_ready (step.Mounted d ∷ rest) h = absurd (true≢false (sym h))
nothing_ready (step.Claimed c ∷ rest) h = absurd (true≢false (sym h))
nothing_ready (step.State Ready ∷ rest) h = absurd (true≢false (sym h))
nothing_ready (step.State s ∷ rest) h = nothing_ready rest h
nothing_ready (_ ∷ rest) h = nothing_ready rest h

-- of such steps none is undone
nothing_made : (front rest : List Step) (p : Progress) → makes_nothing (front ++ rest) ≡ true → p.made ≡ [] → ((with_steps front p).made ≡ []) × (list_any is_ready rest ≡ false)
nothing_made [] rest p h e = (e, nothing_ready rest h)
nothing_made (step.Zid n ∷ front) rest p h e = absurd (true≢false (sym h))
nothing_made (step.Limits ∷ front) rest p h e = absurd (true≢false (sym h))
nothing_made (step.Devices n ∷ front) rest p h e = absurd (true≢false (sym h))
nothing_made (step.Root ∷ front) rest p h e = absurd (true≢false (sym h))
nothing_made (step.Mounted d ∷ front) rest p h e = absurd (true≢false (sym h))
nothing_made (step.Claimed c ∷ front) rest p h e = absurd (true≢false (sym h))
nothing_made (step.State Ready ∷ front) rest p h e = absurd (true≢false (sym h))
nothing_made (step.State s ∷ front) rest p h e = nothing_made front rest (with_step (step.State s) p) h e
nothing_made (s ∷ front) rest p h e = nothing_made front rest (with_step s p) h e

abbrev unhooked : List Step → List Step
unhooked xs = filter (λ s. not (is_hook s)) xs

first_ready : (xs : List Step) → makes_first xs ≡ true → list_any is_ready xs ≡ true
first_ready (step.Hook c ∷ rest) h = first_ready rest h
first_ready (step.Zid n ∷ rest) h = first_ready rest h
first_ready (step.Limits ∷ rest) h = first_ready rest h
first_ready (step.Devices n ∷ rest) h = first_ready rest h
first_ready (step.Root ∷ rest) h = first_ready rest h
first_ready (step.Mounted d ∷ rest) h = first_ready rest h
first_ready (step.Claimed c ∷ rest) h = first_ready rest h
first_ready (step.State Ready ∷ rest) h = refl
first_ready [] h = absurd (true≢false (sym h))
first_ready _ h = absurd (true≢false (sym h))

-- within a ready part all is undone, hooks left out, and then nothing
first_made : (front rest done : List Step) (p : Progress) → makes_first (front ++ rest) ≡ true → p.made ≡ unhooked done
    → (with_steps front p).made ≡ (if list_any is_ready rest then unhooked (onto front done) else [])
first_made [] rest done p h e = e ∙ ap (λ b. if b then unhooked done else []) (sym (first_ready rest h))
first_made (step.Hook c ∷ front) rest done p h e = first_made front rest (step.Hook c ∷ done) (with_step (step.Hook c) p) h e
first_made (step.Zid n ∷ front) rest done p h e = first_made front rest (step.Zid n ∷ done) (with_step (step.Zid n) p) h (ap (λ xs. step.Zid n ∷ xs) e)
first_made (step.Limits ∷ front) rest done p h e = first_made front rest (step.Limits ∷ done) (with_step step.Limits p) h (ap (λ xs. step.Limits ∷ xs) e)
first_made (step.Devices n ∷ front) rest done p h e = first_made front rest (step.Devices n ∷ done) (with_step (step.Devices n) p) h (ap (λ xs. step.Devices n ∷ xs) e)
first_made (step.Root ∷ front) rest done p h e = first_made front rest (step.Root ∷ done) (with_step step.Root p) h (ap (λ xs. step.Root ∷ xs) e)
first_made (step.Mounted d ∷ front) rest done p h e = first_made front rest (step.Mounted d ∷ done) (with_step (step.Mounted d) p) h (ap (λ xs. step.Mounted d ∷ xs) e)
first_made (step.Claimed c ∷ front) rest done p h e = first_made front rest (step.Claimed c ∷ done) (with_step (step.Claimed c) p) h (ap (λ xs. step.Claimed c ∷ xs) e)
first_made (step.State Ready ∷ front) rest done p h e =
    let x = nothing_made front rest (with_step (step.State Ready) p) h refl in x.0 ∙ ap (λ b. if b then unhooked (onto front (step.State Ready ∷ done)) else []) (sym x.1)
first_made (_ ∷ front) rest done p h e = absurd (true≢false (sym h))

-- plans, with all mounts and claims
ready_first : (ds : List (List ℕ)) (cs : List Claim) (dirs : List (List ℕ)) (claims : List Claim) (xs ys : List Step) → makes_first (in_full ds cs (xs ++ ys)) ≡ true
    → makes_first (in_full ds cs ((map step.Mounted dirs ++ (map step.Claimed claims ++ xs)) ++ ys)) ≡ true
ready_first ds cs [] [] xs ys h = h
ready_first ds cs [] (c ∷ claims) xs ys h = ready_first ds cs [] claims xs ys h
ready_first ds cs (d ∷ dirs) claims xs ys h = ready_first ds cs dirs claims xs ys h

alone_first : (ds : List (List ℕ)) (cs : List Claim) (dirs : List (List ℕ)) (claims : List Claim) (xs : List Step) → makes_first (in_full ds cs xs) ≡ true
    → makes_first (in_full ds cs (map step.Mounted dirs ++ (map step.Claimed claims ++ xs))) ≡ true
alone_first ds cs [] [] xs h = h
alone_first ds cs [] (c ∷ claims) xs h = alone_first ds cs [] claims xs h
alone_first ds cs (d ∷ dirs) claims xs h = alone_first ds cs dirs claims xs h

releases_nothing : (cs : List Claim) (rest : List Step) → makes_nothing rest ≡ true → makes_nothing (map (λ c. step.Release (Some c)) cs ++ rest) ≡ true
releases_nothing [] rest h = h
releases_nothing (c ∷ cs) rest h = releases_nothing cs rest h

unmounts_nothing : (ds : List (List ℕ)) (rest : List Step) → makes_nothing rest ≡ true → makes_nothing (map (λ d. step.Unmount (Some d)) ds ++ rest) ≡ true
unmounts_nothing [] rest h = h
unmounts_nothing (d ∷ ds) rest h = unmounts_nothing ds rest h

abbrev Undoes_so : List Step → Type 0
Undoes_so steps = (front : List Step) (s : Step) (rest : List Step) → steps ≡ front ++ s ∷ rest → (with_steps front no_progress).made ≡ undone_after front (s ∷ rest)

by_first : (steps : List Step) → makes_first steps ≡ true → Undoes_so steps
by_first steps h front s rest e = first_made front (s ∷ rest) [] no_progress (ap makes_first (sym e) ∙ h) refl

by_nothing : (steps : List Step) → makes_nothing steps ≡ true → Undoes_so steps
by_nothing steps h front s rest e =
    let x = nothing_made front (s ∷ rest) no_progress (ap makes_nothing (sym e) ∙ h) refl in x.0 ∙ ap (λ b. if b then unhooked (onto front []) else []) (sym x.1)

-- what a failure of a plan undoes
pub plan_undoes : (r : Request) (s : ZoneState) (c : Contents) (ds : List (List ℕ)) (cs : List Claim) → Undoes_so (in_full ds cs (plan r s c))
plan_undoes request.Ready s c ds cs = by_first _ (alone_first ds cs (fs_dirs c) (claims_of c) _ refl)
plan_undoes (request.Boot args) Ready c ds cs = by_nothing _ refl
plan_undoes (request.Boot args) s c ds cs = by_first _ (ready_first ds cs (fs_dirs c) (claims_of c) _ _ refl)
plan_undoes request.Halt s c ds cs = by_nothing _ (unmounts_nothing ds _ (releases_nothing cs _ refl))
plan_undoes (request.Reboot args) s c ds cs = by_nothing _ (unmounts_nothing ds _ (releases_nothing cs _ refl))
plan_undoes request.Uninstall Incomplete c ds cs = by_nothing _ refl
plan_undoes request.Uninstall s c ds cs = by_nothing _ refl
plan_undoes r s c ds cs = by_nothing _ refl
