-- The states that plans record are stored ones.
use Rattle.std.proofs.Common.{◌≡◌, ◌∙◌, ◌∷◌, ◌++◌, [], ℕ, List, map, refl, set, true}
use Rattle.std.specs.List.{list_all}
use Rattle.std.proofs.lemmas.Bool.{and_from}
use Rattle.std.proofs.lemmas.List.Folds.{list_all-append}
use Rattle.datalink_table.specs.declared.claims.Claim.{Claim}
use Rattle.zn_base.specs.declared.state.ZoneState.{ZoneState}
use Rattle.zn_base.specs.declared.state.ZoneState.TheVariants.{Incomplete, Ready}
use Rattle.zone_config.proofs.Lists.{all-set}
use Rattle.zone_config.specs.declared.terms.Contents.{Contents}
use Rattle.zoneadmd_steps.specs.Configs.{claims_of, fs_dirs}
use Rattle.zoneadmd_steps.specs.Plans.{boot_part, boot_plan, has_stored_state, plan, ready_part, uninstall_part}
use Rattle.zoneadmd_steps.specs.declared.requests.Request.{Request}
use Rattle.zoneadmd_steps.specs.declared.requests.Request.TheVariants as request
use Rattle.zoneadmd_steps.specs.declared.requests.Step.{Step}
use Rattle.zoneadmd_steps.specs.declared.requests.Step.TheVariants.{Claimed, Mounted}

both : (xs ys : List Step) → list_all has_stored_state xs ≡ true → list_all has_stored_state ys ≡ true → list_all has_stored_state (xs ++ ys) ≡ true
both xs ys h k = list_all-append has_stored_state xs ys ∙ and_from _ _ h k

mounts_store : (dirs : List (List ℕ)) → list_all has_stored_state (map Mounted dirs) ≡ true
mounts_store [] = refl
mounts_store (dir ∷ dirs) = mounts_store dirs

claims_store : (cs : List Claim) → list_all has_stored_state (map Claimed cs) ≡ true
claims_store [] = refl
claims_store (c ∷ cs) = claims_store cs

ready_stores : (c : Contents) → list_all has_stored_state (ready_part c) ≡ true
ready_stores c = both (map Mounted (fs_dirs c)) _ (mounts_store (fs_dirs c)) (both (map Claimed (claims_of c)) _ (claims_store (claims_of c)) refl)

boot_stores : (s : ZoneState) (c : Contents) → list_all has_stored_state (boot_plan s c) ≡ true
boot_stores Ready c = refl
boot_stores _ c = both (ready_part c) boot_part (ready_stores c) refl

uninstall_stores : (s : ZoneState) → list_all has_stored_state (uninstall_part s) ≡ true
uninstall_stores Incomplete = refl
uninstall_stores _ = refl

pub plan_stores : (r : Request) (s : ZoneState) (c : Contents) → list_all has_stored_state (plan r s c) ≡ true
plan_stores request.Uninstall s c = uninstall_stores s
plan_stores request.Ready s c = ready_stores c
plan_stores (request.Boot args) s c = boot_stores s c
plan_stores _ s c = refl

-- so do they with a step in place of another
pub stored_set : (steps : List Step) (k : ℕ) (s : Step) → has_stored_state s ≡ true → list_all has_stored_state steps ≡ true → list_all has_stored_state (set steps k s) ≡ true
stored_set steps k s e h = all-set has_stored_state steps k s h e
