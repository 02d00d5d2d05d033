-- A zone stays small: what it has is bounded, and what its record asks for is, by the number of resources.
use Rattle.std.proofs.Common.{◌≡◌, ◌≤◌, List, true, arith, length, length-append, map, subst}
use Rattle.std.specs.Prelude.{IfSome}
use Rattle.std.proofs.lemmas.List.{length-map}
use Rattle.zn_base.specs.Names.{Name}
use Rattle.brand_hooks.specs.Brands.{Tabled}
use Rattle.commit_journal.specs.declared.records.Commit.{Commit}
use Rattle.zone_config.specs.Sound.{HasSoundResources, count}
use Rattle.zone_config.specs.declared.terms.Contents.{Contents}
use Rattle.zoneadmd_laws.proofs.Verified.{dirs_few}
use Rattle.zoneadmd_laws.specs.Turns_left.{IsSmall}
use Rattle.zoneadmd_steps.specs.Configs.{claims_of, dataset_claim, net_claim}
use Rattle.zone_machine.specs.Machine.{opening}
use Rattle.zone_machine.specs.Machine.Histories.{after, is_history}
use Rattle.zone_machine.specs.Machine.Pools.{fits}
use Rattle.zone_cases.specs.State.{stored}
use Rattle.zone_cases.specs.State.Worlds.{seen_of, world}
use Rattle.zone_cases.specs.declared.events.Entry.{Entry}
use Rattle.zone_views.proofs.Declared_few.{claims-bounded}
use Rattle.zone_views.proofs.Mounts_few.{few-after}
use Rattle.zone_views.proofs.Settled.{settled-after}
use Rattle.zone_views.specs.Storable.{IsRight}

-- a claim is asked for by a resource
pub claims-asked : (c : Contents) → HasSoundResources c → length (claims_of c) ≤ 256
unfolding count
claims-asked c h =
    let split = length-append (map dataset_claim c.dataset) (map (net_claim c.ip) c.net) in
    let datasets = length-map c.dataset dataset_claim in let nets = length-map c.net (net_claim c.ip) in
    let few = h.few in
    omega (arith, split, datasets, nets, few)

pub stays-small : (brands : List Tabled) (commits : List Commit) (h : List Entry) (z : Name) → is_history fits (opening brands commits) h ≡ true → IfSome (stored z commits) IsRight
    → IsSmall (seen_of (world z (after (opening brands commits) h)))
stays-small brands commits h z is first row e =
    let right : IsRight row = subst (λ o. IfSome o IsRight) e (settled-after z brands commits h first).right.stored in
    let mounts = few-after z brands commits h in
    let claims = claims-bounded brands commits h z is in
    let dirs = dirs_few row.config right.config.resources in
    let asked = claims-asked row.config right.config.resources in
    omega (arith, mounts, claims, dirs, asked)
