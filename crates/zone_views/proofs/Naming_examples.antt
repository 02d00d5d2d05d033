-- What some replies name.
use Rattle.std.proofs.Common.{◌≡◌, ◌∷◌, [], ℕ, List, Some, refl}
use Rattle.std.specs.Fmt.{digits}
use Rattle.std.specs.Prelude.{codes}
use Rattle.datalink_table.specs.Claims.{claim_of}
use Rattle.datalink_table.specs.declared.claims.ClaimKind.TheVariants as claimed
use Rattle.zone_pools.specs.declared.grant.Pool.TheVariants.{Datasets}
use Rattle.zone_cases.specs.State.Decisions.{says, told}
use Rattle.zone_cases.specs.declared.replies.Body.TheVariants.{Child, Lines, Net, Processes}
use Rattle.zone_cases.specs.declared.replies.Head.TheVariants.{Turned}
use Rattle.zoneadmd_steps.specs.declared.requests.Outcome.TheVariants.{Denied}
use Rattle.zoneadmd_steps.specs.declared.requests.Step.TheVariants.{Claimed, Unmount}
use Rattle.zoneadmd_steps.specs.declared.requests.TurnReply.TheVariants.{Failed, Stepped, Undone}
use Rattle.zone_views.specs.Naming.{Address, Dataset, Link, Mount, Process, names, object}

abbrev z : List ℕ
z = codes "web"

-- each process that is listed, and its parent where it has one
named_rows : names z (told (Processes (record { pid = 7; parent = 0; name = codes "init" } ∷ record { pid = 12; parent = 7; name = codes "sh" } ∷ [])))
    ≡ object z Process (codes "7") ∷ object z Process (codes "12") ∷ object z Process (codes "7") ∷ []
unfolding digits
named_rows = refl

named_child : names z (told (Child 31)) ≡ object z Process (codes "31") ∷ []
unfolding digits
named_child = refl

named_net : names z (told (Net (codes "net0" ∷ []) (codes "10.0.0.2" ∷ []))) ≡ object z Link (codes "net0") ∷ object z Address (codes "10.0.0.2") ∷ []
named_net = refl

named_undone : names z (says (Turned (Undone (Claimed (claim_of claimed.Dataset (codes "tank/web")))))) ≡ object z Dataset (codes "tank/web") ∷ []
named_undone = refl

named_unmount : names z (says (Turned (Stepped (Unmount (Some (codes "/export")))))) ≡ object z Mount (codes "/export") ∷ []
named_unmount = refl

-- a claim that is denied names nobody who holds the item, and a text is the zone's own words
named_denied : names z (says (Turned (Failed 7 (Denied Datasets)))) ≡ []
named_denied = refl

named_text : names z (told (Lines (codes "7" ∷ []))) ≡ []
named_text = refl
