-- Places of what is done at once: the global zone has one, and so has each of some zones. What is done in one place is done in order.
use Rattle.std.specs.Prelude.{◌≡◌, ℕ, ◌+◌, List, [], ◌∷◌, ◌++◌, ◌&&◌, Bool, false, Option, Some, None, bytes_eq, nat_eq, not, if◌then◌else◌}
use Rattle.brand_hooks.specs.Brands.{Tabled}
use Rattle.commit_journal.specs.declared.records.Commit.{Commit}
use Rattle.zn_base.specs.Names.{Name}
use Rattle.zone_cases.specs.State.{State}
use Rattle.zone_cases.specs.State.Worlds.{World, world}
use Rattle.zone_cases.specs.declared.events.Entry.{Entry}
use Rattle.zone_cases.specs.declared.events.Subject.{Subject}
use Rattle.zone_cases.specs.declared.events.Subject.TheVariants.{Global, Whole, Zone}
use Rattle.zone_machine.specs.Machine.{opening}
use Rattle.zone_machine.specs.Machine.Histories.{after, is_allowed, is_told, world_one}
use Rattle.zone_machine.specs.Machine.Local.{is_local}

-- the number of a zone's place, where the first one's is n. What has no place has the number 0
abbrev pub place_from : ℕ → List Name → Name → ℕ
place_from n [] z = 0
place_from n (y ∷ ys) z = if bytes_eq y z then n else place_from (n + 1) ys z

-- the zone whose place a number is
abbrev pub zone_from : ℕ → List Name → ℕ → Option Name
zone_from n [] p = None
zone_from n (y ∷ ys) p = if nat_eq n p then Some y else zone_from (n + 1) ys p

-- 1 is the global zone's place, and from 2 on come those of the zones, in order
abbrev pub place_of : List Name → Subject → ℕ
place_of zones (Zone z) = place_from 2 zones z
place_of zones Global = 1
place_of zones Whole = 0

abbrev pub zone_at : List Name → ℕ → Option Name
zone_at zones p = zone_from 2 zones p

-- no two zones have one place
abbrev pub AreApart : List Name → Type 0
AreApart zones = (p : ℕ) (z : Name) → zone_at zones p ≡ Some z → place_of zones (Zone z) ≡ p

-- a world that has nothing, in place of that of the global zone
abbrev pub nothing : World
nothing = world [] (opening [] [])

abbrev pub world_of_zone : Option Name → State → World
world_of_zone None S = nothing
world_of_zone (Some z) S = world z S

abbrev pub world_at : List Name → ℕ → State → World
world_at zones p S = world_of_zone (zone_at zones p) S

-- what an entry of a place leaves of its world
abbrev pub own_world_by : Subject → World → Entry → World
own_world_by (Zone z) w e = world_one z w e
own_world_by Global w e = w
own_world_by Whole w e = w

abbrev pub own_world_one : World → Entry → World
own_world_one w e = own_world_by e.subject w e

-- the entry is a local turn of the place's zone
abbrev pub is_local_of : Option Name → World → Entry → Bool
is_local_of None w e = false
is_local_of (Some z) w e = is_local z w e

abbrev pub is_local_at : List Name → ℕ → World → Entry → Bool
is_local_at zones p w e = is_local_of (zone_at zones p) w e

-- the state after a history
abbrev pub state_after : List Tabled → List Commit → List Entry → State
state_after brands R g = after (opening brands R) g

-- the entry is told as it is and under the grant that the pools give, and its subject has a place
abbrev pub is_right_at : List Name → State → Entry → Bool
is_right_at zones S e = is_told S e && is_allowed S e.event e.grant && not (nat_eq (place_of zones e.subject) 0)
