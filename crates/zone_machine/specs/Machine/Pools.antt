-- What the pools that all zones share give in a state, and which grants may be stated.
use Rattle.std.specs.Prelude.{ℕ, List, length, Option, Some, None, Bool, true, false, is_some, not, ◌&&◌, bytes_eq}
use Rattle.datalink_table.specs.Claims.{claim_of, holds, same_claim}
use Rattle.datalink_table.specs.declared.claims.Claim.{Claim}
use Rattle.datalink_table.specs.declared.claims.ClaimKind.{ClaimKind}
use Rattle.datalink_table.specs.declared.claims.ClaimKind.TheVariants.{Address, Dataset, Link}
use Rattle.commit_journal.specs.declared.records.Record.{Record}
use Rattle.zn_base.specs.declared.state.ZoneState.{ZoneState}
use Rattle.zn_base.specs.declared.state.ZoneState.TheVariants.{Installed}
use Rattle.zone_pools.specs.declared.grant.Pool.{Pool}
use Rattle.zone_pools.specs.declared.grant.Pool.TheVariants.{Addresses, Datasets, Links}
use Rattle.zone_pools.specs.declared.owned.Owned.{Owned}
use Rattle.std.specs.List.{list_any}
use Rattle.zn_base.specs.Names.{Name}
use Rattle.zone_pools.specs.Decisions.{asked_of}
use Rattle.zone_pools.specs.Pools.{Pools, fits_asked, said_by_all}
use Rattle.zone_pools.specs.Same.{same_grant}
use Rattle.zone_pools.specs.declared.grant.Grant.{Grant}
use Rattle.zone_pools.specs.declared.grant.Grant.TheVariants.{Nothing}
use Rattle.zone_machine.specs.Machine.{decide, subject}
use Rattle.commit_journal.specs.Journal.{body_size, fits_after}
use Rattle.commit_journal.specs.Stored.{Rows, stored}
use Rattle.zone_cases.specs.State.{State, bytes_used, stored as stored_of}
use Rattle.kernel_objects.specs.Processes.{has_pid}
use Rattle.zoneadmd_steps.specs.Objects.{has_zid}
use Rattle.zone_cases.specs.State.Worlds.{view}
use Rattle.zone_cases.specs.declared.events.Event.{Event}
use Rattle.zone_cases.specs.declared.events.Subject.{Subject}
use Rattle.zone_cases.specs.declared.events.Subject.TheVariants.{Zone, Global, Whole}

abbrev pub is_path : List ℕ → Option (List ℕ) → Bool
is_path path None = false
is_path path (Some own) = bytes_eq path own

-- another stored zone has the path
abbrev pub path_taken : Rows → Name → List ℕ → Bool
path_taken rows z path = list_any (λ row. not (bytes_eq z row.zone) && is_path path row.it.config.zonepath) rows

-- the kind of the items of a pool
abbrev pub kind_of : Pool → Option ClaimKind
kind_of Links = Some Link
kind_of Addresses = Some Address
kind_of Datasets = Some Dataset
kind_of pool = None

abbrev pub of_kind : (Claim → Bool) → Option ClaimKind → List ℕ → Bool
of_kind may None item = false
of_kind may (Some kind) item = may (claim_of kind item)

-- a zone other than z holds the item
abbrev pub held_elsewhere : Name → Claim → List (Owned Claim) → Bool
held_elsewhere z c os = list_any (λ o. not (bytes_eq z o.zone) && same_claim c o.it) os

-- z may hold an item that is declared, and that no other zone holds
abbrev pub may_hold : State → Name → Claim → Bool
may_hold S z c = holds c S.declared.items && not (held_elsewhere z c S.claims)

-- a zone may be cloned that is installed, and whose state is none of those that aren't stored
abbrev pub is_state_installed : ZoneState → Bool
is_state_installed Installed = true
is_state_installed s = false

abbrev pub is_installed : Option Record → Bool
is_installed None = false
is_installed (Some row) = is_state_installed row.state

abbrev pub may_clone : State → Name → Bool
may_clone S z = is_installed (stored_of z S.commits) && not (is_some (S.desks z).active)

-- what the pools know in a state
abbrev pub pools_of : State → Pools
pools_of S = record {
  pid_used = λ n. list_any (λ o. has_pid n o.it) S.processes;
  zid_used = λ n. list_any (λ o. has_zid n o.it) S.ids;
  last_pid = S.last_pid;
  last_zid = S.last_zid;
  zones = length (stored S.commits);
  path_taken = path_taken (stored S.commits);
  serial = length S.commits;
  may_store = λ z size. fits_after (bytes_used S.commits) (body_size z size);
  may_hold = λ z pool item. of_kind (may_hold S z) (kind_of pool) item;
  may_clone = may_clone S;
}

abbrev pub allowed_of : Subject → State → Event → Grant
allowed_of (Zone z) S e = said_by_all (pools_of S) z (asked_of (decide (view z S) e)) Nothing
allowed_of Global S e = Nothing
allowed_of Whole S e = Nothing

-- the grant that the pools give
unfoldable pub allowed : State → Event → Grant
allowed S e = allowed_of (subject S e) S e

abbrev pub fits_of : Subject → State → Event → Grant → Bool
fits_of (Zone z) S e g = fits_asked (pools_of S) z (asked_of (decide (view z S) e)) g
fits_of Global S e g = same_grant g Nothing
fits_of Whole S e g = same_grant g Nothing

-- whether a grant may be stated for an event
unfoldable pub fits : State → Event → Grant → Bool
fits S e g = fits_of (subject S e) S e g
