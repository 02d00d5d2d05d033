-- The zones that some commits leave, over the whole list of commits.
use Rattle.std.specs.Prelude.{◌≡◌, List, [], ◌∷◌, ◌++◌, length, Bool, true, ◌&&◌, ◌||◌, nat_lt, Option, Some, None, bytes_eq, unwrap_or, if◌then◌else◌}
use Rattle.std.specs.List.{list_any}
use Rattle.std.specs.Option.{is_none}
use Rattle.zone_pools.specs.declared.limits.TheConstants.{ZONES_MAX}
use Rattle.zone_pools.specs.Firsts.{placed}
use Rattle.zn_base.specs.Names.{Name}
use Rattle.zone_pools.specs.Owned_lists.{Go, edit_list, tag}
use Rattle.zone_pools.specs.declared.owned.Owned.{Owned}
use Rattle.commit_journal.specs.declared.records.Commit.{Commit}
use Rattle.commit_journal.specs.declared.records.Record.{Record}

-- the stored zones, each with its record, in the order of their creation
abbrev pub Rows : Type 0
Rows = List (Owned Record)

abbrev pub without : Name → Rows → Rows
without z rows = edit_list z (Go (λ row. true)) rows

-- some commit removes the zone
abbrev pub is_removed : Name → List Commit → Bool
is_removed z commits = list_any (λ c. bytes_eq z c.zone && is_none c.stored) commits

-- the last record of the zone in some commits, or an earlier one where they have none
abbrev pub last_record : Record → Name → List Commit → Record
last_record row z [] = row
last_record row z (c ∷ commits) = last_record (if bytes_eq z c.zone then unwrap_or c.stored row else row) z commits

-- a commit that stores a zone, and after which none removes it, is the zone's first one: the zone stands before those of later commits
abbrev pub from_first : Option Record → Name → List Commit → Rows → Rows
from_first None z later rows = rows
from_first (Some row) z later rows = if is_removed z later then rows else tag z (last_record row z later) ∷ without z rows

-- each zone by its last commit, unless that one removes it; zones in the order of the first commits after their last removals
abbrev pub stored : List Commit → Rows
stored [] = []
stored (c ∷ commits) = from_first c.stored c.zone commits (stored commits)

-- one commit more: a stored zone gets its new record in its place and a new one at the end, and a removed one goes
abbrev pub with_stored : Name → Option Record → Rows → Rows
with_stored z None rows = without z rows
with_stored z (Some row) rows = placed z row rows

abbrev pub with_commit : Commit → Rows → Rows
with_commit c rows = with_stored c.zone c.stored rows

abbrev pub holds : Name → Rows → Bool
holds z rows = list_any (λ o. bytes_eq z o.zone) rows

-- only a stored zone is removed, and a new one needs its place
abbrev pub may_stand : Name → Option Record → Rows → Bool
may_stand z None rows = holds z rows
may_stand z (Some row) rows = holds z rows || nat_lt (length rows) ZONES_MAX

abbrev pub may_follow : List Commit → Commit → Bool
may_follow commits c = may_stand c.zone c.stored (stored commits)

-- a law: the zones after one commit more are those before with the commit applied
abbrev pub AppliesOneByOne : Type 0
AppliesOneByOne = (commits : List Commit) (c : Commit) → stored (commits ++ c ∷ []) ≡ with_commit c (stored commits)
