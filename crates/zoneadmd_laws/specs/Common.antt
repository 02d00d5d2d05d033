-- What more than one zone may ask of a zone.
use Rattle.std.specs.Prelude.{ℕ, List, map, Option}
use Rattle.commit_journal.specs.declared.records.Record.{Record}
use Rattle.datalink_table.specs.declared.claims.Claim.{Claim}
use Rattle.zn_base.specs.declared.state.ZoneState.{ZoneState}
use Rattle.zoneadmd_steps.specs.Turns.{Seen}

pub record Common : Type 0 where
  pub pids : List ℕ
  pub zids : List ℕ
  pub claims : List Claim
  pub active : Option ZoneState
  pub stored : Option Record

abbrev pub common : Seen → Common
common v = record {
  pids = map (λ p. p.pid) v.objects.processes;
  zids = map (λ i. i.zid) v.objects.ids;
  claims = v.objects.claims;
  active = v.desk.active;
  stored = v.stored;
}
