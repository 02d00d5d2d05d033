-- The pools that are asked, each with the item that is asked of it.
use Rattle.std.specs.Prelude.{ℕ, List}
use Rattle.zn_base.specs.Names.{Name}
use Rattle.zone_pools.specs.declared.grant.Pool.{Pool}
use Rattle.zone_pools.specs.declared.grant.Pool.TheVariants.{Pids, Zids, Zones, Paths, Store, Source}

pub data Asked : Type 0 where
  A_pid : Asked
  A_zid : Asked
  A_zone : Asked
  A_path : List ℕ → Asked
  -- a record's number, by how many bytes what is stored has under each number
  A_serial : (ℕ → ℕ) → Asked
  -- an item of the pool of its kind: a link, an address or a dataset
  An_item : Pool → List ℕ → Asked
  -- the zone of a name, to be cloned
  A_source : Name → Asked

abbrev pub pool_of : Asked → Pool
pool_of A_pid = Pids
pool_of A_zid = Zids
pool_of A_zone = Zones
pool_of (A_path path) = Paths
pool_of (A_serial size) = Store
pool_of (An_item pool item) = pool
pool_of (A_source source) = Source
