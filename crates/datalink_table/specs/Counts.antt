-- How many items of each kind are declared.
use Rattle.std.specs.Prelude.{ℕ, ◌+◌}
use Rattle.datalink_table.specs.declared.claims.ClaimKind.{ClaimKind}
use Rattle.datalink_table.specs.declared.claims.ClaimKind.TheVariants.{Link, Address, Dataset}
use Rattle.datalink_table.specs.declared.counts.Counts.{Counts}

abbrev pub count_in : ClaimKind → Counts → ℕ
count_in Link n = n.links
count_in Address n = n.addresses
count_in Dataset n = n.datasets

-- one more of a kind
abbrev pub counting : ClaimKind → Counts → Counts
counting Link n = record n { links = n.links + 1 }
counting Address n = record n { addresses = n.addresses + 1 }
counting Dataset n = record n { datasets = n.datasets + 1 }
