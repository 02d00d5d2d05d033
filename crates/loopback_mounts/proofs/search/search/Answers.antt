use Rattle.std.proofs.Common.{ℕ, Ok, Err, ◌≡◌, length, rules, true, List}
use Rattle.std.specs.Prelude.{Result, IfOk, IfErr}
use Rattle.std.specs.List.Sorted.{IsBinarySearchResult, IsSearchInRange}
use Rattle.std.proofs.lemmas.Fn.{always_returns_same}
use Rattle.loopback_mounts.specs.Mounts.{in_order}
use Rattle.loopback_mounts.specs.Search.{IsGapFor, IsPlaceOf}
use Rattle.loopback_mounts.specs.declared.mount.MountEntry.{MountEntry}
use Rattle.loopback_mounts.proofs.Orders.{against, search_found, search_free}
use Rattle.loopback_mounts.proofs.search.search.Goals as goal

found : (dir : List ℕ) (ms : List MountEntry) (r : Result ℕ ℕ) → in_order ms ≡ true → IsSearchInRange r (length ms) → IsBinarySearchResult (against dir) ms r → IfOk r (IsPlaceOf dir ms)
found dir ms (Ok i) o b h = search_found dir ms i o b h
found dir ms (Err i) o b h = tt

free : (dir : List ℕ) (ms : List MountEntry) (r : Result ℕ ℕ) → in_order ms ≡ true → IsSearchInRange r (length ms) → IsBinarySearchResult (against dir) ms r → IfErr r (IsGapFor dir ms)
free dir ms (Ok i) o b h = tt
free dir ms (Err i) o b h = search_free dir ms i o b h

pub returns : goal.returns
returns c =
    let facts = c.binary_search_by.ensures in
    let by_order = facts.position (against c.args.dir.now) (always_returns_same _ _ _ (λ a r g called. search rules)) in
    record {
      found = found c.args.dir.now c.args.mounts.now _ c.requires facts.bound by_order;
      free = free c.args.dir.now c.args.mounts.now _ c.requires facts.bound by_order;
    }
