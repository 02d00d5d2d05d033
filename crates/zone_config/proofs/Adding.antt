-- A resource put last in its kind, once it was checked that it may be.
use Rattle.std.proofs.Common.{◌≡◌, ℕ, true, false, Ok}
use Rattle.config_terms.specs.declared.terms.Resource.{Resource}
use Rattle.config_terms.specs.Allowed.{is_allowed}
use Rattle.zone_config.specs.declared.terms.Contents.{Contents}
use Rattle.zone_config.specs.Resources.{added, has_taken, length_of, limit_passed, unless_passed, with_resource}
use Rattle.zone_config.specs.Sound.{IsKept}
use Rattle.zone_config.proofs.ResourceEdits.{checked_by, kept_added}

-- an allowed one whose key is free is only kept out by a limit
pub free_added : (r : Resource) (c : Contents) → is_allowed r ≡ true → has_taken r c ≡ false → with_resource r c ≡ unless_passed (limit_passed r c) (added r c)
unfolding with_resource
free_added r c allowed free = rw (allowed, free)

-- what is there then, and how long its text is
pub record IsAdded (r : Resource) (c : Contents) (n : ℕ) : Type 0 where
  pub kept : IsKept (added r c) n
  pub answer : with_resource r c ≡ Ok (added r c)

pub checked_added : (r : Resource) (c : Contents) (size n : ℕ) → IsKept c size → length_of (with_resource r c) ≡ Ok n → IsAdded r c n
unfolding with_resource
checked_added r c size n k h =
    let all = checked_by (is_allowed r) (has_taken r c) (limit_passed r c) (added r c) n h in
    record { kept = kept_added r c size n k all.0 all.1.0 all.1.1.0 all.1.1.1.0 all.1.1.1.1.0; answer = all.1.1.1.1.1 }
