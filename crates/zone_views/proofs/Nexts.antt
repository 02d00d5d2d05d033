-- What is next of some steps, and a request that begins.
use Rattle.std.proofs.Common.{◌≡◌, ◌∷◌, [], ℕ, List, Bool, true, false, Option, Some, None, refl}
use Rattle.brand_hooks.specs.Brands.{Tabled}
use Rattle.datalink_table.specs.declared.claims.Claim.{Claim}
use Rattle.loopback_mounts.specs.Mounts.{last_of}
use Rattle.loopback_mounts.specs.declared.mount.MountEntry.{MountEntry}
use Rattle.zn_base.specs.declared.state.ZoneState.{ZoneState}
use Rattle.zone_config.specs.declared.terms.Contents.{Contents}
use Rattle.zoneadmd_steps.specs.Objects.{Objects}
use Rattle.zoneadmd_steps.specs.Plans.{may_begin, refusal}
use Rattle.zoneadmd_steps.specs.Turns.{A_claim_left, A_mount, A_step, Next, Nothing_left, claim_or, mount_or, next}
use Rattle.zoneadmd_steps.specs.declared.requests.RequestKind.{RequestKind}
use Rattle.zoneadmd_steps.specs.declared.requests.Step.{Step}
use Rattle.zoneadmd_steps.specs.declared.requests.Step.TheVariants.{Release, Unmount}

-- what holds of the steps that are left holds of what is next, where it holds still without unmounts and releases
module _ (Q : List Step → Type 0) (unmounted : (dir : Option (List ℕ)) (rest : List Step) → Q (Unmount dir ∷ rest) → Q rest)
    (released : (c : Option Claim) (rest : List Step) → Q (Release c ∷ rest) → Q rest) (o : Objects) where
  abbrev pub Holds_next : Next → Type 0
  Holds_next Nothing_left = Q []
  Holds_next (A_step s rest) = Q (s ∷ rest)
  Holds_next (A_mount m left) = Q left
  Holds_next (A_claim_left c left) = Q left

  pub holds-next : (left : List Step) → Q left → Holds_next (next o left)
  holds-next [] h = h
  holds-next (Unmount dir ∷ rest) h = at_mount (last_of o.mounts) (holds-next rest (unmounted dir rest h))
    where
      at_mount : (m : Option MountEntry) → Holds_next (next o rest) → Holds_next (mount_or (Unmount dir ∷ rest) (next o rest) m)
      at_mount None ih = ih
      at_mount (Some m) ih = h
  holds-next (Release c ∷ rest) h = at_claim (last_of o.claims) (holds-next rest (released c rest h))
    where
      at_claim : (k : Option Claim) → Holds_next (next o rest) → Holds_next (claim_or (Release c ∷ rest) (next o rest) k)
      at_claim None ih = ih
      at_claim (Some k) ih = h
  holds-next (_ ∷ rest) h = h

-- what isn't refused may begin
pub begins : (brands : List Tabled) (k : RequestKind) (s : ZoneState) (c : Contents) → refusal brands k s c ≡ None → may_begin k s ≡ true
begins brands k s c h = at_test (may_begin k s) refl
  where
    at_test : (b : Bool) → may_begin k s ≡ b → b ≡ true
    at_test true e = refl
    at_test false e = let none = simp e at h in cc
