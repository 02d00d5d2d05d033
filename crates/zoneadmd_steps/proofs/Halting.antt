-- What is next in a halt.
use Rattle.std.proofs.Common.{◌≡◌, ◌∷◌, [], List, Option, Some, None, true, refl, subst}
use Rattle.std.specs.List.{list_all}
use Rattle.std.proofs.lemmas.Bool.{and_parts}
use Rattle.loopback_mounts.specs.Mounts.{last_of}
use Rattle.loopback_mounts.specs.declared.mount.MountEntry.{MountEntry}
use Rattle.datalink_table.specs.declared.claims.Claim.{Claim}
use Rattle.zoneadmd_steps.specs.Halts.{is_of_halt}
use Rattle.zoneadmd_steps.specs.Objects.{Objects}
use Rattle.zoneadmd_steps.specs.Turns.{A_claim_left, A_mount, A_step, Next, claim_or, mount_or, next}
use Rattle.zoneadmd_steps.specs.declared.requests.Step.{Step}
use Rattle.zoneadmd_steps.specs.declared.requests.Step.TheVariants.{Unmount, Release}

-- a step that is next is one of a halt
abbrev Is_next_of_halt : Next → Type 0
Is_next_of_halt (A_step s rest) = is_of_halt s ≡ true
Is_next_of_halt _ = Unit {0}

of_mount : (left : List Step) (n : Next) (m : Option MountEntry) → Is_next_of_halt n → Is_next_of_halt (mount_or left n m)
of_mount left n None h = h
of_mount left n (Some m) h = tt

of_claim : (left : List Step) (n : Next) (c : Option Claim) → Is_next_of_halt n → Is_next_of_halt (claim_or left n c)
of_claim left n None h = h
of_claim left n (Some c) h = tt

of_next : (o : Objects) (left : List Step) → list_all is_of_halt left ≡ true → Is_next_of_halt (next o left)
of_next o [] h = tt
of_next o (Unmount dir ∷ rest) h = of_mount (Unmount dir ∷ rest) (next o rest) (last_of o.mounts) (of_next o rest h)
of_next o (Release c ∷ rest) h = of_claim (Release c ∷ rest) (next o rest) (last_of o.claims) (of_next o rest h)
of_next o (s ∷ rest) h = (and_parts (is_of_halt s) (list_all is_of_halt rest) h).0

pub next_of_halt : (o : Objects) (left : List Step) (s : Step) (rest : List Step) → list_all is_of_halt left ≡ true → next o left ≡ A_step s rest → is_of_halt s ≡ true
next_of_halt o left s rest h e = subst Is_next_of_halt e (of_next o left h)

-- a mount or a claim that is next is the last
abbrev Is_last_next : Objects → Next → Type 0
Is_last_next o (A_mount m left) = last_of o.mounts ≡ Some m
Is_last_next o (A_claim_left c left) = last_of o.claims ≡ Some c
Is_last_next o _ = Unit {0}

last_of_mount : (o : Objects) (left : List Step) (n : Next) (m : Option MountEntry) → last_of o.mounts ≡ m → Is_last_next o n → Is_last_next o (mount_or left n m)
last_of_mount o left n None e h = h
last_of_mount o left n (Some m) e h = e

last_of_claim : (o : Objects) (left : List Step) (n : Next) (c : Option Claim) → last_of o.claims ≡ c → Is_last_next o n → Is_last_next o (claim_or left n c)
last_of_claim o left n None e h = h
last_of_claim o left n (Some c) e h = e

last_next : (o : Objects) (left : List Step) → Is_last_next o (next o left)
last_next o [] = tt
last_next o (Unmount dir ∷ rest) = last_of_mount o (Unmount dir ∷ rest) (next o rest) (last_of o.mounts) refl (last_next o rest)
last_next o (Release c ∷ rest) = last_of_claim o (Release c ∷ rest) (next o rest) (last_of o.claims) refl (last_next o rest)
last_next o (s ∷ rest) = tt

pub last_mount : (o : Objects) (left : List Step) (m : MountEntry) (rest : List Step) → next o left ≡ A_mount m rest → last_of o.mounts ≡ Some m
last_mount o left m rest e = subst (Is_last_next o) e (last_next o left)

pub last_claim : (o : Objects) (left : List Step) (c : Claim) (rest : List Step) → next o left ≡ A_claim_left c rest → last_of o.claims ≡ Some c
last_claim o left c rest e = subst (Is_last_next o) e (last_next o left)
