-- What the definitions say of some mounts and paths.
use Rattle.std.proofs.Common.{◌≡◌, ℕ, List, Bool, [], ◌∷◌, Option, Some, Ok, Err, true, false, codes, map, refl}
use Rattle.std.specs.Option.{option_map}
use Rattle.kernel_objects.specs.declared.faults.Errno.TheVariants.{EBUSY, EINVAL, EROFS}
use Rattle.loopback_mounts.specs.Mounts.{hold_answer, in_order, last_of, mounted, release_answer, unmount_answer}
use Rattle.loopback_mounts.specs.Paths.{components, covers, is_below, rest_below}
use Rattle.loopback_mounts.specs.Places.{Found, mount_over, place_text, resolved}
use Rattle.loopback_mounts.specs.declared.faults.HoldFault.TheVariants.{HoldState, NoMount}
use Rattle.loopback_mounts.specs.declared.faults.MountFault.TheVariants.{Refused}
use Rattle.loopback_mounts.specs.declared.mount.Mount.{Mount}
use Rattle.loopback_mounts.specs.declared.mount.MountEntry.{MountEntry}

parts : map components (codes "/" ∷ codes "/usr" ∷ codes "/usr/local" ∷ []) ≡ [] ∷ (codes "usr" ∷ []) ∷ (codes "usr" ∷ codes "local" ∷ []) ∷ []
parts = refl

-- by whole components
over : map (covers (codes "/usr")) (codes "/usr" ∷ codes "/usr/bin" ∷ codes "/usrx/a" ∷ codes "/" ∷ []) ≡ true ∷ true ∷ false ∷ false ∷ []
over = refl

below : map (is_below (codes "/usr")) (codes "/usr" ∷ codes "/usr/bin" ∷ codes "/usrx/a" ∷ codes "/" ∷ []) ≡ false ∷ true ∷ false ∷ false ∷ []
below = refl

rests : rest_below (codes "/") (codes "/a/b") ∷ rest_below (codes "/a") (codes "/a/b") ∷ rest_below (codes "/a/b") (codes "/a/b") ∷ rest_below (codes "/") (codes "/") ∷ []
    ≡ codes "/a/b" ∷ codes "/b" ∷ [] ∷ [] ∷ []
rests = refl

abbrev mount : List ℕ → List ℕ → Bool → Mount
mount dir special read_only = record { dir = dir; fstype = codes "lofs"; special = special; read_only = read_only; by_process = true }

abbrev entry : List ℕ → List ℕ → Bool → Bool → MountEntry
entry dir special read_only held = record { mount = mount dir special read_only; held = held }

abbrev some : List MountEntry
some = entry (codes "/") (codes "/r") false false ∷ entry (codes "/usr") (codes "/usr") true true ∷ entry (codes "/usr/local") (codes "/l") false false ∷ []

abbrev dir_of : Option MountEntry → Option (List ℕ)
dir_of o = option_map (λ (m : MountEntry). m.mount.dir) o

mounts_over : map (λ path. dir_of (mount_over some path)) (codes "/usrx" ∷ codes "/usr/bin" ∷ codes "/usr/local" ∷ []) ≡ Some (codes "/") ∷ Some (codes "/usr") ∷ Some (codes "/usr/local") ∷ []
mounts_over = refl

writes : resolved some (codes "/usr/bin") true ≡ Err (Refused EROFS)
writes = refl

-- in byte order `-` comes before `/`
placed : map (λ (m : MountEntry). m.mount.dir) (mounted (mount (codes "/usr-x") (codes "/x") false) some) ≡ codes "/" ∷ codes "/usr" ∷ codes "/usr-x" ∷ codes "/usr/local" ∷ []
placed = refl

ordered : in_order (mounted (mount (codes "/usr-x") (codes "/x") false) some) ≡ true
ordered = refl

last : dir_of (last_of some) ≡ Some (codes "/usr/local")
last = refl

unmounts : map (λ dir. unmount_answer dir some) (codes "/x" ∷ codes "/usr" ∷ codes "/" ∷ codes "/usr/local" ∷ [])
    ≡ Err (Refused EINVAL) ∷ Err (Refused EBUSY) ∷ Err (Refused EBUSY) ∷ Ok (mount (codes "/usr/local") (codes "/l") false) ∷ []
unmounts = refl

holds : map (λ dir. hold_answer dir some) (codes "/x" ∷ codes "/usr" ∷ codes "/" ∷ []) ≡ Err NoMount ∷ Err HoldState ∷ Ok tt ∷ []
holds = refl

releases : map (λ dir. release_answer dir some) (codes "/x" ∷ codes "/usr" ∷ codes "/" ∷ []) ≡ Err NoMount ∷ Ok tt ∷ Err HoldState ∷ []
releases = refl

abbrev found : List ℕ → List ℕ → List ℕ → Found
found fstype special rest = record { fstype = fstype; special = special; rest = rest }

texts : map place_text (found (codes "lofs") (codes "/") (codes "/a") ∷ found (codes "root") (codes "/r") (codes "/a") ∷ found (codes "lofs") (codes "/") [] ∷ found (codes "nfs") (codes "/") (codes "/a") ∷ [])
    ≡ codes "/a" ∷ codes "/r/a" ∷ codes "/" ∷ codes "<nfs:/>/a" ∷ []
texts = refl
