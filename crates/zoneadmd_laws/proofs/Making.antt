-- What the steps of a ready part made, and how they are undone.
use Rattle.config_terms.specs.declared.terms.Fs.{Fs}
use Rattle.config_terms.specs.declared.terms.Kind.TheVariants as kind
use Rattle.config_terms.specs.declared.terms.Kind.{Kind}
use Rattle.datalink_table.specs.Claims.{holds, same_claim}
use Rattle.datalink_table.specs.declared.claims.Claim.{Claim}
use Rattle.kernel_objects.specs.declared.faults.Errno.TheVariants.{EBUSY}
use Rattle.kernel_objects.specs.declared.objects.Id.{Id}
use Rattle.loopback_mounts.specs.Mounts.{before, is_at, mount_answer, mount_at, with_hold}
use Rattle.loopback_mounts.specs.declared.faults.MountFault.TheVariants.{Refused, TooManyMounts}
use Rattle.loopback_mounts.specs.declared.mount.Mount.{Mount}
use Rattle.loopback_mounts.specs.declared.mount.MountEntry.{MountEntry}
use Rattle.std.proofs.Common.{◌≡◌, ◌≤◌, ◌<◌, ℕ, suc, List, [], ◌∷◌, ◌++◌, filter, not, map, Bool, true, false, ◌||◌, is_some, is_ok, Option, Some, None, Ok, Err, bytes_eq, length, nat_lt, if◌then◌else◌, ap, sym, refl, ◌∙◌, true≢false, arith, length-append}
use Rattle.std.proofs.lemmas.Bool.{lt-ltb}
use Rattle.std.proofs.lemmas.List.Folds.{list_any-append}
use Rattle.std.proofs.lemmas.List.{length-map}
use Rattle.std.specs.List.{list_any}
use Rattle.zone_config.specs.Kinds.{by_kind}
use Rattle.zone_config.specs.Sound.{AreSound, HasSoundResources, count}
use Rattle.zone_config.specs.declared.terms.Contents.{Contents}
use Rattle.zone_pools.specs.Firsts.{first_of}
use Rattle.zone_pools.specs.Owned_lists.{but_last, put}
use Rattle.zoneadmd_laws.proofs.Apart.{any_put, bytes_turned, differ_end, move}
use Rattle.zoneadmd_laws.proofs.Telling.{and_left}
use Rattle.zoneadmd_laws.proofs.Verified.{claim_turned}
use Rattle.zoneadmd_laws.specs.Agreement.{Fit, claims_by, dirs_by, is_one, made_claims, made_devices, made_mounts, settings_by}
use Rattle.zoneadmd_laws.specs.Lists.{all_differ}
use Rattle.zoneadmd_steps.specs.Configs.{fs_mount, mount_by, root_dir, root_mount}
use Rattle.zoneadmd_steps.specs.Objects.{keeping_zid}
use Rattle.zoneadmd_steps.specs.declared.requests.Step.TheVariants as step
use Rattle.zoneadmd_steps.specs.declared.requests.Step.{Step}

abbrev pub no_way : {A : Type 0} → false ≡ true → A
no_way h = absurd (true≢false (sym h))

-- tests
pub or_left : (a b : Bool) → (a || b) ≡ false → a ≡ false
or_left true b h = h
or_left false b h = refl

pub or_right : (a b : Bool) → (a || b) ≡ false → b ≡ false
or_right true b h = absurd (true≢false h)
or_right false b h = h

pub isn't : (b : Bool) → not b ≡ true → b ≡ false
isn't true h = no_way h
isn't false h = refl

-- one id stays one
pub one_still : (f : Id → Id) (is : List Id) → is_one is ≡ true → is_one (map (keeping_zid f) is) ≡ true
one_still f [] h = h
one_still f (i ∷ []) h = h
one_still f (i ∷ k ∷ is) h = h

-- a list and its item that came last
pub last_gone : {A : Type 0} (xs : List A) (x : A) → but_last (xs ++ x ∷ []) ≡ xs
last_gone [] x = refl
last_gone (y ∷ []) x = refl
last_gone (y ∷ z ∷ xs) x = ap (λ xs. y ∷ xs) (last_gone (z ∷ xs) x)

-- mounts, held or not
abbrev pub freed : List MountEntry → List MountEntry
freed ms = map (with_hold false) ms

abbrev pub entry : Mount → MountEntry
entry m = record { mount = m; held = false }

pub freed_put : (m : Mount) (ms : List MountEntry) → freed (put (before m.dir) (entry m) ms) ≡ put (before m.dir) (entry m) (freed ms)
freed_put m [] = refl
freed_put m (x ∷ ms) = go (before m.dir x) (freed_put m ms)
  where
    go : (b : Bool) → freed (put (before m.dir) (entry m) ms) ≡ put (before m.dir) (entry m) (freed ms)
        → freed (if b then x ∷ put (before m.dir) (entry m) ms else entry m ∷ x ∷ ms) ≡ (if b then with_hold false x ∷ put (before m.dir) (entry m) (freed ms) else entry m ∷ with_hold false x ∷ freed ms)
    go true h = ap (λ ms. with_hold false x ∷ ms) h
    go false h = refl

pub no_mounts : (ms : List MountEntry) → freed ms ≡ [] → ms ≡ []
no_mounts [] h = refl
no_mounts (x ∷ ms) h = cc

any_freed : (d : List ℕ) (ms : List MountEntry) → list_any (is_at d) (freed ms) ≡ list_any (is_at d) ms
any_freed d [] = refl
any_freed d (m ∷ ms) = ap (λ b. is_at d m || b) (any_freed d ms)

dir_of : (d : List ℕ) (o : Option Fs) → (mount_by d o).dir ≡ d
dir_of d None = refl
dir_of d (Some f) = refl

pub fs_dir : (c : Contents) (d : List ℕ) → (fs_mount c d).dir ≡ d
fs_dir c d = dir_of d _

-- what no step mounts isn't mounted
pub none_at : (c : Contents) (d : List ℕ) (made : List Step) → list_any (bytes_eq d) (dirs_by made) ≡ false → list_any (is_at d) (made_mounts c made) ≡ false
none_at c d [] h = refl
none_at c d (step.Root ∷ made) h =
    any_put (is_at d) (before (root_mount c).dir) (entry (root_mount c)) (made_mounts c made) ∙ (λ i. (bytes_turned root_dir d ∙ or_left (bytes_eq d root_dir) _ h) i || none_at c d made (or_right _ _ h) i)
none_at c d (step.Mounted e ∷ made) h =
    any_put (is_at d) (before (fs_mount c e).dir) (entry (fs_mount c e)) (made_mounts c made)
    ∙ (λ i. (ap (λ k. bytes_eq k d) (fs_dir c e) ∙ (bytes_turned e d ∙ or_left (bytes_eq d e) _ h)) i || none_at c d made (or_right _ _ h) i)
none_at c d (_ ∷ made) h = none_at c d made h

put_length : (p : MountEntry → Bool) (x : MountEntry) (xs : List MountEntry) → length (put p x xs) ≡ suc (length xs)
put_length p x [] = refl
put_length p x (y ∷ xs) = go (p y) (put_length p x xs)
  where
    go : (b : Bool) → length (put p x xs) ≡ suc (length xs) → length (if b then y ∷ put p x xs else x ∷ y ∷ xs) ≡ suc (length (y ∷ xs))
    go true h = ap suc h
    go false h = refl

made_length : (c : Contents) (made : List Step) → length (made_mounts c made) ≡ length (dirs_by made)
made_length c [] = refl
made_length c (step.Root ∷ made) = put_length (before (root_mount c).dir) (entry (root_mount c)) (made_mounts c made) ∙ ap suc (made_length c made)
made_length c (step.Mounted e ∷ made) = put_length (before (fs_mount c e).dir) (entry (fs_mount c e)) (made_mounts c made) ∙ ap suc (made_length c made)
made_length c (_ ∷ made) = made_length c made

-- by mount(2) a mount comes where there is none, and where there are few
none_found : (d : List ℕ) (ms : List MountEntry) → list_any (is_at d) ms ≡ false → is_some (mount_at d ms) ≡ false
none_found d [] h = refl
none_found d (m ∷ ms) h = ap (λ b. is_some (first_of (if b then m ∷ filter (is_at d) ms else filter (is_at d) ms))) (or_left _ _ h) ∙ none_found d ms (or_right _ _ h)

pub free_there : (d : List ℕ) (ms : List MountEntry) → list_any (is_at d) ms ≡ false → length ms < 128 → is_ok (mount_answer d ms) ≡ true
free_there d ms h few =
    ap (λ b. is_ok (if b then Err (Refused EBUSY) else if nat_lt (length ms) 128 then Ok tt else Err TooManyMounts)) (none_found d ms h)
    ∙ ap (λ b. is_ok (if b then Ok tt else Err TooManyMounts)) (lt-ltb (length ms) 128 few)

-- a mount that came goes
abbrev pub without : List ℕ → List MountEntry → List MountEntry
without d ms = filter (λ m. not (is_at d m)) ms

without_none : (d : List ℕ) (ms : List MountEntry) → list_any (is_at d) ms ≡ false → without d ms ≡ ms
without_none d [] h = refl
without_none d (x ∷ ms) h = ap (λ b. if not b then x ∷ without d ms else without d ms) (or_left (is_at d x) _ h) ∙ ap (λ ms. x ∷ ms) (without_none d ms (or_right (is_at d x) _ h))

pub without_put : (d : List ℕ) (p : MountEntry → Bool) (m : MountEntry) (ms : List MountEntry) → is_at d m ≡ true → list_any (is_at d) ms ≡ false → without d (put p m ms) ≡ ms
without_put d p m [] e h = ap (λ b. if not b then m ∷ [] else []) e
without_put d p m (x ∷ ms) e h = go (p x) (without_put d p m ms e (or_right (is_at d x) _ h))
  where
    go : (b : Bool) → without d (put p m ms) ≡ ms → without d (if b then x ∷ put p m ms else m ∷ x ∷ ms) ≡ x ∷ ms
    go true f = ap (λ b. if not b then x ∷ without d (put p m ms) else without d (put p m ms)) (or_left (is_at d x) _ h) ∙ ap (λ ms. x ∷ ms) f
    go false f = ap (λ b. if not b then m ∷ without d (x ∷ ms) else without d (x ∷ ms)) e ∙ without_none d (x ∷ ms) h

pub freed_without : (d : List ℕ) (ms : List MountEntry) → freed (without d ms) ≡ without d (freed ms)
freed_without d [] = refl
freed_without d (x ∷ ms) = go (is_at d x) (freed_without d ms)
  where
    go : (b : Bool) → freed (without d ms) ≡ without d (freed ms) → freed (if not b then x ∷ without d ms else without d ms) ≡ (if not b then with_hold false x ∷ without d (freed ms) else without d (freed ms))
    go true h = h
    go false h = ap (λ ms. with_hold false x ∷ ms) h

-- claims and devices
or_last : (a b : Bool) → (a || (b || false)) ≡ (b || a)
or_last true true = refl
or_last true false = refl
or_last false true = refl
or_last false false = refl

claims_made : (x : Claim) (made : List Step) → holds x (made_claims made) ≡ list_any (same_claim x) (claims_by made)
claims_made x [] = refl
claims_made x (step.Claimed c ∷ made) = list_any-append (same_claim x) (made_claims made) (c ∷ []) ∙ (or_last _ (same_claim x c) ∙ ap (λ b. same_claim x c || b) (claims_made x made))
claims_made x (_ ∷ made) = claims_made x made

pub no_devices : (c : Contents) (declared : List (List ℕ)) (made : List Step) → settings_by made ≡ 0 → made_devices c declared made ≡ []
no_devices c declared [] h = refl
no_devices c declared (step.Devices n ∷ made) h = cc
no_devices c declared (_ ∷ made) h = no_devices c declared made h

-- what a step says of those after it and those made
back_apart : {A : Type 0} (eq : A → A → Bool) (x : A) (xs ys : List A) → all_differ eq (x ∷ (xs ++ ys)) ≡ true → list_any (eq x) ys ≡ false
back_apart eq x xs ys h = or_right (list_any (eq x) xs) _ (sym (list_any-append (eq x) xs ys) ∙ isn't _ (and_left _ _ h))

moved_few : {A : Type 0} (x : A) (xs ys : List A) → suc (length (xs ++ ys)) ≤ 128 → length (xs ++ x ∷ ys) ≤ 128
moved_few x xs ys h = omega (arith, length-append xs (x ∷ ys), length-append xs ys)

pub fit_end : (left made : List Step) → Fit left made → Fit [] made
fit_end left made f = record {
  dirs = differ_end bytes_eq bytes_turned (dirs_by left) (dirs_by made) f.dirs;
  few = omega (arith, length-append (dirs_by left) (dirs_by made), f.few);
  claims = differ_end same_claim claim_turned (claims_by left) (claims_by made) f.claims;
  devices = omega (arith, f.devices);
}

pub fit_root : (rest made : List Step) → Fit (step.Root ∷ rest) made → Fit rest (step.Root ∷ made)
fit_root rest made f = record { dirs = move bytes_eq bytes_turned root_dir (dirs_by rest) (dirs_by made) ∙ f.dirs; few = moved_few root_dir (dirs_by rest) (dirs_by made) f.few; claims = f.claims; devices = f.devices }

pub fit_mounted : (d : List ℕ) (rest made : List Step) → Fit (step.Mounted d ∷ rest) made → Fit rest (step.Mounted d ∷ made)
fit_mounted d rest made f = record { dirs = move bytes_eq bytes_turned d (dirs_by rest) (dirs_by made) ∙ f.dirs; few = moved_few d (dirs_by rest) (dirs_by made) f.few; claims = f.claims; devices = f.devices }

pub fit_claimed : (c : Claim) (rest made : List Step) → Fit (step.Claimed c ∷ rest) made → Fit rest (step.Claimed c ∷ made)
fit_claimed c rest made f = record { dirs = f.dirs; few = f.few; claims = move same_claim claim_turned c (claims_by rest) (claims_by made) ∙ f.claims; devices = f.devices }

pub fit_devices : (m n : Option ℕ) (rest made : List Step) → Fit (step.Devices m ∷ rest) made → Fit rest (step.Devices n ∷ made)
fit_devices m n rest made f = record { dirs = f.dirs; few = f.few; claims = f.claims; devices = omega (arith, f.devices) }

-- the guards, where steps are fit
pub root_free : (c : Contents) (rest made : List Step) (ms : List MountEntry) → Fit (step.Root ∷ rest) made → freed ms ≡ made_mounts c made → is_ok (mount_answer root_dir ms) ≡ true
root_free c rest made ms f e =
    free_there root_dir ms (sym (any_freed root_dir ms) ∙ (ap (list_any (is_at root_dir)) e ∙ none_at c root_dir made (back_apart bytes_eq root_dir (dirs_by rest) (dirs_by made) f.dirs)))
    (omega (arith, length-map ms (with_hold false), ap length e, made_length c made, f.few, length-append (dirs_by rest) (dirs_by made)))

pub fs_free : (c : Contents) (d : List ℕ) (rest made : List Step) (ms : List MountEntry) → Fit (step.Mounted d ∷ rest) made → freed ms ≡ made_mounts c made → is_ok (mount_answer d ms) ≡ true
fs_free c d rest made ms f e =
    free_there d ms (sym (any_freed d ms) ∙ (ap (list_any (is_at d)) e ∙ none_at c d made (back_apart bytes_eq d (dirs_by rest) (dirs_by made) f.dirs)))
    (omega (arith, length-map ms (with_hold false), ap length e, made_length c made, f.few, length-append (dirs_by rest) (dirs_by made)))

pub claim_fresh : (c : Claim) (rest made : List Step) (cs : List Claim) → Fit (step.Claimed c ∷ rest) made → cs ≡ made_claims made → holds c cs ≡ false
claim_fresh c rest made cs f e = ap (holds c) e ∙ (claims_made c made ∙ back_apart same_claim c (claims_by rest) (claims_by made) f.claims)

-- a move keeps the resources
sound_kind : (c : Contents) (path : Option (List ℕ)) (k : Kind) → by_kind k (λ A row. AreSound row (row.list c)) → by_kind k (λ A row. AreSound row (row.list (record c { zonepath = path })))
sound_kind c path kind.Fs h = h
sound_kind c path kind.Net h = h
sound_kind c path kind.Device h = h
sound_kind c path kind.Rctl h = h
sound_kind c path kind.Attr h = h
sound_kind c path kind.Dataset h = h

pub kept_resources : (c : Contents) (path : Option (List ℕ)) → HasSoundResources c → HasSoundResources (record c { zonepath = path })
unfolding count
kept_resources c path h = record { kinds = λ k. sound_kind c path k (h.kinds k); few = h.few }
