-- What is in a list, and in the tables of a zone.
use Rattle.std.proofs.Common.{◌≡◌, ◌⊎◌, ◌++◌, ◌∷◌, [], ℕ, zero, suc, Bool, List, true, false, inl, inr, ap, arith, filter, map, refl, subst}
use Rattle.std.specs.Prelude.{if◌then◌else◌}
use Rattle.std.specs.List.{All, AllByRecursion, Contains, flat_map}
use Rattle.datalink_table.specs.declared.claims.Claim.{Claim}
use Rattle.kernel_objects.specs.Processes.{Process}
use Rattle.kernel_objects.specs.declared.objects.Id.{Id}
use Rattle.loopback_mounts.specs.declared.mount.MountEntry.{MountEntry}
use Rattle.zn_base.specs.Names.{Name}
use Rattle.zone_pools.specs.Owned_lists.{put}
use Rattle.zoneadmd_steps.specs.Objects.{Objects}
use Rattle.zone_views.specs.Naming.{Device, Object, claim, id, mount, object, process, tables}

abbrev pub IsIn : {A : Type 0} → A → List A → Type 0
IsIn x [] = ⊥
IsIn x (y ∷ ys) = (y ≡ x) ⊎ IsIn x ys

pub in-left : {A : Type 0} (x : A) (xs ys : List A) → IsIn x xs → IsIn x (xs ++ ys)
in-left x [] ys h = absurd h
in-left x (y ∷ xs) ys (inl e) = inl e
in-left x (y ∷ xs) ys (inr h) = inr (in-left x xs ys h)

pub in-right : {A : Type 0} (x : A) (xs ys : List A) → IsIn x ys → IsIn x (xs ++ ys)
in-right x [] ys h = h
in-right x (y ∷ xs) ys h = inr (in-right x xs ys h)

pub in-map : {A B : Type 0} (f : A → B) (x : A) (xs : List A) → IsIn x xs → IsIn (f x) (map f xs)
in-map f x [] h = absurd h
in-map f x (y ∷ xs) (inl e) = inl (ap f e)
in-map f x (y ∷ xs) (inr h) = inr (in-map f x xs h)

pub in-put : {A : Type 0} (p : A → Bool) (x : A) (xs : List A) → IsIn x (put p x xs)
in-put p x [] = inl refl
in-put p x (y ∷ xs) = at_test (in-put p x xs) (p y)
  where
    at_test : IsIn x (put p x xs) → (b : Bool) → IsIn x (if b then y ∷ put p x xs else x ∷ y ∷ xs)
    at_test ih true = inr ih
    at_test ih false = inl refl

pub in-put-other : {A : Type 0} (p : A → Bool) (x z : A) (xs : List A) → IsIn z xs → IsIn z (put p x xs)
in-put-other p x z [] h = absurd h
in-put-other p x z (y ∷ xs) h = at_test (in-put-other p x z xs) (p y) h
  where
    at_test : (IsIn z xs → IsIn z (put p x xs)) → (b : Bool) → IsIn z (y ∷ xs) → IsIn z (if b then y ∷ put p x xs else x ∷ y ∷ xs)
    at_test ih true (inl e) = inl e
    at_test ih true (inr h) = inr (ih h)
    at_test ih false h = inr h

-- what is in a list with something put into it
pub of-put : {A : Type 0} (p : A → Bool) (x z : A) (xs : List A) → IsIn z (put p x xs) → (x ≡ z) ⊎ IsIn z xs
of-put p x z [] (inl e) = inl e
of-put p x z [] (inr h) = absurd h
of-put p x z (y ∷ xs) h = at_test (of-put p x z xs) (p y) h
  where
    at_test : (IsIn z (put p x xs) → (x ≡ z) ⊎ IsIn z xs) → (b : Bool) → IsIn z (if b then y ∷ put p x xs else x ∷ y ∷ xs) → (x ≡ z) ⊎ IsIn z (y ∷ xs)
    at_test ih true (inl e) = inr (inl e)
    at_test ih true (inr h) = elim (ih h) [ inl e ↦ inl e | inr k ↦ inr (inr k) ]
    at_test ih false (inl e) = inl e
    at_test ih false (inr h) = inr h

pub of-filter : {A : Type 0} (p : A → Bool) (x : A) (xs : List A) → IsIn x (filter p xs) → IsIn x xs × (p x ≡ true)
of-filter p x [] h = absurd h
of-filter {A = A} p x (y ∷ xs) h = at_test (of-filter p x xs) (p y) refl h
  where
    at_test : (IsIn x (filter p xs) → IsIn x xs × (p x ≡ true)) → (b : Bool) → p y ≡ b → IsIn x (if b then y ∷ filter p xs else filter p xs) → IsIn x (y ∷ xs) × (p x ≡ true)
    at_test ih true e (inl same) = (inl same, subst (λ (v : A). p v ≡ true) same e)
    at_test ih true e (inr h) = let k = ih h in (inr k.0, k.1)
    at_test ih false e h = let k = ih h in (inr k.0, k.1)

pub in-filter : {A : Type 0} (p : A → Bool) (x : A) (xs : List A) → IsIn x xs → p x ≡ true → IsIn x (filter p xs)
in-filter p x [] h e = absurd h
in-filter {A = A} p x (y ∷ xs) h e = at_test (λ k. in-filter p x xs k e) (p y) refl h
  where
    at_test : (IsIn x xs → IsIn x (filter p xs)) → (b : Bool) → p y ≡ b → IsIn x (y ∷ xs) → IsIn x (if b then y ∷ filter p xs else filter p xs)
    at_test ih true f (inl same) = inl same
    at_test ih true f (inr h) = inr (ih h)
    at_test ih false f (inl same) = let wrong = subst (λ (v : A). p v ≡ false) same f in absurd (cc)
    at_test ih false f (inr h) = ih h

pub of-map : {A B : Type 0} (f : A → B) (y : B) (xs : List A) → IsIn y (map f xs) → (x : A) × (IsIn x xs) × (f x ≡ y)
of-map f y [] h = absurd h
of-map f y (x ∷ xs) (inl e) = (x, inl refl, e)
of-map f y (x ∷ xs) (inr h) = let k = of-map f y xs h in (k.0, inr k.1, k.2)

-- each of a list, by recursion
pub each-none : {A : Type 0} (P : A → Type 0) → AllByRecursion P []
each-none P = tt

pub each-both : {A : Type 0} (P : A → Type 0) (xs ys : List A) → AllByRecursion P xs → AllByRecursion P ys → AllByRecursion P (xs ++ ys)
each-both P [] ys h k = k
each-both P (x ∷ xs) ys h k = (h.0, each-both P xs ys h.1 k)

pub each-map : {A B : Type 0} (P : B → Type 0) (f : A → B) (xs : List A) → ((x : A) → IsIn x xs → P (f x)) → AllByRecursion P (map f xs)
each-map P f [] h = tt
each-map P f (x ∷ xs) h = (h x (inl refl), each-map P f xs (λ y k. h y (inr k)))

pub each-flat : {A B : Type 0} (P : B → Type 0) (f : A → List B) (xs : List A) → ((x : A) → IsIn x xs → AllByRecursion P (f x)) → AllByRecursion P (flat_map f xs)
each-flat P f [] h = tt
each-flat P f (x ∷ xs) h = each-both P (f x) (flat_map f xs) (h x (inl refl)) (each-flat P f xs (λ y k. h y (inr k)))

pub each-so : {A : Type 0} (P Q : A → Type 0) (xs : List A) → ((x : A) → P x → Q x) → AllByRecursion P xs → AllByRecursion Q xs
each-so P Q [] f h = tt
each-so P Q (x ∷ xs) f h = (f x h.0, each-so P Q xs f h.1)

pub all-of : {A : Type 0} (P : A → Type 0) (xs : List A) → AllByRecursion P xs → All P xs
all-of P [] h k d less = absurd (omega (arith, less))
all-of P (x ∷ xs) h zero d less = h.0
all-of P (x ∷ xs) h (suc k) d less = all-of P xs h.1 k d (omega (arith, less))

pub contained : {A : Type 0} (x : A) (xs : List A) → IsIn x xs → Contains xs x
contained x [] h = absurd h
contained x (y ∷ xs) (inl e) = (0, omega arith, e)
contained x (y ∷ xs) (inr h) = let k = contained x xs h in (suc k.0, omega (arith, k.1), k.2)

-- what is in the tables of z
module _ (z : Name) (o : Objects) where
  abbrev processes : List Object
  processes = map (λ p. process z p.pid) o.processes

  abbrev mounts : List Object
  mounts = map (λ m. mount z m.mount.dir) o.mounts

  abbrev claims : List Object
  claims = map (claim z) o.claims

  abbrev devices : List Object
  devices = map (object z Device) o.devices

  abbrev ids : List Object
  ids = map (λ i. id z i.zid) o.ids

  in-processes : (x : Object) → IsIn x processes → IsIn x (tables z o)
  in-processes x h = in-left x (processes ++ mounts ++ claims ++ devices) ids (in-left x (processes ++ mounts ++ claims) devices (in-left x (processes ++ mounts) claims (in-left x processes mounts h)))

  in-mounts : (x : Object) → IsIn x mounts → IsIn x (tables z o)
  in-mounts x h = in-left x (processes ++ mounts ++ claims ++ devices) ids (in-left x (processes ++ mounts ++ claims) devices (in-left x (processes ++ mounts) claims (in-right x processes mounts h)))

  in-claims : (x : Object) → IsIn x claims → IsIn x (tables z o)
  in-claims x h = in-left x (processes ++ mounts ++ claims ++ devices) ids (in-left x (processes ++ mounts ++ claims) devices (in-right x (processes ++ mounts) claims h))

  in-devices : (x : Object) → IsIn x devices → IsIn x (tables z o)
  in-devices x h = in-left x (processes ++ mounts ++ claims ++ devices) ids (in-right x (processes ++ mounts ++ claims) devices h)

  in-ids : (x : Object) → IsIn x ids → IsIn x (tables z o)
  in-ids x h = in-right x (processes ++ mounts ++ claims ++ devices) ids h

  pub has-process : (p : Process) → IsIn p o.processes → IsIn (process z p.pid) (tables z o)
  has-process p h = in-processes _ (in-map (λ (p : Process). process z p.pid) p o.processes h)

  pub has-mount : (m : MountEntry) → IsIn m o.mounts → IsIn (mount z m.mount.dir) (tables z o)
  has-mount m h = in-mounts _ (in-map (λ (m : MountEntry). mount z m.mount.dir) m o.mounts h)

  pub has-claim : (c : Claim) → IsIn c o.claims → IsIn (claim z c) (tables z o)
  has-claim c h = in-claims _ (in-map (claim z) c o.claims h)

  pub has-device : (path : List ℕ) → IsIn path o.devices → IsIn (object z Device path) (tables z o)
  has-device path h = in-devices _ (in-map (object z Device) path o.devices h)

  pub has-id : (i : Id) → IsIn i o.ids → IsIn (id z i.zid) (tables z o)
  has-id i h = in-ids _ (in-map (λ (i : Id). id z i.zid) i o.ids h)
