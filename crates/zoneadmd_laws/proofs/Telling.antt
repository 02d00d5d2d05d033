-- Lists that tell of a plan.
use Rattle.loopback_mounts.proofs.Orders.{before_apart, bytes_itself}
use Rattle.loopback_mounts.specs.Mounts.{in_order, is_at, last_of, precedes}
use Rattle.loopback_mounts.specs.declared.mount.MountEntry.{MountEntry}
use Rattle.std.proofs.Common.{Bool, true, not, ◌&&◌, filter, is_some, unwrap_or, if◌then◌else◌, sym, ◌∙◌, true≢false, ◌≡◌, ℕ, List, [], ◌∷◌, map, false, Some, ap, refl}
use Rattle.std.specs.List.{list_all}
use Rattle.zn_base.specs.declared.state.ZoneState.TheVariants.{Ready}
use Rattle.zone_pools.specs.Owned_lists.{but_last}
use Rattle.zoneadmd_laws.specs.Afters.{done}
use Rattle.zoneadmd_laws.specs.Lists.{onto}
use Rattle.zoneadmd_laws.specs.Trails.{All_done, IsFront, One_failed, So_far, Tells, bare, bare_progress, failing, is_done}
use Rattle.zoneadmd_steps.specs.Desks.{Progress}
use Rattle.zoneadmd_steps.specs.Objects.{all_of}
use Rattle.zoneadmd_steps.specs.Turns.{with_step}
use Rattle.zoneadmd_steps.specs.declared.requests.Outcome.{Outcome}
use Rattle.zoneadmd_steps.specs.declared.requests.Step.TheVariants.{State}
use Rattle.zoneadmd_steps.specs.declared.requests.Step.{Step}
use Rattle.zoneadmd_steps.specs.declared.requests.TurnReply.TheVariants.{Stepped}
use Rattle.zoneadmd_steps.specs.declared.requests.TurnReply.{TurnReply}

pub tells_nil : (t : ℕ) (p : Progress) (steps : List Step) (L : List TurnReply → Type 0) → Tells t p steps L []
tells_nil t p steps L = So_far (map Stepped steps, refl)

-- one more step before
pub tells_cons : (t : ℕ) (p : Progress) (steps : List Step) (L : List TurnReply → Type 0) (s : Step) (rs : List TurnReply) → Tells t (with_step s p) steps L rs → Tells t p (s ∷ steps) L (Stepped s ∷ rs)
tells_cons t p steps L s rs (So_far (rest, e)) = So_far (rest, ap (λ xs. Stepped s ∷ xs) e)
tells_cons t p steps L s rs (All_done more e l) = All_done more (ap (λ xs. Stepped s ∷ xs) e) l
tells_cons t p steps L s rs (One_failed front x rest o more e f e' is) = One_failed (s ∷ front) x rest o more (ap (λ xs. s ∷ xs) e) f (ap (λ xs. Stepped s ∷ xs) e') is

pub tells_failed : (t : ℕ) (p : Progress) (s : Step) (rest : List Step) (L : List TurnReply → Type 0) (o : Outcome) (rs : List TurnReply) → is_done o ≡ false → IsFront rs (failing t p o) → Tells t p (s ∷ rest) L rs
tells_failed t p s rest L o rs f is = One_failed [] s rest o rs refl f refl is

-- progress without numbers
pub bare_with : (s : Step) (p : Progress) → with_step (bare s) (bare_progress p) ≡ bare_progress (with_step s p)
bare_with (State Ready) p = refl
bare_with (State _) p = refl
bare_with _ p = refl

-- tests of two
pub and_left : (a b : Bool) → (a && b) ≡ true → a ≡ true
and_left true b h = refl
and_left false b h = h

pub and_right : (a b : Bool) → (a && b) ≡ true → b ≡ true
and_right true b h = h
and_right false b h = absurd (true≢false (sym h))

-- the last of a list
pub last_some : {A : Type 0} (x : A) (xs : List A) → (l : A) × (last_of (x ∷ xs) ≡ Some l)
last_some x [] = (x, refl)
last_some x (y ∷ ys) = let r = last_some y ys in (r.0, ap (λ o. if is_some o then o else Some x) r.1)

pub last_more : {A : Type 0} (x y : A) (xs : List A) → last_of (x ∷ y ∷ xs) ≡ last_of (y ∷ xs)
last_more x y xs = let r = last_some y xs in ap (λ o. if is_some o then o else Some x) r.1 ∙ sym r.1

-- in reverse, the last comes first
pub onto_last : {A B : Type 0} (f : A → B) (xs : List A) (l : A) (done : List B) → last_of xs ≡ Some l → onto (map f xs) done ≡ f l ∷ onto (map f (but_last xs)) done
onto_last f [] l done e = cc
onto_last f (x ∷ []) l done e = cc
onto_last f (x ∷ y ∷ xs) l done e = onto_last f (y ∷ xs) l (f x ∷ done) (sym (last_more x y xs) ∙ e)

pub onto_last_same : {A : Type 0} (xs : List A) (l : A) → last_of xs ≡ Some l → onto xs [] ≡ l ∷ onto (but_last xs) []
onto_last_same {A} xs l e = go xs l [] e
  where
    go : (xs : List A) (l : A) (done : List A) → last_of xs ≡ Some l → onto xs done ≡ l ∷ onto (but_last xs) done
    go [] l done e = cc
    go (x ∷ []) l done e = cc
    go (x ∷ y ∷ xs) l done e = go (y ∷ xs) l (x ∷ done) (sym (last_more x y xs) ∙ e)

-- what holds of all holds of the last
pub all_last : {A : Type 0} (p : A → Bool) (xs : List A) (l : A) → list_all p xs ≡ true → last_of xs ≡ Some l → p l ≡ true
all_last p [] l h e = cc
all_last p (x ∷ []) l h e = ap (λ o. p (unwrap_or o x)) (sym e) ∙ and_left (p x) true h
all_last p (x ∷ y ∷ xs) l h e = all_last p (y ∷ xs) l (and_right (p x) _ h) (sym (last_more x y xs) ∙ e)

-- the mount with the greatest directory is the last one, and goes alone
pub last_goes : (ms : List MountEntry) (l : MountEntry) → in_order ms ≡ true → last_of ms ≡ Some l → filter (λ m. not (is_at l.mount.dir m)) ms ≡ but_last ms
last_goes [] l o e = cc
last_goes (x ∷ []) l o e =
    let same : x ≡ l = ap (λ o. unwrap_or o x) e in
    ap (λ b. if not b then x ∷ [] else []) (ap (λ (k : MountEntry). is_at k.mount.dir x) (sym same) ∙ bytes_itself x.mount.dir)
last_goes (x ∷ y ∷ ms) l o e =
    let e' = sym (last_more x y ms) ∙ e in
    let first = all_last (λ n. precedes x.mount.dir n.mount.dir) (y ∷ ms) l (and_left _ _ o) e' in
    ap (λ b. if not b then x ∷ filter (λ m. not (is_at l.mount.dir m)) (y ∷ ms) else filter (λ m. not (is_at l.mount.dir m)) (y ∷ ms)) (before_apart l.mount.dir x first)
    ∙ ap (λ ms. x ∷ ms) (last_goes (y ∷ ms) l (and_right _ _ o) e')

-- nothing is left where all go
pub all_gone : {A : Type 0} (xs : List A) → filter (λ x. not (all_of x)) xs ≡ []
all_gone [] = refl
all_gone (x ∷ xs) = all_gone xs
