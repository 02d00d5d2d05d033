-- No item is claimed by two zones, and each is declared: what comes to a zone is declared and held by no other then, the other events
-- of a zone let claims go alone, and nothing that is declared goes.
use Rattle.std.proofs.Common.{◌≡◌, ◌≤◌, length, ◌∷◌, ◌++◌, ◌∙◌, ◌⊎◌, ◌&&◌, [], ℕ, List, Bool, Option, Some, None, true, false, not, ap, inl, inr, refl, subst, sym}
use Rattle.std.specs.Prelude.{bytes_eq}
use Rattle.std.specs.List.{AllByRecursion, IsDistinct, list_all}
use Rattle.std.proofs.lemmas.Bool.{and_from, and_parts, false≢true, not-true, or_parts}
use Rattle.std.proofs.lemmas.Map.Made.{length-le_from_is_member}
use Rattle.std.specs.Cmp.{IsEquivalence}
use Rattle.brand_hooks.specs.Brands.{Tabled}
use Rattle.commit_journal.specs.declared.records.Commit.{Commit}
use Rattle.datalink_table.proofs.Kept.{once-last}
use Rattle.datalink_table.proofs.Same_laws.{claim-Decides, claim_self}
use Rattle.datalink_table.specs.Claims.{claim_of, claiming, each_once, holds, pool_of, same_claim}
use Rattle.datalink_table.specs.declared.claims.Claim.{Claim}
use Rattle.datalink_table.specs.declared.claims.ClaimKind.{ClaimKind}
use Rattle.datalink_table.specs.declared.claims.ClaimKind.TheVariants.{Address, Dataset, Link}
use Rattle.zn_base.specs.Names.{Name}
use Rattle.zone_machine.proofs.Asking.{asks-decide, asks_rightly}
use Rattle.zone_machine.proofs.Own_worlds.{view-world, world-one}
use Rattle.zone_machine.specs.Machine.Histories.{after, after_entry, is_history, world_by}
use Rattle.zone_machine.specs.Machine.Pools.{fits, fits_of, held_elsewhere, may_hold, pools_of}
use Rattle.zone_machine.specs.Machine.{decide, declared_by, one, opening, session_number, subject, whole_world}
use Rattle.zone_cases.specs.State.Declarations.{Declared, declare_refusal, unless_refused, with_declared}
use Rattle.zone_cases.specs.State.Decisions.{Act, Decision, act_of, acts_world, after_came_world}
use Rattle.zone_cases.specs.State.Edits.{Edit, Of_objects, console_gone_world, edit_world, edits_world, keeps_console}
use Rattle.zone_cases.specs.State.Worlds.{World, view, view_of, world}
use Rattle.zone_cases.specs.State.{State}
use Rattle.zone_cases.specs.declared.events.Declaration.{Declaration}
use Rattle.zone_cases.specs.declared.events.Declaration.TheVariants.{Device, Item}
use Rattle.zone_cases.specs.declared.events.Entry.{Entry}
use Rattle.zone_cases.specs.declared.events.Event.{Event}
use Rattle.zone_cases.specs.declared.events.Event.TheVariants.{Process as Call_of, Restart, Session, System, Turn}
use Rattle.zone_cases.specs.declared.replies.Refusal.{Refusal}
use Rattle.zone_cases.specs.declared.events.Subject.{Subject}
use Rattle.zone_cases.specs.declared.events.Subject.TheVariants.{Global, Whole, Zone}
use Rattle.zone_pools.proofs.Owned_laws.{same_true}
use Rattle.zone_pools.specs.Asked.{An_item, Asked}
use Rattle.zone_pools.specs.Decisions.{Ask, Just, asked_of}
use Rattle.zone_pools.specs.Owned_lists.{but_last, mine}
use Rattle.zone_pools.specs.Pools.{fits_asked, fits_pool, fits_yes}
use Rattle.zone_pools.specs.declared.grant.Grant.{Grant}
use Rattle.zone_pools.specs.declared.grant.Grant.TheVariants.{Denied, Nothing, Number, Yes}
use Rattle.zone_pools.specs.declared.owned.Owned.{Owned}
use Rattle.zone_views.proofs.Keeping.{kept-after}
use Rattle.zone_views.proofs.Purge.{begins}
use Rattle.zone_views.proofs.Whole.{declared-after, declared-stays}
use Rattle.zone_views.specs.Whole.{is_whole}
use Rattle.zoneadmd_steps.proofs.Of_turns.{asked_item}
use Rattle.zoneadmd_steps.specs.Arrivals.{A_claim, Arrival, New_claim, New_id, New_process, New_record, No_new_thing}
use Rattle.zoneadmd_steps.specs.Objects.{Last_claim_goes, Processes_go}

-- what goes was there
module _ (k : Claim) where
  holds-last : (cs : List Claim) → holds k (but_last cs) ≡ true → holds k cs ≡ true
  holds-last [] h = h
  holds-last (c ∷ []) h = absurd (false≢true h)
  holds-last (c ∷ d ∷ cs) h = at_test (holds-last (d ∷ cs)) (same_claim k c) refl
    where
      at_test : (holds k (but_last (d ∷ cs)) ≡ true → holds k (d ∷ cs) ≡ true) → (b : Bool) → same_claim k c ≡ b → holds k (c ∷ d ∷ cs) ≡ true
      at_test ih true e = simp e
      at_test ih false e = simp e (ih (simp e at h))

  holds-edit : (n : Option ℕ) (e : Edit) (w : World) → holds k (edit_world n e w).claims ≡ true → holds k w.claims ≡ true
  holds-edit n (Of_objects (Processes_go p)) w h = h
  holds-edit n (Of_objects Last_claim_goes) w h = holds-last w.claims h
  holds-edit n _ w h = h

  holds-edits : (n : Option ℕ) (es : List Edit) (w : World) → holds k (edits_world n es w).claims ≡ true → holds k w.claims ≡ true
  holds-edits n [] w h = h
  holds-edits n (e ∷ es) w h = holds-edit n e w (holds-edits n es (edit_world n e w) h)

  -- or it came
  holds-more : (c : Claim) (cs : List Claim) → holds k (cs ++ c ∷ []) ≡ true → (holds k cs ≡ true) ⊎ (k ≡ c)
  holds-more c [] h = at_test (same_claim k c) refl
    where
      at_test : (b : Bool) → same_claim k c ≡ b → (holds k [] ≡ true) ⊎ (k ≡ c)
      at_test true e = inr ((claim-Decides k c).0 e)
      at_test false e = absurd (false≢true (simp e at h))
  holds-more c (d ∷ cs) h = at_test (holds-more c cs) (same_claim k d) refl
    where
      at_test : (holds k (cs ++ c ∷ []) ≡ true → (holds k cs ≡ true) ⊎ (k ≡ c)) → (b : Bool) → same_claim k d ≡ b → (holds k (d ∷ cs) ≡ true) ⊎ (k ≡ c)
      at_test ih true e = inl (simp e)
      at_test ih false e = at_rest (ih (simp e at h))
        where
          at_rest : (holds k cs ≡ true) ⊎ (k ≡ c) → (holds k (d ∷ cs) ≡ true) ⊎ (k ≡ c)
          at_rest (inl has) = inl (simp e has)
          at_rest (inr same) = inr same

  holds-claiming : (b : Bool) (c : Claim) (cs : List Claim) → holds k (claiming b c cs) ≡ true → (holds k cs ≡ true) ⊎ (k ≡ c)
  holds-claiming true c cs h = inl h
  holds-claiming false c cs h = holds-more c cs h

  holds-came : (came : Option Arrival) (w : World) → holds k (after_came_world came w).claims ≡ true → (holds k w.claims ≡ true) ⊎ (came ≡ Some (New_claim k))
  holds-came None w h = inl h
  holds-came (Some (New_process p)) w h = inl h
  holds-came (Some (New_id i)) w h = inl h
  holds-came (Some (New_record row)) w h = inl (at_keeps (keeps_console row) h)
    where
      at_keeps : (b : Bool) → holds k (console_gone_world b (record w { stored = row })).claims ≡ true → holds k w.claims ≡ true
      at_keeps true h = h
      at_keeps false h = h
  holds-came (Some No_new_thing) w h = inl h
  holds-came (Some (New_claim c)) w h = at_claim (holds-claiming (holds c w.claims) c w.claims h)
    where
      at_claim : (holds k w.claims ≡ true) ⊎ (k ≡ c) → (holds k w.claims ≡ true) ⊎ (Some (New_claim c) ≡ Some (New_claim k))
      at_claim (inl has) = inl has
      at_claim (inr same) = inr (ap (λ k. Some (New_claim k)) (sym same))

  holds-acts : (n : Option ℕ) (a : Act) (w : World) → holds k (acts_world n a w).claims ≡ true → (holds k w.claims ≡ true) ⊎ (a.came ≡ Some (New_claim k))
  holds-acts n a w h = holds-came a.came w (holds-edits n a.effect.edits (after_came_world a.came w) h)

  -- a claim comes where the zone may hold the item
  may_claim : (S : State) (z : Name) (kind : ClaimKind) (item : List ℕ) → fits_yes (pools_of S) z (An_item (pool_of kind) item) ≡ true → may_hold S z (record { kind = kind; item = item }) ≡ true
  may_claim S z Link item h = h
  may_claim S z Address item h = h
  may_claim S z Dataset item h = h

  fit-claim : (S : State) (z : Name) (c : Claim) (asked : List Asked) → asked ≡ An_item (pool_of c.kind) c.item ∷ [] → list_all (fits_yes (pools_of S) z) asked ≡ true → may_hold S z c ≡ true
  fit-claim S z c asked is h =
      let fit : list_all (fits_yes (pools_of S) z) (An_item (pool_of c.kind) c.item ∷ []) ≡ true = subst (λ xs. list_all (fits_yes (pools_of S) z) xs ≡ true) is h in
      may_claim S z c.kind c.item (and_parts (fits_yes (pools_of S) z (An_item (pool_of c.kind) c.item)) true fit).0

  unfit-number : (S : State) (z : Name) (n : ℕ) (c : Claim) (asked : List Asked) → asked ≡ An_item (pool_of c.kind) c.item ∷ [] → list_all (fits_pool (pools_of S) z n) asked ≡ true → false ≡ true
  unfit-number S z n c asked is h = subst (λ xs. list_all (fits_pool (pools_of S) z n) xs ≡ true) is h

  came-fits : (S : State) (z : Name) (d : Decision) (g : Grant) → asks_rightly d ≡ true → fits_asked (pools_of S) z (asked_of d) g ≡ true → (act_of d g).came ≡ Some (New_claim k) → may_hold S z k ≡ true
  came-fits S z (Just e) g a f h = cc
  came-fits S z (Ask c [] denied given) (Number n) a f h = absurd (false≢true f)
  came-fits S z (Ask c [] denied given) Yes a f h = absurd (false≢true f)
  came-fits S z (Ask (A_claim c) (x ∷ asked) denied given) (Number n) a f h = absurd (false≢true (unfit-number S z n c (x ∷ asked) (asked_item c (x ∷ asked) a) f))
  came-fits S z (Ask (A_claim c) (x ∷ asked) denied given) Yes a f h = let same : c ≡ k = cc in subst (λ c. may_hold S z c ≡ true) same (fit-claim S z c (x ∷ asked) (asked_item c (x ∷ asked) a) f)
  came-fits S z (Ask c asked denied given) (Denied pool) a f h = cc
  came-fits S z (Ask c asked denied given) Nothing a f h = cc
  came-fits S z (Ask c asked denied given) g a f h = cc

  -- and then no other zone holds it
  elsewhere : (x y : Name) (os : List (Owned Claim)) → held_elsewhere x k os ≡ false → holds k (mine y os) ≡ true → x ≡ y
  elsewhere x y [] none h = absurd (false≢true h)
  elsewhere x y (o ∷ os) none h = at_tests (elsewhere x y os parts.1) (bytes_eq y o.zone) (same_claim k o.it) refl refl
    where
      parts : ((not (bytes_eq x o.zone) && same_claim k o.it) ≡ false) × (held_elsewhere x k os ≡ false)
      parts = or_parts (not (bytes_eq x o.zone) && same_claim k o.it) (held_elsewhere x k os) none

      at_owner : (b : Bool) → bytes_eq x o.zone ≡ b → bytes_eq y o.zone ≡ true → same_claim k o.it ≡ true → x ≡ y
      at_owner true s e f = same_true x o.zone s ∙ sym (same_true y o.zone e)
      at_owner false s e f = let wrong : true ≡ false = simp (s, f) at (parts.0) in absurd (false≢true (sym wrong))

      at_tests : (holds k (mine y os) ≡ true → x ≡ y) → (b q : Bool) → bytes_eq y o.zone ≡ b → same_claim k o.it ≡ q → x ≡ y
      at_tests ih true true e f = at_owner (bytes_eq x o.zone) refl e f
      at_tests ih true false e f = ih (simp (e, f) at h)
      at_tests ih false q e f = ih (simp e at h)

-- one zone at most holds an item
abbrev pub IsApart : State → Type 0
IsApart S = (y z : Name) (c : Claim) → holds c (world y S).claims ≡ true → holds c (world z S).claims ≡ true → y ≡ z

-- who holds an item after an event held it before, or it is the event's zone, the item is declared, and no other held it
abbrev Was : Subject → State → Claim → Name → Type 0
Was s S k y = (holds k (world y S).claims ≡ true) ⊎ ((s ≡ Zone y) × (holds k S.declared.items ≡ true) × ((x : Name) → holds k (world x S).claims ≡ true → y ≡ x))

-- an event of the whole system gives nobody an item
held-before : (k : Claim) (w : World) (e : Event) → holds k (whole_world e w).claims ≡ true → holds k w.claims ≡ true
held-before k w (Session n text) h = h
held-before k w (Turn z) h = h
held-before k w (Call_of z pid c) h = h
held-before k w (System what) h = h
held-before k w Restart h = absurd (false≢true h)

was-of : (s : Subject) (S : State) (e : Event) (g : Grant) (k : Claim) (y : Name) → fits_of s S e g ≡ true → holds k (world_by s y (world y S) e g).claims ≡ true → Was s S k y
was-of Global S e g k y f h = inl h
was-of Whole S e g k y f h = inl (held-before k (world y S) e h)
was-of (Zone z) S e g k y f h = at_test (bytes_eq y z) refl
  where
    at_act : y ≡ z → (holds k (world y S).claims ≡ true) ⊎ ((act_of (decide (view_of y (world y S)) e) g).came ≡ Some (New_claim k)) → Was (Zone z) S k y
    at_act same (inl has) = inl has
    at_act same (inr came) =
        let fit : fits_asked (pools_of S) y (asked_of (decide (view y S) e)) g ≡ true = subst (λ z. fits_asked (pools_of S) z (asked_of (decide (view z S) e)) g ≡ true) (sym same) f in
        let comes : (act_of (decide (view y S) e) g).came ≡ Some (New_claim k) = ap (λ v. (act_of (decide v e) g).came) (view-world y S) ∙ came in
        let may = came-fits k S y (decide (view y S) e) g (asks-decide (view y S) e) fit comes in
        let parts = and_parts (holds k S.declared.items) (not (held_elsewhere y k S.claims)) may in
        let none = not-true (held_elsewhere y k S.claims) parts.1 in
        inr (ap Zone (sym same), parts.0, λ x has. elsewhere k y x S.claims none has)

    at_test : (b : Bool) → bytes_eq y z ≡ b → Was (Zone z) S k y
    at_test true e' = at_act (same_true y z e') (holds-acts k (session_number e) (act_of (decide (view_of y (world y S)) e) g) (world y S) (simp e' at h))
    at_test false e' = inl (simp e' at h)

was-one : (S : State) (e : Event) (g : Grant) (k : Claim) (y : Name) → fits S e g ≡ true → holds k (world y (one S e g).state).claims ≡ true → Was (subject S e) S k y
unfolding fits
was-one S e g k y f h = was-of (subject S e) S e g k y f (subst (λ (w : World). holds k w.claims ≡ true) (world-one y S e g) h)

apart-one : (S : State) (e : Event) (g : Grant) → fits S e g ≡ true → IsApart S → IsApart (one S e g).state
apart-one S e g f apart y z c has also = at_both (was-one S e g c y f has) (was-one S e g c z f also)
  where
    at_both : Was (subject S e) S c y → Was (subject S e) S c z → y ≡ z
    at_both (inl a) (inl b) = apart y z c a b
    at_both (inl a) (inr b) = sym (b.2 y a)
    at_both (inr a) (inl b) = a.2 z b
    at_both (inr a) (inr b) = let same : Zone y ≡ Zone z = sym a.0 ∙ b.0 in cc

apart-after : (S : State) (h : List Entry) → is_history fits S h ≡ true → IsApart S → IsApart (after S h)
apart-after S [] is apart = apart
apart-after S (e ∷ h) is apart = let parts = begins fits S e h is in apart-after (after_entry S e) h parts.rest (apart-one S e.event e.grant parts.permitted apart)

pub one-holder : (brands : List Tabled) (commits : List Commit) (h : List Entry) (y z : Name) (c : Claim) → is_history fits (opening brands commits) h ≡ true
    → let S = after (opening brands commits) h in
    holds c (world y S).claims ≡ true → holds c (world z S).claims ≡ true → y ≡ z
one-holder brands commits h y z c is = apart-after (opening brands commits) h is (λ y z c has also. absurd (false≢true has)) y z c

-- what is declared stays so
module _ (k : Claim) where
  holds-front : (cs ds : List Claim) → holds k cs ≡ true → holds k (cs ++ ds) ≡ true
  holds-front [] ds h = absurd (false≢true h)
  holds-front (c ∷ cs) ds h = at_test (holds-front cs ds) (same_claim k c) refl
    where
      at_test : (holds k cs ≡ true → holds k (cs ++ ds) ≡ true) → (b : Bool) → same_claim k c ≡ b → holds k (c ∷ cs ++ ds) ≡ true
      at_test ih true e = simp e
      at_test ih false e = simp e (ih (simp e at h))

  holds-with : (what : Declaration) (d : Declared) → holds k d.items ≡ true → holds k (with_declared what d).items ≡ true
  holds-with (Item kind item) d h = holds-front d.items (claim_of kind item ∷ []) h
  holds-with (Device path) d h = h

  holds-declaring : (r : Option Refusal) (what : Declaration) (d : Declared) → holds k d.items ≡ true → holds k (unless_refused r (with_declared what d) d).items ≡ true
  holds-declaring None what d h = holds-with what d h
  holds-declaring (Some refusal) what d h = h

  holds-declared : (e : Event) (d : Declared) → holds k d.items ≡ true → holds k (declared_by e d).items ≡ true
  holds-declared (System what) d h = holds-declaring (declare_refusal what d) what d h
  holds-declared (Session n text) d h = h
  holds-declared (Turn z) d h = h
  holds-declared (Call_of z pid c) d h = h
  holds-declared Restart d h = h

  stays-declared : (S : State) (e : Event) (g : Grant) → holds k S.declared.items ≡ true → holds k (one S e g).state.declared.items ≡ true
  stays-declared S e g h = at_whole (is_whole (subject S e)) refl
    where
      at_whole : (b : Bool) → is_whole (subject S e) ≡ b → holds k (one S e g).state.declared.items ≡ true
      at_whole true is = subst (λ (d : Declared). holds k d.items ≡ true) (sym (declared-after S e g is)) (holds-declared e S.declared h)
      at_whole false is = subst (λ (d : Declared). holds k d.items ≡ true) (sym (declared-stays S e g is)) h

-- each item that a zone claims is declared
abbrev AreDeclared : State → Type 0
AreDeclared S = (z : Name) (c : Claim) → holds c (world z S).claims ≡ true → holds c S.declared.items ≡ true

declared-one : (S : State) (e : Event) (g : Grant) → fits S e g ≡ true → AreDeclared S → AreDeclared (one S e g).state
declared-one S e g f are z c has = stays-declared c S e g (at_was (was-one S e g c z f has))
  where
    at_was : Was (subject S e) S c z → holds c S.declared.items ≡ true
    at_was (inl before) = are z c before
    at_was (inr came) = came.1

declared-from : (S : State) (h : List Entry) → is_history fits S h ≡ true → AreDeclared S → AreDeclared (after S h)
declared-from S [] is are = are
declared-from S (e ∷ h) is are = let parts = begins fits S e h is in declared-from (after_entry S e) h parts.rest (declared-one S e.event e.grant parts.permitted are)

pub claims-declared : (brands : List Tabled) (commits : List Commit) (h : List Entry) (z : Name) (c : Claim) → is_history fits (opening brands commits) h ≡ true
    → let S = after (opening brands commits) h in
    holds c (world z S).claims ≡ true → holds c S.declared.items ≡ true
claims-declared brands commits h z c is = declared-from (opening brands commits) h is (λ z c has. absurd (false≢true has)) z c

-- none is claimed twice
dropped-once : (cs : List Claim) → each_once cs ≡ true → each_once (but_last cs) ≡ true
dropped-once [] h = h
dropped-once (c ∷ []) h = refl
dropped-once (c ∷ d ∷ cs) h =
    let parts = and_parts (not (holds c (d ∷ cs))) (each_once (d ∷ cs)) h in
    and_from (not (holds c (but_last (d ∷ cs)))) (each_once (but_last (d ∷ cs))) (ap not (not-before (holds c (but_last (d ∷ cs))) refl (not-true (holds c (d ∷ cs)) parts.0))) (dropped-once (d ∷ cs) parts.1)
  where
    not-before : (b : Bool) → holds c (but_last (d ∷ cs)) ≡ b → holds c (d ∷ cs) ≡ false → holds c (but_last (d ∷ cs)) ≡ false
    not-before false e none = e
    not-before true e none = absurd (false≢true (sym none ∙ holds-last c (d ∷ cs) e))

once-edit : (n : Option ℕ) (e : Edit) (w : World) → each_once w.claims ≡ true → each_once (edit_world n e w).claims ≡ true
once-edit n (Of_objects (Processes_go p)) w h = h
once-edit n (Of_objects Last_claim_goes) w h = dropped-once w.claims h
once-edit n _ w h = h

once-edits : (n : Option ℕ) (es : List Edit) (w : World) → each_once w.claims ≡ true → each_once (edits_world n es w).claims ≡ true
once-edits n [] w h = h
once-edits n (e ∷ es) w h = once-edits n es (edit_world n e w) (once-edit n e w h)

once-claiming : (b : Bool) (c : Claim) (cs : List Claim) → holds c cs ≡ b → each_once cs ≡ true → each_once (claiming b c cs) ≡ true
once-claiming true c cs is h = h
once-claiming false c cs is h = once-last c cs h is

once-came : (came : Option Arrival) (w : World) → each_once w.claims ≡ true → each_once (after_came_world came w).claims ≡ true
once-came None w h = h
once-came (Some (New_process p)) w h = h
once-came (Some (New_id i)) w h = h
once-came (Some (New_record row)) w h = at_keeps (keeps_console row)
  where
    at_keeps : (b : Bool) → each_once (console_gone_world b (record w { stored = row })).claims ≡ true
    at_keeps true = h
    at_keeps false = h
once-came (Some No_new_thing) w h = h
once-came (Some (New_claim c)) w h = once-claiming (holds c w.claims) c w.claims refl h

abbrev ClaimsOnce : World → Type 0
ClaimsOnce w = each_once w.claims ≡ true

pub claims-once : (brands : List Tabled) (commits : List Commit) (h : List Entry) (z : Name) → each_once (world z (after (opening brands commits) h)).claims ≡ true
claims-once brands commits h z = kept-after ClaimsOnce
    (λ z w e g once. let a = act_of (decide (view_of z w) e) g in once-edits (session_number e) a.effect.edits (after_came_world a.came w) (once-came a.came w once))
    (λ w d once. once) (λ w once. refl) (opening brands commits) h (λ z. refl) z

-- so a zone claims no more items than are declared
back : (c d : Claim) → same_claim c d ≡ true → same_claim d c ≡ true
back c d h = subst (λ x. same_claim x c ≡ true) ((claim-Decides c d).0 h) (claim_self c)

claim-equivalence : IsEquivalence same_claim
claim-equivalence = record {
  refl = claim_self;
  symm = λ c d. at_tests c d (same_claim c d) (same_claim d c) refl refl;
  congr = λ c d e h. ap (λ x. same_claim x e) ((claim-Decides c d).0 h);
}
  where
    at_tests : (c d : Claim) (a b : Bool) → same_claim c d ≡ a → same_claim d c ≡ b → same_claim c d ≡ same_claim d c
    at_tests c d true b e f = e ∙ sym (back c d e)
    at_tests c d false true e f = back d c f ∙ sym f
    at_tests c d false false e f = e ∙ sym f

apart-all : (c : Claim) (cs : List Claim) → holds c cs ≡ false → AllByRecursion (λ d. same_claim c d ≡ false) cs
apart-all c [] h = tt
apart-all c (d ∷ cs) h = let parts = or_parts (same_claim c d) (holds c cs) h in (parts.0, apart-all c cs parts.1)

once-distinct : (cs : List Claim) → each_once cs ≡ true → IsDistinct same_claim cs
unfolding IsDistinct
once-distinct [] h = tt
once-distinct (c ∷ cs) h = let parts = and_parts (not (holds c cs)) (each_once cs) h in (apart-all c cs (not-true (holds c cs) parts.0), once-distinct cs parts.1)

pub claims-few : (brands : List Tabled) (commits : List Commit) (h : List Entry) (z : Name) → is_history fits (opening brands commits) h ≡ true
    → let S = after (opening brands commits) h in length (world z S).claims ≤ length S.declared.items
claims-few brands commits h z is =
    let S = after (opening brands commits) h in
    length-le_from_is_member claim-equivalence (world z S).claims S.declared.items (once-distinct (world z S).claims (claims-once brands commits h z)) (λ c has. claims-declared brands commits h z c is has)
