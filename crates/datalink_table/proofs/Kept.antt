-- What the calls keep: that cells and the shared part agree, that each item has one holder, and that what is held is declared.
use Rattle.std.proofs.Common.{◌≡◌, ◌&&◌, ◌≢◌, ◌||◌, ◌++◌, ◌∷◌, [], Bool, List, Option, Some, None, true, false, not, is_some, refl, ap, sym, subst, ◌∙◌}
use Rattle.std.specs.Prelude.{bytes_eq, if◌then◌else◌}
use Rattle.std.proofs.lemmas.Bool.{and_from, false_from_ne_true, false≢true, true≢false}
use Rattle.std.proofs.lemmas.List.Folds.{list_any-append}
use Rattle.zn_base.specs.Names.{Name}
use Rattle.zone_pools.proofs.Owned_laws.{same_self, same_true}
use Rattle.zone_pools.proofs.Holding.{not_same}
use Rattle.zone_pools.specs.Owners.{is_owner}
use Rattle.datalink_table.proofs.Same_laws.{both, claim-Decides, claim_self}
use Rattle.datalink_table.specs.Claims.{claiming, each_once, holds, same_claim}
use Rattle.datalink_table.specs.Shared.{Agree, Alike, AllAgree, Declares, Frees, HeldAreDeclared, Shared, Takes, allows, holder, is_declared, is_held, may_hold, with_cell}
use Rattle.datalink_table.specs.declared.claims.Claim.{Claim}

-- lists of claims
same_back : (c d : Claim) → same_claim c d ≡ same_claim d c
same_back c d = at_tests (same_claim c d) (same_claim d c) refl refl
  where
    at_tests : (a b : Bool) → same_claim c d ≡ a → same_claim d c ≡ b → a ≡ b
    at_tests true true e f = refl
    at_tests false false e f = refl
    at_tests true false e f = sym (subst (λ x. same_claim d x ≡ true) (sym ((claim-Decides c d).0 e)) (claim_self d)) ∙ f
    at_tests false true e f = sym e ∙ subst (λ x. same_claim c x ≡ true) (sym ((claim-Decides d c).0 f)) (claim_self c)

or_none : (a b : Bool) → (a || (b || false)) ≡ (a || b)
or_none true b = refl
or_none false true = refl
or_none false false = refl

pub holds-last : (d c : Claim) (cs : List Claim) → holds d (cs ++ c ∷ []) ≡ (holds d cs || same_claim c d)
holds-last d c cs = list_any-append (same_claim d) cs (c ∷ []) ∙ (or_none (holds d cs) (same_claim d c) ∙ ap (λ b. holds d cs || b) (same_back d c))

neither : (a b : Bool) → (a || b) ≡ false → (a ≡ false) × (b ≡ false)
neither true b h = absurd (true≢false h)
neither false b h = (refl, h)

is_not : (a : Bool) → not a ≡ true → a ≡ false
is_not true h = absurd (false≢true h)
is_not false h = refl

pub once-last : (c : Claim) (cs : List Claim) → each_once cs ≡ true → holds c cs ≡ false → each_once (cs ++ c ∷ []) ≡ true
once-last c [] once apart = refl
once-last c (x ∷ cs) once apart =
    let first : (same_claim c x ≡ false) × (holds c cs ≡ false) = neither _ _ apart in
    let parts : (not (holds x cs) ≡ true) × (each_once cs ≡ true) = both _ _ once in
    and_from _ _ (rw (holds-last x c cs, is_not _ parts.0, first.0) refl) (once-last c cs parts.1 first.1)

-- of claims that are there once, the last isn't among the others, and those are there once
pub last_apart : (c : Claim) (cs : List Claim) → each_once (cs ++ c ∷ []) ≡ true → holds c cs ≡ false
last_apart c [] once = refl
last_apart c (x ∷ cs) once =
    let parts : (not (holds x (cs ++ c ∷ [])) ≡ true) × (each_once (cs ++ c ∷ []) ≡ true) = both _ _ once in
    let apart : (holds x cs ≡ false) × (same_claim c x ≡ false) = neither _ _ (sym (holds-last x c cs) ∙ is_not _ parts.0) in
    rw (apart.1, last_apart c cs parts.1) refl

-- what is left of such claims after the last goes
pub holds-but_last : (d c : Claim) (cs : List Claim) → each_once (cs ++ c ∷ []) ≡ true → holds d cs ≡ (holds d (cs ++ c ∷ []) && not (same_claim c d))
holds-but_last d c cs once = at_item (same_claim c d) refl
  where
    none_of : (a : Bool) → false ≡ (a && false)
    none_of true = refl
    none_of false = refl

    all_of : (a : Bool) → a ≡ ((a || false) && true)
    all_of true = refl
    all_of false = refl

    at_item : (b : Bool) → same_claim c d ≡ b → holds d cs ≡ (holds d (cs ++ c ∷ []) && not b)
    at_item true e = subst (λ x. holds x cs ≡ false) ((claim-Decides c d).0 e) (last_apart c cs once) ∙ none_of (holds d (cs ++ c ∷ []))
    at_item false e = all_of (holds d cs) ∙ ap (λ b. b && true) (ap (λ b. holds d cs || b) (sym e) ∙ sym (holds-last d c cs))

pub once-but_last : (c : Claim) (cs : List Claim) → each_once (cs ++ c ∷ []) ≡ true → each_once cs ≡ true
once-but_last c [] once = refl
once-but_last c (x ∷ cs) once =
    let parts : (not (holds x (cs ++ c ∷ [])) ≡ true) × (each_once (cs ++ c ∷ []) ≡ true) = both _ _ once in
    let apart : (holds x cs ≡ false) × (same_claim c x ≡ false) = neither _ _ (sym (holds-last x c cs) ∙ is_not _ parts.0) in
    and_from _ _ (rw apart.0 refl) (once-but_last c cs parts.1)

-- who owns what
pub one_owner : (y z : Name) (o : Option Name) → is_owner y o ≡ true → is_owner z o ≡ true → y ≡ z
one_owner y z None h k = absurd (false≢true h)
one_owner y z (Some x) h k = same_true y x h ∙ sym (same_true z x k)

no_other : (y z : Name) → y ≢ z → (o : Option Name) → may_hold z o ≡ true → is_owner y o ≡ false
no_other y z n None h = refl
no_other y z n (Some x) h = false_from_ne_true (bytes_eq y x) (λ e. n (same_true y x e ∙ sym (same_true z x h)))

owner_may : (z : Name) (o : Option Name) → is_owner z o ≡ true → may_hold z o ≡ true
owner_may z None h = refl
owner_may z (Some x) h = h

held_by_it : (z : Name) (o : Option Name) → may_hold z o ≡ true → is_some o ≡ is_owner z o
held_by_it z None h = refl
held_by_it z (Some x) h = sym h

module _ (z : Name) (cs : List Claim) (s t : Shared) where
  pub agree-alike : Agree z cs s → Alike s t → Agree z cs t
  agree-alike agree alike = record { held = λ d. agree.held d ∙ ap (is_owner z) (sym (alike.holders d)); once = agree.once }

  pub agree-declared : (c : Claim) → Agree z cs s → Declares c s t → Agree z cs t
  agree-declared c agree declares = record { held = λ d. agree.held d ∙ ap (is_owner z) (sym (declares.holders d)); once = agree.once }

  pub agree-already : (c : Claim) → Agree z cs s → allows z c s ≡ true → is_held c s ≡ holds c cs
  agree-already c agree may = held_by_it z (holder c s) (both _ _ may).1 ∙ sym (agree.held c)

  pub agree-claimed : (c : Claim) → Agree z cs s → allows z c s ≡ true → Takes z c s t → Agree z (claiming (holds c cs) c cs) t
  agree-claimed c agree may took = at_test (holds c cs) refl
    where
      owned : (d : Claim) (b : Bool) → same_claim c d ≡ b → (b || holds d cs) ≡ is_owner z (if b then Some z else holder d s)
      owned d true e = sym (same_self z)
      owned d false e = agree.held d

      swapped : (a b : Bool) → (a || b) ≡ (b || a)
      swapped true true = refl
      swapped true false = refl
      swapped false true = refl
      swapped false false = refl

      there : holds c cs ≡ true → (d : Claim) (b : Bool) → same_claim c d ≡ b → holds d cs ≡ (b || holds d cs)
      there h d true e = subst (λ x. holds x cs ≡ true) ((claim-Decides c d).0 e) h
      there h d false e = refl

      at_test : (b : Bool) → holds c cs ≡ b → Agree z (claiming b c cs) t
      at_test true e = record {
        held = λ d. there e d _ refl ∙ (owned d _ refl ∙ ap (is_owner z) (sym (took.holders d)));
        once = agree.once;
      }
      at_test false e = record {
        held = λ d. holds-last d c cs ∙ (swapped (holds d cs) (same_claim c d) ∙ (owned d _ refl ∙ ap (is_owner z) (sym (took.holders d))));
        once = once-last c cs agree.once e;
      }

  pub agree-released : (c : Claim) → Agree z (cs ++ c ∷ []) s → Frees (Some c) s t → Agree z cs t
  agree-released c agree frees = record {
    held = λ d. holds-but_last d c cs agree.once ∙ (owned d (same_claim c d) ∙ ap (is_owner z) (sym (frees.holders d)));
    once = once-but_last c cs agree.once;
  }
    where
      none_of : (a : Bool) → (a && false) ≡ false
      none_of true = refl
      none_of false = refl

      all_of : (a : Bool) → (a && true) ≡ a
      all_of true = refl
      all_of false = refl

      owned : (d : Claim) (b : Bool) → (holds d (cs ++ c ∷ []) && not b) ≡ is_owner z (if b then None else holder d s)
      owned d true = none_of (holds d (cs ++ c ∷ []))
      owned d false = all_of (holds d (cs ++ c ∷ [])) ∙ agree.held d

  -- an item that a zone may hold, or holds, is no other zone's
  pub agree-claimed_elsewhere : (y : Name) (c : Claim) → z ≢ y → Agree z cs s → allows y c s ≡ true → Takes y c s t → Agree z cs t
  agree-claimed_elsewhere y c n agree may took = record { held = λ d. at_item d _ refl ∙ ap (is_owner z) (sym (took.holders d)); once = agree.once }
    where
      at_item : (d : Claim) (b : Bool) → same_claim c d ≡ b → holds d cs ≡ is_owner z (if b then Some y else holder d s)
      at_item d true e =
          let same : c ≡ d = (claim-Decides c d).0 e in
          let free : is_owner z (holder d s) ≡ false = no_other z y n (holder d s) (subst (λ x. may_hold y (holder x s) ≡ true) same (both _ _ may).1) in
          agree.held d ∙ (free ∙ sym (no_other z y n (Some y) (same_self y)))
      at_item d false e = agree.held d

  pub agree-released_elsewhere : (y : Name) (ds : List Claim) (c : Claim) → z ≢ y → Agree z cs s → Agree y (ds ++ c ∷ []) s → Frees (Some c) s t → Agree z cs t
  agree-released_elsewhere y ds c n agree there frees = record { held = λ d. at_item d _ refl ∙ ap (is_owner z) (sym (frees.holders d)); once = agree.once }
    where
      or_true : (a b : Bool) → b ≡ true → (a || b) ≡ true
      or_true true b h = refl
      or_true false b h = h

      its : is_owner y (holder c s) ≡ true
      its = sym (there.held c) ∙ (holds-last c c ds ∙ or_true (holds c ds) _ (claim_self c))

      at_item : (d : Claim) (b : Bool) → same_claim c d ≡ b → holds d cs ≡ is_owner z (if b then None else holder d s)
      at_item d true e =
          let same : c ≡ d = (claim-Decides c d).0 e in
          agree.held d ∙ no_other z y n (holder d s) (subst (λ x. may_hold y (holder x s) ≡ true) same (owner_may y (holder c s) its))
      at_item d false e = agree.held d

-- all zones
pub all-none : (s : Shared) → ((c : Claim) → holder c s ≡ None) → AllAgree (λ z. []) s
all-none s none z = record { held = λ c. ap (is_owner z) (sym (none c)); once = refl }

pub all-one : (cells : Name → List Claim) (s : Shared) (y z : Name) (c : Claim) → AllAgree cells s → holds c (cells y) ≡ true → holds c (cells z) ≡ true → y ≡ z
all-one cells s y z c agree h k = one_owner y z (holder c s) (sym ((agree y).held c) ∙ h) (sym ((agree z).held c) ∙ k)

-- one zone's cell changes
all-with : (cells : Name → List Claim) (t : Shared) (z : Name) (cs : List Claim) → Agree z cs t → ((y : Name) → y ≢ z → Agree y (cells y) t) → AllAgree (with_cell z cs cells) t
all-with cells t z cs here there y = at_zone (bytes_eq z y) refl
  where
    at_zone : (b : Bool) → bytes_eq z y ≡ b → Agree y (if b then cs else cells y) t
    at_zone true e = subst (λ x. Agree x cs t) (same_true z y e) here
    at_zone false e = there y (not_same z y e)

module _ (cells : Name → List Claim) (s t : Shared) (z : Name) (c : Claim) (agree : AllAgree cells s) where
  pub all-claimed : allows z c s ≡ true → Takes z c s t → AllAgree (with_cell z (claiming (holds c (cells z)) c (cells z)) cells) t
  all-claimed may took = all-with cells t z _ (agree-claimed z (cells z) s t c (agree z) may took) (λ y n. agree-claimed_elsewhere y (cells y) s t z c n (agree y) may took)

  pub all-released : (cs : List Claim) → cells z ≡ cs ++ c ∷ [] → Frees (Some c) s t → AllAgree (with_cell z cs cells) t
  all-released cs is frees =
      let own : Agree z (cs ++ c ∷ []) s = subst (λ cs. Agree z cs s) is (agree z) in
      all-with cells t z cs (agree-released z cs s t c own frees) (λ y n. agree-released_elsewhere y (cells y) s t z cs c n (agree y) own frees)

-- what is held is declared
pub held-alike : (s t : Shared) → HeldAreDeclared s → Alike s t → HeldAreDeclared t
held-alike s t held alike c h = ap (holds c) alike.declared ∙ held c (ap is_some (sym (alike.holders c)) ∙ h)

module _ (s t : Shared) (c : Claim) (held : HeldAreDeclared s) where
  pub held-declared : Declares c s t → HeldAreDeclared t
  held-declared declares d h =
      let there : is_declared d s ≡ true = held d (ap is_some (sym (declares.holders d)) ∙ h) in
      rw (declares.declared, holds-last d c s.declared, there) refl

  pub held-claimed : (z : Name) → allows z c s ≡ true → Takes z c s t → HeldAreDeclared t
  held-claimed z may took d h = ap (holds d) took.declared ∙ at_item _ refl (ap is_some (sym (took.holders d)) ∙ h)
    where
      at_item : (b : Bool) → same_claim c d ≡ b → is_some (if b then Some z else holder d s) ≡ true → is_declared d s ≡ true
      at_item true e k = subst (λ x. is_declared x s ≡ true) ((claim-Decides c d).0 e) (both _ _ may).0
      at_item false e k = held d k

  pub held-released : Frees (Some c) s t → HeldAreDeclared t
  held-released frees d h = ap (holds d) frees.declared ∙ at_item (same_claim c d) (ap is_some (sym (frees.holders d)) ∙ h)
    where
      at_item : (b : Bool) → is_some (if b then None else holder d s) ≡ true → is_declared d s ≡ true
      at_item true k = absurd (false≢true k)
      at_item false k = held d k
