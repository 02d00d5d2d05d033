-- 1,024 items of each kind are declared at most, so a zone claims 3,072 at most.
use Rattle.std.proofs.Common.{◌≡◌, ◌≤◌, ◌<◌, ◌+◌, ◌∷◌, ◌++◌, ◌∙◌, [], ℕ, List, Bool, Option, Some, None, true, false, ap, arith, cond, length, refl, subst, sym}
use Rattle.std.specs.Prelude.{nat_lt}
use Rattle.std.specs.List.{count_by}
use Rattle.std.proofs.lemmas.Bool.{ltb-true}
use Rattle.std.proofs.lemmas.List.Sums.{sum_by-append}
use Rattle.brand_hooks.specs.Brands.{Tabled}
use Rattle.commit_journal.specs.declared.records.Commit.{Commit}
use Rattle.datalink_table.specs.Claims.{claim_of, holds, is_of}
use Rattle.datalink_table.specs.declared.claims.Claim.{Claim}
use Rattle.datalink_table.specs.declared.claims.ClaimKind.{ClaimKind}
use Rattle.datalink_table.specs.declared.claims.ClaimKind.TheVariants.{Address, Dataset, Link}
use Rattle.datalink_table.specs.declared.limits.TheConstants.{ITEMS_MAX}
use Rattle.zn_base.specs.Names.{Name}
use Rattle.zone_machine.specs.Machine.Histories.{after, after_entry, is_history}
use Rattle.zone_machine.specs.Machine.Pools.{fits}
use Rattle.zone_machine.specs.Machine.{declared_by, one, opening, subject}
use Rattle.zone_cases.specs.State.Declarations.{Declared, declare_refusal, item_refusal, unless_refused, with_declared}
use Rattle.zone_cases.specs.State.Worlds.{world}
use Rattle.zone_cases.specs.State.{State}
use Rattle.zone_cases.specs.declared.events.Declaration.{Declaration}
use Rattle.zone_cases.specs.declared.events.Declaration.TheVariants.{Device, Item}
use Rattle.zone_cases.specs.declared.events.Entry.{Entry}
use Rattle.zone_cases.specs.declared.events.Event.{Event}
use Rattle.zone_cases.specs.declared.events.Event.TheVariants.{Process as Call_of, Restart, Session, System, Turn}
use Rattle.zone_cases.specs.declared.replies.Refusal.{Refusal}
use Rattle.zone_pools.specs.declared.grant.Grant.{Grant}
use Rattle.zone_views.proofs.Claiming.{claims-few}
use Rattle.zone_views.proofs.Whole.{declared-after, declared-stays}
use Rattle.zone_views.specs.Whole.{is_whole}

abbrev AreFew : Declared → Type 0
AreFew d = (kind : ClaimKind) → count_by (is_of kind) d.items ≤ 1024

-- one more of a kind
one_more : (kind : ClaimKind) (c : Claim) (cs : List Claim) → count_by (is_of kind) cs ≤ 1024 → (is_of kind c ≡ true → count_by (is_of kind) cs < 1024) → count_by (is_of kind) (cs ++ c ∷ []) ≤ 1024
one_more kind c cs h room = at_kind (is_of kind c) refl
  where
    split : count_by (is_of kind) (cs ++ c ∷ []) ≡ count_by (is_of kind) cs + (0 + cond (is_of kind c) 1 0)
    split = sum_by-append (λ d. cond (is_of kind d) 1 0) cs (c ∷ [])

    at_kind : (b : Bool) → is_of kind c ≡ b → count_by (is_of kind) (cs ++ c ∷ []) ≤ 1024
    at_kind true e = let below = room e in let more : count_by (is_of kind) (cs ++ c ∷ []) ≡ count_by (is_of kind) cs + (0 + 1) = split ∙ ap (λ b. count_by (is_of kind) cs + (0 + cond b 1 0)) e in omega (arith, more, below)
    at_kind false e = let same : count_by (is_of kind) (cs ++ c ∷ []) ≡ count_by (is_of kind) cs + (0 + 0) = split ∙ ap (λ b. count_by (is_of kind) cs + (0 + cond b 1 0)) e in omega (arith, same, h)

same-kind : (kind of : ClaimKind) (item : List ℕ) → is_of kind (claim_of of item) ≡ true → kind ≡ of
same-kind Link Link item h = refl
same-kind Address Address item h = refl
same-kind Dataset Dataset item h = refl
same-kind kind of item h = cc

-- where a declaration isn't refused there is room
has-room : (of : ClaimKind) (item : List ℕ) (cs : List Claim) → item_refusal (claim_of of item) cs ≡ None → count_by (is_of of) cs < 1024
has-room of item cs h = at_tests (holds (claim_of of item) cs) (nat_lt (count_by (is_of of) cs) ITEMS_MAX) refl refl
  where
    at_tests : (b r : Bool) → holds (claim_of of item) cs ≡ b → nat_lt (count_by (is_of of) cs) ITEMS_MAX ≡ r → count_by (is_of of) cs < 1024
    at_tests false true e f = ltb-true (count_by (is_of of) cs) ITEMS_MAX f
    at_tests true r e f = absurd (cc)
    at_tests false false e f = absurd (cc)

few-with : (what : Declaration) (d : Declared) → declare_refusal what d ≡ None → AreFew d → AreFew (with_declared what d)
few-with (Item of item) d h few = λ kind. one_more kind (claim_of of item) d.items (few kind) (λ is. subst (λ k. count_by (is_of k) d.items < 1024) (sym (same-kind kind of item is)) (has-room of item d.items h))
few-with (Device path) d h few = few

few-declaring : (what : Declaration) (d : Declared) (r : Option Refusal) → declare_refusal what d ≡ r → AreFew d → AreFew (unless_refused r (with_declared what d) d)
few-declaring what d None is few = few-with what d is few
few-declaring what d (Some refusal) is few = few

few-by : (e : Event) (d : Declared) → AreFew d → AreFew (declared_by e d)
few-by (System what) d few = few-declaring what d (declare_refusal what d) refl few
few-by (Session n text) d few = few
few-by (Turn z) d few = few
few-by (Call_of z pid c) d few = few
few-by Restart d few = few

few-one : (S : State) (e : Event) (g : Grant) → AreFew S.declared → AreFew (one S e g).state.declared
few-one S e g few = at_whole (is_whole (subject S e)) refl
  where
    at_whole : (b : Bool) → is_whole (subject S e) ≡ b → AreFew (one S e g).state.declared
    at_whole true is = subst AreFew (sym (declared-after S e g is)) (few-by e S.declared few)
    at_whole false is = subst AreFew (sym (declared-stays S e g is)) few

few-after : (S : State) (h : List Entry) → AreFew S.declared → AreFew (after S h).declared
few-after S [] few = few
few-after S (e ∷ h) few = few-after (after_entry S e) h (few-one S e.event e.grant few)

-- each item is of one kind
abbrev here : ClaimKind → Claim → ℕ
here kind c = 0 + cond (is_of kind c) 1 0

counted : (kind : ClaimKind) (c : Claim) (cs : List Claim) → count_by (is_of kind) (c ∷ cs) ≡ here kind c + count_by (is_of kind) cs
counted kind c cs = sum_by-append (λ d. cond (is_of kind d) 1 0) (c ∷ []) cs

one_kind : (kind : ClaimKind) (item : List ℕ) → here Link (claim_of kind item) + here Address (claim_of kind item) + here Dataset (claim_of kind item) ≡ 1
one_kind Link item = refl
one_kind Address item = refl
one_kind Dataset item = refl

by_kinds : (cs : List Claim) → length cs ≡ count_by (is_of Link) cs + count_by (is_of Address) cs + count_by (is_of Dataset) cs
by_kinds [] = refl
by_kinds (c ∷ cs) =
    let ih = by_kinds cs in
    let one = one_kind c.kind c.item in
    let links = counted Link c cs in let addresses = counted Address c cs in let datasets = counted Dataset c cs in
    omega (arith, ih, one, links, addresses, datasets)

pub claims-bounded : (brands : List Tabled) (commits : List Commit) (h : List Entry) (z : Name) → is_history fits (opening brands commits) h ≡ true → length (world z (after (opening brands commits) h)).claims ≤ 3072
claims-bounded brands commits h z is =
    let S = after (opening brands commits) h in
    let few : AreFew S.declared = few-after (opening brands commits) h (λ kind. omega arith) in
    let all = by_kinds S.declared.items in
    let below = claims-few brands commits h z is in
    let links = few Link in let addresses = few Address in let datasets = few Dataset in
    omega (arith, all, below, links, addresses, datasets)
