-- A store over one record more.
use Rattle.std.proofs.Common.{◌≡◌, inl, inr, ◌*◌, ◌≤◌, ◌<◌, ◌+◌, ℕ, List, [], ◌∷◌, ◌++◌, Bool, true, false, ◌&&◌, not, cond, length, Option, Some, None, IsTrue, refl, sym, subst, arith, length-append}
use Rattle.std.specs.Prelude.{IfSome, OnErr, Result, Ok, Err, bytes_eq, filter, option_map}
use Rattle.std.specs.Option.{ForSome}
use Rattle.std.proofs.lemmas.Bool.Decides.{nat_tests}
use Rattle.zn_io.specs.Disk.{Leaves, View}
use Rattle.zone_pools.specs.declared.limits.TheConstants.{ZONES_MAX}
use Rattle.zone_pools.specs.Firsts.{placed}
use Rattle.zn_base.specs.Names.{Name}
use Rattle.zone_pools.specs.declared.owned.Owned.{Owned}
use Rattle.zn_io.proofs.Moments.{weaker}
use Rattle.zone_disk.specs.declared.bank.TheConstants.{BANK_BYTES}
use Rattle.zone_disk.specs.Bank.{IsBeforeOrAfter as IsOneMore}
use Rattle.zone_disk.specs.Image.{blocks, four, used_by, Stands}
use Rattle.commit_journal.specs.declared.records.Commit.{Commit}
use Rattle.commit_journal.specs.declared.records.Record.{Record}
use Rattle.commit_journal.specs.Bodies.{body_text, IsCommit}
use Rattle.commit_journal.specs.Journal.{Leave}
use Rattle.commit_journal.specs.Replay.{TakesIn}
use Rattle.commit_journal.specs.Store.{change_text, IsBeforeOrAfter, HasZones, StoresOneMore}
use Rattle.commit_journal.specs.Stored.{holds, may_stand, with_commit, with_stored, Rows}
use Rattle.commit_journal.proofs.Says.{leave_more, say_none}

-- a bank has room for few records
blocks_long : (bodies : List (List ℕ)) → 5 * length bodies ≤ length (blocks bodies)
blocks_long [] = omega arith
blocks_long (body ∷ bodies) = let more = blocks_long bodies in omega (arith, more, length-append (four (length body)) (body ++ blocks bodies), length-append body (blocks bodies))

pub few_records : (bodies : List (List ℕ)) (used : ℕ) → used ≡ used_by bodies → used ≤ BANK_BYTES → length bodies < 8388608
few_records bodies used counted within = let long = blocks_long bodies in omega (arith, long, counted, within)

-- how many zones there are after one record more
fewer_kept : {A : Type 0} (p : A → Bool) (xs : List A) → length (filter p xs) ≤ length xs
fewer_kept p [] = omega arith
fewer_kept p (x ∷ xs) =
    let rest = fewer_kept p xs in
    elim (p x) as (λ b. length (cond b (x ∷ filter p xs) (filter p xs)) ≤ length (x ∷ xs)) [ true ↦ omega (arith, rest) | false ↦ omega (arith, rest) ]

placed_more : (z : Name) (row : Record) (rows : Rows) → length (placed z row rows) ≤ length rows + 1
placed_more z row [] = omega arith
placed_more z row (o ∷ rows) =
    let rest = placed_more z row rows in
    elim (bytes_eq z o.zone) as (λ b. length (cond b (record { zone = z; it = row } ∷ rows) (o ∷ placed z row rows)) ≤ length (o ∷ rows) + 1) [ true ↦ omega arith | false ↦ omega (arith, rest) ]

placed_held : (z : Name) (row : Record) (rows : Rows) → holds z rows ≡ true → length (placed z row rows) ≡ length rows
placed_held z row [] h = absurd (cc)
placed_held z row (o ∷ rows) h = at_head (placed_held z row rows) (bytes_eq z o.zone) refl
  where
    at_head : (holds z rows ≡ true → length (placed z row rows) ≡ length rows) → (b : Bool) → bytes_eq z o.zone ≡ b → length (placed z row (o ∷ rows)) ≡ length (o ∷ rows)
    at_head ih true e = simp e
    at_head ih false e = let rest : holds z rows ≡ true = (simp e at h) in simp e (omega (arith, ih rest))

few_placed : (z : Name) (row : Record) (rows : Rows) → length rows ≤ ZONES_MAX → IsTrue (may_stand z (Some row) rows) → length (placed z row rows) ≤ ZONES_MAX
few_placed z row rows few may =
    elim (holds z rows) as (λ b. holds z rows ≡ b → length (placed z row rows) ≤ ZONES_MAX) [
      | true ↦ λ e. let same = placed_held z row rows e in omega (arith, same)
      | false ↦ λ e.
          let more = placed_more z row rows in
          let room : length rows < ZONES_MAX = (let m = (rw e at may) in grind (arith, nat_tests)) in
          omega (arith, more, room)
    ] refl

few_stored : (z : Name) (said : Option Record) (rows : Rows) → length rows ≤ ZONES_MAX → IsTrue (may_stand z said rows) → length (with_stored z said rows) ≤ ZONES_MAX
few_stored z None rows few may = let fewer = fewer_kept (λ (o : Owned Record). not (bytes_eq z o.zone && true)) rows in omega (arith, fewer)
few_stored z (Some row) rows few may = few_placed z row rows few may

pub zones_none : HasZones [] []
zones_none = record { leave = record { commits = []; say = say_none; are = refl }; few = omega arith }

pub zones_more : (bodies : List (List ℕ)) (rows new : Rows) (body : List ℕ) (c : Commit) → HasZones bodies rows → IsCommit c → body ≡ body_text c → IsTrue (may_stand c.zone c.stored rows) → new ≡ with_commit c rows → HasZones (bodies ++ body ∷ []) new
zones_more bodies rows new body c kept is text may applied = record {
  leave = leave_more bodies rows new body c kept.leave is text may applied;
  few = subst (λ (l : Rows). length l ≤ ZONES_MAX) (sym applied) (few_stored c.zone c.stored rows kept.few may);
}

pub zones_taken : (bodies more : List (List ℕ)) (rows new : Rows) (body : List ℕ) → HasZones bodies rows → TakesIn body rows new → more ≡ bodies ++ body ∷ [] → HasZones more new
zones_taken bodies more rows new body kept takes is = subst (λ (l : List (List ℕ)). HasZones l new) (sym is) (zones_more bodies rows new body takes.commit kept takes.is takes.text takes.may takes.applied)

-- what a crash leaves of a change, whose body is on the disk or not
module _ (bodies : List (List ℕ)) (rows : Rows) (z : Name) (said : Option Record) (leave : Leave bodies rows)
    (is : IsCommit (record { zone = z; stored = said })) (may : IsTrue (may_stand z said rows)) (body : List ℕ) (text : body ≡ change_text z said) where
  pub stores_more : (image : List ℕ) → Stands image (bodies ++ body ∷ []) → StoresOneMore bodies rows z said image
  stores_more image stands = record {
    stands = subst (λ (t : List ℕ). Stands image (bodies ++ t ∷ [])) text stands;
    leave = leave_more bodies rows (with_stored z said rows) (change_text z said) (record { zone = z; stored = said }) leave is refl may refl;
  }

  pub before_or_after : (image : List ℕ) → IsOneMore bodies body image → IsBeforeOrAfter bodies rows z said image
  before_or_after image (inl stands) = inl (record { stands = stands; leave = leave })
  before_or_after image (inr stands) = inr (stores_more image stands)

  pub any_moment : (old new : View) → Leaves old new (IsOneMore bodies body) → Leaves old new (IsBeforeOrAfter bodies rows z said)
  any_moment old new = weaker old new (IsOneMore bodies body) (IsBeforeOrAfter bodies rows z said) before_or_after

pub on_err_both : {A E P Q : Type 0} (answer : Result A E) → P → Q → OnErr answer (P × Q)
on_err_both (Ok a) first second = tt
on_err_both (Err e) first second = (first, second)

pub for_some_map : {A B : Type 0} (f : A → B) (P : B → Type 0) (o : Option A) → ForSome (option_map f o) P → IfSome o (λ a. P (f a))
for_some_map f P None all = tt
for_some_map f P (Some a) all = all (f a) refl
