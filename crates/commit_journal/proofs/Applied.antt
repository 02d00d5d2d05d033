-- One commit more is that commit, applied to the zones stored before.
use Rattle.std.proofs.Common.{◌≡◌, List, Bool, true, false, ◌&&◌, ◌||◌, ◌∷◌, ◌++◌, [], Option, Some, None, unwrap_or, if◌then◌else◌, refl, ap, sym, ◌∙◌, subst, true≢false}
use Rattle.std.specs.Prelude.{bytes_eq}
use Rattle.std.specs.Option.{is_none}
use Rattle.std.proofs.Math.Bool.{or-false}
use Rattle.std.proofs.lemmas.List.Folds.{list_any-append}
use Rattle.zone_pools.specs.Firsts.{placed}
use Rattle.zn_base.specs.Names.{Name}
use Rattle.zone_pools.specs.Owned_lists.{tag}
use Rattle.zone_pools.specs.declared.owned.Owned.{Owned}
use Rattle.zone_pools.proofs.Owned_laws.{same_self, same_true}
use Rattle.commit_journal.specs.declared.records.Commit.{Commit}
use Rattle.commit_journal.specs.declared.records.Record.{Record}
use Rattle.commit_journal.specs.Stored.{from_first, is_removed, last_record, stored, with_commit, with_stored, without, Rows}

other_self : (y z : Name) → bytes_eq y z ≡ false → bytes_eq z y ≡ false
other_self y z other = turned (bytes_eq z y) refl
  where
    turned : (b : Bool) → bytes_eq z y ≡ b → bytes_eq z y ≡ false
    turned true e = absurd (true≢false (sym (same_self y) ∙ ap (λ x. bytes_eq y x) (sym (same_true z y e)) ∙ other))
    turned false e = e

-- the zones without one
without_cons : (z : Name) (o : Owned Record) (rows : Rows) (b : Bool) → bytes_eq z o.zone ≡ b → without z (o ∷ rows) ≡ (if b then without z rows else o ∷ without z rows)
without_cons z o rows true e = simp e
without_cons z o rows false e = simp e

without_twice : (z : Name) (rows : Rows) → without z (without z rows) ≡ without z rows
without_twice z [] = refl
without_twice z (o ∷ rows) = at_head (without_twice z rows) _ refl
  where
    at_head : without z (without z rows) ≡ without z rows → (b : Bool) → bytes_eq z o.zone ≡ b → without z (without z (o ∷ rows)) ≡ without z (o ∷ rows)
    at_head ih true e = simp e ih
    at_head ih false e = simp e (ap (λ (l : Rows). o ∷ l) ih)

without_both : (y z : Name) (rows : Rows) → without y (without z rows) ≡ without z (without y rows)
without_both y z [] = refl
without_both y z (o ∷ rows) = at_head (without_both y z rows) _ _ refl refl
  where
    at_head : without y (without z rows) ≡ without z (without y rows) → (b q : Bool) → bytes_eq y o.zone ≡ b → bytes_eq z o.zone ≡ q → without y (without z (o ∷ rows)) ≡ without z (without y (o ∷ rows))
    at_head ih true true e f = simp (e, f) ih
    at_head ih true false e f = simp (e, f) ih
    at_head ih false true e f = simp (e, f) ih
    at_head ih false false e f = simp (e, f) (ap (λ (l : Rows). o ∷ l) ih)

-- a zone's record and the other zones
without_placed : (z : Name) (row : Record) (rows : Rows) → without z (placed z row rows) ≡ without z rows
without_placed z row [] = simp (same_self z)
without_placed z row (o ∷ rows) = at_head (without_placed z row rows) _ refl
  where
    at_head : without z (placed z row rows) ≡ without z rows → (b : Bool) → bytes_eq z o.zone ≡ b → without z (placed z row (o ∷ rows)) ≡ without z (o ∷ rows)
    at_head ih true e = simp (e, same_self z)
    at_head ih false e = simp e (ap (λ (l : Rows). o ∷ l) ih)

other_placed : (y z : Name) (row : Record) (rows : Rows) → bytes_eq y z ≡ false → without y (placed z row rows) ≡ placed z row (without y rows)
other_placed y z row [] n = simp n
other_placed y z row (o ∷ rows) n = at_head (other_placed y z row rows n) _ _ refl refl
  where
    at_head : without y (placed z row rows) ≡ placed z row (without y rows) → (b q : Bool) → bytes_eq y o.zone ≡ b → bytes_eq z o.zone ≡ q → without y (placed z row (o ∷ rows)) ≡ placed z row (without y (o ∷ rows))
    at_head ih true true e f = absurd (true≢false (sym e ∙ ap (λ x. bytes_eq y x) (sym (same_true z o.zone f)) ∙ n))
    at_head ih true false e f = simp (e, f) ih
    at_head ih false true e f = simp (e, f, n) refl
    at_head ih false false e f = simp (e, f) (ap (λ (l : Rows). o ∷ l) ih)

-- one commit more, in what is asked of the later ones
removed_more : (z : Name) (commits : List Commit) (c : Commit) → is_removed z (commits ++ c ∷ []) ≡ (is_removed z commits || (bytes_eq z c.zone && is_none c.stored))
removed_more z commits c = list_any-append (λ (d : Commit). bytes_eq z d.zone && is_none d.stored) commits (c ∷ []) ∙ ap (λ b. is_removed z commits || b) (or-false (bytes_eq z c.zone && is_none c.stored))

last_more : (row : Record) (z : Name) (commits : List Commit) (c : Commit)
    → last_record row z (commits ++ c ∷ []) ≡ (if bytes_eq z c.zone then unwrap_or c.stored (last_record row z commits) else last_record row z commits)
last_more row z [] c = refl
last_more row z (d ∷ commits) c = last_more (if bytes_eq z d.zone then unwrap_or d.stored row else row) z commits c

-- after a first commit of a zone that stays
module _ (row : Record) (y : Name) (commits : List Commit) (rows : Rows) where
  first_kept : (z : Name) (said : Option Record) → is_removed y commits ≡ false
      → from_first (Some row) y (commits ++ record { zone = z; stored = said } ∷ []) (with_stored z said rows) ≡ with_stored z said (tag y (last_record row y commits) ∷ without y rows)
  first_kept z said stays = by_zone said (bytes_eq y z) refl
    where
      by_zone : (said : Option Record) (b : Bool) → bytes_eq y z ≡ b
          → from_first (Some row) y (commits ++ record { zone = z; stored = said } ∷ []) (with_stored z said rows) ≡ with_stored z said (tag y (last_record row y commits) ∷ without y rows)
      by_zone None true e =
          let same : y ≡ z = same_true y z e in
          let gone : is_removed y (commits ++ record { zone = z; stored = None } ∷ []) ≡ true = removed_more y commits (record { zone = z; stored = None }) ∙ (rw (stays, e) refl) in
          rw gone (subst (λ (x : Name). without x rows ≡ without x (tag y (last_record row y commits) ∷ without y rows)) same (simp (same_self y) (sym (without_twice y rows))))
      by_zone (Some r) true e =
          let same : y ≡ z = same_true y z e in
          let kept : is_removed y (commits ++ record { zone = z; stored = Some r } ∷ []) ≡ false = removed_more y commits (record { zone = z; stored = Some r }) ∙ (rw (stays, e) refl) in
          let last : last_record row y (commits ++ record { zone = z; stored = Some r } ∷ []) ≡ r = last_more row y commits (record { zone = z; stored = Some r }) ∙ (rw e refl) in
          rw (kept, last) (subst (λ (x : Name). tag y r ∷ without y (placed x r rows) ≡ placed x r (tag y (last_record row y commits) ∷ without y rows)) same (simp (same_self y, without_placed y r rows)))
      by_zone None false e =
          let kept : is_removed y (commits ++ record { zone = z; stored = None } ∷ []) ≡ false = removed_more y commits (record { zone = z; stored = None }) ∙ (rw (stays, e) refl) in
          let last : last_record row y (commits ++ record { zone = z; stored = None } ∷ []) ≡ last_record row y commits = last_more row y commits (record { zone = z; stored = None }) ∙ (rw e refl) in
          rw (kept, last, without_both y z rows) (simp (other_self y z e))
      by_zone (Some r) false e =
          let kept : is_removed y (commits ++ record { zone = z; stored = Some r } ∷ []) ≡ false = removed_more y commits (record { zone = z; stored = Some r }) ∙ (rw (stays, e) refl) in
          let last : last_record row y (commits ++ record { zone = z; stored = Some r } ∷ []) ≡ last_record row y commits = last_more row y commits (record { zone = z; stored = Some r }) ∙ (rw e refl) in
          rw (kept, last, other_placed y z r rows e) (simp (other_self y z e))

  first_more : (c : Commit) → from_first (Some row) y (commits ++ c ∷ []) (with_commit c rows) ≡ with_commit c (from_first (Some row) y commits rows)
  first_more c =
      elim (is_removed y commits) as (λ b. is_removed y commits ≡ b → from_first (Some row) y (commits ++ c ∷ []) (with_commit c rows) ≡ with_commit c (if b then rows else tag y (last_record row y commits) ∷ without y rows)) [
        | true ↦ λ e. let gone : is_removed y (commits ++ c ∷ []) ≡ true = removed_more y commits c ∙ (rw e refl) in rw gone refl
        | false ↦ λ e. first_kept c.zone c.stored e
      ] refl

from_first_more : (said : Option Record) (y : Name) (commits : List Commit) (c : Commit) (rows : Rows) → from_first said y (commits ++ c ∷ []) (with_commit c rows) ≡ with_commit c (from_first said y commits rows)
from_first_more None y commits c rows = refl
from_first_more (Some row) y commits c rows = first_more row y commits rows c

first_commit : (z : Name) (said : Option Record) → from_first said z [] [] ≡ with_stored z said []
first_commit z None = refl
first_commit z (Some row) = refl

-- the zones after one commit more
pub stored-push : (commits : List Commit) (c : Commit) → stored (commits ++ c ∷ []) ≡ with_commit c (stored commits)
stored-push [] c = first_commit c.zone c.stored
stored-push (d ∷ commits) c =
    ap (λ (rows : Rows). from_first d.stored d.zone (commits ++ c ∷ []) rows) (stored-push commits c)
    ∙ from_first_more d.stored d.zone commits c (stored commits)
