-- The laws of the toy machine.
use Rattle.std.specs.Prelude.{◌≡◌, ◌≢◌, ℕ, ◌+◌, ◌==◌, ◌&&◌, not, Bool, true, false, List, refl}
use Rattle.std.proofs.Common.{sym, ap, ◌∙◌, arith}
use Rattle.std.proofs.lemmas.Bool.{eq-eqb, eqb-true, ne_eqb, true≢false}
use Rattle.zone_threads.specs.Machines.{Laws}
use Rattle.zone_threads.specs.Scripts.{is_idle}
use Rattle.zone_threads.specs.declared.machine.Said.{Said}
use Rattle.zone_threads.specs.declared.machine.Said.TheVariants.{Idle}
use Rattle.threads_tests.specs.Toys.{drawn_by, is_turn, toy}
use Rattle.threads_tests.specs.declared.toy.Entry.{Entry}

first : (a b : Bool) → (a && b) ≡ true → a ≡ true
first true b q = refl
first false b q = q

second : (a b : Bool) → (a && b) ≡ true → b ≡ true
second true b q = q
second false b q = absurd (true≢false (sym q))

never_both : (a b : Bool) → (a && not b) ≡ true → not (a && b) ≡ true
never_both true true q = q
never_both true false q = refl
never_both false b q = absurd (true≢false (sym q))

works : (a : Bool) (said : Said) → not (a && is_idle said) ≡ true → a ≡ true → said ≢ Idle
works true said q is same = true≢false (sym q ∙ ap (λ s. not (is_idle s)) same)
works false said q is same = true≢false (sym is)

-- what a local entry is
at_place : (p : ℕ) (e : Entry) → toy.is_local p false e ≡ true → e.place ≡ p
at_place p e local = eqb-true e.place p (first (e.place == p) ((e.draws == 0) && (is_turn e && not (is_idle e.told.said))) local)

rest : (p : ℕ) (e : Entry) → toy.is_local p false e ≡ true → ((e.draws == 0) && (is_turn e && not (is_idle e.told.said))) ≡ true
rest p e local = second (e.place == p) ((e.draws == 0) && (is_turn e && not (is_idle e.told.said))) local

draws_none : (p : ℕ) (e : Entry) → toy.is_local p false e ≡ true → e.draws ≡ 0
draws_none p e local = eqb-true e.draws 0 (first (e.draws == 0) (is_turn e && not (is_idle e.told.said)) (rest p e local))

turns : (p : ℕ) (e : Entry) → toy.is_local p false e ≡ true → (is_turn e && not (is_idle e.told.said)) ≡ true
turns p e local = second (e.draws == 0) (is_turn e && not (is_idle e.told.said)) (rest p e local)

is_right : (p : ℕ) (e : Entry) → toy.is_local p false e ≡ true → not (is_turn e && is_idle e.told.said) ≡ true
is_right p e local = never_both (is_turn e) (is_idle e.told.said) (turns p e local)

same_drawn : (p : ℕ) (s : List Entry) (e : Entry) → toy.is_local p false e ≡ true → e.draws + drawn_by s ≡ drawn_by s
same_drawn p s e local = omega (arith, draws_none p e local)

pub laws : Laws toy
laws = record {
  others_stay = λ p s e right other. rw (ne_eqb e.place p other) refl;
  own_moves = λ s e right. rw (eq-eqb e.place e.place refl) refl;
  local_right = λ p s e local. is_right p e local;
  local_common = λ p s e local. same_drawn p s e local;
  local_by = λ p w e local. at_place p e local;
  local_turn = λ p w e local. eqb-true e.told.session 0 (first (is_turn e) (not (is_idle e.told.said)) (turns p e local));
  local_works = λ p w e local. works (is_turn e) e.told.said (is_right p e local) (first (is_turn e) (not (is_idle e.told.said)) (turns p e local));
  busy_works = λ s e right turn now. works (is_turn e) e.told.said right (eq-eqb e.told.session 0 turn);
}
