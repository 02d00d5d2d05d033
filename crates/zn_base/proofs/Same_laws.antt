-- The tests of `Same` say what is one.
use Rattle.std.proofs.Common.{◌≡◌, ◌==◌, ℕ, Bool, true, refl, ap}
use Rattle.std.specs.Bool.{Decides}
use Rattle.std.proofs.lemmas.Bool.{eq-eqb, eqb-true, false≢true}
use Rattle.zn_base.specs.Same.{same_name_fault, same_state}
use Rattle.zn_base.specs.contracts.state.ZoneState.{the_type as state_type}
use Rattle.zn_base.specs.declared.name.NameFault.{NameFault}
use Rattle.zn_base.specs.declared.name.NameFault.TheVariants.{Memory, Empty, TooLong, BadByte, Reserved}
use Rattle.zn_base.specs.declared.state.ZoneState.{ZoneState}
use denote.Enum.Bare.{same_true, true_same}

pub number-Decides : (m n : ℕ) → Decides (m == n) (m ≡ n)
number-Decides m n = (eqb-true m n, eq-eqb m n)

-- a test that is true of a value and itself, and of no two others, decides
pub decides : {A : Type 0} (same : A → A → Bool) → ((a b : A) → same a b ≡ true → a ≡ b) → ((a : A) → same a a ≡ true) → (a b : A) → Decides (same a b) (a ≡ b)
decides same one self a b = (one a b, λ e. rw (← e) (self a))

pub state-Decides : (a b : ZoneState) → Decides (same_state a b) (a ≡ b)
state-Decides a b = (same_true state_type tt a b, true_same state_type a b)

name_fault-true : (a b : NameFault) → same_name_fault a b ≡ true → a ≡ b
name_fault-true Memory Memory h = refl
name_fault-true Empty Empty h = refl
name_fault-true TooLong TooLong h = refl
name_fault-true (BadByte m) (BadByte n) h = ap BadByte (eqb-true m n h)
name_fault-true Reserved Reserved h = refl
name_fault-true _ _ h = absurd (false≢true h)

name_fault-self : (a : NameFault) → same_name_fault a a ≡ true
name_fault-self Memory = refl
name_fault-self Empty = refl
name_fault-self TooLong = refl
name_fault-self (BadByte n) = eq-eqb n n refl
name_fault-self Reserved = refl

pub name_fault-Decides : (a b : NameFault) → Decides (same_name_fault a b) (a ≡ b)
name_fault-Decides = decides same_name_fault name_fault-true name_fault-self
