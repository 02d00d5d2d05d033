-- A text that fits the rule of a path, and isn't empty, is one.
use Rattle.std.proofs.Common.{◌≡◌, ℕ, Bool, true, false, ◌||◌, List, length, IsTrue, refl}
use Rattle.std.specs.Prelude.{◌==◌}
use Rattle.zn_base.specs.Path.{is_path}
use Rattle.config_terms.specs.declared.rules.Rule.{Rule}
use Rattle.config_terms.specs.declared.rules.Rule.TheVariants.{RootedPath}
use Rattle.config_terms.specs.Rules.{obeys, fits}

or_true : (a b : Bool) → b ≡ true → (a || b) ≡ true
or_true true b h = refl
or_true false b h = h

-- a value that a rule allows fits it
pub obeyed_fits : (r : Rule) (v : List ℕ) → obeys r v ≡ true → IsTrue (fits r v)
unfolding fits
obeyed_fits r v h = or_true (length v == 0) (obeys r v) h

-- a text that fits, and is not empty
pub is_path_kept : (t : List ℕ) → IsTrue (fits RootedPath t) → (length t == 0) ≡ false → IsTrue (is_path t)
unfolding obeys fits
is_path_kept t h some = rw some at h
