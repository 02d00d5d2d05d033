-- How long a text and a path are at most.
use Rattle.std.proofs.Common.{◌≡◌, ◌≤◌, ℕ, true, false, cond, not, List, length, Option, Some, None, Ok, Err, IsTrue, refl, arith, nat_lt}
use Rattle.std.specs.Prelude.{is_ok, position}
use Rattle.std.proofs.lemmas.Bool.Decides.{nat_tests}
use Rattle.zn_base.specs.declared.text.TextFault.{TextFault}
use Rattle.zn_base.specs.declared.text.TextFault.TheVariants.{TextLong}
use Rattle.zn_base.specs.declared.path.PathFault.{PathFault}
use Rattle.zn_base.specs.declared.path.PathFault.TheVariants.{PathLong}
use Rattle.zn_base.specs.Text.{is_text, is_text_byte, text_unless}
use Rattle.zn_base.specs.Path.{is_path, path_from_root}

unless_long : (o : Option ℕ) (t : List ℕ) → is_ok (text_unless o t) ≡ true → nat_lt 4200 (length t) ≡ false
unless_long (Some place) t h = absurd (cc)
unless_long None t h =
    elim (nat_lt 4200 (length t)) as (λ b. is_ok {T = List ℕ} {E = TextFault} (cond b (Err TextLong) (Ok t)) ≡ true → b ≡ false) [
      | true ↦ λ f. absurd (cc)
      | false ↦ λ _. refl
    ] h

pub text_short : (t : List ℕ) → IsTrue (is_text t) → length t ≤ 4200
text_short t h = let short = unless_long (position (λ b. not (is_text_byte b)) t) t h in grind (arith, nat_tests)

pub path_short : (p : List ℕ) → IsTrue (is_path p) → length p ≤ 4200
path_short p h =
    let short : nat_lt 1023 (length p) ≡ false =
    elim (nat_lt 1023 (length p)) as (λ b. is_ok {T = List ℕ} {E = PathFault} (cond b (Err PathLong) (path_from_root p)) ≡ true → b ≡ false) [
      | true ↦ λ f. absurd (cc)
      | false ↦ λ _. refl
    ] h in
    grind (arith, nat_tests)
