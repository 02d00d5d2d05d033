-- Decimals are texts.
use Rattle.std.proofs.Common.{◌≡◌, ◌+◌, ◌<◌, ◌^◌, ◌%◌, ◌∷◌, [], ℕ, true, refl, arith, ◌∙◌}
use Rattle.std.specs.Prelude.{decimal}
use Rattle.std.specs.List.{list_all}
use Rattle.std.proofs.lemmas.Bool.{and_from}
use Rattle.std.proofs.lemmas.Bool.Decides.{nat_tests}
use Rattle.std.proofs.lemmas.Fmt.{decimal_by_steps, length-decimal-le}
use Rattle.std.proofs.lemmas.List.Folds.{list_all-append}
use Rattle.loopback_mounts.proofs.Rests.{to_text}
use Rattle.zn_base.specs.Text.{is_text, is_text_byte}

digit : (n : ℕ) → n < 10 → is_text_byte (48 + n) ≡ true
digit n small = grind (arith, nat_tests)

printable : (n : ℕ) → n < 2 ^ 64 → list_all is_text_byte (decimal n) ≡ true
printable = decimal_by_steps (λ n ds. list_all is_text_byte ds ≡ true)
    (λ n small. and_from _ _ (digit n small) refl)
    (λ n ds large h. list_all-append is_text_byte ds ((48 + n % 10) ∷ []) ∙ and_from _ _ h (and_from _ _ (digit (n % 10) (omega arith)) refl))

pub decimal_text : (n : ℕ) → n < 2 ^ 32 → is_text (decimal n) ≡ true
decimal_text n h =
    let short = length-decimal-le 10 n (omega arith) (omega (arith, h)) (omega (arith, h)) in
    to_text (decimal n) (record { bytes = printable n (omega (arith, h)); short = omega (arith, short) })
