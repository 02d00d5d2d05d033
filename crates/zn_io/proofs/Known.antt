-- What is known, in two steps.
use Rattle.std.proofs.Common.{◌≡◌, ◌+◌, ℕ, Option, Some, None, List, ◌++◌, take, drop, refl, ap, sym, ◌∙◌, append_assoc}
use Rattle.std.proofs.Math.Seq.{take-add}
use Rattle.zn_io.specs.Streams.{after_known}

after_known-append : (known : Option (List ℕ)) (xs ys : List ℕ) → after_known (after_known known xs) ys ≡ after_known known (xs ++ ys)
after_known-append None xs ys = refl
after_known-append (Some bytes) xs ys = ap Some (append_assoc bytes xs ys)

-- one more piece of a text was taken
pub takes_more : (held between holds : Option (List ℕ)) (m n : ℕ) (text rest : List ℕ) → rest ≡ drop m text → between ≡ after_known held (take m text) → holds ≡ after_known between (take n rest) → holds ≡ after_known held (take (m + n) text)
takes_more held between holds m n text rest r e f =
    f ∙ ap (λ o. after_known o (take n rest)) e ∙ after_known-append held (take m text) (take n rest)
    ∙ ap (λ bytes. after_known held (take m text ++ take n bytes)) r ∙ ap (after_known held) (sym (take-add m n text))
