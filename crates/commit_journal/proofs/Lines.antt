-- Lines that say something, cut off the front of a text.
use Rattle.std.proofs.Common.{◌≡◌, ◌≤◌, ◌+◌, ◌-◌, ◌/◌, ◌%◌, ℕ, zero, suc, true, List, [], ◌∷◌, ◌++◌, length, take, drop, Some, refl, ap, sym, ◌∙◌, arith, append_assoc, length-append}
use Rattle.std.proofs.lemmas.Bool.Decides.{nat_tests}
use Rattle.std.proofs.lemmas.List.{append_cancel_left, take_all}
use Rattle.std.proofs.Math.Seq.{drop-append-add}
use Rattle.uuid_text.specs.Text.{is_uuid_byte, uuid_text}
use Rattle.uuid_text.proofs.Texts.{uuid_text-bytes}
use Rattle.zn_base.specs.Cuts.{after_byte, before_byte, lacks}
use Rattle.zn_base.specs.Lines.{newline}
use Rattle.zn_base.proofs.First_byte.{after_first, before_first, cut_alike, lacks_by, lacks-append}
use Rattle.commit_journal.specs.Bodies.{padded, told}

-- what lines say has no newline
pub uuid_lacks : (uuid : List ℕ) → lacks newline (uuid_text uuid) ≡ true
uuid_lacks uuid = lacks_by is_uuid_byte newline refl (uuid_text uuid) (uuid_text-bytes uuid)

digit_no_newline : (n : ℕ) → lacks newline ((48 + n) ∷ []) ≡ true
digit_no_newline n = grind (arith, nat_tests)

pub padded_lacks : (k n : ℕ) → lacks newline (padded k n) ≡ true
unfolding padded
padded_lacks zero n = refl
padded_lacks (suc k) n = lacks-append newline (padded k (n / 10)) ((48 + n % 10) ∷ []) (padded_lacks k (n / 10)) (digit_no_newline (n % 10))

-- a line, up to its newline
head_is : (word value rest : List ℕ) → told word value ++ rest ≡ (word ++ 32 ∷ value) ++ newline ∷ rest
head_is word value rest = append_assoc (word ++ 32 ∷ value) (newline ∷ []) rest

head_lacks : (word value : List ℕ) → lacks newline word ≡ true → lacks newline value ≡ true → lacks newline (word ++ 32 ∷ value) ≡ true
head_lacks word value f g = lacks-append newline word (32 ∷ value) f (lacks_value g)
  where
    lacks_value : lacks newline value ≡ true → lacks newline (32 ∷ value) ≡ true
    lacks_value h = h

-- two texts that begin with a line of one word are cut alike
pub told_alike : (word a b x y : List ℕ) → lacks newline word ≡ true → lacks newline a ≡ true → lacks newline b ≡ true → told word a ++ x ≡ told word b ++ y → (a ≡ b) × (x ≡ y)
told_alike word a b x y w f g e =
    let cut = cut_alike newline (word ++ 32 ∷ a) x (word ++ 32 ∷ b) y (head_lacks word a w f) (head_lacks word b w g) (sym (head_is word a x) ∙ e ∙ head_is word b y) in
    let tails = append_cancel_left word (32 ∷ a) (32 ∷ b) cut.0 in
    (ap (λ (l : List ℕ). drop 1 l) tails, cut.1)

-- what a line says after its word, and what follows the line
pub line_cut : (bytes word value rest : List ℕ) → lacks newline word ≡ true → lacks newline value ≡ true → bytes ≡ told word value ++ rest → (before_byte newline bytes ≡ word ++ 32 ∷ value) × (after_byte newline bytes ≡ Some rest)
line_cut bytes word value rest w f is =
    let lacked = head_lacks word value w f in
    let parts = is ∙ head_is word value rest in
    (before_first newline bytes (word ++ 32 ∷ value) rest lacked parts, after_first newline bytes (word ++ 32 ∷ value) rest lacked parts)

pub value_cut : (line word value : List ℕ) → line ≡ word ++ 32 ∷ value → (length word + 1 ≤ length line) × (take (length line - (length word + 1)) (drop (length word + 1) line) ≡ value)
value_cut line word value is =
    let long : length line ≡ length word + 1 + length value = omega (arith, ap length is, length-append word (32 ∷ value)) in
    let behind : drop (length word + 1) line ≡ value = ap (λ (l : List ℕ). drop (length word + 1) l) is ∙ drop-append-add word (32 ∷ value) 1 in
    (omega arith, rw behind (take_all (length line - (length word + 1)) value (omega arith)))
