-- An image stands for at most one list.
use Rattle.std.proofs.Common.{◌≡◌, ◌≢◌, inl, inr, ℕ, ◌+◌, ◌/◌, ◌%◌, ◌<◌, List, [], ◌∷◌, ◌++◌, length, take, drop, refl, sym, ◌∙◌, ap, arith, append_assoc, length-append, get_or}
use Rattle.std.specs.Prelude.{true, nat_lt}
use Rattle.std.proofs.lemmas.Bool.{cases_lt}
use Rattle.std.proofs.lemmas.Bool.Decides.{nat_tests}
use Rattle.std.proofs.lemmas.List.{take_at, drop_at, get_or_append_left}
use Rattle.zone_disk.specs.Image.{four, blocks, header, front, is_right, may_stand, IsFormatted, IsUnformatted, Stands}
use Rattle.zone_disk.proofs.Right.{header_may}
use Rattle.zone_disk.specs.Image.Stands.{formatted, unformatted}
use Rattle.zone_disk.proofs.Blocks.{laid_out, length-front}

pub four_same : (m n : ℕ) → m / 256 / 256 / 256 ≡ n / 256 / 256 / 256 → m / 256 / 256 % 256 ≡ n / 256 / 256 % 256 → m / 256 % 256 ≡ n / 256 % 256 → m % 256 ≡ n % 256 → m ≡ n
four_same m n a b c d = omega arith

-- no whole block with a gate after it stands at the front
abbrev pub IsStop : List ℕ → Type 0
IsStop bytes = (body : List ℕ) (g : ℕ) (rest : List ℕ) → bytes ≡ 1 ∷ (four (length body) ++ (body ++ g ∷ rest)) → ⊥

nonempty : (bodies : List (List ℕ)) (g : ℕ) (X : List ℕ) → (h : ℕ) × (t : List ℕ) × (blocks bodies ++ g ∷ X ≡ h ∷ t)
nonempty [] g X = (g, X, refl)
nonempty (b ∷ bodies) g X = (1, _, refl)

pub unique : (a b : List (List ℕ)) (g h : ℕ) (X Y : List ℕ) → IsStop (g ∷ X) → IsStop (h ∷ Y) → blocks a ++ g ∷ X ≡ blocks b ++ h ∷ Y → a ≡ b
unique [] [] g h X Y s t e = refl
unique [] (body ∷ b) g h X Y s t e =
    let n = nonempty b h Y in
    absurd (s body n.0 n.1 (e ∙ ap (λ (l : List ℕ). 1 ∷ (four (length body) ++ l)) (append_assoc body (blocks b) (h ∷ Y) ∙ ap (λ (l : List ℕ). body ++ l) n.2)))
unique (body ∷ a) [] g h X Y s t e =
    let n = nonempty a g X in
    absurd (t body n.0 n.1 (sym e ∙ ap (λ (l : List ℕ). 1 ∷ (four (length body) ++ l)) (append_assoc body (blocks a) (g ∷ X) ∙ ap (λ (l : List ℕ). body ++ l) n.2)))
unique (p ∷ a) (q ∷ b) g h X Y s t e =
    let l0 : length p / 256 / 256 / 256 ≡ length q / 256 / 256 / 256 = cc in
    let l1 : length p / 256 / 256 % 256 ≡ length q / 256 / 256 % 256 = cc in
    let l2 : length p / 256 % 256 ≡ length q / 256 % 256 = cc in
    let l3 : length p % 256 ≡ length q % 256 = cc in
    let len : length p ≡ length q = four_same (length p) (length q) l0 l1 l2 l3 in
    let behind : p ++ blocks a ++ g ∷ X ≡ q ++ blocks b ++ h ∷ Y = cc in
    let both : p ++ (blocks a ++ g ∷ X) ≡ q ++ (blocks b ++ h ∷ Y) = sym (append_assoc p (blocks a) (g ∷ X)) ∙ behind ∙ append_assoc q (blocks b) (h ∷ Y) in
    let same : p ≡ q = sym (take_at p (blocks a ++ g ∷ X) (length p) refl) ∙ ap (λ (l : List ℕ). take (length p) l) both ∙ take_at q (blocks b ++ h ∷ Y) (length p) (sym len) in
    let rest : blocks a ++ g ∷ X ≡ blocks b ++ h ∷ Y = sym (drop_at p (blocks a ++ g ∷ X) (length p) refl) ∙ ap (λ (l : List ℕ). drop (length p) l) both ∙ drop_at q (blocks b ++ h ∷ Y) (length p) (sym len) in
    let more = unique a b g h X Y s t rest in
    λ i. same i ∷ more i

pub shut_stops : (g : ℕ) (X : List ℕ) → g ≢ 1 → IsStop (g ∷ X)
shut_stops g X shut body h rest e = let one : g ≡ 1 = cc in shut one

behind_header : (image : List ℕ) (s g : ℕ) (bodies : List (List ℕ)) (rest : List ℕ) → image ≡ front s bodies ++ g ∷ rest → drop 16 image ≡ blocks bodies ++ g ∷ rest
behind_header image s g bodies rest is = ap (λ (l : List ℕ). drop 16 l) (is ∙ append_assoc (header s) (blocks bodies) (g ∷ rest))

formatted_unique : (image : List ℕ) (a b : List (List ℕ)) → IsFormatted image a → IsFormatted image b → a ≡ b
formatted_unique image a b f f' =
    let p = laid_out image a f in
    let q = laid_out image b f' in
    unique a b _ _ _ _ (shut_stops _ _ p.closed) (shut_stops _ _ q.closed) (sym (behind_header image _ _ a _ p.is) ∙ behind_header image _ _ b _ q.is)

pub not_both : (image : List ℕ) (a : List (List ℕ)) → IsUnformatted image → IsFormatted image a → ⊥
not_both [] a u f = f.closed refl
not_both (x ∷ []) a u f =
    let is = (laid_out (x ∷ []) a f).is in
    omega (arith, ap length is, length-append (front (get_or (x ∷ []) 9 0) a) (get_or (x ∷ []) (16 + length (blocks a)) 1 ∷ drop (16 + length (blocks a) + 1) (x ∷ [])), length-front (get_or (x ∷ []) 9 0) a)
not_both (x ∷ y ∷ rest) a u f = u.0 (ap (λ (l : List ℕ). get_or l 0 0) (laid_out (x ∷ y ∷ rest) a f).is)

pub stands_unique : (image : List ℕ) (a b : List (List ℕ)) → Stands image a → Stands image b → a ≡ b
stands_unique image a b (unformatted u e) (unformatted u' e') = e ∙ sym e'
stands_unique image a b (unformatted u e) (formatted f) = absurd (not_both image b u f)
stands_unique image a b (formatted f) (unformatted u e) = absurd (not_both image a u f)
stands_unique image a b (formatted f) (formatted f') = formatted_unique image a b f f'

-- after a front and a gate, each offset up to the gate is right
pub front_right : (image : List ℕ) (s g : ℕ) (bodies : List (List ℕ)) (rest : List ℕ) → image ≡ front s bodies ++ g ∷ rest → s ≢ 66 → (k : ℕ) → k < 17 → is_right image k ≡ true
front_right image s g bodies rest is bank k lt =
    let all : image ≡ header s ++ (blocks bodies ++ g ∷ rest) = is ∙ append_assoc (header s) (blocks bodies) (g ∷ rest) in
    let long : 16 < length image = omega (arith, ap length all, length-append (header s) (blocks bodies ++ g ∷ rest), length-append (blocks bodies) (g ∷ rest)) in
    let here : nat_lt k (length image) ≡ true = grind (arith, nat_tests) in
    let may : may_stand k (get_or image k 0) ≡ true = elim (cases_lt k 16) [
      | inl less ↦
          let byte : get_or image k 0 ≡ get_or (header s) k 0 = ap (λ (l : List ℕ). get_or l k 0) all ∙ get_or_append_left (header s) (blocks bodies ++ g ∷ rest) 0 k less in
          rw byte (header_may s k less bank)
      | inr most ↦ grind (arith, nat_tests)
    ] in
    rw (here, may) refl
