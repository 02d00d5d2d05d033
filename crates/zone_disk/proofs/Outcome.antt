-- Opening an image comes to at most one thing.
use Rattle.std.proofs.Common.{◌≡◌, ◌⊎◌, inl, inr, ℕ, zero, suc, ◌+◌, ◌-◌, ◌<◌, ◌≤◌, List, [], ◌∷◌, ◌++◌, length, take, drop, get_or, refl, sym, ◌∙◌, ap, subst, arith, append_assoc, length-append, take-append-drop}
use Rattle.std.specs.Prelude.{true, Result, Ok, Err, IfOk, IfErr}
use Rattle.std.proofs.lemmas.Bool.{cases_lt, false≢true}
use Rattle.std.proofs.lemmas.List.{append_cancel_left}
use Rattle.zone_disk.specs.declared.bank.TheConstants.{BANK_BYTES}
use Rattle.zone_disk.specs.declared.fault.BankFault.{BankFault}
use Rattle.zone_disk.specs.declared.fault.BankFault.TheVariants.{NotAStore, BadRecord, DiskFault, BankFull, Memory}
use Rattle.zone_disk.specs.Image.{four, blocks, header, front, is_right, IsCut, IsFormatted, IsUnformatted, IsFirstWrong, IsBadRecord, Stands, Opens}
use Rattle.zone_disk.specs.Image.Stands.{formatted, unformatted}
use Rattle.zone_disk.specs.Bank.{Says, outcome_by}
use Rattle.zone_disk.specs.Read.{Explains}
use Rattle.zone_disk.proofs.Blocks.{laid_out, length-front}
use Rattle.zone_disk.proofs.Unique.{IsStop, shut_stops, unique, stands_unique, front_right}

cut_stops : (rest : List ℕ) → IsCut rest → IsStop (1 ∷ rest)
cut_stops rest cut body gate more e = let same : rest ≡ four (length body) ++ (body ++ gate ∷ more) = cc in cut body gate more same

-- a bad record's image: the bank's end cuts off what follows
bad_is : (image : List ℕ) (place : ℕ) (b : IsBadRecord image place) → image ≡ front b.selector b.bodies ++ 1 ∷ (b.rest ++ drop (16 + BANK_BYTES) image)
bad_is image place b =
    sym (take-append-drop (16 + BANK_BYTES) image) ∙ ap (λ (l : List ℕ). l ++ drop (16 + BANK_BYTES) image) b.is ∙ append_assoc (front b.selector b.bodies) (1 ∷ b.rest) (drop (16 + BANK_BYTES) image)

formatted_right : (image : List ℕ) (bodies : List (List ℕ)) → IsFormatted image bodies → (k : ℕ) → k < 17 → is_right image k ≡ true
formatted_right image bodies f = let p = laid_out image bodies f in front_right image _ _ bodies _ p.is p.bank

bad_right : (image : List ℕ) (place : ℕ) → IsBadRecord image place → (k : ℕ) → k < 17 → is_right image k ≡ true
bad_right image place b = front_right image b.selector 1 b.bodies _ (bad_is image place b) b.bank

right_not_wrong : (image : List ℕ) (place : ℕ) → ((k : ℕ) → k < 17 → is_right image k ≡ true) → IsFirstWrong image place → ⊥
right_not_wrong image place right w = false≢true (sym w.wrong ∙ right place (omega (arith, w.within)))

bad_not_unformatted : (image : List ℕ) (s : ℕ) (bodies : List (List ℕ)) (rest : List ℕ) → image ≡ front s bodies ++ 1 ∷ rest → IsUnformatted image → ⊥
bad_not_unformatted [] s bodies rest is u = omega (arith, ap length is, length-append (front s bodies) (1 ∷ rest))
bad_not_unformatted (x ∷ []) s bodies rest is u = omega (arith, ap length is, length-append (front s bodies) (1 ∷ rest), length-front s bodies)
bad_not_unformatted (x ∷ y ∷ more) s bodies rest is u = u.0 (ap (λ (l : List ℕ). get_or l 0 0) is)

behind_front : (s : ℕ) (bodies : List (List ℕ)) (rest l : List ℕ) → l ≡ front s bodies ++ rest → drop 16 l ≡ blocks bodies ++ rest
behind_front s bodies rest l is = ap (λ (l : List ℕ). drop 16 l) (is ∙ append_assoc (header s) (blocks bodies) rest)

take_past : (F rest : List ℕ) (n : ℕ) → length F ≤ n → take n (F ++ rest) ≡ F ++ take (n - length F) rest
take_past [] rest n le = let e : n ≡ n - 0 = omega arith in ap (λ (k : ℕ). take k rest) e
take_past (x ∷ F) rest zero le = absurd (omega arith)
take_past (x ∷ F) rest (suc n) le = ap (λ (l : List ℕ). x ∷ l) (take_past F rest n (omega arith) ∙ ap (λ (k : ℕ). F ++ take k rest) (omega arith))

-- the closed gate is within the bank
within_bank : (image : List ℕ) (bodies : List (List ℕ)) (s g : ℕ) (rest : List ℕ) → image ≡ front s bodies ++ g ∷ rest → length (blocks bodies) + 1 ≤ BANK_BYTES → (more : List ℕ) × (take (16 + BANK_BYTES) image ≡ front s bodies ++ g ∷ more)
within_bank image bodies s g rest is inside =
    let F = front s bodies ++ g ∷ [] in
    let size : length F ≤ 16 + BANK_BYTES = omega (arith, length-append (front s bodies) (g ∷ []), length-front s bodies) in
    let n = 16 + BANK_BYTES - length F in
    let all : image ≡ F ++ rest = is ∙ sym (append_assoc (front s bodies) (g ∷ []) rest) in
    (take n rest, ap (λ (l : List ℕ). take (16 + BANK_BYTES) l) all ∙ take_past F rest (16 + BANK_BYTES) size ∙ append_assoc (front s bodies) (g ∷ []) (take n rest))

formatted_not_bad : (image : List ℕ) (bodies : List (List ℕ)) (place : ℕ) → IsFormatted image bodies → IsBadRecord image place → ⊥
formatted_not_bad image bodies place f b =
    let p = laid_out image bodies f in
    let w = within_bank image bodies _ _ _ p.is p.inside in
    let e : blocks bodies ++ get_or image (16 + length (blocks bodies)) 1 ∷ w.0 ≡ blocks b.bodies ++ 1 ∷ b.rest = sym (behind_front _ bodies _ _ w.1) ∙ behind_front _ b.bodies _ _ b.is in
    let same : bodies ≡ b.bodies = unique bodies b.bodies _ _ _ _ (shut_stops _ _ p.closed) (cut_stops b.rest b.cut) e in
    let rest : get_or image (16 + length (blocks bodies)) 1 ∷ w.0 ≡ 1 ∷ b.rest = append_cancel_left (blocks b.bodies) _ _ (ap (λ (l : List (List ℕ)). blocks l ++ get_or image (16 + length (blocks bodies)) 1 ∷ w.0) (sym same) ∙ e) in
    p.closed (ap (λ (l : List ℕ). get_or l 0 0) rest)

same_bad : (image : List ℕ) (p q : ℕ) → IsBadRecord image p → IsBadRecord image q → p ≡ q
same_bad image p q a b =
    let e : blocks a.bodies ++ 1 ∷ a.rest ≡ blocks b.bodies ++ 1 ∷ b.rest = sym (behind_front _ a.bodies _ _ a.is) ∙ behind_front _ b.bodies _ _ b.is in
    let same : a.bodies ≡ b.bodies = unique a.bodies b.bodies _ _ _ _ (cut_stops a.rest a.cut) (cut_stops b.rest b.cut) e in
    a.there ∙ ap (λ (l : List (List ℕ)). 16 + length (blocks l)) same ∙ sym b.there

same_wrong : (image : List ℕ) (p q : ℕ) → IsFirstWrong image p → IsFirstWrong image q → p ≡ q
same_wrong image p q a b = elim (cases_lt p q) [
  | inl less ↦ absurd (false≢true (sym a.wrong ∙ b.before p less))
  | inr le ↦ elim (cases_lt q p) [
    | inl less ↦ absurd (false≢true (sym b.wrong ∙ a.before q less))
    | inr ge ↦ omega arith
  ]
]

stands_not_wrong : (image : List ℕ) (bodies : List (List ℕ)) (place : ℕ) → Stands image bodies → (IsUnformatted image → ⊥) → IsFirstWrong image place → ⊥
stands_not_wrong image bodies place (unformatted u e) other w = other u
stands_not_wrong image bodies place (formatted f) other w = right_not_wrong image place (formatted_right image bodies f) w

stands_not_bad : (image : List ℕ) (bodies : List (List ℕ)) (place : ℕ) → Stands image bodies → IsBadRecord image place → ⊥
stands_not_bad image bodies place (unformatted u e) b = bad_not_unformatted image _ _ _ (bad_is image place b) u
stands_not_bad image bodies place (formatted f) b = formatted_not_bad image bodies place f b

pub one_way : (image : List ℕ) (a b : Result (List (List ℕ)) BankFault) → Opens image a → Opens image b → a ≡ b
one_way image (Ok a) (Ok b) s t = ap Ok (stands_unique image a b s t)
one_way image (Ok a) (Err (NotAStore p)) s t = absurd (stands_not_wrong image a p s t.0 t.1)
one_way image (Ok a) (Err (BadRecord p)) s t = absurd (stands_not_bad image a p s t)
one_way image (Ok a) (Err DiskFault) s t = absurd t
one_way image (Ok a) (Err BankFull) s t = absurd t
one_way image (Ok a) (Err Memory) s t = absurd t
one_way image (Err (NotAStore p)) (Ok b) s t = absurd (stands_not_wrong image b p t s.0 s.1)
one_way image (Err (NotAStore p)) (Err (NotAStore q)) s t = ap (λ (n : ℕ). Err (NotAStore n)) (same_wrong image p q s.1 t.1)
one_way image (Err (NotAStore p)) (Err (BadRecord q)) s t = absurd (right_not_wrong image p (bad_right image q t) s.1)
one_way image (Err (NotAStore p)) (Err DiskFault) s t = absurd t
one_way image (Err (NotAStore p)) (Err BankFull) s t = absurd t
one_way image (Err (NotAStore p)) (Err Memory) s t = absurd t
one_way image (Err (BadRecord p)) (Ok b) s t = absurd (stands_not_bad image b p t s)
one_way image (Err (BadRecord p)) (Err (NotAStore q)) s t = absurd (right_not_wrong image q (bad_right image p s) t.1)
one_way image (Err (BadRecord p)) (Err (BadRecord q)) s t = ap (λ (n : ℕ). Err (BadRecord n)) (same_bad image p q s t)
one_way image (Err (BadRecord p)) (Err DiskFault) s t = absurd t
one_way image (Err (BadRecord p)) (Err BankFull) s t = absurd t
one_way image (Err (BadRecord p)) (Err Memory) s t = absurd t
one_way image (Err DiskFault) b s t = absurd s
one_way image (Err BankFull) b s t = absurd s
one_way image (Err Memory) b s t = absurd s

-- what is read of a disk that isn't unformatted, said of the image before
module _ (old mid : List ℕ) (other : IsUnformatted old → ⊥) (same : mid ≡ old) where
  explained_before : (fault : BankFault) → Explains fault mid → (fault ≡ Memory) ⊎ (fault ≡ DiskFault) ⊎ Opens old (Err fault)
  explained_before Memory e = inl refl
  explained_before DiskFault e = inr (inl refl)
  explained_before BankFull e = absurd e
  explained_before (NotAStore place) e = inr (inr (other, subst (λ (l : List ℕ). IsFirstWrong l place) same e))
  explained_before (BadRecord place) e = inr (inr (subst (λ (l : List ℕ). IsBadRecord l place) same e))

  pub says_before : {R : Type 0} (records : R → List (List ℕ)) (r : Result R BankFault) → IfOk r (λ r. IsFormatted mid (records r)) → IfErr r (λ e. Explains e mid) → Says old (outcome_by records (λ (e : BankFault). e) r)
  says_before records (Ok r) ok err = formatted (subst (λ (l : List ℕ). IsFormatted l (records r)) same ok)
  says_before records (Err e) ok err = explained_before e err
