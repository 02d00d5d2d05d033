-- A table of properties, of which some are set and some are still as in the beginning.
use Rattle.std.proofs.Common.{◌≡◌, ◌≤◌, ◌⊎◌, inl, inr, ℕ, true, false, not, ◌||◌, List, [], ◌∷◌, ◌++◌, length, Some, refl, ap, sym, subst, ◌∙◌, arith, append_assoc, append-nil, length-append}
use Rattle.std.specs.Prelude.{map, find}
use Rattle.std.specs.List.{flat_map}
use Rattle.std.specs.Str.{bytes_eq}
use Rattle.std.proofs.lemmas.Bool.{and_parts, false_from_ne_true, not-true, or_from, or_parts}
use Rattle.std.proofs.lemmas.List.{map-append}
use Rattle.std.proofs.lemmas.List.Concat.{flat_map-append}
use Rattle.std.proofs.lemmas.List.Folds.{list_any-append}
use Rattle.std.proofs.lemmas.Slice.Eq.{bytes_eq-Decides}
use Rattle.config_terms.specs.Allowed.{are_distinct, has_key}
use Rattle.config_terms.specs.Texts.{setting}
use Rattle.export_read.specs.Commands.{where_set}
use Rattle.export_read.specs.declared.command.Command.{Command}
use Rattle.export_read.specs.declared.command.Command.TheVariants.{Set}
use Rattle.export_read.specs.Drafts.{put}
use Rattle.export_read.specs.declared.draft.Draft.{Draft}
use Rattle.export_read.proofs.Walks.{Begins, Walks}

eq_turned : (a b : List ℕ) → bytes_eq a b ≡ false → bytes_eq b a ≡ false
eq_turned a b h = false_from_ne_true (bytes_eq b a) (λ e. let bad : bytes_eq a b ≡ true = (bytes_eq-Decides a b).1 (sym ((bytes_eq-Decides b a).0 e)) in absurd (cc))

pub eq_self : (a : List ℕ) → bytes_eq a a ≡ true
eq_self a = (bytes_eq-Decides a a).1 refl

-- one of a list of distinct keys is not among those before it
pub apart_before : {A : Type 0} (key : A → List ℕ) (pre post : List A) (x : A) → are_distinct key (pre ++ x ∷ post) ≡ true → has_key key (key x) pre ≡ false
apart_before key [] post x h = refl
apart_before key (y ∷ pre) post x h =
    let h : (not (has_key key (key y) (pre ++ x ∷ post)) ≡ true) × (are_distinct key (pre ++ x ∷ post) ≡ true) = and_parts _ _ h in
    let a : (has_key key (key y) pre || has_key key (key y) (x ∷ post)) ≡ false = sym (list_any-append (λ z. bytes_eq (key z) (key y)) pre (x ∷ post)) ∙ not-true _ h.0 in
    let b : (has_key key (key y) pre ≡ false) × (has_key key (key y) (x ∷ post) ≡ false) = or_parts _ _ a in
    let c : (bytes_eq (key x) (key y) ≡ false) × (has_key key (key y) post ≡ false) = or_parts _ _ b.1 in
    or_from _ _ (eq_turned (key x) (key y) c.0) (apart_before key pre post x h.1)

-- nor among those after it
pub apart_behind : {A : Type 0} (key : A → List ℕ) (pre post : List A) (x : A) → are_distinct key (pre ++ x ∷ post) ≡ true → has_key key (key x) post ≡ false
apart_behind key [] post x h =
    let h : (not (has_key key (key x) post) ≡ true) × (are_distinct key post ≡ true) = and_parts _ _ h in not-true _ h.0
apart_behind key (y ∷ pre) post x h =
    let h : (not (has_key key (key y) (pre ++ x ∷ post)) ≡ true) × (are_distinct key (pre ++ x ∷ post) ≡ true) = and_parts _ _ h in
    apart_behind key pre post x h.1

-- the row of a name is found by it
pub find_own : {P : Type 0} (name : P → List ℕ) (pre post : List P) (p : P) → has_key name (name p) pre ≡ false → find (λ q. bytes_eq (name p) (name q)) (pre ++ p ∷ post) ≡ Some p
find_own name [] post p h = rw (eq_self (name p)) refl
find_own name (q ∷ pre) post p h =
    let h : (bytes_eq (name q) (name p) ≡ false) × (has_key name (name p) pre ≡ false) = or_parts _ _ h in
    rw (eq_turned (name q) (name p) h.0) (find_own name pre post p h.1)

-- rows of a table, each with a name, and what they show of a thing
module _ {P S : Type 0} (name : P → List ℕ) (shown : S → P → List ℕ) where
  abbrev pub row_commands : S → P → List Command
  row_commands s p = where_set (name p) (shown s p)

  abbrev pub row_line : S → P → List ℕ
  row_line s p = setting (name p) (shown s p)

  -- what is shown alike has the same commands and lines
  pub same_commands : (s t : S) (ps : List P) → map (shown s) ps ≡ map (shown t) ps → flat_map (row_commands s) ps ≡ flat_map (row_commands t) ps
  same_commands s t [] h = refl
  same_commands s t (p ∷ ps) h =
      let first : shown s p ≡ shown t p = cc in
      let rest : map (shown s) ps ≡ map (shown t) ps = cc in
      ap (λ v. where_set (name p) v ++ flat_map (row_commands s) ps) first ∙ ap (λ l. row_commands t p ++ l) (same_commands s t ps rest)

  pub same_lines : (s t : S) (ps : List P) → map (shown s) ps ≡ map (shown t) ps → flat_map (row_line s) ps ≡ flat_map (row_line t) ps
  same_lines s t [] h = refl
  same_lines s t (p ∷ ps) h =
      let first : shown s p ≡ shown t p = cc in
      let rest : map (shown s) ps ≡ map (shown t) ps = cc in
      ap (λ v. setting (name p) v ++ flat_map (row_line s) ps) first ∙ ap (λ l. row_line t p ++ l) (same_lines s t ps rest)

  -- a row given a value leaves all rows of other names as they were
  pub map-others : (p : P) (s t : S) → ((q : P) → (q ≡ p) ⊎ (shown t q ≡ shown s q)) → (ps : List P) → has_key name (name p) ps ≡ false → map (shown t) ps ≡ map (shown s) ps
  map-others p s t others [] h = refl
  map-others p s t others (q ∷ ps) h =
      let h : (bytes_eq (name q) (name p) ≡ false) × (has_key name (name p) ps ≡ false) = or_parts _ _ h in
      let first : shown t q ≡ shown s q = elim (others q) as (λ _. shown t q ≡ shown s q) [
        | inl same ↦ let bad : bytes_eq (name q) (name p) ≡ true = ap (λ r. bytes_eq (name r) (name p)) same ∙ eq_self (name p) in absurd (cc)
        | inr as_before ↦ as_before
      ] in
      ap (λ v. v ∷ map (shown t) ps) first ∙ ap (λ l. shown s q ∷ l) (map-others p s t others ps h.1)

-- a thing of which some rows show what the goal shows, and the others what was shown in the beginning
pub record IsBetween {P S : Type 0} (shown : S → P → List ℕ) (base goal : S) (done rest : List P) (s : S) : Type 0 where
  pub given : map (shown s) done ≡ map (shown goal) done
  pub unset : map (shown s) rest ≡ map (shown base) rest

-- what setting a row of a table does, on the way to a goal
pub record IsStep {P S : Type 0} (name : P → List ℕ) (shown : S → P → List ℕ) (wrap : S → Draft) (stays : S → Type 0) (p : P) (v : List ℕ) (s t : S) : Type 0 where
  pub is_put : put (Set (name p) v) (wrap s) ≡ Some (wrap t)
  pub shows : shown t p ≡ v
  pub others : (q : P) → (q ≡ p) ⊎ (shown t q ≡ shown s q)
  pub kept : stays t

pub record Reaches {P S : Type 0} (shown : S → P → List ℕ) (wrap : S → Draft) (stays : S → Type 0) (base goal : S) (table : List P) (q : List Command) (s : S) (commands : List Command) : Type 0 where
  pub end : S
  pub walks : Walks q (wrap s) commands (wrap end)
  pub all : IsBetween shown base goal table [] end
  pub kept : stays end

map-one : {P S : Type 0} (shown : S → P → List ℕ) (s t : S) (done : List P) (p : P) → map (shown s) done ≡ map (shown t) done → shown s p ≡ shown t p → map (shown s) (done ++ p ∷ []) ≡ map (shown t) (done ++ p ∷ [])
map-one shown s t done p h e = map-append (shown s) done (p ∷ []) ∙ ap (λ l. l ++ shown s p ∷ []) h ∙ ap (λ v. map (shown t) done ++ v ∷ []) e ∙ sym (map-append (shown t) done (p ∷ []))

-- with one more row set
pub one_more : {P S : Type 0} (name : P → List ℕ) (shown : S → P → List ℕ) (base goal : S) (done rest : List P) (p : P) (s t : S) → are_distinct name (done ++ p ∷ rest) ≡ true
    → IsBetween shown base goal done (p ∷ rest) s → shown t p ≡ shown goal p → ((q : P) → (q ≡ p) ⊎ (shown t q ≡ shown s q)) → IsBetween shown base goal (done ++ p ∷ []) rest t
one_more name shown base goal done rest p s t apart between shows others =
    let tail : map (shown s) rest ≡ map (shown base) rest = (let h = between.unset in cc) in
    record {
      given = map-one shown t goal done p (map-others name shown p s t others done (apart_before name done rest p apart) ∙ between.given) shows;
      unset = map-others name shown p s t others rest (apart_behind name done rest p apart) ∙ tail;
    }

-- what must be known of a table to walk its rows
pub record IsTable {P S : Type 0} (name : P → List ℕ) (shown : S → P → List ℕ) (wrap : S → Draft) (stays : S → Type 0) (base goal : S) (table : List P) (q : List Command) : Type 0 where
  pub distinct : are_distinct name table ≡ true
  pub unset : (p : P) → shown goal p ≡ [] → shown base p ≡ []
  pub next : P → List ℕ → S → S
  pub step : (done rest : List P) (p : P) (b : ℕ) (v : List ℕ) (s : S) → done ++ p ∷ rest ≡ table → IsBetween shown base goal done (p ∷ rest) s → stays s → shown goal p ≡ b ∷ v
      → IsStep name shown wrap stays p (b ∷ v) s (next p (b ∷ v) s)
  pub begins : (done rest : List P) (p : P) (b : ℕ) (v : List ℕ) (s : S) → done ++ p ∷ rest ≡ table → IsBetween shown base goal (done ++ p ∷ []) rest s → stays s → shown goal p ≡ b ∷ v
      → Begins (q ++ flat_map (row_commands name shown goal) (done ++ p ∷ [])) (wrap s)

module _ {P S : Type 0} (name : P → List ℕ) (shown : S → P → List ℕ) (wrap : S → Draft) (stays : S → Type 0) (base goal : S) (table : List P) (q : List Command) (T : IsTable name shown wrap stays base goal table q) where
  abbrev commands : P → List Command
  commands p = row_commands name shown goal p

  -- the rows are walked to the goal
  pub walk_rows : (done rest : List P) (s : S) → done ++ rest ≡ table → IsBetween shown base goal done rest s → stays s
      → Reaches shown wrap stays base goal table (q ++ flat_map commands done) s (flat_map commands rest)
  walk_rows done [] s e between kept =
      let same : done ≡ table = sym (append-nil done) ∙ e in
      let B : List P → Type 0 = λ l. IsBetween shown base goal l [] s in
      record { end = s; walks = refl; all = subst B same between; kept = kept }
  walk_rows done (p ∷ rest) s e between kept =
      let go : (done ++ p ∷ []) ++ rest ≡ table = append_assoc done (p ∷ []) rest ∙ e in
      let more : q ++ flat_map commands (done ++ p ∷ []) ≡ (q ++ flat_map commands done) ++ commands p =
      ap (λ l. q ++ l) (flat_map-append commands done (p ∷ []) ∙ ap (λ l. flat_map commands done ++ l) (append-nil (commands p))) ∙ sym (append_assoc q (flat_map commands done) (commands p)) in
      let apart : are_distinct name (done ++ p ∷ rest) ≡ true = ap (are_distinct name) e ∙ T.distinct in
      elim (shown goal p) as (λ v. shown goal p ≡ v → Reaches shown wrap stays base goal table (q ++ flat_map commands done) s (where_set (name p) v ++ flat_map commands rest)) [
        | [] ↦ λ is.
            let first : shown s p ≡ shown base p = cc in
            let tail : map (shown s) rest ≡ map (shown base) rest = cc in
            let now : IsBetween shown base goal (done ++ p ∷ []) rest s = record { given = map-one shown s goal done p between.given (first ∙ T.unset p is ∙ sym is); unset = tail } in
            let on = walk_rows (done ++ p ∷ []) rest s go now kept in
            let R : List Command → Type 0 = λ l. Reaches shown wrap stays base goal table l s (flat_map commands rest) in
            subst R (more ∙ ap (λ v. (q ++ flat_map commands done) ++ where_set (name p) v) is ∙ append-nil (q ++ flat_map commands done)) on
        | b ∷ v ↦ λ is.
            let t = T.next p (b ∷ v) s in
            let step = T.step done rest p b v s e between kept is in
            let now = one_more name shown base goal done rest p s t apart between (step.shows ∙ sym is) step.others in
            let on = walk_rows (done ++ p ∷ []) rest t go now step.kept in
            let here : q ++ flat_map commands (done ++ p ∷ []) ≡ (q ++ flat_map commands done) ++ Set (name p) (b ∷ v) ∷ [] = more ∙ ap (λ v. (q ++ flat_map commands done) ++ where_set (name p) v) is in
            let B : List Command → Type 0 = λ l. Begins l (wrap t) in
            let W : List Command → Type 0 = λ l. Walks l (wrap t) (flat_map commands rest) (wrap on.end) in
            record {
              end = on.end;
              walks = (wrap t, step.is_put, subst B here (T.begins done rest p b v t e now step.kept is), subst W here on.walks);
              all = on.all;
              kept = on.kept;
            }
      ] refl

-- the rows that are still as in the beginning take no more than those of the goal
pub rows_least : {P S : Type 0} (name : P → List ℕ) (shown : S → P → List ℕ) (base goal : S) (rest : List P)
    → ((p : P) → length (setting (name p) (shown base p)) ≤ length (setting (name p) (shown goal p)))
    → length (flat_map (row_line name shown base) rest) ≤ length (flat_map (row_line name shown goal) rest)
rows_least name shown base goal [] least = omega arith
rows_least name shown base goal (p ∷ rest) least =
    let first = least p in
    let behind = rows_least name shown base goal rest least in
    let a = length-append (row_line name shown base p) (flat_map (row_line name shown base) rest) in
    let b = length-append (row_line name shown goal p) (flat_map (row_line name shown goal) rest) in
    omega (arith, first, behind, a, b)

-- the lines of a thing on the way
pub between_lines : {P S : Type 0} (name : P → List ℕ) (shown : S → P → List ℕ) (base goal : S) (done rest table : List P) (s : S) → done ++ rest ≡ table → IsBetween shown base goal done rest s
    → flat_map (row_line name shown s) table ≡ flat_map (row_line name shown goal) done ++ flat_map (row_line name shown base) rest
between_lines name shown base goal done rest table s e between =
    ap (flat_map (row_line name shown s)) (sym e) ∙ flat_map-append (row_line name shown s) done rest
    ∙ ap (λ l. l ++ flat_map (row_line name shown s) rest) (same_lines name shown s goal done between.given)
    ∙ ap (λ l. flat_map (row_line name shown goal) done ++ l) (same_lines name shown s base rest between.unset)

-- and they are no more than those of the goal
pub between_short : {P S : Type 0} (name : P → List ℕ) (shown : S → P → List ℕ) (base goal : S) (done rest table : List P) (s : S) → done ++ rest ≡ table → IsBetween shown base goal done rest s
    → ((p : P) → length (setting (name p) (shown base p)) ≤ length (setting (name p) (shown goal p)))
    → length (flat_map (row_line name shown s) table) ≤ length (flat_map (row_line name shown goal) table)
between_short name shown base goal done rest table s e between least =
    let lines = ap length (between_lines name shown base goal done rest table s e between) ∙ length-append (flat_map (row_line name shown goal) done) (flat_map (row_line name shown base) rest) in
    let whole = ap (λ l. length (flat_map (row_line name shown goal) l)) (sym e) ∙ ap length (flat_map-append (row_line name shown goal) done rest) ∙ length-append (flat_map (row_line name shown goal) done) (flat_map (row_line name shown goal) rest) in
    let behind = rows_least name shown base goal rest least in
    omega (arith, lines, whole, behind)
