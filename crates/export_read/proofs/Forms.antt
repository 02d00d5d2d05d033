-- One resource is walked, whatever its kind.
use Rattle.std.proofs.Common.{◌≡◌, ◌≤◌, ◌+◌, ℕ, Bool, true, false, not, ◌&&◌, List, [], ◌∷◌, ◌++◌, length, Some, None, Ok, refl, ap, sym, subst, ◌∙◌, arith, append_assoc, append-nil, length-append}
use Rattle.std.specs.Prelude.{map, nat_lt, find}
use Rattle.std.specs.List.{AllByRecursion, flat_map, list_all}
use Rattle.std.specs.Str.{bytes_eq}
use Rattle.std.proofs.lemmas.Bool.Decides.{nat_tests}
use Rattle.std.proofs.lemmas.Bool.{and_parts, not-true}
use Rattle.std.proofs.lemmas.List.{map-append}
use Rattle.std.proofs.lemmas.List.Concat.{flat_map-append}
use Rattle.std.proofs.lemmas.List.Folds.{list_all-append}
use Rattle.zn_base.specs.declared.values.Value.TheVariants.{Simple}
use Rattle.config_terms.specs.Allowed.{are_distinct, entry_allowed, fields_fit, has_key, is_allowed_limit, is_taken, is_taken_by}
use Rattle.config_terms.specs.Edits.{with_property as with_own}
use Rattle.config_terms.specs.Fields.{field_name, field_named, field_rule, fields_of, key_field}
use Rattle.config_terms.specs.Rules.{fits, obeys}
use Rattle.config_terms.specs.declared.fields.Field.{Field}
use Rattle.config_terms.specs.Texts.{setting}
use Rattle.config_terms.specs.declared.rules.Rule.{Rule}
use Rattle.config_terms.specs.declared.rules.Rule.TheVariants.{OptionWord}
use Rattle.config_terms.specs.declared.terms.Kind.{Kind}
use Rattle.config_terms.specs.declared.terms.Limit.{Limit}
use Rattle.config_terms.specs.declared.terms.Resource.{Resource}
use Rattle.export_read.proofs.Printable.{fits-set}
use Rattle.export_read.proofs.Texts.{text-append, text-where_set, text_of}
use Rattle.export_read.specs.Commands.{entry_commands, where_any, where_set}
use Rattle.export_read.specs.declared.command.Command.{Command}
use Rattle.export_read.specs.declared.command.Command.TheVariants.{Open, Options, Value, End}
use Rattle.zone_config.specs.Export.{export_text}
use Rattle.zone_config.specs.Resources.{with_resource}
use Rattle.zone_config.specs.declared.terms.Contents.{Contents}
use Rattle.export_read.specs.Drafts.{closed, completed, named_in, opened, put}
use Rattle.export_read.specs.Names.{fresh, is_free}
use Rattle.export_read.specs.declared.draft.Draft.{Draft}
use Rattle.export_read.proofs.Fresh.{fresh_free, fresh_least}
use Rattle.export_read.proofs.KindShapes.{IsForm, IsPlace}
use Rattle.export_read.proofs.Tables.{IsBetween, IsStep, IsTable, Reaches, apart_before, find_own, one_more, row_commands, same_commands, walk_rows}
use Rattle.export_read.proofs.Walks.{Begins, Walks, walk-one, walk-then}

-- what begins as the whole text does, and goes on no longer, is short enough
pub within : (q tail rest : List Command) (text whole : List ℕ) → text ≡ text_of (q ++ tail) → whole ≡ text_of (q ++ rest) → length (text_of tail) ≤ length (text_of rest) → length whole ≤ 32768
    → nat_lt 32768 (length text) ≡ false
within q tail rest text whole e g less short =
    let a = ap length (e ∙ text-append q tail) ∙ length-append (text_of q) (text_of tail) in
    let b = ap length (g ∙ text-append q rest) ∙ length-append (text_of q) (text_of rest) in
    grind (arith, nat_tests)

-- commands before the last one are no longer than with more of them
end_last : (more rest : List Command) → length (text_of (End ∷ [])) ≤ length (text_of ((more ++ End ∷ []) ++ rest))
end_last more rest =
    let a = ap length (text-append (more ++ End ∷ []) rest) ∙ length-append (text_of (more ++ End ∷ [])) (text_of rest) in
    let b = ap length (text-append more (End ∷ [])) ∙ length-append (text_of more) (text_of (End ∷ [])) in
    omega (arith, a, b)

-- a name that is not used, where no name at all is, obeys its rule
set_name : (rule : Rule) (used : List ℕ → Bool) (name : List ℕ) → used [] ≡ true → not (used name) ≡ true → fits rule name ≡ true → obeys rule name ≡ true
set_name rule used [] taken free fit = let bad = not-true (used []) free in absurd (cc)
set_name rule used (b ∷ name) taken free fit = fits-set rule b name fit

module _ {A : Type 0} (k : Kind) (wrap : A → Resource) (shown : A → Field → List ℕ) (options : A → List (List ℕ)) (values : A → List Limit) (put_field : Field → List ℕ → A → A)
    (whole : A → Bool) (nothing : A) (F : IsForm k wrap shown options values put_field whole nothing)
    (c : Contents) (now : List A → Contents) (front behind : List Command) (all : List A) where
  abbrev pub commands : A → List Command
  commands a = entry_commands k (shown a) (options a) (values a)

  abbrev pub allowed : A → Bool
  allowed a = whole a && entry_allowed k (shown a) (options a) (values a)

  module _ (P : IsPlace k wrap shown options commands c now front behind all) (pre post : List A) (x : A) (at : pre ++ x ∷ post ≡ all) where
    abbrev before : List Command
    before = front ++ flat_map commands pre

    -- the text with one more resource, and the whole text
    text_with : (y : A) → export_text (now (pre ++ y ∷ [])) ≡ text_of (before ++ commands y)
    text_with y =
        P.text (pre ++ y ∷ []) ∙ ap text_of (ap (λ l. front ++ l) (flat_map-append commands pre (y ∷ []) ∙ ap (λ l. flat_map commands pre ++ l) (append-nil (commands y)))
        ∙ sym (append_assoc front (flat_map commands pre) (commands y)))

    text_whole : export_text c ≡ text_of (before ++ (commands x ++ (flat_map commands post ++ behind)))
    text_whole =
        P.whole ∙ ap text_of (ap (λ l. front ++ (flat_map commands l ++ behind)) (sym at) ∙ ap (λ l. front ++ (l ++ behind)) (flat_map-append commands pre (x ∷ post))
        ∙ ap (λ l. front ++ l) (append_assoc (flat_map commands pre) (commands x ++ flat_map commands post) behind ∙ ap (λ l. flat_map commands pre ++ l) (append_assoc (commands x) (flat_map commands post) behind))
        ∙ sym (append_assoc front (flat_map commands pre) (commands x ++ (flat_map commands post ++ behind))))

    -- a resource in the place of the next one, that is no longer, is taken
    can_add : (y : A) → allowed y ≡ true → is_taken shown k y pre ≡ false → nat_lt 32 (length (options y)) ≡ false
        → length (text_of (commands y)) ≤ length (text_of (commands x ++ (flat_map commands post ++ behind))) → with_resource (wrap y) (now pre) ≡ Ok (now (pre ++ y ∷ []))
    unfolding with_resource
    can_add y good free few less =
        let small = within before (commands y) (commands x ++ (flat_map commands post ++ behind)) (export_text (now (pre ++ y ∷ []))) (export_text c) (text_with y) text_whole less P.short in
        rw (F.judged y, good, P.taken pre y, free, P.limit pre post x y at few, P.adds pre y, small) refl

    -- and completes what is open
    completes : (y : A) → allowed y ≡ true → is_taken shown k y pre ≡ false → nat_lt 32 (length (options y)) ≡ false
        → length (text_of (commands y)) ≤ length (text_of (commands x ++ (flat_map commands post ++ behind))) → completed (opened (now pre) (wrap y)) ≡ Some (now (pre ++ y ∷ []))
    unfolding completed
    completes y good free few less = rw (P.taken pre y, free, can_add y good free few less) refl

    -- a resource of which all but the last lines are those of the next one
    begins_so : (y : A) (done more : List Command) → commands y ≡ done ++ End ∷ [] → commands x ≡ done ++ (more ++ End ∷ []) → allowed y ≡ true → is_taken shown k y pre ≡ false
        → nat_lt 32 (length (options y)) ≡ false → Begins (before ++ done) (opened (now pre) (wrap y))
    begins_so y done more e g good free few =
        let rest = flat_map commands post ++ behind in
        let a = ap (λ l. length (text_of l)) e ∙ ap length (text-append done (End ∷ [])) ∙ length-append (text_of done) (text_of (End ∷ [])) in
        let b = ap (λ l. length (text_of (l ++ rest))) g ∙ ap (λ l. length (text_of l)) (append_assoc done (more ++ End ∷ []) rest) ∙ ap length (text-append done ((more ++ End ∷ []) ++ rest)) ∙ length-append (text_of done) (text_of ((more ++ End ∷ []) ++ rest)) in
        let less = end_last more rest in (
          now (pre ++ y ∷ []),
          completes y good free few (omega (arith, a, b, less)),
          (text_of (End ∷ []), text_with y ∙ ap (λ l. text_of (before ++ l)) e ∙ ap text_of (sym (append_assoc before done (End ∷ []))) ∙ text-append (before ++ done) (End ∷ [])),
        )

    -- while its properties are set, a resource has no list
    record IsOpen (a : A) : Type 0 where
      lacks_options : options a ≡ []
      lacks_values : values a ≡ []
      is_whole : whole a ≡ true

    abbrev rows : A → Field → List Command
    rows a f = row_commands field_name shown a f

    nothing_rows : (fs : List Field) → flat_map (rows nothing) fs ≡ []
    nothing_rows [] = refl
    nothing_rows (f ∷ fs) = rw (F.shows_nothing f) (nothing_rows fs)

    open_commands : (t : A) (done rest : List Field) (s : A) → done ++ rest ≡ fields_of k → IsBetween shown nothing t done rest s → IsOpen s → commands s ≡ (Open k ∷ flat_map (rows t) done) ++ End ∷ []
    open_commands t done rest s e between is_open =
        let fields : flat_map (rows s) (fields_of k) ≡ flat_map (rows t) done =
        ap (flat_map (rows s)) (sym e) ∙ flat_map-append (rows s) done rest
        ∙ ap (λ l. l ++ flat_map (rows s) rest) (same_commands field_name shown s t done between.given)
        ∙ ap (λ l. flat_map (rows t) done ++ l) (same_commands field_name shown s nothing rest between.unset ∙ nothing_rows rest)
        ∙ append-nil (flat_map (rows t) done) in
        ap (λ l. Open k ∷ (l ++ (where_any (options s) ++ (map (λ v. Value v) (values s) ++ End ∷ [])))) fields
        ∙ ap (λ l. Open k ∷ (flat_map (rows t) done ++ (where_any l ++ (map (λ v. Value v) (values s) ++ End ∷ [])))) is_open.lacks_options
        ∙ ap (λ l. Open k ∷ (flat_map (rows t) done ++ (map (λ v. Value v) l ++ End ∷ []))) is_open.lacks_values

    goal_commands : (done rest : List Field) → done ++ rest ≡ fields_of k
        → commands x ≡ (Open k ∷ flat_map (rows x) done) ++ ((flat_map (rows x) rest ++ (where_any (options x) ++ map (λ v. Value v) (values x))) ++ End ∷ [])
    goal_commands done rest e =
        let lists = where_any (options x) ++ (map (λ v. Value v) (values x) ++ End ∷ []) in
        ap (λ l. Open k ∷ (flat_map (rows x) l ++ lists)) (sym e) ∙ ap (λ l. Open k ∷ (l ++ lists)) (flat_map-append (rows x) done rest)
        ∙ ap (λ l. Open k ∷ l) (append_assoc (flat_map (rows x) done) (flat_map (rows x) rest) lists)
        ∙ ap (λ l. Open k ∷ (flat_map (rows x) done ++ l)) (ap (λ l. flat_map (rows x) rest ++ l) (sym (append_assoc (where_any (options x)) (map (λ v. Value v) (values x)) (End ∷ [])))
        ∙ sym (append_assoc (flat_map (rows x) rest) (where_any (options x) ++ map (λ v. Value v) (values x)) (End ∷ [])))

    abbrev fit : A → Field → Bool
    fit a f = fits (field_rule f) (shown a f)

    fit_alike : (s t : A) (fs : List Field) → map (shown s) fs ≡ map (shown t) fs → list_all (fit s) fs ≡ list_all (fit t) fs
    fit_alike s t [] h = refl
    fit_alike s t (f ∷ fs) h =
        let first : shown s f ≡ shown t f = cc in
        let rest : map (shown s) fs ≡ map (shown t) fs = cc in
        ap (λ v. fits (field_rule f) v && list_all (fit s) fs) first ∙ ap (λ b. fit t f && b) (fit_alike s t fs rest)

    nothing_fits : (fs : List Field) → list_all (fit nothing) fs ≡ true
    unfolding fits
    nothing_fits [] = refl
    nothing_fits (f ∷ fs) = rw (F.shows_nothing f) (nothing_fits fs)

    open_allowed : (t : A) (done rest : List Field) (s : A) → done ++ rest ≡ fields_of k → IsBetween shown nothing t done rest s → IsOpen s → list_all (fit t) done ≡ true → allowed s ≡ true
    unfolding entry_allowed fields_fit
    open_allowed t done rest s e between is_open fitting =
        let fields : list_all (fit s) (fields_of k) ≡ true =
        ap (list_all (fit s)) (sym e) ∙ list_all-append (fit s) done rest ∙ ap (λ b. b && list_all (fit s) rest) (fit_alike s t done between.given ∙ fitting)
        ∙ fit_alike s nothing rest between.unset ∙ nothing_fits rest in
        rw (is_open.is_whole, fields, is_open.lacks_options, is_open.lacks_values) refl

    -- a row of the kind is found by its name, and set where the value is allowed
    sets : (done rest : List Field) (f : Field) (v : List ℕ) (s : A) → done ++ f ∷ rest ≡ fields_of k → obeys (field_rule f) v ≡ true → with_own (field_name f) (Simple v) (wrap s) ≡ Ok (wrap (put_field f v s))
    unfolding with_own
    sets done rest f v s e good =
        let apart = apart_before field_name done rest f (ap (are_distinct field_name) e ∙ F.distinct) in
        let row : field_named k (field_name f) ≡ Some f = ap (find (λ g. bytes_eq (field_name f) (field_name g))) (sym e) ∙ find_own field_name done rest f apart in
        rw (F.kind s, row, good, F.set f v s) refl

    own_at : (done rest : List Field) (f : Field) (v : List ℕ) (s : A) → done ++ f ∷ rest ≡ fields_of k → shown (put_field f v s) f ≡ v
    own_at done rest f v s e =
        let L : List Field → Type 0 = λ l. AllByRecursion (λ g. (v : List ℕ) (a : A) → shown (put_field g v a) g ≡ v) l in
        all_at done (subst L (sym e) F.own) v s
      where
        all_at : (done : List Field) → AllByRecursion (λ g. (v : List ℕ) (a : A) → shown (put_field g v a) g ≡ v) (done ++ f ∷ rest) → (v : List ℕ) (a : A) → shown (put_field f v a) f ≡ v
        all_at [] h = h.0
        all_at (d ∷ done) h = all_at done h.1

    open_with : (f : Field) (v : List ℕ) (s : A) → IsOpen s → IsOpen (put_field f v s)
    open_with f v s is_open = record {
      lacks_options = F.same_options f v s ∙ is_open.lacks_options;
      lacks_values = F.same_values f v s ∙ is_open.lacks_values;
      is_whole = F.stays_whole f v s is_open.is_whole;
    }

    nothing_open : IsOpen nothing
    nothing_open = record { lacks_options = F.no_options; lacks_values = F.no_values; is_whole = F.whole_nothing }

    -- once a property is set, the first is as in the end
    first_is : (done rest others : List Field) (p f : Field) (s : A) → (done ++ p ∷ []) ++ rest ≡ f ∷ others → map (shown s) (done ++ p ∷ []) ≡ map (shown x) (done ++ p ∷ []) → shown s f ≡ shown x f
    first_is [] rest others p f s e h = let same : p ≡ f = cc in let shows : shown s p ≡ shown x p = cc in ap (λ g. shown s g) (sym same) ∙ shows ∙ ap (λ g. shown x g) same
    first_is (d ∷ done) rest others p f s e h = let same : d ≡ f = cc in let shows : shown s d ≡ shown x d = cc in ap (λ g. shown s g) (sym same) ∙ shows ∙ ap (λ g. shown x g) same

    module _ (good : allowed x ≡ true) (free : is_taken shown k x pre ≡ false) (few : nat_lt 32 (length (options x)) ≡ false) where
      goal_fits : list_all (fit x) (fields_of k) ≡ true
      unfolding entry_allowed fields_fit
      goal_fits =
          let a : (whole x ≡ true) × (entry_allowed k (shown x) (options x) (values x) ≡ true) = and_parts _ _ good in
          let b : ((list_all (fit x) (fields_of k) && list_all (obeys OptionWord) (options x)) ≡ true) × (list_all is_allowed_limit (values x) ≡ true) = and_parts _ _ a.1 in
          let d : (list_all (fit x) (fields_of k) ≡ true) × (list_all (obeys OptionWord) (options x) ≡ true) = and_parts _ _ b.0 in d.0

      fits_before : (done rest : List Field) → done ++ rest ≡ fields_of k → list_all (fit x) done ≡ true
      fits_before done rest e = let both : (list_all (fit x) done ≡ true) × (list_all (fit x) rest ≡ true) = and_parts _ _ (sym (list_all-append (fit x) done rest) ∙ ap (list_all (fit x)) e ∙ goal_fits) in both.0

      taken_alike : (s : A) → ((f : Field) (others : List Field) → fields_of k ≡ f ∷ others → shown s f ≡ shown x f) → is_taken shown k s pre ≡ false
      taken_alike s first =
          elim (key_field k) as (λ o. key_field k ≡ o → is_taken_by shown o x pre ≡ false → is_taken_by shown o s pre ≡ false) [
            | None ↦ λ _ _. refl
            | Some f ↦ λ is none. let at_first = F.key_first f is in ap (λ v. has_key (λ a. shown a f) v pre) (first f at_first.0 at_first.1) ∙ none
          ] refl free

      few_open : (s : A) → IsOpen s → nat_lt 32 (length (options s)) ≡ false
      few_open s is_open = rw is_open.lacks_options refl

      fields_step : (done rest : List Field) (p : Field) (b : ℕ) (v : List ℕ) (s : A) → done ++ p ∷ rest ≡ fields_of k → IsBetween shown nothing x done (p ∷ rest) s → IsOpen s → shown x p ≡ b ∷ v
          → IsStep field_name shown (λ a. opened (now pre) (wrap a)) IsOpen p (b ∷ v) s (put_field p (b ∷ v) s)
      fields_step done rest p b v s e between is_open is =
          let fitting : (list_all (fit x) done ≡ true) × (list_all (fit x) (p ∷ rest) ≡ true) = and_parts _ _ (sym (list_all-append (fit x) done (p ∷ rest)) ∙ ap (list_all (fit x)) e ∙ goal_fits) in
          let own : (fit x p ≡ true) × (list_all (fit x) rest ≡ true) = and_parts _ _ fitting.1 in
          let good = fits-set (field_rule p) b v (ap (fits (field_rule p)) (sym is) ∙ own.0) in
          record {
            is_put = rw (sets done rest p (b ∷ v) s e good) refl;
            shows = own_at done rest p (b ∷ v) s e;
            others = λ q. F.others p q (b ∷ v) s;
            kept = open_with p (b ∷ v) s is_open;
          }

      fields_begin : (done rest : List Field) (p : Field) (b : ℕ) (v : List ℕ) (s : A) → done ++ p ∷ rest ≡ fields_of k → IsBetween shown nothing x (done ++ p ∷ []) rest s → IsOpen s → shown x p ≡ b ∷ v
          → Begins ((before ++ Open k ∷ []) ++ flat_map (rows x) (done ++ p ∷ [])) (opened (now pre) (wrap s))
      fields_begin done rest p b v s e between is_open is =
          let e : (done ++ p ∷ []) ++ rest ≡ fields_of k = append_assoc done (p ∷ []) rest ∙ e in
          let B : List Command → Type 0 = λ l. Begins l (opened (now pre) (wrap s)) in
          subst B (sym (append_assoc before (Open k ∷ []) (flat_map (rows x) (done ++ p ∷ []))))
          (begins_so s (Open k ∷ flat_map (rows x) (done ++ p ∷ [])) (flat_map (rows x) rest ++ (where_any (options x) ++ map (λ v. Value v) (values x)))
          (open_commands x (done ++ p ∷ []) rest s e between is_open) (goal_commands (done ++ p ∷ []) rest e)
          (open_allowed x (done ++ p ∷ []) rest s e between is_open (fits_before (done ++ p ∷ []) rest e))
          (taken_alike s (λ f others first. first_is done rest others p f s (e ∙ first) between.given)) (few_open s is_open))

      -- the properties are walked
      walk_fields : Reaches shown (λ a. opened (now pre) (wrap a)) IsOpen nothing x (fields_of k) (before ++ Open k ∷ []) nothing (flat_map (rows x) (fields_of k))
      walk_fields =
          let table : IsTable field_name shown (λ a. opened (now pre) (wrap a)) IsOpen nothing x (fields_of k) (before ++ Open k ∷ []) = record {
            distinct = F.distinct;
            unset = λ p _. F.shows_nothing p;
            next = put_field;
            step = fields_step;
            begins = fields_begin;
          } in
          let R : List Command → Type 0 = λ q. Reaches shown (λ a. opened (now pre) (wrap a)) IsOpen nothing x (fields_of k) q nothing (flat_map (rows x) (fields_of k)) in
          subst R (append-nil (before ++ Open k ∷ []))
          (walk_rows field_name shown (λ a. opened (now pre) (wrap a)) IsOpen nothing x (fields_of k) (before ++ Open k ∷ []) table [] (fields_of k) nothing refl (record { given = refl; unset = refl }) nothing_open)

      -- opening a resource whose name is not taken
      opens_free : is_taken shown k nothing pre ≡ false → Begins (before ++ Open k ∷ []) (opened (now pre) (wrap nothing))
      opens_free none =
          begins_so nothing (Open k ∷ []) (flat_map (rows x) (fields_of k) ++ (where_any (options x) ++ map (λ v. Value v) (values x)))
          (open_commands x [] (fields_of k) nothing refl (record { given = refl; unset = refl }) nothing_open) (goal_commands [] (fields_of k) refl)
          (open_allowed x [] (fields_of k) nothing refl (record { given = refl; unset = refl }) nothing_open refl) none (few_open nothing nothing_open)

      -- the name of the goal is free
      free_goal : (f : Field) (others : List Field) → [] ++ f ∷ others ≡ fields_of k → is_taken shown k x pre ≡ has_key (λ a. shown a f) (shown x f) pre
          → is_free (field_rule f) (λ n. has_key (λ a. shown a f) n pre) (shown x f) ≡ true
      free_goal f others e by_key =
          let own : (fit x f ≡ true) × (list_all (fit x) others ≡ true) = and_parts _ _ (ap (list_all (fit x)) e ∙ goal_fits) in
          let is_new : has_key (λ a. shown a f) (shown x f) pre ≡ false = sym by_key ∙ free in
          rw (own.0, is_new) refl

      -- a resource with its name alone is no longer than the goal, where the name is not
      shorter : (f : Field) (others : List Field) (y : A) → [] ++ f ∷ others ≡ fields_of k → commands y ≡ (Open k ∷ flat_map (rows y) (f ∷ [])) ++ End ∷ []
          → length (setting (field_name f) (shown y f)) ≡ length (setting (field_name f) (fresh (field_rule f) (λ n. has_key (λ a. shown a f) n pre)))
          → length (setting (field_name f) (fresh (field_rule f) (λ n. has_key (λ a. shown a f) n pre))) ≤ length (setting (field_name f) (shown x f))
          → length (text_of (commands y)) ≤ length (text_of (commands x ++ (flat_map commands post ++ behind)))
      shorter f others y e named_y same least =
          let rest = flat_map commands post ++ behind in
          let more = flat_map (rows x) others ++ (where_any (options x) ++ map (λ v. Value v) (values x)) in
          let a = ap (λ l. length (text_of l)) named_y ∙ ap length (text-append (Open k ∷ flat_map (rows y) (f ∷ [])) (End ∷ [])) ∙ length-append (text_of (Open k ∷ flat_map (rows y) (f ∷ []))) (text_of (End ∷ [])) in
          let b = ap (λ l. length (text_of (l ++ rest))) (goal_commands (f ∷ []) others e) ∙ ap (λ l. length (text_of l)) (append_assoc (Open k ∷ flat_map (rows x) (f ∷ [])) (more ++ End ∷ []) rest)
          ∙ ap length (text-append (Open k ∷ flat_map (rows x) (f ∷ [])) ((more ++ End ∷ []) ++ rest)) ∙ length-append (text_of (Open k ∷ flat_map (rows x) (f ∷ []))) (text_of ((more ++ End ∷ []) ++ rest)) in
          let last = end_last more rest in
          let at_y = head_length f (shown y f) in
          let at_x = head_length f (shown x f) in
          omega (arith, a, b, last, at_y, at_x, same, least)
        where
          head_length : (f : Field) (v : List ℕ) → length (text_of (Open k ∷ (where_set (field_name f) v ++ []))) ≡ length (text_of (Open k ∷ [])) + length (setting (field_name f) v)
          head_length f v =
              ap (λ l. length (text_of (Open k ∷ l))) (append-nil (where_set (field_name f) v)) ∙ ap length (text-append (Open k ∷ []) (where_set (field_name f) v))
              ∙ length-append (text_of (Open k ∷ [])) (text_of (where_set (field_name f) v)) ∙ ap (λ t. length (text_of (Open k ∷ [])) + length t) (text-where_set (field_name f) v)

      -- and one whose unset name is: it is completed by a free one
      opens_taken : (f : Field) → key_field k ≡ Some f → is_taken shown k nothing pre ≡ true → Begins (before ++ Open k ∷ []) (opened (now pre) (wrap nothing))
      unfolding completed
      opens_taken f is taken =
          let key : A → List ℕ = λ a. shown a f in
          let first = F.key_first f is in
          let e : [] ++ f ∷ first.0 ≡ fields_of k = sym first.1 in
          let used : List ℕ → Bool = λ n. has_key key n pre in
          let name = fresh (field_rule f) used in
          let room = P.room pre post x at in
          let is_fresh : (fits (field_rule f) name ≡ true) × (not (used name) ≡ true) = and_parts _ _ (fresh_free key (field_rule f) pre (F.key_named f is) room) in
          let by_key = λ (a : A). ap (λ o. is_taken_by shown o a pre) is in
          let taken_nothing : used [] ≡ true = ap used (sym (F.shows_nothing f)) ∙ sym (by_key nothing) ∙ taken in
          let allowed_name = set_name (field_rule f) used name taken_nothing is_fresh.1 is_fresh.0 in
          let y = put_field f name nothing in
          let own : shown y f ≡ name = own_at [] first.0 f name nothing e in
          let between : IsBetween shown nothing y (f ∷ []) first.0 y =
          one_more field_name shown nothing y [] first.0 f nothing y (ap (are_distinct field_name) e ∙ F.distinct) (record { given = refl; unset = refl }) refl (λ g. F.others f g name nothing) in
          let is_open = open_with f name nothing nothing_open in
          let fits_y : list_all (fit y) (f ∷ []) ≡ true = rw own (rw is_fresh.0 refl) in
          let good_y = open_allowed y (f ∷ []) first.0 y e between is_open fits_y in
          let free_y = by_key y ∙ ap used own ∙ not-true (used name) is_fresh.1 in
          let named_y = open_commands y (f ∷ []) first.0 y e between is_open in
          let less = shorter f first.0 y e named_y (ap (λ v. length (setting (field_name f) v)) own) (fresh_least (field_name f) (field_rule f) used (shown x f) (free_goal f first.0 e (by_key x))) in
          let renamed : named_in (now pre) (wrap nothing) ≡ Some (wrap y) =
          rw (P.taken pre nothing, taken, F.kind nothing, is, P.used pre f is, sets [] first.0 f name nothing e allowed_name) refl in
          let added_y = can_add y good_y free_y (few_open y is_open) less in (
            now (pre ++ y ∷ []),
            rw renamed (rw added_y refl),
            (
              text_of (flat_map (rows y) (f ∷ []) ++ End ∷ []),
              text_with y ∙ ap (λ l. text_of (before ++ l)) named_y
                  ∙ ap text_of (sym (append_assoc before (Open k ∷ []) (flat_map (rows y) (f ∷ []) ++ End ∷ []))) ∙ text-append (before ++ Open k ∷ []) (flat_map (rows y) (f ∷ []) ++ End ∷ []),
            ),
          )

      -- a resource whose simple properties are all set, with its options, and some of its values
      record IsFilled (done : List Limit) (a : A) : Type 0 where
        shows : map (shown a) (fields_of k) ≡ map (shown x) (fields_of k)
        has_options : options a ≡ options x
        has_values : values a ≡ done
        is_full : whole a ≡ true

      abbrev filled : List Limit → List Command
      filled done = Open k ∷ (flat_map (rows x) (fields_of k) ++ (where_any (options x) ++ map (λ v. Value v) done))

      filled_commands : (done : List Limit) (a : A) → IsFilled done a → commands a ≡ filled done ++ End ∷ []
      filled_commands done a is_filled =
          ap (λ l. Open k ∷ (l ++ (where_any (options a) ++ (map (λ v. Value v) (values a) ++ End ∷ [])))) (same_commands field_name shown a x (fields_of k) is_filled.shows)
          ∙ ap (λ l. Open k ∷ (flat_map (rows x) (fields_of k) ++ (where_any l ++ (map (λ v. Value v) (values a) ++ End ∷ [])))) is_filled.has_options
          ∙ ap (λ l. Open k ∷ (flat_map (rows x) (fields_of k) ++ (where_any (options x) ++ (map (λ v. Value v) l ++ End ∷ [])))) is_filled.has_values
          ∙ ap (λ l. Open k ∷ l) (ap (λ l. flat_map (rows x) (fields_of k) ++ l) (sym (append_assoc (where_any (options x)) (map (λ v. Value v) done) (End ∷ [])))
          ∙ sym (append_assoc (flat_map (rows x) (fields_of k)) (where_any (options x) ++ map (λ v. Value v) done) (End ∷ [])))

      goal_filled : (done rest : List Limit) → done ++ rest ≡ values x → commands x ≡ filled done ++ (map (λ v. Value v) rest ++ End ∷ [])
      goal_filled done rest e =
          let V : List Limit → List Command = λ l. map (λ v. Value v) l in
          ap (λ l. Open k ∷ (flat_map (rows x) (fields_of k) ++ (where_any (options x) ++ (V l ++ End ∷ [])))) (sym e)
          ∙ ap (λ l. Open k ∷ (flat_map (rows x) (fields_of k) ++ (where_any (options x) ++ (l ++ End ∷ [])))) (map-append (λ v. Value v) done rest)
          ∙ ap (λ l. Open k ∷ (flat_map (rows x) (fields_of k) ++ (where_any (options x) ++ l))) (append_assoc (V done) (V rest) (End ∷ []))
          ∙ ap (λ l. Open k ∷ (flat_map (rows x) (fields_of k) ++ l)) (sym (append_assoc (where_any (options x)) (V done) (V rest ++ End ∷ [])))
          ∙ ap (λ l. Open k ∷ l) (sym (append_assoc (flat_map (rows x) (fields_of k)) (where_any (options x) ++ V done) (V rest ++ End ∷ [])))

      filled_allowed : (done rest : List Limit) (a : A) → done ++ rest ≡ values x → IsFilled done a → allowed a ≡ true
      unfolding entry_allowed fields_fit
      filled_allowed done rest a e is_filled =
          let g : (whole x ≡ true) × (entry_allowed k (shown x) (options x) (values x) ≡ true) = and_parts _ _ good in
          let h : ((list_all (fit x) (fields_of k) && list_all (obeys OptionWord) (options x)) ≡ true) × (list_all is_allowed_limit (values x) ≡ true) = and_parts _ _ g.1 in
          let i : (list_all (fit x) (fields_of k) ≡ true) × (list_all (obeys OptionWord) (options x) ≡ true) = and_parts _ _ h.0 in
          let j : (list_all is_allowed_limit done ≡ true) × (list_all is_allowed_limit rest ≡ true) = and_parts _ _ (sym (list_all-append is_allowed_limit done rest) ∙ ap (list_all is_allowed_limit) e ∙ h.1) in
          let fields = fit_alike a x (fields_of k) is_filled.shows ∙ i.0 in
          let opts = ap (list_all (obeys OptionWord)) is_filled.has_options ∙ i.1 in
          let vals = ap (list_all is_allowed_limit) is_filled.has_values ∙ j.0 in
          rw (is_filled.is_full, fields, opts, vals) refl

      head_alike : (a : A) (f : Field) (others : List Field) → fields_of k ≡ f ∷ others → map (shown a) (fields_of k) ≡ map (shown x) (fields_of k) → shown a f ≡ shown x f
      head_alike a f others first h = let at_first : shown a f ∷ map (shown a) others ≡ shown x f ∷ map (shown x) others = ap (map (shown a)) (sym first) ∙ h ∙ ap (map (shown x)) first in cc

      filled_begins : (done rest : List Limit) (a : A) → done ++ rest ≡ values x → IsFilled done a → Begins (before ++ filled done) (opened (now pre) (wrap a))
      filled_begins done rest a e is_filled =
          begins_so a (filled done) (map (λ v. Value v) rest) (filled_commands done a is_filled) (goal_filled done rest e) (filled_allowed done rest a e is_filled)
          (taken_alike a (λ f others first. head_alike a f others first is_filled.shows)) (ap (λ o. nat_lt 32 (length o)) is_filled.has_options ∙ few)

      -- the values of the list are walked
      record Fills (q : List Command) (a : A) (xs : List Command) : Type 0 where
        end : A
        walks : Walks q (opened (now pre) (wrap a)) xs (opened (now pre) (wrap end))
        full : IsFilled (values x) end

      walk_values : (done rest : List Limit) (a : A) → done ++ rest ≡ values x → IsFilled done a → Fills (before ++ filled done) a (map (λ v. Value v) rest)
      walk_values done [] a e is_filled =
          let I : List Limit → Type 0 = λ l. IsFilled l a in
          record { end = a; walks = refl; full = subst I (sym (append-nil done) ∙ e) is_filled }
      walk_values done (v ∷ rest) a e is_filled =
          let b = F.puts_value v done rest a x (sym e) in
          let go : (done ++ v ∷ []) ++ rest ≡ values x = append_assoc done (v ∷ []) rest ∙ e in
          let is_more : IsFilled (done ++ v ∷ []) b.0 = record {
            shows = b.2 ∙ is_filled.shows;
            has_options = b.3 ∙ is_filled.has_options;
            has_values = b.4 ∙ ap (λ l. l ++ v ∷ []) is_filled.has_values;
            is_full = b.5 ∙ is_filled.is_full;
          } in
          let on = walk_values (done ++ v ∷ []) rest b.0 go is_more in
          let here : before ++ filled (done ++ v ∷ []) ≡ (before ++ filled done) ++ Value v ∷ [] =
          ap (λ l. before ++ (Open k ∷ (flat_map (rows x) (fields_of k) ++ (where_any (options x) ++ l)))) (map-append (λ v. Value v) done (v ∷ []))
          ∙ ap (λ l. before ++ (Open k ∷ (flat_map (rows x) (fields_of k) ++ l))) (sym (append_assoc (where_any (options x)) (map (λ v. Value v) done) (Value v ∷ [])))
          ∙ ap (λ l. before ++ (Open k ∷ l)) (sym (append_assoc (flat_map (rows x) (fields_of k)) (where_any (options x) ++ map (λ v. Value v) done) (Value v ∷ [])))
          ∙ sym (append_assoc before (filled done) (Value v ∷ [])) in
          let B : List Command → Type 0 = λ l. Begins l (opened (now pre) (wrap b.0)) in
          let W : List Command → Type 0 = λ l. Walks l (opened (now pre) (wrap b.0)) (map (λ v. Value v) rest) (opened (now pre) (wrap on.end)) in
          record {
            end = on.end;
            walks = (opened (now pre) (wrap b.0), rw b.1 refl, subst B here (filled_begins (done ++ v ∷ []) rest b.0 go is_more), subst W here on.walks);
            full = on.full;
          }

      -- and so are the options
      record Optioned (q : List Command) (a : A) (xs : List Command) : Type 0 where
        next : A
        leads : Walks q (opened (now pre) (wrap a)) xs (opened (now pre) (wrap next))
        has_all : IsFilled [] next

      walk_options : (a : A) → map (shown a) (fields_of k) ≡ map (shown x) (fields_of k) → IsOpen a → Optioned ((before ++ Open k ∷ []) ++ flat_map (rows x) (fields_of k)) a (where_any (options x))
      walk_options a shows is_open =
          elim (options x) as (λ l. options x ≡ l → Optioned ((before ++ Open k ∷ []) ++ flat_map (rows x) (fields_of k)) a (where_any l)) [
            | [] ↦ λ is. record { next = a; leads = refl; has_all = record { shows = shows; has_options = is_open.lacks_options ∙ sym is; has_values = is_open.lacks_values; is_full = is_open.is_whole } }
            | o ∷ os ↦ λ is.
                let b = F.puts_options o os a x is in
                let is_filled : IsFilled [] b.0 = record {
                  shows = b.2 ∙ shows;
                  has_options = b.3 ∙ sym is;
                  has_values = b.4 ∙ is_open.lacks_values;
                  is_full = b.5 ∙ is_open.is_whole;
                } in
                let here : before ++ filled [] ≡ ((before ++ Open k ∷ []) ++ flat_map (rows x) (fields_of k)) ++ Options (o ∷ os) ∷ [] =
                ap (λ l. before ++ (Open k ∷ (flat_map (rows x) (fields_of k) ++ (where_any l ++ [])))) is
                ∙ sym (append_assoc before (Open k ∷ []) (flat_map (rows x) (fields_of k) ++ Options (o ∷ os) ∷ []))
                ∙ sym (append_assoc (before ++ Open k ∷ []) (flat_map (rows x) (fields_of k)) (Options (o ∷ os) ∷ [])) in
                let B : List Command → Type 0 = λ l. Begins l (opened (now pre) (wrap b.0)) in
                record {
                  next = b.0;
                  leads = (opened (now pre) (wrap b.0), rw b.1 refl, subst B here (filled_begins [] (values x) b.0 refl is_filled), refl);
                  has_all = is_filled;
                }
          ] refl

      opens : Begins (before ++ Open k ∷ []) (opened (now pre) (wrap nothing))
      opens =
          elim (is_taken shown k nothing pre) as (λ t. is_taken shown k nothing pre ≡ t → Begins (before ++ Open k ∷ []) (opened (now pre) (wrap nothing))) [
            | false ↦ λ none. opens_free none
            | true ↦ λ taken.
                elim (key_field k) as (λ o. key_field k ≡ o → is_taken_by shown o nothing pre ≡ true → Begins (before ++ Open k ∷ []) (opened (now pre) (wrap nothing))) [
                  | None ↦ λ _ bad. absurd (cc)
                  | Some f ↦ λ is _. opens_taken f is taken
                ] refl taken
          ] refl

      closes : (a : A) → IsFilled (values x) a → put End (opened (now pre) (wrap a)) ≡ Some (closed (now (pre ++ x ∷ [])))
      closes a is_filled =
          let g : (whole x ≡ true) × (entry_allowed k (shown x) (options x) (values x) ≡ true) = and_parts _ _ good in
          let same = F.same a x is_filled.is_full g.0 is_filled.shows is_filled.has_options is_filled.has_values in
          let rest = flat_map commands post ++ behind in
          let longer = ap length (text-append (commands x) rest) ∙ length-append (text_of (commands x)) (text_of rest) in
          rw (same, can_add x good free few (omega (arith, longer))) refl

      -- each line of a resource is walked
      pub walk_resource : Walks before (closed (now pre)) (commands x) (closed (now (pre ++ x ∷ [])))
      unfolding completed
      walk_resource =
          let D : A → Draft = λ a. opened (now pre) (wrap a) in
          let R = flat_map (rows x) (fields_of k) in
          let O = where_any (options x) in
          let V = map (λ v. Value v) (values x) in
          let q0 = before ++ Open k ∷ [] in
          let done = closed (now (pre ++ x ∷ [])) in
          let fields = walk_fields in
          let shows : map (shown fields.end) (fields_of k) ≡ map (shown x) (fields_of k) = fields.all.given in
          let optioned = walk_options fields.end shows fields.kept in
          let valued = walk_values [] (values x) optioned.next refl optioned.has_all in
          let here : before ++ filled [] ≡ (q0 ++ R) ++ O = regroup before (Open k ∷ []) R O in
          let last : before ++ commands x ≡ ((before ++ filled []) ++ V) ++ End ∷ [] = regroup_end before (Open k ∷ []) R O V (End ∷ []) in
          let ends : Begins (((before ++ filled []) ++ V) ++ End ∷ []) done = (now (pre ++ x ∷ []), refl, ([], text_with x ∙ ap text_of last ∙ sym (append-nil (text_of (((before ++ filled []) ++ V) ++ End ∷ []))))) in
          let w3 : Walks (before ++ filled []) (D optioned.next) (V ++ End ∷ []) done =
          walk-then V (End ∷ []) (before ++ filled []) (D optioned.next) (D valued.end) done valued.walks (walk-one ((before ++ filled []) ++ V) End (D valued.end) done (closes valued.end valued.full) ends) in
          let W : List Command → Type 0 = λ q. Walks q (D optioned.next) (V ++ End ∷ []) done in
          let w2 = walk-then O (V ++ End ∷ []) (q0 ++ R) (D fields.end) (D optioned.next) done optioned.leads (subst W here w3) in
          let w1 = walk-then R (O ++ (V ++ End ∷ [])) q0 (D nothing) (D fields.end) done fields.walks w2 in
          let put_open : put (Open k) (closed (now pre)) ≡ Some (D nothing) = ap (λ r. Some (opened (now pre) r)) (sym F.is_nothing) in
          walk-then (Open k ∷ []) (R ++ (O ++ (V ++ End ∷ []))) before (closed (now pre)) (D nothing) done (walk-one before (Open k) (closed (now pre)) (D nothing) put_open opens) w1
        where
          regroup : (b o f w : List Command) → b ++ (o ++ (f ++ (w ++ []))) ≡ ((b ++ o) ++ f) ++ w
          regroup b o f w = simp (append_assoc, append-nil) refl

          regroup_end : (b o f w v e : List Command) → b ++ (o ++ (f ++ (w ++ (v ++ e)))) ≡ ((b ++ (o ++ (f ++ (w ++ [])))) ++ v) ++ e
          regroup_end b o f w v e = simp (append_assoc, append-nil) refl
