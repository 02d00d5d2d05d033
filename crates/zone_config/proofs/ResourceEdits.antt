-- A configuration over a resource that comes, goes or takes another's place.
use Rattle.std.proofs.Common.{◌≡◌, ◌≤◌, ◌<◌, ◌+◌, ◌-◌, ℕ, Bool, true, false, not, cond, List, [], ◌∷◌, ◌++◌, length, Option, Some, None, Ok, Err, refl, ap, sym, subst, ◌∙◌, arith, length-append, unwrap_or}
use Rattle.std.specs.Prelude.{nat_le, nat_lt, option_map, slice_get, remove, slice_set}
use Rattle.std.specs.List.{flat_map}
use Rattle.std.proofs.lemmas.Bool.Decides.{nat_tests}
use Rattle.config_terms.specs.declared.fault.ConfigFault.TheVariants.{BadValue, Duplicate, TooLarge}
use Rattle.config_terms.specs.declared.terms.Kind.{Kind}
use Rattle.config_terms.specs.declared.terms.Resource.{Resource}
use Rattle.config_terms.specs.declared.terms.Resource.TheVariants.{Fs}
use Rattle.config_terms.specs.Allowed.{are_told_apart, is_allowed, options_passed}
use Rattle.config_terms.specs.Fields.{kind_of}
use Rattle.config_terms.specs.Texts.{resource_text}
use Rattle.zone_config.specs.declared.terms.Contents.{Contents}
use Rattle.zone_config.specs.Export.{export_text, sized}
use Rattle.zone_config.specs.Kinds.{Row}
use Rattle.zone_config.specs.Sound.{AreSound, IsKept, IsSound, IsWithin, count, has_few_options}
use Rattle.zone_config.specs.Resources.{added, are_apart, count_of, has_taken, has_taken_but, kind_passed, length_of, limit_passed, most_passed, removed, replaced, text_at, unless_passed, with_replaced, IsLengthOf}
use Rattle.zone_config.proofs.Lists.{length-remove_one, length-slice_set, sound-push, sound-remove, sound-set, text-push, text-remove, text-set, text_within}
use Rattle.zone_config.proofs.PropertyEdits.{Measures}
use Rattle.zone_config.proofs.Rows.{IsLawful, added-row, count_of-row, each_kind, each_resource, has_taken-row, has_taken_but-row, kind_passed-row, removed-row, replaced-row, sound-row, text_at-row}

no_limit : (n : ℕ) (o : Option ℕ) → cond (nat_le 256 n) (Some 256) o ≡ None → (n < 256) × (o ≡ None)
no_limit n o h =
    elim (nat_le 256 n) as (λ b. nat_le 256 n ≡ b → cond b (Some 256) o ≡ None → (n < 256) × (o ≡ None)) [
      | true ↦ λ e g. absurd (cc)
      | false ↦ λ e g. (grind (arith, nat_tests), g)
    ] refl h

few_if_none : (k : ℕ) → cond {A = Option ℕ} (nat_lt 32 k) (Some 32) None ≡ None → nat_le k 32 ≡ true
few_if_none k h =
    elim (nat_lt 32 k) as (λ b. nat_lt 32 k ≡ b → cond {A = Option ℕ} b (Some 32) None ≡ None → nat_le k 32 ≡ true) [
      | true ↦ λ d f. absurd (cc)
      | false ↦ λ d f. grind (arith, nat_tests)
    ] refl h

few_if_not_passed : (r : Resource) → options_passed r ≡ None → has_few_options r ≡ true
few_if_not_passed (Fs f) h = few_if_none (length f.options) h
few_if_not_passed r h = refl

within_if_not_passed : (most : Option ℕ) (n : ℕ) (further : Option ℕ) → most_passed most n further ≡ None → IsWithin most (n + 1) × (further ≡ None)
within_if_not_passed None n further h = (tt, h)
within_if_not_passed (Some most) n further h =
    elim (nat_le most n) as (λ b. nat_le most n ≡ b → cond b (Some most) further ≡ None → IsWithin (Some most) (n + 1) × (further ≡ None)) [
      | true ↦ λ e g. absurd (cc)
      | false ↦ λ e g. (grind (arith, nat_tests), g)
    ] refl h

some_image : {A : Type 0} (f : A → List ℕ) (o : Option A) (t : List ℕ) → option_map f o ≡ Some t → (x : A) × ((o ≡ Some x) × (f x ≡ t))
some_image f None t h = absurd (cc)
some_image f (Some x) t h = (x, (refl, cc))

-- what a text that goes and one that comes make of the length of all
text-replaced : {A : Type 0} (f : A → List ℕ) (xs : List A) (i : ℕ) (x : A) (t : List ℕ) → option_map f (slice_get xs i) ≡ Some t
    → (length t ≤ length (flat_map f xs)) × (length (flat_map f (slice_set xs i x)) + length t ≡ length (flat_map f xs) + length (f x))
text-replaced f xs i x t h =
    let at = some_image f (slice_get xs i) t h in
    rw (← at.1.1) (text_within f xs i at.0 at.1.0, text-set f xs i x at.0 at.1.0)

-- another list of a kind
module _ {A : Type 0} (row : Row A) (law : IsLawful row) (c : Contents) (s : IsSound c) where
  kept-put : (xs : List A) (n : ℕ) → AreSound row xs → count (row.put xs c) ≤ 256 → n ≡ length (export_text (row.put xs c)) → n ≤ 32768 → IsKept (row.put xs c) n
  kept-put xs n own few measured short = record {
    measured = measured;
    sound = record {
      properties = record {
        values = λ q. rw ((law.properties xs c).shown q) (s.properties.values q);
        zonepath = rw (law.properties xs c).zonepath s.properties.zonepath;
      };
      resources = record { kinds = law.put_sound xs c s.resources own; few = few };
      short = omega arith;
    };
  }

-- one more resource, and one in the place of another, by the row of their kind
module _ (A : Type 0) (row : Row A) (law : IsLawful row) (c : Contents) (x : A) where
  row_kept_added : (size n : ℕ) → IsKept c size → is_allowed (row.make x) ≡ true → has_taken (row.make x) c ≡ false → limit_passed (row.make x) c ≡ None
      → n ≡ length (export_text (added (row.make x) c)) → n ≤ 32768 → IsKept (added (row.make x) c) n
  row_kept_added size n k allowed free few measured short =
      let xs = row.list c ++ x ∷ [] in
      let same = added-row row law c x in
      let room : (count c < 256) × (kind_passed (row.make x) c ≡ None) = no_limit (count c) (kind_passed (row.make x) c) few in
      let within = within_if_not_passed row.most (length (row.list c)) (options_passed (row.make x)) (sym (kind_passed-row row law c x) ∙ room.1) in
      let own = sound-push row (row.list c) (sound-row row law c k.sound.resources) x allowed (few_if_not_passed (row.make x) within.1) (sym (has_taken-row row law c x) ∙ free) within.0 in
      rw same (kept-put row law c k.sound xs n own (omega (arith, room.0, law.counted xs c, length-append (row.list c) (x ∷ []))) (rw (← same) measured) short)

  row_size_added : (size : ℕ) → IsKept c size → size + length (resource_text (row.make x)) ≡ length (export_text (added (row.make x) c))
  row_size_added size k =
      rw (added-row row law c x, law.known.text x) (omega (arith, k.measured, law.measured (row.list c ++ x ∷ []) c, text-push row.text (row.list c) x))

  row_kept_replaced : (place size n : ℕ) → IsKept c size → is_allowed (row.make x) ≡ true → has_taken_but place (row.make x) c ≡ false → options_passed (row.make x) ≡ None
      → n ≡ length (export_text (replaced place (row.make x) c)) → n ≤ 32768 → IsKept (replaced place (row.make x) c) n
  row_kept_replaced place size n k allowed free few measured short =
      let xs = slice_set (row.list c) place x in
      let same = replaced-row row law c place x in
      let own = sound-set row (row.list c) (sound-row row law c k.sound.resources) place x allowed (few_if_not_passed (row.make x) few) (sym (has_taken_but-row row law c place x) ∙ free) in
      rw same (kept-put row law c k.sound xs n own (omega (arith, k.sound.resources.few, law.counted xs c, length-slice_set (row.list c) place x)) (rw (← same) measured) short)

  row_size-set : (place : ℕ) (t : List ℕ) (size : ℕ) → IsKept c size → text_at place (kind_of (row.make x)) c ≡ Some t
      → Measures (length t) (length (resource_text (row.make x))) size (length (export_text (replaced place (row.make x) c)))
  row_size-set place t size k h =
      let at : text_at place row.kind c ≡ Some t = rw (← law.known.kind x) h in
      let text = text-replaced row.text (row.list c) place x t (sym (text_at-row row law c place) ∙ at) in
      let now = law.measured (slice_set (row.list c) place x) c in
      let without = law.measured [] c in
      rw (replaced-row row law c place x, law.known.text x) (record { within = omega (arith, k.measured); now = omega (arith, k.measured) })

-- one more resource
pub kept_added : (r : Resource) (c : Contents) (size n : ℕ) → IsKept c size → is_allowed r ≡ true → has_taken r c ≡ false → limit_passed r c ≡ None
    → n ≡ length (export_text (added r c)) → n ≤ 32768 → IsKept (added r c) n
kept_added r c size n k =
    each_resource (λ r. is_allowed r ≡ true → has_taken r c ≡ false → limit_passed r c ≡ None → n ≡ length (export_text (added r c)) → n ≤ 32768 → IsKept (added r c) n)
    (λ A row law x. row_kept_added A row law c x size n k) r

pub size_added : (r : Resource) (c : Contents) (size : ℕ) → IsKept c size → size + length (resource_text r) ≡ length (export_text (added r c))
size_added r c size k = each_resource (λ r. size + length (resource_text r) ≡ length (export_text (added r c))) (λ A row law x. row_size_added A row law c x size k) r

-- a resource in the place of another
pub kept_replaced : (r : Resource) (place : ℕ) (c : Contents) (size n : ℕ) → IsKept c size → is_allowed r ≡ true → has_taken_but place r c ≡ false
    → options_passed r ≡ None → n ≡ length (export_text (replaced place r c)) → n ≤ 32768 → IsKept (replaced place r c) n
kept_replaced r place c size n k =
    each_resource (λ r. is_allowed r ≡ true → has_taken_but place r c ≡ false → options_passed r ≡ None → n ≡ length (export_text (replaced place r c)) → n ≤ 32768 → IsKept (replaced place r c) n)
    (λ A row law x. row_kept_replaced A row law c x place size n k) r

size-set : (r : Resource) (place : ℕ) (c : Contents) (t : List ℕ) (size : ℕ) → IsKept c size → text_at place (kind_of r) c ≡ Some t
    → Measures (length t) (length (resource_text r)) size (length (export_text (replaced place r c)))
size-set r place c t size k =
    each_resource (λ r. text_at place (kind_of r) c ≡ Some t → Measures (length t) (length (resource_text r)) size (length (export_text (replaced place r c))))
    (λ A row law x. row_size-set A row law c x place t size k) r

-- the same in the form of the code
pub size_replaced : (r : Resource) (place : ℕ) (c : Contents) (size old : ℕ) → IsKept c size → IsLengthOf old (text_at place (kind_of r) c)
    → Measures old (length (resource_text r)) size (length (export_text (replaced place r c)))
size_replaced r place c size old k h =
    elim (text_at place (kind_of r) c) as (λ o. text_at place (kind_of r) c ≡ o → IsLengthOf old o → Measures old (length (resource_text r)) size (length (export_text (replaced place r c)))) [
      | None ↦ λ _ g. absurd g
      | Some t ↦ λ is g. rw g (size-set r place c t size k is)
    ] refl h

-- one resource fewer, and what is left
pub record Leaves (r : Resource) (d : Contents) (size : ℕ) : Type 0 where
  pub within : length (resource_text r) ≤ size
  pub kept : IsKept d (size - length (resource_text r))

image_case : {A : Type 0} (o : Option A) (make : A → Resource × Contents) (r : Resource) (d : Contents) (size : ℕ)
    → ((x : A) → o ≡ Some x → Leaves (make x).0 (make x).1 size) → option_map make o ≡ Some (r, d) → Leaves r d size
image_case None make r d size each h = absurd (cc)
image_case (Some x) make r d size each h =
    let first = ap (λ (o : Option (Resource × Contents)). (unwrap_or o (make x)).0) h in
    let second = ap (λ (o : Option (Resource × Contents)). (unwrap_or o (make x)).1) h in
    let P : Resource → Type 0 = λ r. Leaves r d size in
    let Q : Contents → Type 0 = λ d. Leaves (make x).0 d size in
    subst P first (subst Q second (each x refl))

module _ (A : Type 0) (row : Row A) (law : IsLawful row) (c : Contents) (size : ℕ) (k : IsKept c size) where
  row_leaves-at : (place : ℕ) (x : A) → slice_get (row.list c) place ≡ Some x → Leaves (row.make x) (row.put (remove (row.list c) place) c) size
  row_leaves-at place x at =
      let rest = remove (row.list c) place in
      let one = length-remove_one (row.list c) place x at in
      let text = text-remove row.text (row.list c) place x at in
      let measured = law.measured rest c in
      record {
        within = rw (law.known.text x) (omega (arith, k.measured));
        kept = rw (law.known.text x)
            (kept-put row law c k.sound rest (size - length (row.text x)) (sound-remove row (row.list c) (sound-row row law c k.sound.resources) place)
            (omega (arith, k.sound.resources.few, law.counted rest c)) (omega (arith, k.measured)) (omega (arith, k.measured, k.sound.short)));
      }

  row_leaves : (place : ℕ) (d : Contents) (r : Resource) → removed row.kind place c ≡ Some (r, d) → Leaves r d size
  row_leaves place d r h =
      image_case (slice_get (row.list c) place) (λ x. (row.make x, row.put (remove (row.list c) place) c)) r d size (row_leaves-at place) (sym (removed-row row law c place) ∙ h)

  row_count_within : count_of row.kind c ≤ 256
  row_count_within = omega (arith, count_of-row row law c, law.counted [] c, k.sound.resources.few)

  row_apart : are_apart row.kind c ≡ true
  row_apart = law.known.of_kind Bool (λ B other. are_told_apart other.shown other.kind (other.list c)) ∙ (sound-row row law c k.sound.resources).once

pub leaves : (k : Kind) (place : ℕ) (c d : Contents) (r : Resource) (size : ℕ) → IsKept c size → removed k place c ≡ Some (r, d) → Leaves r d size
leaves k place c d r size kept = each_kind (λ k. removed k place c ≡ Some (r, d) → Leaves r d size) (λ A row law. row_leaves A row law c size kept place d r) k

-- a place in a kind is small
pub count_of_within : (k : Kind) (c : Contents) (size : ℕ) → IsKept c size → count_of k c ≤ 256
count_of_within k c size kept = each_kind (λ k. count_of k c ≤ 256) (λ A row law. row_count_within A row law c size kept) k

-- no two of a kind have one key
pub apart_if_kept : (k : Kind) (c : Contents) (size : ℕ) → IsKept c size → are_apart k c ≡ true
apart_if_kept k c size kept = each_kind (λ k. are_apart k c ≡ true) (λ A row law. row_apart A row law c size kept) k

-- what was checked of a resource that is to have the place of another
pub record IsChecked (r : Resource) (place : ℕ) (c : Contents) (n : ℕ) : Type 0 where
  pub allowed : is_allowed r ≡ true
  pub free : has_taken_but place r c ≡ false
  pub few : options_passed r ≡ None
  pub measured : n ≡ length (export_text (replaced place r c))
  pub short : n ≤ 32768
  pub answer : with_replaced place r c ≡ Ok (replaced place r c)

sized_short : (d : Contents) (n : ℕ) → length_of (sized d) ≡ Ok n → (n ≡ length (export_text d)) × ((n ≤ 32768) × (sized d ≡ Ok d))
sized_short d n h =
    elim (nat_lt 32768 (length (export_text d))) as (λ b. nat_lt 32768 (length (export_text d)) ≡ b → length_of (cond b (Err (TooLarge (length (export_text d)))) (Ok d)) ≡ Ok n
    → (n ≡ length (export_text d)) × ((n ≤ 32768) × (cond b (Err (TooLarge (length (export_text d)))) (Ok d) ≡ Ok d))) [
      | true ↦ λ e g. absurd (cc)
      | false ↦ λ e g. let same : length (export_text d) ≡ n = cc in (sym same, (grind (arith, nat_tests), refl))
    ] refl h

pub checked_by : (a t : Bool) (o : Option ℕ) (d : Contents) (n : ℕ) → length_of (cond (not a) (Err BadValue) (cond t (Err Duplicate) (unless_passed o d))) ≡ Ok n
    → (a ≡ true) × ((t ≡ false) × ((o ≡ None) × ((n ≡ length (export_text d)) × ((n ≤ 32768) × (cond (not a) (Err BadValue) (cond t (Err Duplicate) (unless_passed o d)) ≡ Ok d)))))
checked_by false t o d n h = absurd (cc)
checked_by true true o d n h = absurd (cc)
checked_by true false (Some limit) d n h = absurd (cc)
checked_by true false None d n h = (refl, (refl, (refl, sized_short d n h)))

pub is_checked : (r : Resource) (place : ℕ) (c : Contents) (n : ℕ) → length_of (with_replaced place r c) ≡ Ok n → IsChecked r place c n
unfolding with_replaced
is_checked r place c n h =
    let all = checked_by (is_allowed r) (has_taken_but place r c) (options_passed r) (replaced place r c) n h in
    record { allowed = all.0; free = all.1.0; few = all.1.1.0; measured = all.1.1.1.0; short = all.1.1.1.1.0; answer = all.1.1.1.1.1 }

pub kept_checked : (r : Resource) (place : ℕ) (c : Contents) (size n : ℕ) → IsKept c size → length_of (with_replaced place r c) ≡ Ok n → IsKept (replaced place r c) n
kept_checked r place c size n k h =
    let s = is_checked r place c n h in kept_replaced r place c size n k s.allowed s.free s.few s.measured s.short
