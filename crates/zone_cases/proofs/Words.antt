-- The words of a text, one after another.
use Rattle.std.proofs.Math.Seq.{take-length, drop-length}
use Rattle.zone_cases.specs.Code.Lines.{IsWordFirst, EndsWord}
use Rattle.std.proofs.Common.{◌≡◌, ◌&&◌, ap, ◌+◌, ◌<◌, ◌≤◌, ◌∷◌, [], zero, suc, nat_lt, not, ℕ, Bool, List, Some, None, true, false, get_or, length, take, drop, refl, sym, arith, ◌∙◌, append-nil, drop-cons, add-one, length-drop, get_or-drop, add-zero}
use Rattle.std.specs.Prelude.{◌++◌, IsTrue, bytes_eq, codes, nat_le, position, if◌then◌else◌}
use Rattle.loopback_mounts.specs.Mounts.{has_path, in_order, mount_at, well_kept}
use Rattle.loopback_mounts.specs.declared.limits.TheConstants.{MOUNTS_MAX}
use Rattle.loopback_mounts.specs.declared.mount.MountEntry.{MountEntry}
use Rattle.zn_base.specs.Path.{is_path}
use Rattle.zone_pools.proofs.Owned_laws.{same_true}
use Rattle.std.specs.List.{list_all, position_or_len}
use Rattle.std.proofs.lemmas.Bool.{and_parts, false≢true, ltb-false, not-true, not-false}
use Rattle.std.proofs.lemmas.List.Quantifiers.{position-Some}
use Rattle.zn_base.proofs.Splits.{split_none, split_some}
use Rattle.zone_cases.specs.Session.Lines.{are_args, is_space, joined, words}

-- spaces in front change no word
skipped : (text : List ℕ) (i : ℕ) → i ≤ length text → ((k : ℕ) → k < i → is_space (get_or text k 0) ≡ true) → words text ≡ words (drop i text)
skipped text zero fits spaces = refl
skipped [] (suc i) fits spaces = refl
skipped (b ∷ text) (suc i) fits spaces = simp (spaces 0 (omega arith)) (skipped text i (omega arith) (λ k h. spaces (suc k) (omega arith)))

-- what stands where the first byte that is no space stands
pub begins_at : (text : List ℕ) (i : ℕ) → position (λ b. not (is_space b)) text ≡ Some i → (words text ≡ words (drop i text)) × IsWordFirst (drop i text)
begins_at text i h =
    let at = position-Some (λ b. not (is_space b)) text i 0 h in
    (skipped text i (omega (arith, at.0)) (λ k l. not-false _ (at.2 k l)), record { some = simp length-drop (omega (arith, at.0)); other = rw get_or-drop (rw add-zero (not-true _ at.1)) })

all_spaces : (text : List ℕ) → length text ≤ position_or_len (λ b. not (is_space b)) text → words text ≡ []
all_spaces [] h = refl
all_spaces (b ∷ text) h = at_byte (all_spaces text) (is_space b) refl
  where
    at_byte : (length text ≤ position_or_len (λ b. not (is_space b)) text → words text ≡ []) → (s : Bool) → is_space b ≡ s → words (b ∷ text) ≡ []
    at_byte ih true s = let more : length (b ∷ text) ≤ 1 + position_or_len (λ b. not (is_space b)) text = simp s at h in simp s (ih (omega arith))
    at_byte ih false s = let none : length (b ∷ text) ≤ 0 = simp s at h in absurd (omega arith)

pub no_words : (text : List ℕ) → position (λ b. not (is_space b)) text ≡ None → words text ≡ []
no_words text h = all_spaces text (at_test (nat_lt (position_or_len (λ b. not (is_space b)) text) (length text)) refl h)
  where
    at_test : (b : Bool) → nat_lt (position_or_len (λ b. not (is_space b)) text) (length text) ≡ b → (if b then Some (position_or_len (λ b. not (is_space b)) text) else None) ≡ None → length text ≤ position_or_len (λ b. not (is_space b)) text
    at_test true e f = absurd (cc)
    at_test false e f = ltb-false _ _ e

-- a text that begins with a byte that is no space: its first word ends at the first space, or is all of it
pub first_word : (text : List ℕ) (end : ℕ) → 0 < length text → is_space (get_or text 0 0) ≡ false → position is_space text ≡ Some end → words text ≡ take end text ∷ words (drop end text)
first_word [] end some other h = absurd (omega arith)
first_word (b ∷ text) zero some other h =
    let at = position-Some is_space (b ∷ text) 0 0 h in
    absurd (false≢true (sym other ∙ at.1))
first_word (b ∷ text) (suc end) some other h =
    let at = position-Some is_space (b ∷ text) (suc end) 0 h in
    let cut = split_some is_space (b ∷ text) (suc end) h in
    let inside : suc end < length (b ∷ text) = omega (arith, at.0) in
    let here : drop (suc end) (b ∷ text) ≡ get_or (b ∷ text) (suc end) 0 ∷ drop (suc (suc end)) (b ∷ text) = drop-cons (b ∷ text) (suc end) 0 inside in
    let rest : words (drop (suc end) (b ∷ text)) ≡ words (drop (suc (suc end)) (b ∷ text)) = rw here (simp at.1) in
    rw rest (rw cut.1 (rw add-one refl))

pub only_word : (text : List ℕ) → 0 < length text → position is_space text ≡ None → words text ≡ text ∷ []
only_word [] some h = absurd (omega arith)
only_word (b ∷ text) some h = rw (split_none is_space (b ∷ text) h) refl

pub ends_at_space : (text : List ℕ) (end : ℕ) → IsWordFirst text → position is_space text ≡ Some end → EndsWord end text
ends_at_space text end w h =
    let at = position-Some is_space text end 0 h in
    record { fits = omega (arith, at.0); word = first_word text end w.some w.other h }

pub ends_all : (text : List ℕ) → IsWordFirst text → position is_space text ≡ None → EndsWord (length text) text
ends_all text w h = record { fits = omega arith; word = rw (take-length, drop-length) (only_word text w.some h) }

-- what is no path is no mount's directory
none_at : (dir : List ℕ) (ms : List MountEntry) → is_path dir ≡ false → list_all has_path ms ≡ true → mount_at dir ms ≡ None
none_at dir [] h all = refl
none_at dir (m ∷ ms) h all = at_test (λ rest. none_at dir ms h rest) (bytes_eq m.mount.dir dir) refl
  where
    each : (has_path m ≡ true) × (list_all has_path ms ≡ true)
    each = and_parts (has_path m) (list_all has_path ms) all

    at_test : (list_all has_path ms ≡ true → mount_at dir ms ≡ None) → (b : Bool) → bytes_eq m.mount.dir dir ≡ b → mount_at dir (m ∷ ms) ≡ None
    at_test ih true e = absurd (false≢true (sym h ∙ (ap is_path (sym (same_true m.mount.dir dir e)) ∙ each.0)))
    at_test ih false e = simp e (ih each.1)

pub no_mount : (dir : List ℕ) (ms : List MountEntry) → IsTrue (well_kept ms) → is_path dir ≡ false → mount_at dir ms ≡ None
no_mount dir ms kept h =
    let parts = and_parts (in_order ms && list_all has_path ms) (nat_le (length ms) MOUNTS_MAX) kept in
    none_at dir ms h (and_parts (in_order ms) (list_all has_path ms) parts.0).1

-- the options of a boot, one at a time
pub args_single : (i m : Bool) (word : List ℕ) (ws more : List (List ℕ)) → ws ≡ word ∷ more → bytes_eq word (codes "-s") ≡ true → are_args false i m more ≡ are_args true i m ws
args_single i m word ws [] is h = rw is (simp h)
args_single i m word ws (other ∷ more) is h = rw is (simp h)

pub args_init : (s m : Bool) (word other : List ℕ) (ws us more : List (List ℕ)) → ws ≡ word ∷ us → us ≡ other ∷ more → bytes_eq word (codes "-s") ≡ false → bytes_eq word (codes "-i") ≡ true
    → is_path other ≡ true → are_args s false m more ≡ are_args s true m ws
args_init s m word other ws us more is also h k path = rw (is, also) (simp (h, k, path))

pub args_milestone : (s i : Bool) (word other : List ℕ) (ws us more : List (List ℕ)) → ws ≡ word ∷ us → us ≡ other ∷ more → bytes_eq word (codes "-s") ≡ false → bytes_eq word (codes "-i") ≡ false
    → bytes_eq word (codes "-m") ≡ true → are_args s i false more ≡ are_args s i true ws
args_milestone s i word other ws us more is also h k l = rw (is, also) (simp (h, k, l))

-- words with a space between two: each but the first has one in front
abbrev pub spaced : List (List ℕ) → List ℕ
spaced [] = []
spaced (word ∷ more) = 32 ∷ (word ++ spaced more)

pub joined_spaced : (word : List ℕ) (more : List (List ℕ)) → joined (word ∷ more) ≡ word ++ spaced more
joined_spaced word [] = sym (append-nil word)
joined_spaced word (other ∷ more) = ap (λ t. word ++ 32 ∷ t) (joined_spaced other more)
