-- Tokens that apply from left to right, and the last one that covers a privilege.
use Rattle.std.proofs.Common.{◌≡◌, ◌∙◌, ◌+◌, ◌-◌, ◌<◌, ◌≤◌, ℕ, Bool, true, false, not, ◌&&◌, ◌||◌, cond, List, [], ◌∷◌, Some, None, Result, Ok, Err, filter, length, map, take, drop, refl, sym, ap, arith, slice_range, length-drop}
use Rattle.std.specs.Prelude.{◌==◌}
use Rattle.std.specs.List.{position}
use Rattle.std.proofs.lemmas.Bool.{lt-ltb, le-ltb}
use Rattle.std.proofs.Math.Bool.{or-true, or-false, and-true, and-false}
use Rattle.priv_sets.specs.declared.limit.PrivFault.TheVariants.{PrivWord}
use Rattle.priv_sets.specs.declared.limit.PrivFault.{PrivFault}
use Rattle.priv_sets.specs.declared.limit.Rule.{Rule}
use Rattle.priv_sets.specs.Sets.{set_of, has, union, without}
use Rattle.priv_sets.specs.Limit.{applied, is_comma, last_or, rule_of, rules_from, set_of_rules, with_rule, words_behind, words_from}
use Rattle.zn_base.proofs.Splits.{split_some, split_none}
use Rattle.std.proofs.lemmas.List.{drop-drop, length-take-le, take_all}
use Rattle.priv_sets.proofs.Numbers.{set_of_same, set_of-has, has-set_of-below}

-- what tokens make of a set
unfoldable pub after : List ℕ → Result (List Rule) PrivFault → Result (List ℕ) PrivFault
after set (Ok rules) = Ok (set_of (λ n. last_or (has set n) (map (λ r. r.adds) (filter (λ r. has r.covered n) rules))))
after set (Err fault) = Err fault

pub after_nothing : (read : Result (List Rule) PrivFault) → after [] read ≡ set_of_rules read
unfolding after has
after_nothing (Ok rules) = refl
after_nothing (Err fault) = refl

-- a token decides what it covers, and leaves the rest
has_applied : (r : Rule) (set : List ℕ) (n : ℕ) → n < 40 → has (applied r set) n ≡ cond (has r.covered n) r.adds (has set n)
unfolding applied union without
has_applied r set n below =
    elim r.adds as (λ v. has (cond v (union set r.covered) (without set r.covered)) n ≡ cond (has r.covered n) v (has set n)) [
      | true ↦ has-set_of-below (λ m. has set m || has r.covered m) n below ∙ (elim (has r.covered n) as (λ v. (has set n || v) ≡ cond v true (has set n)) [ true ↦ or-true (has set n) | false ↦ or-false (has set n) ])
      | false ↦ has-set_of-below (λ m. has set m && not (has r.covered m)) n below ∙ (elim (has r.covered n) as (λ v. (has set n && not v) ≡ cond v false (has set n)) [ true ↦ and-false (has set n) | false ↦ and-true (has set n) ])
    ]

last_covering : (b covers adds : Bool) (rest : List Bool) → last_or b (cond covers (adds ∷ rest) rest) ≡ last_or (cond covers adds b) rest
last_covering b true adds rest = refl
last_covering b false adds rest = refl

map_if : (covers : Bool) (r : Rule) (rest : List Rule) → map (λ q. q.adds) (cond covers (r ∷ rest) rest) ≡ cond covers (r.adds ∷ map (λ q. q.adds) rest) (map (λ q. q.adds) rest)
map_if true r rest = refl
map_if false r rest = refl

-- one token more
pub after_one : (place : ℕ) (r : Rule) (set : List ℕ) (rest : Result (List Rule) PrivFault) → after set (with_rule place (Some r) rest) ≡ after (applied r set) rest
unfolding after
after_one place r set (Ok rules) =
    ap Ok (set_of_same _ _ (λ n below.
    let later = filter (λ q. has q.covered n) rules in
    rw (has_applied r set n below, map_if (has r.covered n) r later) (last_covering (has set n) (has r.covered n) r.adds (map (λ q. q.adds) later))))
after_one place r set (Err fault) = refl

pub after_last : (r : Rule) (set : List ℕ) → after (applied r set) (Ok []) ≡ Ok (applied r set)
unfolding after applied union without
after_last r set =
    ap Ok (elim r.adds as (λ v. set_of (has (cond v (union set r.covered) (without set r.covered))) ≡ cond v (union set r.covered) (without set r.covered)) [
      | true ↦ set_of-has (λ m. has set m || has r.covered m)
      | false ↦ set_of-has (λ m. has set m && not (has r.covered m))
    ])

pub after_bad : (place : ℕ) (set : List ℕ) (rest : Result (List Rule) PrivFault) → after set (with_rule place None rest) ≡ Err (PrivWord place)
unfolding after
after_bad place set rest = refl

-- `&text[place..]` is what stands from a place on
pub comma_behind : (text : List ℕ) (place : ℕ) → position is_comma (drop place text) ≡ position is_comma (take (length text - place) (drop place text))
comma_behind text place = ap (position is_comma) (sym (take_all (length text - place) (drop place text) (omega (arith, length-drop place text))))

-- a token that ends at a comma
pub words_from-more : (text : List ℕ) (place size : ℕ) → place ≤ length text → position is_comma (drop place text) ≡ Some size
    → (place + size < length text) × (words_from text place ≡ slice_range text place (place + size) ∷ words_behind text (place + size))
unfolding words_from words_behind
words_from-more text place size within at =
    let cut = split_some is_comma (drop place text) size at in
    let inside : place + size < length text = omega (arith, cut.0, length-drop place text) in
    let rest : drop (size + 1) (drop place text) ≡ drop (place + size + 1) text = drop-drop (size + 1) place text ∙ ap (λ k. drop k text) (omega arith) in
    let count : place + size - place ≡ size = omega arith in
    (inside, rw (lt-ltb (place + size) (length text) inside, cut.1, rest, count) refl)

-- the last token
pub words_from-last : (text : List ℕ) (place : ℕ) → place ≤ length text → position is_comma (drop place text) ≡ None
    → words_from text place ≡ slice_range text place (length text) ∷ words_behind text (length text)
unfolding words_from words_behind
words_from-last text place within none =
    let whole : take (length text - place) (drop place text) ≡ drop place text = take_all (length text - place) (drop place text) (omega (arith, length-drop place text)) in
    rw (le-ltb (length text) (length text) (omega arith), whole) (split_none is_comma (drop place text) none)

-- the place after a token is that after its bytes
behind_token : (text : List ℕ) (place end : ℕ) → place ≤ end → end ≤ length text → place + length (slice_range text place end) + 1 ≡ end + 1
behind_token text place end after within =
    let size : length (slice_range text place end) ≡ end - place = length-take-le (end - place) (drop place text) (omega (arith, length-drop place text)) in
    omega arith

-- one turn: what the tokens from a place on make of a set
turn : (set text : List ℕ) (place end : ℕ) → place ≤ end → end ≤ length text → words_from text place ≡ slice_range text place end ∷ words_behind text end
    → after set (rules_from place (words_from text place)) ≡ after set (with_rule place (rule_of (place == 0) (slice_range text place end)) (rules_from (end + 1) (words_behind text end)))
turn set text place end after_place within cut =
    rw (cut, behind_token text place end after_place within) refl

pub turn_bad : (set text : List ℕ) (place end : ℕ) → place ≤ end → end ≤ length text → words_from text place ≡ slice_range text place end ∷ words_behind text end
    → rule_of (place == 0) (slice_range text place end) ≡ None → after set (rules_from place (words_from text place)) ≡ Err (PrivWord place)
turn_bad set text place end after_place within cut bad =
    turn set text place end after_place within cut ∙ ap (λ r. after set (with_rule place r (rules_from (end + 1) (words_behind text end)))) bad ∙ after_bad place set (rules_from (end + 1) (words_behind text end))

pub turn_more : (set text : List ℕ) (place end : ℕ) (r : Rule) → place ≤ end → end < length text → words_from text place ≡ slice_range text place end ∷ words_behind text end
    → rule_of (place == 0) (slice_range text place end) ≡ Some r → after set (rules_from place (words_from text place)) ≡ after (applied r set) (rules_from (end + 1) (words_from text (end + 1)))
unfolding words_behind
turn_more set text place end r after_place inside cut said =
    let more : words_behind text end ≡ words_from text (end + 1) = rw (lt-ltb end (length text) inside) refl in
    turn set text place end after_place (omega arith) cut ∙ ap (λ q. after set (with_rule place q (rules_from (end + 1) (words_behind text end)))) said
    ∙ after_one place r set (rules_from (end + 1) (words_behind text end)) ∙ ap (λ words. after (applied r set) (rules_from (end + 1) words)) more

pub turn_last : (set text : List ℕ) (place end : ℕ) (r : Rule) → place ≤ end → end ≡ length text → words_from text place ≡ slice_range text place end ∷ words_behind text end
    → rule_of (place == 0) (slice_range text place end) ≡ Some r → after set (rules_from place (words_from text place)) ≡ Ok (applied r set)
unfolding words_behind
turn_last set text place end r after_place last cut said =
    let none : words_behind text end ≡ [] = rw (le-ltb end (length text) (omega arith)) refl in
    turn set text place end after_place (omega arith) cut ∙ ap (λ q. after set (with_rule place q (rules_from (end + 1) (words_behind text end)))) said
    ∙ after_one place r set (rules_from (end + 1) (words_behind text end)) ∙ ap (λ words. after (applied r set) (rules_from (end + 1) words)) none ∙ after_last r set
