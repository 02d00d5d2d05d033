-- The words of a text from a place on are the word that begins there and those behind it.
use Rattle.std.proofs.Common.{◌≡◌, ◌∙◌, ◌+◌, ◌-◌, ◌<◌, ◌≤◌, ℕ, List, [], ◌∷◌, Some, None, Option, length, take, drop, refl, ap, arith, length-drop}
use Rattle.std.specs.List.{position}
use Rattle.std.proofs.lemmas.Bool.{lt-ltb, le-ltb}
use Rattle.std.proofs.lemmas.List.{drop-drop, length-take-le, take_all}
use Rattle.zn_base.specs.Cuts.{before_byte, cut_to}
use Rattle.zn_base.proofs.Splits.{split_some, split_none}
use Rattle.process_calls.specs.Words.{is_space, words_behind, words_from}

-- what is behind a place of a text
pub nothing_behind : (text : List ℕ) (end : ℕ) → end ≡ length text → words_behind text end ≡ []
unfolding words_behind
nothing_behind text end last = rw (le-ltb end (length text) (omega arith)) refl

pub more_behind : (text : List ℕ) (end : ℕ) → end < length text → words_behind text end ≡ words_from text (end + 1)
unfolding words_behind
more_behind text end inside = rw (lt-ltb end (length text) inside) refl

-- a word at a place of a text, and the words behind it
pub record Begins (text : List ℕ) (place : ℕ) (word : List ℕ) : Type 0 where
  pub inside : place + length word ≤ length text
  pub rest : words_from text place ≡ record { place = place; bytes = word } ∷ words_behind text (place + length word)

word_begins : (text : List ℕ) (place : ℕ) → place ≤ length text → Begins text place (before_byte 32 (drop place text))
unfolding words_from words_behind
word_begins text place within = at_cut (position is_space (drop place text)) refl
  where
    size : length (drop place text) ≡ length text - place
    size = length-drop place text

    at_cut : (cut : Option ℕ) → position is_space (drop place text) ≡ cut → Begins text place (cut_to cut (drop place text))
    at_cut None e =
        let inside : place + length (drop place text) ≡ length text = omega (arith, size) in
        record {
          inside = omega arith;
          rest = rw (split_none is_space (drop place text) e, inside, le-ltb (length text) (length text) (omega arith)) refl;
        }
    at_cut (Some at) e =
        let cut = split_some is_space (drop place text) at e in
        let len : length (take at (drop place text)) ≡ at = length-take-le at (drop place text) (omega (arith, cut.0)) in
        let inside : place + at < length text = omega (arith, cut.0, size) in
        let same : drop (at + 1) (drop place text) ≡ drop (place + at + 1) text = drop-drop (at + 1) place text ∙ ap (λ k. drop k text) (omega arith) in
        record {
          inside = omega arith;
          rest = rw (cut.1, len, lt-ltb (place + at) (length text) inside, same) refl;
        }

-- `&text[place..]` is what stands from a place on
pub word_there : (text : List ℕ) (place : ℕ) (word : List ℕ) → place ≤ length text → word ≡ before_byte 32 (take (length text - place) (drop place text)) → Begins text place word
word_there text place word within cut =
    let whole : take (length text - place) (drop place text) ≡ drop place text = take_all (length text - place) (drop place text) (omega (arith, length-drop place text)) in
    let is : word ≡ before_byte 32 (drop place text) = cut ∙ ap (before_byte 32) whole in
    rw is (word_begins text place within)
