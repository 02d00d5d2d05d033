-- What is read of a text, word by word.
use Rattle.std.specs.Prelude.{◌≡◌, ◌≤◌, ℕ, List, [], ◌∷◌, ◌+◌, Result, Ok, Err, length}
use Rattle.process_calls.specs.declared.call.CallFault.{CallFault}
use Rattle.process_calls.specs.declared.call.CallFault.TheVariants.{BadWord}
use Rattle.process_calls.specs.declared.words.Word as read
use Rattle.process_calls.specs.Words.{Word, words_behind}

-- the place behind a word
abbrev pub end_of : read.Word → ℕ
end_of word = word.place + length word.bytes.now

abbrev pub as_word : read.Word → Word
as_word word = record { place = word.place; bytes = word.bytes.now }

-- a word of a text is the first of some words, and the others are those behind it
abbrev pub Leads : List ℕ → List Word → read.Word → Type 0
Leads text ws word =
    (end_of word ≤ length text) × (ws ≡ as_word word ∷ words_behind text (end_of word))

-- and where there is none, it is missing at the text's end
abbrev pub Comes : List ℕ → List Word → Result read.Word CallFault → Type 0
Comes text ws (Ok word) = Leads text ws word
Comes text ws (Err fault) = (ws ≡ []) × (fault ≡ BadWord (length text))
