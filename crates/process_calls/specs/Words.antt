-- The words of a text, with one space between two, and the place at which each begins.
use Rattle.std.specs.Prelude.{◌≤◌, ℕ, List, [], ◌∷◌, ◌+◌, ◌==◌, Bool, Option, Some, None, Result, Ok, Err, drop, length, nat_lt, if◌then◌else◌}
use Rattle.std.specs.List.{slice_split}
use Rattle.process_calls.specs.declared.call.CallFault.{CallFault}
use Rattle.process_calls.specs.declared.call.CallFault.TheVariants.{BadWord, Memory}

pub record Word : Type 0 where
  pub place : ℕ
  pub bytes : List ℕ

abbrev pub is_space : ℕ → Bool
is_space b = b == 32

-- words one after another, of which the first begins at a place
abbrev pub placed : ℕ → List (List ℕ) → List Word
placed place [] = []
placed place (bytes ∷ more) = record { place = place; bytes = bytes } ∷ placed (place + length bytes + 1) more

-- the words of a text from a place on
unfoldable pub words_from : List ℕ → ℕ → List Word
words_from text place = placed place (slice_split is_space (drop place text))

abbrev pub words : List ℕ → List Word
words text = words_from text 0

-- the words after one that ends at a place
unfoldable pub words_behind : List ℕ → ℕ → List Word
words_behind text end = if nat_lt end (length text) then words_from text (end + 1) else []

infixl 10 ◌>>=◌
abbrev pub ◌>>=◌ : {A B : Type 0} → Result A CallFault → (A → Result B CallFault) → Result B CallFault
(Ok a) >>= f = f a
(Err fault) >>= f = Err fault

-- what a word says, and the words after it, or that the word is wrong
abbrev pub said_at : {A : Type 0} → Option A → ℕ → List Word → Result (A × List Word) CallFault
said_at (Some a) place more = Ok (a, more)
said_at None place more = Err (BadWord place)

-- the next word; a missing one's place is the text's end
abbrev pub next : {A : Type 0} → (List ℕ → Option A) → (end : ℕ) → List Word → Result (A × List Word) CallFault
next read end [] = Err (BadWord end)
next read end (word ∷ more) = said_at (read word.bytes) word.place more

-- something, where no word is left
abbrev pub no_more : {A : Type 0} → A → List Word → Result A CallFault
no_more a [] = Ok a
no_more a (word ∷ more) = Err (BadWord word.place)

-- one word and no more
abbrev pub last : {A : Type 0} → (List ℕ → Option A) → (end : ℕ) → List Word → Result A CallFault
last read end ws = do
  word ← next read end ws
  no_more word.0 word.1

-- a fault's place lies in a text, or at its end
abbrev pub IsWithin : (end : ℕ) → CallFault → Type 0
IsWithin end Memory = Unit {0}
IsWithin end (BadWord place) = place ≤ end
