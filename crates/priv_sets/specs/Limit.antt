-- The limit set that a limitpriv text denotes, or its first fault.
use Rattle.std.specs.Prelude.{ℕ, List, [], ◌∷◌, ◌+◌, ◌==◌, Bool, true, false, ◌&&◌, ◌||◌, Option, Some, None, Result, Ok, Err, codes, drop, filter, length, map, nat_lt, slice_get, if◌then◌else◌}
use Rattle.std.specs.List.{slice_split}
use Rattle.std.specs.Str.{bytes_eq}
use Rattle.priv_sets.specs.declared.limit.PrivFault.{PrivFault}
use Rattle.priv_sets.specs.declared.limit.PrivFault.TheVariants.{PrivWord, PrivRequired, PrivProhibited}
use Rattle.priv_sets.specs.declared.limit.Rule.{Rule}
use Rattle.priv_sets.specs.declared.table.Class.TheVariants.{Required, Prohibited}
use Rattle.priv_sets.specs.Table.{number_of}
use Rattle.priv_sets.specs.Sets.{set_of, has, union, without, both, only, everything, all_of, default_set}

abbrev pub is_comma : ℕ → Bool
is_comma b = b == 44

abbrev pub named_number : Option ℕ → Option (List ℕ)
named_number (Some n) = Some (only n)
named_number None = None

-- what a token without its sign covers: `all` everything, a name itself
unfoldable pub named : List ℕ → Option (List ℕ)
named word = if bytes_eq word (codes "all") then Some everything else named_number (number_of word)

abbrev pub rule : Bool → Option (List ℕ) → Option Rule
rule adds (Some covered) = Some (record { adds = adds; covered = covered })
rule adds None = None

-- `!` or `-` takes away what the token covers, and without a sign it is added
abbrev pub signed : List ℕ → Option Rule
signed [] = rule true (named [])
signed (b ∷ word) = if b == 33 || b == 45 then rule false (named word) else rule true (named (b ∷ word))

-- what a token says; `default` says something only as the first
unfoldable pub rule_of : Bool → List ℕ → Option Rule
rule_of is_first word = if is_first && bytes_eq word (codes "default") then rule true (Some default_set) else signed word

abbrev pub with_rule : ℕ → Option Rule → Result (List Rule) PrivFault → Result (List Rule) PrivFault
with_rule place None rest = Err (PrivWord place)
with_rule place (Some r) (Ok rules) = Ok (r ∷ rules)
with_rule place (Some r) (Err fault) = Err fault

-- what the tokens from a place on say, or the first that says nothing
abbrev pub rules_from : ℕ → List (List ℕ) → Result (List Rule) PrivFault
rules_from place [] = Ok []
rules_from place (word ∷ words) = with_rule place (rule_of (place == 0) word) (rules_from (place + length word + 1) words)

abbrev pub last_or : Bool → List Bool → Bool
last_or b [] = b
last_or b (x ∷ xs) = last_or x xs

-- a privilege is in exactly where some token covers it and the last of those that do adds it
abbrev pub is_in : List Rule → ℕ → Bool
is_in rules n = last_or false (map (λ r. r.adds) (filter (λ r. has r.covered n) rules))

abbrev pub set_of_rules : Result (List Rule) PrivFault → Result (List ℕ) PrivFault
set_of_rules (Ok rules) = Ok (set_of (is_in rules))
set_of_rules (Err fault) = Err fault

-- the set that tokens denote
unfoldable pub set_of_words : List (List ℕ) → Result (List ℕ) PrivFault
set_of_words words = set_of_rules (rules_from 0 words)

-- the tokens of a text from a place on
unfoldable pub words_from : List ℕ → ℕ → List (List ℕ)
words_from text place = slice_split is_comma (drop place text)

-- the tokens after one that ends at a place
unfoldable pub words_behind : List ℕ → ℕ → List (List ℕ)
words_behind text end = if nat_lt end (length text) then words_from text (end + 1) else []

abbrev pub unless_prohibited : Option ℕ → List ℕ → Result (List ℕ) PrivFault
unless_prohibited (Some n) set = Err (PrivProhibited n)
unless_prohibited None set = Ok set

abbrev pub unless_missing : Option ℕ → List ℕ → Result (List ℕ) PrivFault
unless_missing (Some n) set = Err (PrivRequired n)
unless_missing None set = unless_prohibited (slice_get (both (all_of Prohibited) set) 0) set

-- a set, unless a required privilege is missing or a prohibited one is there: then the first in the table
unfoldable pub judged : List ℕ → Result (List ℕ) PrivFault
judged set = unless_missing (slice_get (without (all_of Required) set) 0) set

abbrev pub judged_if_read : Result (List ℕ) PrivFault → Result (List ℕ) PrivFault
judged_if_read (Ok set) = judged set
judged_if_read (Err fault) = Err fault

-- the empty text means `default`
abbrev pub spoken : List ℕ → List ℕ
spoken [] = codes "default"
spoken (b ∷ bytes) = b ∷ bytes

-- the limit set, or the first token that says nothing, or the first privilege that is missing, or the first
-- that is prohibited
unfoldable pub limit_of : List ℕ → Result (List ℕ) PrivFault
limit_of text = judged_if_read (set_of_words (words_from (spoken text) 0))

-- a set after one more token
unfoldable pub applied : Rule → List ℕ → List ℕ
applied r set = if r.adds then union set r.covered else without set r.covered
