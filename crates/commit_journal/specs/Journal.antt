-- What the bodies of a store say, and the first that is out of form or that may not follow those before it.
use Rattle.std.specs.Prelude.{◌≡◌, ℕ, ◌+◌, ◌-◌, ◌≤◌, List, ◌∷◌, ◌++◌, length, take, map, All, Bool, nat_le, IsTrue, codes}
use Rattle.zone_disk.specs.declared.bank.TheConstants.{BANK_BYTES}
use Rattle.commit_journal.specs.declared.records.Commit.{Commit}
use Rattle.commit_journal.specs.Bodies.{body_text, told, IsCommit}
use Rattle.zn_base.specs.Names.{Name}
use Rattle.commit_journal.specs.Stored.{may_follow, stored, Rows}

-- the bodies are those of some commits, each of which may follow those before it
pub record Say (bodies : List (List ℕ)) (commits : List Commit) : Type 0 where
  pub texts : bodies ≡ map body_text commits
  pub each : All IsCommit commits
  pub follow : (before after : List Commit) (c : Commit) → commits ≡ before ++ c ∷ after → IsTrue (may_follow before c)

-- the zones that a store with these bodies has
pub record Leave (bodies : List (List ℕ)) (rows : Rows) : Type 0 where
  pub commits : List Commit
  pub say : Say bodies commits
  pub are : rows ≡ stored commits

-- the bodies before the one of this number say commits, and with it they say none
pub record IsFirstBad (bodies : List (List ℕ)) (serial : ℕ) : Type 0 where
  pub positive : 1 ≤ serial
  pub within : serial ≤ length bodies
  pub commits : List Commit
  pub before : Say (take (serial - 1) bodies) commits
  pub bad : (said : List Commit) → Say (take serial bodies) said → ⊥

-- a body of so many bytes and the next gate fit into the bank after the bytes in use
abbrev pub fits_after : ℕ → ℕ → Bool
fits_after used size = nat_le (used + 5 + size) BANK_BYTES

abbrev pub has_room : ℕ → List ℕ → Bool
has_room used body = fits_after used (length body)

-- how many bytes a body has, by the name of its zone and the length of what is stored
abbrev pub body_size : Name → ℕ → ℕ
body_size z stored = length (told (codes "zone") z) + stored
