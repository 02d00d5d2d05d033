-- Bytes that are cut at the first byte of a value.
use Rattle.std.specs.Prelude.{ℕ, List, take, drop, ◌+◌, ◌==◌, Bool, not, position, Option, Some, None}
use Rattle.std.specs.List.{list_all}

-- no byte of a value is among some bytes
abbrev pub lacks : ℕ → List ℕ → Bool
lacks byte bytes = list_all (λ b. not (b == byte)) bytes

-- the bytes up to a place, or all of them where there is none
abbrev pub cut_to : Option ℕ → List ℕ → List ℕ
cut_to None bytes = bytes
cut_to (Some at) bytes = take at bytes

-- the bytes after a place, if there is one
abbrev pub cut_after : Option ℕ → List ℕ → Option (List ℕ)
cut_after None bytes = None
cut_after (Some at) bytes = Some (drop (at + 1) bytes)

-- the bytes before the first one of a value, or all of them where there is none
abbrev pub before_byte : ℕ → List ℕ → List ℕ
before_byte byte bytes = cut_to (position (λ b. b == byte) bytes) bytes

-- the bytes after the first one of a value, if there is one
abbrev pub after_byte : ℕ → List ℕ → Option (List ℕ)
after_byte byte bytes = cut_after (position (λ b. b == byte) bytes) bytes
