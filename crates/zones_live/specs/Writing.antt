-- What of a record was written, and what of it waits.
use Rattle.std.specs.Prelude.{◌≡◌, ◌+◌, ◌++◌, ℕ, List, Option}
use Rattle.zn_io.specs.Streams.{after_known}
use Rattle.zone_cases.specs.declared.events.Entry.{Entry}
use Rattle.zones_live.specs.Records.{first_refused, record_text, refused_from}

-- a part of a text was written, and the rest of it waits
pub record Waits (held holds : Option (List ℕ)) (waiting text : List ℕ) : Type 0 where
  pub written : List ℕ
  pub whole : text ≡ written ++ waiting
  pub taken : holds ≡ after_known held written

-- of all these entries so many are told, and the rest is still to come: their text is written, or waits, and the first of them that is
-- refused is known
pub record IsTold (held holds : Option (List ℕ)) (waiting : List ℕ) (count : ℕ) (refused : Option ℕ) (all rest : List Entry) : Type 0 where
  pub text : List ℕ
  pub waits : Waits held holds waiting text
  pub whole : record_text all ≡ text ++ record_text rest
  pub first : first_refused 1 all ≡ refused_from refused (count + 1) rest
