-- What the code has of a zone that it tells of, as the definitions have it.
use Rattle.std.specs.Prelude.{ℕ, List, [], Option, Some, None}
use Rattle.uuid_text.specs.Text.{uuid_text}
use Rattle.zone_cases.specs.Session.Listed.{Zone_row}
use Rattle.zone_cases.specs.declared.session.listing.ZoneRow.{ZoneRow}

abbrev pub some_uuid_text : Option (List ℕ) → List ℕ
some_uuid_text None = []
some_uuid_text (Some uuid) = uuid_text uuid

abbrev pub as_row : ZoneRow → Zone_row
as_row r = record { id = r.id; name = r.name.now; state = r.state; path = r.path.now; uuid = some_uuid_text r.uuid; brand = r.brand.now; ip = r.ip }
