-- What the definitions say of some rows.
use Rattle.std.proofs.Common.{◌≡◌, [], ◌∷◌, codes, refl}
use Rattle.uuid.specs.Text.{by_index}
use Rattle.zn_base.specs.declared.state.ZoneState.TheVariants.{Configured, Installed}
use Rattle.index_file.specs.declared.rows.IndexRow.{IndexRow}
use Rattle.index_file.specs.Index.{index_text, line_text}

web : IndexRow
web = record {
  name = codes "web";
  state = Installed;
  path = codes "/zones/web";
  uuid = 138 ∷ 46 ∷ 97 ∷ 182 ∷ 142 ∷ 163 ∷ 91 ∷ 73 ∷ 151 ∷ 25 ∷ 201 ∷ 29 ∷ 70 ∷ 29 ∷ 154 ∷ 135 ∷ [];
}

-- a path with a colon and a backslash
db : IndexRow
db = record {
  name = codes "db";
  state = Configured;
  path = codes "/a:b\\c";
  uuid = 62 ∷ 219 ∷ 26 ∷ 64 ∷ 221 ∷ 27 ∷ 85 ∷ 32 ∷ 164 ∷ 222 ∷ 70 ∷ 132 ∷ 216 ∷ 15 ∷ 139 ∷ 34 ∷ [];
}

no_rows : index_text [] ≡ []
no_rows = refl

one_row : index_text (web ∷ []) ≡ codes "web:installed:/zones/web:8a2e61b6-8ea3-5b49-9719-c91d461d9a87\n"
unfolding line_text by_index web
one_row = refl

two_rows : index_text (web ∷ db ∷ []) ≡ codes "web:installed:/zones/web:8a2e61b6-8ea3-5b49-9719-c91d461d9a87\ndb:configured:/a\\:b\\\\c:3edb1a40-dd1b-5520-a4de-4684d80f8b22\n"
unfolding line_text by_index web db
two_rows = refl
