-- What the definitions say of some commits.
use Rattle.std.proofs.Common.{◌≡◌, ℕ, List, [], ◌∷◌, ◌++◌, length, Some, None, codes, false, true, refl}
use Rattle.std.specs.Prelude.{replicate}
use Rattle.uuid.specs.Text.{by_index}
use Rattle.zn_base.specs.declared.state.ZoneState.TheVariants.{Configured}
use Rattle.zone_pools.specs.Owned_lists.{tag}
use Rattle.zone_disk.specs.Image.{blocks, header}
use Rattle.config_terms.specs.Texts.{setting}
use Rattle.zone_config.specs.Export.{export_text}
use Rattle.zone_config.specs.Property.{blank}
use Rattle.commit_journal.specs.declared.records.Commit.{Commit}
use Rattle.commit_journal.specs.declared.records.Record.{Record}
use Rattle.commit_journal.specs.Bodies.{body_text, padded, record_text}
use Rattle.commit_journal.specs.Stored.{may_follow, may_stand, stored, Rows}

web_1 : Record
web_1 = record {
  state = Configured;
  uuid = 138 ∷ 46 ∷ 97 ∷ 182 ∷ 142 ∷ 163 ∷ 91 ∷ 73 ∷ 151 ∷ 25 ∷ 201 ∷ 29 ∷ 70 ∷ 29 ∷ 154 ∷ 135 ∷ [];
  revision = 1;
  config = record blank { zonepath = Some (codes "/zones/web"); brand = codes "ipkg" };
}

-- the first record of a zone web
web_made : Commit
web_made = record { zone = codes "web"; stored = Some web_1 }

made : body_text web_made
    ≡ codes "zone web\nstate configured\nuuid 8a2e61b6-8ea3-5b49-9719-c91d461d9a87\nrevision 0000000001\ncreate -b\nset zonepath=/zones/web\nset brand=ipkg\nset autoboot=false\nset ip-type=shared\n"
unfolding body_text record_text padded by_index export_text setting web_made web_1
made = refl

made_length : length (body_text web_made) ≡ 175
unfolding body_text record_text padded by_index export_text setting web_made web_1
made_length = refl

removal : body_text (record { zone = codes "web"; stored = None }) ≡ codes "zone web\nstate none\n"
unfolding body_text
removal = refl

greatest : padded 10 4294967295 ≡ codes "4294967295"
unfolding padded
greatest = refl

-- some zones by their names
commit : List ℕ → Commit
commit zone = record { zone = zone; stored = Some web_1 }

removed : List ℕ → Commit
removed zone = record { zone = zone; stored = None }

-- a zone that is removed and made again stands after those made in between
made_again : stored (commit (codes "a") ∷ commit (codes "b") ∷ removed (codes "a") ∷ commit (codes "c") ∷ commit (codes "a") ∷ commit (codes "b") ∷ [])
    ≡ tag (codes "b") web_1 ∷ tag (codes "c") web_1 ∷ tag (codes "a") web_1 ∷ []
unfolding commit removed
made_again = refl

-- only what is there is removed
removed_twice : may_follow (commit (codes "a") ∷ removed (codes "a") ∷ []) (removed (codes "a")) ≡ false
unfolding commit removed
removed_twice = refl

-- zones of one name, so many
zones : ℕ → Rows
zones n = replicate n (tag (codes "a") web_1)

-- a store has at most 256 zones: then no new one finds a place, and what is stored may change
no_place : may_stand (codes "b") (Some web_1) (zones 256) ≡ false
unfolding zones
no_place = refl

last_place : may_stand (codes "b") (Some web_1) (zones 255) ≡ true
unfolding zones
last_place = refl

change_of_a_full_store : may_stand (codes "a") (Some web_1) (zones 256) ≡ true
unfolding zones
change_of_a_full_store = refl

-- the first record in a new store, with its header and the closed gate after it
new_store : length (header 65 ++ blocks (body_text web_made ∷ []) ++ 0 ∷ []) ≡ 197
unfolding body_text record_text padded by_index export_text setting web_made web_1
new_store = refl
