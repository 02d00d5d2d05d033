-- Lengths, part by part.
use Rattle.std.proofs.Common.{◌≡◌, ◌<◌, ◌≤◌, ◌+◌, ◌/◌, ◌%◌, ℕ, zero, suc, Bool, true, false, nat_lt, List, [], ◌∷◌, ◌++◌, length, Option, Some, None, Result, Err, IsTrue, if◌then◌else◌, refl, ap, sym, arith, length-append, codes, ◌∙◌}
use Rattle.std.specs.Prelude.{◌==◌, is_ok, IfSome}
use Rattle.std.proofs.lemmas.Bool.Decides.{nat_tests}
use Rattle.uuid_text.specs.Text.{uuid_text}
use Rattle.uuid_text.proofs.Texts.{uuid_text-length}
use Rattle.zn_base.specs.Names.{first_wrong, is_name, name_unless}
use Rattle.zn_base.specs.States.{state_text}
use Rattle.zn_base.specs.declared.name.NameFault.{NameFault}
use Rattle.zn_base.specs.declared.name.NameFault.TheVariants.{Empty, TooLong}
use Rattle.zn_base.specs.declared.state.ZoneState.{ZoneState}
use Rattle.zn_base.specs.declared.state.ZoneState.TheVariants.{Configured, Incomplete, Installed, Ready, Running, ShuttingDown, Down}
use Rattle.commit_journal.specs.declared.sizes.TheConstants.{BODY_MAX}
use Rattle.commit_journal.specs.declared.records.Commit.{Commit}
use Rattle.zone_config.specs.Export.{export_text}
use Rattle.commit_journal.specs.declared.records.Record.{Record}
use Rattle.commit_journal.specs.Bodies.{body_text, padded, record_text, stored_text, told, IsCommit, IsRecord}
use Rattle.commit_journal.specs.Journal.{body_size}
use Rattle.commit_journal.specs.Store.{change_text}

pub padded-length : (k n : ℕ) → length (padded k n) ≡ k
unfolding padded
padded-length zero n = refl
padded-length (suc k) n = let e = padded-length k (n / 10) in omega (arith, e, length-append (padded k (n / 10)) ((48 + n % 10) ∷ []))

told-length : (word value : List ℕ) → length (told word value) ≡ length word + 2 + length value
told-length word value = omega (arith, length-append (word ++ 32 ∷ value) (10 ∷ []), length-append word (32 ∷ value))

pub record_parts : (row : Record) → length (record_text row) ≡ 7 + length (state_text row.state) + 42 + 20 + length (export_text row.config)
unfolding record_text
record_parts row =
    let state = told-length (codes "state") (state_text row.state) in
    let uuid = told-length (codes "uuid") (uuid_text row.uuid) in
    let u = uuid_text-length row.uuid in
    let revision = told-length (codes "revision") (padded 10 row.revision) in
    let p = padded-length 10 row.revision in
    simp length-append (omega (arith, state, uuid, u, revision, p))

pub zone_line : (z : List ℕ) → length (told (codes "zone") z) ≡ 6 + length z
zone_line z = omega (arith, told-length (codes "zone") z)

-- how long a record is doesn't hang on its number and its UUID
pub same_length : (a b : Record) → a.state ≡ b.state → a.config ≡ b.config → length (record_text a) ≡ length (record_text b)
same_length a b state config = record_parts a ∙ (λ i. 7 + length (state_text (state i)) + 42 + 20 + length (export_text (config i))) ∙ sym (record_parts b)

-- a body has the length of its zone's line and of what is stored
pub body_length : (z : List ℕ) (said : Option Record) → length (change_text z said) ≡ body_size z (length (stored_text said))
unfolding body_text
body_length z said = length-append (told (codes "zone") z) (stored_text said)

pub body_parts : (z : List ℕ) (said : Option Record) → length (change_text z said) ≡ 6 + length z + length (stored_text said)
unfolding body_text
body_parts z said = omega (arith, length-append (told (codes "zone") z) (stored_text said), told-length (codes "zone") z)

state-short : (s : ZoneState) → length (state_text s) ≤ 20
state-short Configured = omega arith
state-short Incomplete = omega arith
state-short Installed = omega arith
state-short Ready = omega arith
state-short Running = omega arith
state-short ShuttingDown = omega arith
state-short Down = omega arith

stored-short : (said : Option Record) → IfSome said IsRecord → length (stored_text said) ≤ 33000
stored-short None is = omega arith
stored-short (Some row) is = omega (arith, record_parts row, state-short row.state, is.config.short)

not_past : (empty long : Bool) (r : Result (List ℕ) NameFault) → is_ok (if empty then Err Empty else if long then Err TooLong else r) ≡ true → long ≡ false
not_past true long r ok = absurd (cc)
not_past false true r ok = absurd (cc)
not_past false false r ok = refl

pub name_short : (z : List ℕ) → IsTrue (is_name z) → length z ≤ 63
name_short z ok =
    let within : nat_lt 63 (length z) ≡ false = not_past (length z == 0) (nat_lt 63 (length z)) (name_unless (first_wrong z) z) ok in
    grind (arith, nat_tests)

-- no body is longer than the reader looks at
pub body-short : (c : Commit) → IsCommit c → length (body_text c) ≤ BODY_MAX
body-short c is = omega (arith, body_parts c.zone c.stored, name_short c.zone is.zone, stored-short c.stored is.stored)

pub long_is_none : (body : List ℕ) → BODY_MAX < length body → (c : Commit) → IsCommit c → body ≡ body_text c → ⊥
long_is_none body long c is same = omega (arith, long, body-short c is, ap length same)
