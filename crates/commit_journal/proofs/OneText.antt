-- No two commits have one body.
use Rattle.std.proofs.Common.{◌≡◌, ◌<◌, ◌+◌, ◌/◌, ◌%◌, ◌^◌, ℕ, zero, suc, List, [], ◌++◌, Bool, Option, Some, None, IsTrue, true, false, if◌then◌else◌, refl, ap, sym, ◌∙◌, arith, append_assoc, codes, true≢false}
use Rattle.std.specs.Prelude.{bytes_eq, IfSome}
use Rattle.std.proofs.lemmas.List.{append-nil}
use Rattle.uuid_text.specs.Text.{uuid_text}
use Rattle.uuid_text.proofs.Texts.{uuid_of_text}
use Rattle.zn_base.specs.Cuts.{lacks}
use Rattle.zn_base.specs.Lines.{newline}
use Rattle.zn_base.specs.Names.{Name, is_name}
use Rattle.zn_base.specs.States.{is_stored, state_text}
use Rattle.zn_base.proofs.Read_back.{name_lacks, state_lacks, state_of_text}
use Rattle.zn_base.specs.declared.state.ZoneState.{ZoneState}
use Rattle.zn_base.specs.declared.state.ZoneState.TheVariants.{Configured, Incomplete, Installed, Ready, Running, ShuttingDown, Down}
use Rattle.zone_config.specs.Export.{export_text}
use Rattle.zone_config.specs.declared.terms.Contents.{Contents}
use Rattle.export_read.proofs.Whole.{texts_differ}
use Rattle.commit_journal.specs.declared.records.Commit.{Commit}
use Rattle.commit_journal.specs.declared.records.Record.{Record}
use Rattle.commit_journal.specs.Bodies.{body_text, padded, record_text, stored_text, told, HasDigits, IsRecord, OneCommitABody}
use Rattle.commit_journal.proofs.Lists.{push_same}
use Rattle.commit_journal.proofs.Lines.{padded_lacks, told_alike, uuid_lacks}

-- numbers that have so few digits are told apart by them
number_of_text : (k m n : ℕ) → HasDigits k m → HasDigits k n → padded k m ≡ padded k n → m ≡ n
unfolding padded
number_of_text zero m n f g same = f ∙ sym g
number_of_text (suc k) m n f g same =
    let ends = push_same (padded k (m / 10)) (padded k (n / 10)) (48 + m % 10) (48 + n % 10) same in
    let high = number_of_text k (m / 10) (n / 10) f g ends.0 in
    let low = ends.1 in
    omega (arith, high, low)

-- a number of 32 bits has at most ten digits
pub ten_digits : (n : ℕ) → n < 2 ^ 32 → HasDigits 10 n
ten_digits n small = omega arith

-- a record's lines, one after the other
pub record_lines : (row : Record) → record_text row ≡ told (codes "state") (state_text row.state) ++ (told (codes "uuid") (uuid_text row.uuid) ++ (told (codes "revision") (padded 10 row.revision) ++ export_text row.config))
unfolding record_text
record_lines row =
    append_assoc (told (codes "state") (state_text row.state) ++ told (codes "uuid") (uuid_text row.uuid)) (told (codes "revision") (padded 10 row.revision)) (export_text row.config)
    ∙ append_assoc (told (codes "state") (state_text row.state)) (told (codes "uuid") (uuid_text row.uuid)) (told (codes "revision") (padded 10 row.revision) ++ export_text row.config)

pub none_lines : stored_text None ≡ told (codes "state") (codes "none") ++ []
none_lines = sym (append-nil (told (codes "state") (codes "none")))

abbrev record_of : ZoneState → List ℕ → ℕ → Contents → Record
record_of state uuid revision config = record { state = state; uuid = uuid; revision = revision; config = config }

pub same_record : (a b : Record) → a.state ≡ b.state → a.uuid ≡ b.uuid → a.revision ≡ b.revision → a.config ≡ b.config → a ≡ b
same_record a b state uuid revision config =
    let same : record_of a.state a.uuid a.revision a.config ≡ record_of b.state b.uuid b.revision b.config = cc in
    same

one_record : (a b : Record) → IsRecord a → IsRecord b → record_text a ≡ record_text b → a ≡ b
one_record a b f g same =
    let states = told_alike (codes "state") (state_text a.state) (state_text b.state) _ _ refl (state_lacks newline refl a.state) (state_lacks newline refl b.state) (sym (record_lines a) ∙ same ∙ record_lines b) in
    let uuids = told_alike (codes "uuid") (uuid_text a.uuid) (uuid_text b.uuid) _ _ refl (uuid_lacks a.uuid) (uuid_lacks b.uuid) states.1 in
    let revisions = told_alike (codes "revision") (padded 10 a.revision) (padded 10 b.revision) _ _ refl (padded_lacks 10 a.revision) (padded_lacks 10 b.revision) uuids.1 in
    same_record a b (state_of_text a.state b.state f.state g.state states.0) (uuid_of_text a.uuid b.uuid f.uuid g.uuid uuids.0)
    (number_of_text 10 a.revision b.revision (ten_digits a.revision f.fits) (ten_digits b.revision g.fits) revisions.0)
    (texts_differ a.config b.config f.config g.config revisions.1)

-- no stored state is named as a removal is
pub none_no_state : (s : ZoneState) → IsTrue (is_stored s) → codes "none" ≡ state_text s → ⊥
none_no_state Configured h e = cc
none_no_state Incomplete h e = cc
none_no_state Installed h e = cc
none_no_state Ready h e = cc
none_no_state Running h e = cc
none_no_state ShuttingDown h e = cc
none_no_state Down h e = cc

no_record : (row : Record) → IsRecord row → stored_text None ≡ record_text row → ⊥
no_record row is same =
    let states = told_alike (codes "state") (codes "none") (state_text row.state) [] _ refl refl (state_lacks newline refl row.state) (sym none_lines ∙ same ∙ record_lines row) in
    none_no_state row.state is.state states.0

one_stored : (a b : Option Record) → IfSome a IsRecord → IfSome b IsRecord → stored_text a ≡ stored_text b → a ≡ b
one_stored None None f g same = refl
one_stored None (Some b) f g same = absurd (no_record b g same)
one_stored (Some a) None f g same = absurd (no_record a f (sym same))
one_stored (Some a) (Some b) f g same = ap Some (one_record a b f g same)

-- what the line of the state says, and what follows it
abbrev pub word_of : Option Record → List ℕ
word_of None = codes "none"
word_of (Some row) = state_text row.state

abbrev pub behind_state : Option Record → List ℕ
behind_state None = []
behind_state (Some row) = told (codes "uuid") (uuid_text row.uuid) ++ (told (codes "revision") (padded 10 row.revision) ++ export_text row.config)

pub stored_lines : (said : Option Record) → stored_text said ≡ told (codes "state") (word_of said) ++ behind_state said
stored_lines None = none_lines
stored_lines (Some row) = record_lines row

pub word_lacks : (said : Option Record) → lacks newline (word_of said) ≡ true
word_lacks None = refl
word_lacks (Some row) = state_lacks newline refl row.state

pub none_word : (said : Option Record) → IfSome said IsRecord → codes "none" ≡ word_of said → said ≡ None
none_word None is e = refl
none_word (Some row) is e = absurd (none_no_state row.state is.state e)

-- after another word than that of a removal there is a record
pub other_word : (said : Option Record) (word : List ℕ) → word ≡ word_of said → bytes_eq word (codes "none") ≡ false → said ≡ None → ⊥
other_word None word is other e = true≢false (sym (ap (λ (w : List ℕ). bytes_eq w (codes "none")) is) ∙ other)
other_word (Some row) word is other e = cc

pub found_record : (said : Option Record) (word rest : List ℕ) (found : Option Record) → IfSome said IsRecord → word ≡ word_of said → rest ≡ behind_state said → bytes_eq word (codes "none") ≡ false
    → ((row : Record) → IsRecord row → word ≡ state_text row.state → rest ≡ behind_state (Some row) → found ≡ Some row) → found ≡ said
found_record None word rest found is words rests other find = absurd (other_word None word words other refl)
found_record (Some row) word rest found is words rests other find = find row is words rests

abbrev commit_of : Name → Option Record → Commit
commit_of z said = record { zone = z; stored = said }

pub same_commit : (a b : Commit) → a.zone ≡ b.zone → a.stored ≡ b.stored → a ≡ b
same_commit a b zones said =
    let same : commit_of a.zone a.stored ≡ commit_of b.zone b.stored = cc in
    same

pub body_lines : (c : Commit) → body_text c ≡ told (codes "zone") c.zone ++ stored_text c.stored
unfolding body_text
body_lines c = refl

pub one_commit : OneCommitABody
one_commit a b f g same =
    let zones = told_alike (codes "zone") a.zone b.zone (stored_text a.stored) (stored_text b.stored) refl (name_lacks newline refl a.zone f.zone) (name_lacks newline refl b.zone g.zone) (sym (body_lines a) ∙ same ∙ body_lines b) in
    same_commit a b zones.0 (one_stored a.stored b.stored f.stored g.stored zones.1)

-- what is read of bytes that are a name
pub named : (bytes : List ℕ) (read : Option (List ℕ)) → read ≡ (if is_name bytes then Some bytes else None) → IsTrue (is_name bytes) → read ≡ Some bytes
named bytes read said is = said ∙ ap (λ (b : Bool). if b then Some bytes else None) is
