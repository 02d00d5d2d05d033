use Rattle.std.proofs.Common.{◌≡◌, ◌++◌, Some, ℕ, List, sym, ap, ◌∙◌, codes}
use Rattle.uuid_text.specs.Text.{uuid_text}
use Rattle.zn_base.proofs.Read_back.{stored_state_text}
use Rattle.zn_base.specs.States.{stored_state}
use Rattle.zone_config.specs.Export.{export_text}
use Rattle.commit_journal.specs.declared.records.Record.{Record}
use Rattle.commit_journal.specs.Bodies.{padded, told}
use Rattle.commit_journal.proofs.Lines.{padded_lacks, uuid_lacks}
use Rattle.commit_journal.proofs.OneText.{same_record, ten_digits}
use Rattle.commit_journal.proofs.reading.guess_record.Goals as goal

abbrev behind_uuid : Record → List ℕ
behind_uuid row = told (codes "revision") (padded 10 row.revision) ++ export_text row.config

pub returns-in_default-cut_line : goal.returns-in_default-cut_line
returns-in_default-cut_line c = λ row is state rest. absurd (c.in_default-cut_line.ensures (uuid_text row.uuid) (behind_uuid row) (uuid_lacks row.uuid) rest)

pub returns-in_default-read_uuid : goal.returns-in_default-read_uuid
returns-in_default-read_uuid c = λ row is state rest.
    let line = c.in-Some-cut_line.ensures (uuid_text row.uuid) (behind_uuid row) (uuid_lacks row.uuid) rest in
    let uuid : c.read_uuid.result ≡ Some row.uuid = c.read_uuid.ensures.every row.uuid is.uuid line.0 in
    absurd (cc (c.in_default-read_uuid.is, uuid))

pub returns-in_default-cut_line-2 : goal.returns-in_default-cut_line-2
returns-in_default-cut_line-2 c = λ row is state rest.
    let line = c.in-Some-cut_line.ensures (uuid_text row.uuid) (behind_uuid row) (uuid_lacks row.uuid) rest in
    absurd (c.in_default-cut_line-2.ensures (padded 10 row.revision) (export_text row.config) (padded_lacks 10 row.revision) line.1)

pub returns-in_default-revision_of : goal.returns-in_default-revision_of
returns-in_default-revision_of c = λ row is state rest.
    let line = c.in-Some-cut_line.ensures (uuid_text row.uuid) (behind_uuid row) (uuid_lacks row.uuid) rest in
    let next = c.in-Some-cut_line-2.ensures (padded 10 row.revision) (export_text row.config) (padded_lacks 10 row.revision) line.1 in
    let number : c.revision_of.result ≡ Some row.revision = c.revision_of.ensures row.revision is.fits (ten_digits row.revision is.fits) next.0 in
    absurd (cc (c.in_default-revision_of.is, number))

pub returns-in_default-2 : goal.returns-in_default-2
returns-in_default-2 c = λ row is state rest.
    let line = c.in-Some-cut_line.ensures (uuid_text row.uuid) (behind_uuid row) (uuid_lacks row.uuid) rest in
    let next = c.in-Some-cut_line-2.ensures (padded 10 row.revision) (export_text row.config) (padded_lacks 10 row.revision) line.1 in
    let config : c.in_ok-config.field-0 ≡ Some row.config = c.in_ok-config.ensures row.config is.config next.1 in
    absurd (cc (c.in_default-2.is, config))

pub returns : goal.returns
returns c = λ row is state rest.
    let line = c.in-Some-cut_line.ensures (uuid_text row.uuid) (behind_uuid row) (uuid_lacks row.uuid) rest in
    let next = c.in-Some-cut_line-2.ensures (padded 10 row.revision) (export_text row.config) (padded_lacks 10 row.revision) line.1 in
    let state_is : Some c.in-Some.state ≡ Some row.state = sym c.in-Some.is ∙ c.stored.ensures ∙ ap stored_state state ∙ stored_state_text row.state is.state in
    let uuid_is : Some c.in-Some-read_uuid.uuid ≡ Some row.uuid = sym c.in-Some-read_uuid.is ∙ c.read_uuid.ensures.every row.uuid is.uuid line.0 in
    let number_is : Some c.in-Some-revision_of.revision ≡ Some row.revision = sym c.in-Some-revision_of.is ∙ c.revision_of.ensures row.revision is.fits (ten_digits row.revision is.fits) next.0 in
    let config_is : Some c.in-Some-2.config ≡ Some row.config = sym c.in-Some-2.is ∙ c.in_ok-config.ensures row.config is.config next.1 in
    let a : c.in-Some.state ≡ row.state = cc in
    let b : c.in-Some-read_uuid.uuid ≡ row.uuid = cc in
    let d : c.in-Some-revision_of.revision ≡ row.revision = cc in
    let e : c.in-Some-2.config ≡ row.config = cc in
    ap (λ (r : Record). Some r) (same_record (record { state = c.in-Some.state; uuid = c.in-Some-read_uuid.uuid; revision = c.in-Some-revision_of.revision; config = c.in-Some-2.config }) row a b d e)
