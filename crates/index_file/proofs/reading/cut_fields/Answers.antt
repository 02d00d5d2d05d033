use Rattle.std.proofs.Common.{◌≡◌, Some, arith, ◌∙◌}
use Rattle.std.specs.Prelude.{option_copied}
use Rattle.uuid_text.specs.Text.{uuid_text}
use Rattle.uuid_text.proofs.Texts.{uuid_text-length}
use Rattle.index_file.specs.Index.{escaped}
use Rattle.index_file.proofs.Lines.{behind_name, behind_state, last_fields, name_cut, state_cut}
use Rattle.index_file.proofs.reading.cut_fields.Goals as goal

pub returns-in_err-behind_name : goal.returns-in_err-behind_name
returns-in_err-behind_name c = λ row is same.
    let name = name_cut c.args.line.now row is same in
    let behind : option_copied c.split_at_byte.result.1 ≡ Some (behind_name row) = c.split_at_byte.ensures.after ∙ name.1 in
    absurd (cc (rw c.in_err-behind_name.was at behind))

pub returns-in_err-rest : goal.returns-in_err-rest
returns-in_err-rest c = λ row is same.
    let name = name_cut c.args.line.now row is same in
    let behind : Some c.in_ok-behind_name.field-0.now ≡ Some (behind_name row) = rw c.in_ok-behind_name.was at (c.split_at_byte.ensures.after ∙ name.1) in
    let first : c.in_ok-behind_name.field-0.now ≡ behind_name row = cc in
    let state = state_cut c.in_ok-behind_name.field-0.now row first in
    let rest : option_copied c.split_at_byte-2.result.1 ≡ Some (behind_state row) = c.split_at_byte-2.ensures.after ∙ state.1 in
    absurd (cc (rw c.in_err-rest.was at rest))

pub returns-then-rest : goal.returns-then-rest
returns-then-rest c = λ row is same.
    let name = name_cut c.args.line.now row is same in
    let behind : Some c.in_ok-behind_name.field-0.now ≡ Some (behind_name row) = rw c.in_ok-behind_name.was at (c.split_at_byte.ensures.after ∙ name.1) in
    let first : c.in_ok-behind_name.field-0.now ≡ behind_name row = cc in
    let state = state_cut c.in_ok-behind_name.field-0.now row first in
    let rest : Some c.in_ok-rest.rest.now ≡ Some (behind_state row) = rw c.in_ok-rest.was at (c.split_at_byte-2.ensures.after ∙ state.1) in
    let second : c.in_ok-rest.rest.now ≡ behind_state row = cc in
    let last = last_fields (escaped row.path) (uuid_text row.uuid) c.in_ok-rest.rest.now (uuid_text-length row.uuid) second in
    omega (arith, last.0)

pub returns : goal.returns
returns c = λ row is same.
    let name = name_cut c.args.line.now row is same in
    let behind : Some c.in_ok-behind_name.field-0.now ≡ Some (behind_name row) = rw c.in_ok-behind_name.was at (c.split_at_byte.ensures.after ∙ name.1) in
    let first : c.in_ok-behind_name.field-0.now ≡ behind_name row = cc in
    let state = state_cut c.in_ok-behind_name.field-0.now row first in
    let rest : Some c.in_ok-rest.rest.now ≡ Some (behind_state row) = rw c.in_ok-rest.was at (c.split_at_byte-2.ensures.after ∙ state.1) in
    let second : c.in_ok-rest.rest.now ≡ behind_state row = cc in
    let last = last_fields (escaped row.path) (uuid_text row.uuid) c.in_ok-rest.rest.now (uuid_text-length row.uuid) second in
    (c.split_at_byte.ensures.before ∙ name.0, c.split_at_byte-2.ensures.before ∙ state.0, last.1, last.2)
