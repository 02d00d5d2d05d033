-- What stands before the newline of a right line lacks one.
use Rattle.std.proofs.Common.{◌≡◌, ℕ, true, false, not, List, [], ◌∷◌, ◌++◌, if◌then◌else◌, refl}
use Rattle.std.specs.Prelude.{◌==◌}
use Rattle.std.proofs.lemmas.Bool.{and_parts}
use Rattle.uuid_text.specs.Text.{is_uuid_byte, uuid_text}
use Rattle.uuid_text.proofs.Texts.{uuid_text-bytes}
use Rattle.zn_base.specs.Cuts.{lacks}
use Rattle.zn_base.specs.Lines.{newline}
use Rattle.zn_base.specs.States.{state_text}
use Rattle.zn_base.proofs.First_byte.{lacks_by, lacks-append}
use Rattle.zn_base.proofs.Read_back.{name_lacks, path_lacks, state_lacks}
use Rattle.index_file.specs.declared.rows.IndexRow.{IndexRow}
use Rattle.index_file.specs.Index.{backslash, escaped, is_escaped_byte, IsIndexRow}
use Rattle.index_file.proofs.Lines.{front}

escaped_lacks : (path : List ℕ) → lacks newline path ≡ true → lacks newline (escaped path) ≡ true
escaped_lacks [] f = refl
escaped_lacks (b ∷ path) f =
    let parts = and_parts (not (b == newline)) (lacks newline path) f in
    elim (is_escaped_byte b) as (λ v. lacks newline ((if v then backslash ∷ b ∷ [] else b ∷ []) ++ escaped path) ≡ true) [
      | true ↦ rw (parts.0, escaped_lacks path parts.1) refl
      | false ↦ rw (parts.0, escaped_lacks path parts.1) refl
    ]

pub front_lacks_newline : (row : IndexRow) → IsIndexRow row → lacks newline (front row) ≡ true
front_lacks_newline row is =
    lacks-append newline row.name _ (name_lacks newline refl row.name is.name)
    (lacks-append newline (state_text row.state) _ (state_lacks newline refl row.state)
    (lacks-append newline (escaped row.path) _ (escaped_lacks row.path (path_lacks newline refl row.path is.path)) (lacks_by is_uuid_byte newline refl (uuid_text row.uuid) (uuid_text-bytes row.uuid))))
