use Rattle.std.proofs.Common.{◌≡◌, refl, Some, None, IsTrue, ℕ, List, true, false, sym, ap, subst, ◌∙◌, codes}
use Rattle.std.specs.Prelude.{bytes_eq}
use Rattle.std.proofs.lemmas.Slice.Eq.{bytes_eq-Decides}
use Rattle.zn_base.specs.Lines.{newline}
use Rattle.zn_base.specs.Names.{is_name}
use Rattle.zn_base.proofs.Read_back.{name_lacks}
use Rattle.commit_journal.specs.declared.records.Commit.{Commit}
use Rattle.commit_journal.specs.Bodies.{stored_text}
use Rattle.commit_journal.proofs.OneText.{behind_state, body_lines, found_record, named, none_word, other_word, same_commit, stored_lines, word_lacks, word_of}
use Rattle.commit_journal.proofs.reading.guess.Goals as goal

pub returns-in_default : goal.returns-in_default
returns-in_default c = λ d is body. absurd (c.in_default.ensures d.zone (stored_text d.stored) (name_lacks newline refl d.zone is.zone) (body ∙ body_lines d))

pub returns-in_default-2 : goal.returns-in_default-2
returns-in_default-2 c = λ d is body.
    let zone = c.in-Some.ensures d.zone (stored_text d.stored) (name_lacks newline refl d.zone is.zone) (body ∙ body_lines d) in
    let name = named c.in-Some.zone_line.value.now c.in_ok-zone.field-0 c.in_ok-zone.ensures.name (subst (λ (l : List ℕ). IsTrue (is_name l)) (sym zone.0) is.zone) in
    absurd (cc (c.in_default-2.is, name))

pub returns-in_default-cut_line : goal.returns-in_default-cut_line
returns-in_default-cut_line c = λ d is body.
    let zone = c.in-Some.ensures d.zone (stored_text d.stored) (name_lacks newline refl d.zone is.zone) (body ∙ body_lines d) in
    absurd (c.in_default-cut_line.ensures (word_of d.stored) (behind_state d.stored) (word_lacks d.stored) (zone.1 ∙ stored_lines d.stored))

pub returns-then-eq : goal.returns-then-eq
returns-then-eq c = λ d is body.
    let zone = c.in-Some.ensures d.zone (stored_text d.stored) (name_lacks newline refl d.zone is.zone) (body ∙ body_lines d) in
    let name : c.in_ok-zone.field-0 ≡ Some c.in-Some.zone_line.value.now = named c.in-Some.zone_line.value.now c.in_ok-zone.field-0 c.in_ok-zone.ensures.name (subst (λ (l : List ℕ). IsTrue (is_name l)) (sym zone.0) is.zone) in
    let named : c.in-Some-2.zone ≡ d.zone = cc (c.in-Some-2.is, name, zone.0) in
    let state = c.in-Some-cut_line.ensures (word_of d.stored) (behind_state d.stored) (word_lacks d.stored) (zone.1 ∙ stored_lines d.stored) in
    let eq : bytes_eq c.in-Some-cut_line.state_line.value.now (codes "none") ≡ true = ap (λ (l : List ℕ). bytes_eq c.in-Some-cut_line.state_line.value.now l) (sym c.as_slice.ensures) ∙ sym c.eq.ensures ∙ c.if-eq.true in
    let word : codes "none" ≡ word_of d.stored = sym ((bytes_eq-Decides c.in-Some-cut_line.state_line.value.now (codes "none")).0 eq) ∙ state.0 in
    ap (λ (x : Commit). Some x) (same_commit (record { zone = c.in-Some-2.zone; stored = None }) d named (sym (none_word d.stored is.stored word)))

pub returns-in_default-3 : goal.returns-in_default-3
returns-in_default-3 c = λ d is body.
    let zone = c.in-Some.ensures d.zone (stored_text d.stored) (name_lacks newline refl d.zone is.zone) (body ∙ body_lines d) in
    let state = c.in-Some-cut_line.ensures (word_of d.stored) (behind_state d.stored) (word_lacks d.stored) (zone.1 ∙ stored_lines d.stored) in
    let eq : bytes_eq c.in-Some-cut_line.state_line.value.now (codes "none") ≡ false = ap (λ (l : List ℕ). bytes_eq c.in-Some-cut_line.state_line.value.now l) (sym c.as_slice.ensures) ∙ sym c.eq.ensures ∙ c.if-eq.false in
    let found : c.in_ok-row.field-0 ≡ d.stored = found_record d.stored c.in-Some-cut_line.state_line.value.now c.in-Some-cut_line.state_line.rest.now c.in_ok-row.field-0 is.stored state.0 state.1 eq c.in_ok-row.ensures in
    absurd (other_word d.stored c.in-Some-cut_line.state_line.value.now state.0 eq (sym found ∙ c.in_default-3.is))

pub returns : goal.returns
returns c = λ d is body.
    let zone = c.in-Some.ensures d.zone (stored_text d.stored) (name_lacks newline refl d.zone is.zone) (body ∙ body_lines d) in
    let name : c.in_ok-zone.field-0 ≡ Some c.in-Some.zone_line.value.now = named c.in-Some.zone_line.value.now c.in_ok-zone.field-0 c.in_ok-zone.ensures.name (subst (λ (l : List ℕ). IsTrue (is_name l)) (sym zone.0) is.zone) in
    let named : c.in-Some-2.zone ≡ d.zone = cc (c.in-Some-2.is, name, zone.0) in
    let state = c.in-Some-cut_line.ensures (word_of d.stored) (behind_state d.stored) (word_lacks d.stored) (zone.1 ∙ stored_lines d.stored) in
    let eq : bytes_eq c.in-Some-cut_line.state_line.value.now (codes "none") ≡ false = ap (λ (l : List ℕ). bytes_eq c.in-Some-cut_line.state_line.value.now l) (sym c.as_slice.ensures) ∙ sym c.eq.ensures ∙ c.if-eq.false in
    let found : c.in_ok-row.field-0 ≡ d.stored = found_record d.stored c.in-Some-cut_line.state_line.value.now c.in-Some-cut_line.state_line.rest.now c.in_ok-row.field-0 is.stored state.0 state.1 eq c.in_ok-row.ensures in
    ap (λ (x : Commit). Some x) (same_commit (record { zone = c.in-Some-2.zone; stored = Some c.in-Some-3.row }) d named (sym c.in-Some-3.is ∙ found))
