use Rattle.std.proofs.Common.{◌≡◌, ◌≤◌, ◌∙◌, ◌+◌, inl, inr, ℕ, List, length, take, ap, arith, subst, sym}
use Rattle.std.specs.Prelude.{min}
use Rattle.std.proofs.lemmas.Bool.{cases_lt, false≢true}
use Rattle.zn_io.proofs.Moments.{looks_self, looks_again}
use Rattle.zone_disk.specs.declared.bank.TheConstants.{BANK_BYTES}
use Rattle.zone_disk.specs.Read.{HasRecords, IsCutAt, IsFrontOf}
use Rattle.zone_disk.proofs.Reading.{header_right, in_more, front_more, closed_front, all_read, cut_front}
use Rattle.zone_disk.proofs.read.read_records.Goals as goal

pub pieces-init : goal.pieces-init
pieces-init g c = record {
  records = subst (λ (l : List (List ℕ)). HasRecords c.args.bytes.now.items l 16) (sym c.new-bodies.ensures.items) (header_right c.args.bytes.now.items c.requires.header);
  short = c.requires.short;
  front = λ _ fore. fore;
  looks = looks_self _ (g.met.D.Disk.sound c.args.disk.now);
}

pub returns-then-is_closed-clause-ok : goal.returns-then-is_closed-clause-ok
returns-then-is_closed-clause-ok g c keeps fore =
    let i = c.pieces.invariant in
    let records = subst (λ (l : List ℕ). HasRecords l c.advance.new.bodies.items c.in_ok-next.next) c.deref.ensures.value c.in_ok-next.ensures.records in
    closed_front _ c.pieces.bytes.items _ _ (i.front keeps fore) i.short records (rw c.deref.ensures.value at (c.in_ok-next.ensures.closed c.if-is_closed.true))

pub returns-then-not-branch-clause-err : goal.returns-then-not-branch-clause-err
returns-then-not-branch-clause-err g c keeps fore =
    let i = c.pieces.invariant in
    let records = subst (λ (l : List ℕ). HasRecords l c.advance.new.bodies.items c.in_ok-next.next) c.deref.ensures.value c.in_ok-next.ensures.records in
    let cut = subst (λ (l : List ℕ). IsCutAt l c.in_ok-next.next) c.deref.ensures.value (c.in_ok-next.ensures.cut c.if-is_closed.false) in
    let image = (g.D.Disk.view c.args.disk.now).reads in
    let same = i.looks.same keeps in
    let some : c.read_piece.new.bytes.items ≡ take (min (16 + BANK_BYTES) (length c.pieces.bytes.items + length c.pieces.piece)) image =
    c.in_ok-read_piece.ensures.bytes (i.looks.model.0 keeps) (subst (λ (l : List ℕ). IsFrontOf l c.pieces.bytes.items) (sym same) (i.front keeps fore)) ∙ ap (λ (l : List ℕ). take (min (16 + BANK_BYTES) (length c.pieces.bytes.items + length c.pieces.piece)) l) same in
    let none : length c.read_piece.new.bytes.items ≤ length c.pieces.bytes.items = elim (cases_lt (length c.pieces.bytes.items) (length c.read_piece.new.bytes.items)) [
      | inl more ↦ absurd (false≢true (sym c.if-not-branch.true ∙ c.in_ok-read_piece.ensures.more.1 more))
      | inr le ↦ le
    ] in
    cut_front image c.pieces.bytes.items _ _ (all_read image c.pieces.bytes.items _ (length c.pieces.piece) (i.front keeps fore) i.short (omega (arith, c.requires.piece, c.pieces.auto.piece)) some none) records cut

pub pieces-preserved : goal.pieces-preserved
pieces-preserved g c =
    let i = c.pieces.invariant in
    let records = subst (λ (l : List ℕ). HasRecords l c.advance.new.bodies.items c.in_ok-next.next) c.deref.ensures.value c.in_ok-next.ensures.records in
    record {
      records = in_more c.pieces.bytes.items c.read_piece.new.bytes.items _ _ records c.read_piece.ensures.kept;
      short = c.read_piece.ensures.within;
      front = λ keeps fore.
          let image = (g.D.Disk.view c.args.disk.now).reads in
          let same = i.looks.same keeps in
          let some : c.read_piece.new.bytes.items ≡ take (min (16 + BANK_BYTES) (length c.pieces.bytes.items + length c.pieces.piece)) image =
          c.in_ok-read_piece.ensures.bytes (i.looks.model.0 keeps) (subst (λ (l : List ℕ). IsFrontOf l c.pieces.bytes.items) (sym same) (i.front keeps fore)) ∙ ap (λ (l : List ℕ). take (min (16 + BANK_BYTES) (length c.pieces.bytes.items + length c.pieces.piece)) l) same in
          front_more image _ _ some;
      looks = looks_again _ _ _ i.looks c.read_piece.ensures.looks;
    }
