use Rattle.std.proofs.Common.{◌≡◌, ℕ, ap, length, slice_index_or, subst, sym, ◌∙◌}
use Rattle.std.specs.List.{All}
use Rattle.zone_turn.specs.Histories.{own}
use Rattle.zone_threads.specs.Ends.{AreAll, AreFree, Finished, HasAll, IsBack}
use Rattle.zone_threads.specs.Joined.{tail_of}
use Rattle.zone_threads.specs.Records.{Middle}
use Rattle.zone_threads.proofs.Joining.{whole_tails}
use Rattle.zone_threads.proofs.live.what_is_left.Goals as goal

pub returns-clause-over : goal.returns-clause-over
returns-clause-over g c =
    let D = g.M.Zoned.machine in
    let e = c.requires.ended in
    let cells = c.put_apart.ensures.cells in
    let each : (p : ℕ) → own D.by p e.h ≡ tail_of c.put_apart.new.tails.items p = λ p. e.each p ∙ (whole_tails c.args.logs.items p ∙ ap (λ ts. tail_of ts p) (sym c.put_apart.ensures.tails)) in
    record {
      middle = λ start from. subst (Middle D start g.J.Start.scripts c.args.part.shared) (sym (c.of_logs.ensures D.by e.h (e.stands start from).order each)) (e.stands start from).middle;
      backs = λ start from. subst (λ h. All (IsBack D start h) c.put_apart.new.cells.items) (sym (c.of_logs.ensures D.by e.h (e.stands start from).order each)) (subst (All (IsBack D start e.h)) (sym cells) (e.backs start from));
      there = subst (AreAll g.N.Outset.zones) (sym cells) e.all_back;
      free = λ sound. subst AreFree (sym cells) (e.free sound);
    }

pub returns-clause-finished : goal.returns-clause-finished
returns-clause-finished g c start from none k d near =
    let D = g.M.Zoned.machine in
    let e = c.requires.ended in
    let s = (slice_index_or c.args.scripts.now k d).session in
    let lines = length (slice_index_or c.args.scripts.now k d).lines.items in
    let each : (p : ℕ) → own D.by p e.h ≡ tail_of c.put_apart.new.tails.items p = λ p. e.each p ∙ (whole_tails c.args.logs.items p ∙ ap (λ ts. tail_of ts p) (sym c.put_apart.ensures.tails)) in
    let done = subst (λ ts. Finished ts s lines) c.deref.ensures.value (c.all_done-is_finished.ensures (c.ending_of.ensures.none none) k d near) in
    subst (λ h. HasAll D h s lines) (sym (c.of_logs.ensures D.by e.h (e.stands start from).order each)) (sym ((e.stands start from).tally s done.0) ∙ done.1)
