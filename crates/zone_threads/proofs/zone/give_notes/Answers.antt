use Rattle.std.proofs.Common.{◌≡◌, ◌<◌, ℕ, length, subst, sym, ◌∙◌}
use Rattle.std.specs.Prelude.{slice_index_or}
use Rattle.zone_threads.specs.Notes.{note_by}
use Rattle.zone_threads.specs.declared.notes.Note.{Note}
use Rattle.zone_threads.proofs.Telling.{notes_mine}
use Rattle.zone_threads.proofs.zone.give_notes.Goals as goal

pub give_picked-requires-clause-own : goal.give_picked-requires-clause-own
give_picked-requires-clause-own g c =
    let own = c.requires.own in
    subst (λ l. (k : ℕ) → (d : Note g.row.M-Entry.Denot) → k < length l → note_by g.M.Zoned.machine.by (slice_index_or l k d) ≡ c.args.pass.now.knows.number) (sym c.requires.picked)
    (λ k d near. notes_mine g.M.Zoned.machine.by c.args._place c.args._done.now c.args._marked own.1 k d near ∙ sym own.0)
