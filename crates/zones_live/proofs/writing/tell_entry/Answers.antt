use Rattle.std.proofs.Common.{◌≡◌, ◌++◌, ◌∷◌, List, ap, subst, ℕ}
use Rattle.trace_text.specs.Live.{entry_text}
use Rattle.zones_run.specs.Run.{HasFront}
use Rattle.zones_live.specs.Writing.{Waits}
use Rattle.zones_live.proofs.Written.{err-lead, ok-lead, on-err, told-front, told-next, told-so}
use Rattle.zones_live.proofs.writing.tell_entry.Goals as goal

pub returns-clause-told : goal.returns-clause-told
returns-clause-told g c =
    let holds = g.K.Sink.holds in
    let old = c.args.progress.now in
    let noted = c.note_entry.new.progress in
    let e = c.args.entry.now in
    let same = ap (λ v. v.items) c.note_entry.ensures.waiting in
    ok-lead c.put_entry.result _ _ c.put_entry.ensures.waits (λ more held all rest t.
    told-next held (holds c.args.out.now) old.waiting.items old.taken old.refused all (holds c.put_entry.new.out) c.put_entry.new.waiting.items noted.taken noted.refused e rest
    (subst (λ w. Waits (holds c.args.out.now) (holds c.put_entry.new.out) c.put_entry.new.waiting.items (w ++ entry_text e)) same more) c.in_ok-note_entry.ensures.taken c.in_ok-note_entry.ensures.refused t)

pub returns-clause-front : goal.returns-clause-front
returns-clause-front g c =
    let holds = g.K.Sink.holds in
    let old = c.args.progress.now in
    let e = c.args.entry.now in
    let same = ap (λ v. v.items) c.note_entry.ensures.waiting in
    err-lead c.put_entry.result _ _ c.put_entry.ensures.front (λ front held all rest t.
    told-front held (holds c.args.out.now) old.waiting.items old.taken old.refused all (holds c.put_entry.new.out) e rest
    (subst (λ w. HasFront (holds c.args.out.now) (holds c.put_entry.new.out) (w ++ entry_text e)) same front) t)

pub returns-in_err-note_entry-clause-front : goal.returns-in_err-note_entry-clause-front
returns-in_err-note_entry-clause-front g c =
    let holds = g.K.Sink.holds in
    let old = c.args.progress.now in
    on-err c.from_residual.result _ (λ held all rest t. told-so held (holds c.args.out.now) old.waiting.items old.taken old.refused all (c.args.entry.now ∷ rest) t)
