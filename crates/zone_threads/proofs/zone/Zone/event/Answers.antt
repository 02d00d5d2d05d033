use Rattle.std.proofs.Common.{rules, ◌≡◌, ◌++◌, ◌-◌, ◌<◌, ap, drop, false, get_or, length, subst, sym, take, ◌∙◌, ℕ}
use Rattle.zone_turn.specs.Histories.{own}
use Rattle.zone_threads.specs.Notes.{dones, has_mark, notes_of}
use Rattle.zone_threads.specs.Records.{IsPart, StandsFrom, Tells}
use Rattle.zone_threads.specs.Zones.{IsZone}
use Rattle.zone_threads.proofs.Gives.{gave, own_done, own_unmarked}
use Rattle.zone_threads.proofs.Telling.{dones_append, dones_notes, free_append, mark_notes, notes_some}
use Rattle.zone_threads.proofs.Steps.{append_none, rest_is, tells_same}
use Rattle.zone_threads.proofs.zone.Zone.event.Goals as goal

pub give_picked-requires-clause-out : goal.give_picked-requires-clause-out
give_picked-requires-clause-out g c =
    let out = c.take-part.ensures.out in
    let part = c.take-part.result in
    let D = g.M.Zoned.machine in
    let room = c.make_room.new.self in (
      out.1,
      out.0,
      ap (λ v. v.stage) out.2.out,
      subst (λ l. IsPart D g.J.Start.starts g.J.Start.scripts g.N.Outset.shared g.N.Outset.zones room.shared room.tally.items room.zones room.order.items room.order.cap l) (sym (append_none out.0)) (record {
        tells = tells_same D g.J.Start.starts g.J.Start.scripts part.shared room.shared part.tally.items room.tally.items part.order.items room.order.items out.0 (ap (λ p. p.shared) c.make_room.ensures.same) (ap (λ p. p.tally.items) c.make_room.ensures.same) c.make_room.ensures.order out.2.history.tells;
        counts = ap (λ p. p.zones) c.make_room.ensures.same ∙ out.2.history.counts;
        has_room = c.make_room.ensures.kept;
        untouched = λ none. subst g.N.Outset.shared (sym (ap (λ p. p.shared) c.make_room.ensures.same)) (out.2.history.untouched none);
      }),
    )

pub give_notes-requires-clause-out : goal.give_notes-requires-clause-out
give_notes-requires-clause-out g c κs within =
    let D = g.M.Zoned.machine in
    let out = c.take-part.ensures.out in
    let part = c.take-part.result in
    let place = c.self.inside.place in
    let given = c.self.inside.given in
    let log = c.reserve.new.self.items in
    let zone : IsZone D g.J.Start.starts g.K.Place.turn place c.self.inside.cell log given c.self.inside.marked c.self.inside.pass = subst (λ l. IsZone D g.J.Start.starts g.K.Place.turn place c.self.inside.cell l given c.self.inside.marked c.self.inside.pass) (sym c.reserve.ensures.items) c.self.invariant.0 in
    let room = c.make_room.new.self in
    let tells : Tells D g.J.Start.starts g.J.Start.scripts room.shared room.tally.items room.order.items out.0 =
    tells_same D g.J.Start.starts g.J.Start.scripts part.shared room.shared part.tally.items room.tally.items part.order.items room.order.items out.0 (ap (λ p. p.shared) c.make_room.ensures.same) (ap (λ p. p.tally.items) c.make_room.ensures.same) c.make_room.ensures.order out.2.history.tells in
    let mine : own D.by place (dones out.0) ≡ take given log = own_done D g.J.Start.starts g.K.Place.turn place given c.self.inside.cell log c.self.inside.marked c.self.inside.pass zone out.0 out.2.mine in
    let new = c.act-done.new.part in
    let marked = c.act-done.new.marked in
    let done = take (length c.deref.result.now - given) (drop given c.deref.result.now) in
    let notes = notes_of place done marked in
    let told : dones (out.0 ++ notes) ≡ dones out.0 ++ drop given c.act-done.new.log.items = dones_append out.0 notes ∙ ap (λ l. dones out.0 ++ l) (dones_notes place done marked ∙ (rest_is given c.deref.result.now ∙ ap (drop given) c.deref.ensures.value)) in (
      out.1,
      out.0,
      ap (λ v. v.stage) out.2.out,
      record {
        tells = record {
          stands = subst (λ l. StandsFrom D g.J.Start.starts g.J.Start.scripts new.shared new.tally.items new.order.items l) (sym told)
              (record { wide = c.act-done.ensures.wide ∙ tells.stands.wide; each = λ start from. (c.act-done.ensures.stands start (dones out.0) (tells.stands.each start from) mine (zone.logged start from)).0 });
          free = λ sound.
              let same = c.act-done.ensures.marks sound in
              let none : has_mark out.0 ≡ false = tells.free same.0 in
              free_append out.0 notes none (mark_notes place done marked ∙ (same.1 ∙ own_unmarked D g.J.Start.starts g.K.Place.turn place given c.self.inside.cell log c.self.inside.marked c.self.inside.pass zone out.0 out.2.mine none));
        };
        counts = c.act-done.ensures.room.0 ∙ (ap (λ p. p.zones) c.make_room.ensures.same ∙ out.2.history.counts);
        has_room = c.act-done.ensures.room.1;
        untouched = λ none. absurd (notes_some place out.0 done marked none);
      },
    )

pub give_notes-requires-clause-own : goal.give_notes-requires-clause-own
give_notes-requires-clause-own g c κs within =
    let D = g.M.Zoned.machine in
    let out = c.take-part.ensures.out in
    let part = c.take-part.result in
    let place = c.self.inside.place in
    let given = c.self.inside.given in
    let log = c.reserve.new.self.items in
    let zone : IsZone D g.J.Start.starts g.K.Place.turn place c.self.inside.cell log given c.self.inside.marked c.self.inside.pass = subst (λ l. IsZone D g.J.Start.starts g.K.Place.turn place c.self.inside.cell l given c.self.inside.marked c.self.inside.pass) (sym c.reserve.ensures.items) c.self.invariant.0 in
    let room = c.make_room.new.self in
    let all = c.act-done.ensures.mine zone.mine in (
      ap (λ v. v.number) out.2.out ∙ zone.seated.numbered,
      subst (λ l. (k : ℕ) → (d : g.row.M-Entry.Denot) → k < length l → D.by (get_or l k d) ≡ place) (sym (rest_is given c.deref.result.now ∙ ap (drop given) c.deref.ensures.value)) all,
    )

pub invariant_of-self-2 : goal.invariant_of-self-2
invariant_of-self-2 g c =
    let D = g.M.Zoned.machine in
    let out = c.take-part.ensures.out in
    let part = c.take-part.result in
    let place = c.self.inside.place in
    let given = c.self.inside.given in
    let log = c.reserve.new.self.items in
    let grown = c.act-done.ensures.grown in
    let zone : IsZone D g.J.Start.starts g.K.Place.turn place c.self.inside.cell log given c.self.inside.marked c.self.inside.pass = subst (λ l. IsZone D g.J.Start.starts g.K.Place.turn place c.self.inside.cell l given c.self.inside.marked c.self.inside.pass) (sym c.reserve.ensures.items) c.self.invariant.0 in
    let room = c.make_room.new.self in
    let tells : Tells D g.J.Start.starts g.J.Start.scripts room.shared room.tally.items room.order.items out.0 =
    tells_same D g.J.Start.starts g.J.Start.scripts part.shared room.shared part.tally.items room.tally.items part.order.items room.order.items out.0 (ap (λ p. p.shared) c.make_room.ensures.same) (ap (λ p. p.tally.items) c.make_room.ensures.same) c.make_room.ensures.order out.2.history.tells in
    let mine : own D.by place (dones out.0) ≡ take given log = own_done D g.J.Start.starts g.K.Place.turn place given c.self.inside.cell log c.self.inside.marked c.self.inside.pass zone out.0 out.2.mine in
    let rest = rest_is given c.deref.result.now ∙ ap (drop given) c.deref.ensures.value in (
      gave D g.J.Start.starts g.K.Place.turn place given c.self.inside.cell log c.self.inside.marked c.self.inside.pass zone
          c.act-done.new.cell c.act-done.new.log.items grown.0 (take (length c.deref.result.now - given) (drop given c.deref.result.now)) c.len-self-inside.result out.1 out.0 c.act-done.new.marked c.take-part.new.pass.knows c.give_notes.new.pass grown.1 (search rules)
          (c.give_notes.ensures.turn ∙ (c.take-part.ensures.turn ∙ zone.seated.of_turn)) out.2.out c.give_notes.ensures.idle rest (λ start from. (c.act-done.ensures.stands start (dones out.0) (tells.stands.each start from) mine (zone.logged start from)).2),
      c.self.invariant.1,
    )

pub act-done-requires-clause-job : goal.act-done-requires-clause-job
act-done-requires-clause-job g c κs within = c.job_of-job.ensures g.J.Start.scripts c.args.session c.args.lines.now c.requires.ask
