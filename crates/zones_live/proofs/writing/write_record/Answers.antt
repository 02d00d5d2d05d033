use Rattle.std.proofs.Common.{subst}
use Rattle.zones_live.specs.Writing.{IsTold}
use Rattle.zones_live.proofs.Written.{err-lead, on-err, told-all, told-end}
use Rattle.zones_live.proofs.writing.write_record.Goals as goal

pub returns-in_err-tell_taken-clause-front : goal.returns-in_err-tell_taken-clause-front
returns-in_err-tell_taken-clause-front g c =
    let holds = g.K.Sink.holds in
    let l = c.loop-entry in
    let p = l.progress in
    on-err c.from_residual.result _ (c.in_err-tell_taken.ensures.front (holds c.args.out.now) c.args.entries c.next.new.self
    (subst (IsTold (holds c.args.out.now) (holds l.out) p.waiting.items p.taken p.refused c.args.entries) c.in-Some.ensures.some l.invariant.told))

pub returns-in_err-write_waiting-clause-front : goal.returns-in_err-write_waiting-clause-front
returns-in_err-write_waiting-clause-front g c =
    let holds = g.K.Sink.holds in
    let l = c.loop-entry in
    let p = l.progress in
    on-err c.from_residual-in_err-write_waiting.result _ (told-end (holds c.args.out.now) (holds l.out) p.waiting.items p.taken p.refused c.args.entries
    (subst (IsTold (holds c.args.out.now) (holds l.out) p.waiting.items p.taken p.refused c.args.entries) c.in_default.ensures.none l.invariant.told) (holds c.write_waiting.new.out) c.in_err-write_waiting.ensures.front)

pub returns-clause-all : goal.returns-clause-all
returns-clause-all g c =
    let holds = g.K.Sink.holds in
    let l = c.loop-entry in
    let p = l.progress in
    told-all (holds c.args.out.now) (holds l.out) p.waiting.items p.taken p.refused c.args.entries
    (subst (IsTold (holds c.args.out.now) (holds l.out) p.waiting.items p.taken p.refused c.args.entries) c.in_default.ensures.none l.invariant.told) (holds c.write_waiting.new.out) c.in_ok-write_waiting.ensures.all
