use Rattle.std.proofs.Common.{None, arith, nat_eq, not, rules, take, ap, sym, ◌∙◌}
use Rattle.std.specs.Prelude.{slice_get, if◌then◌else◌}
use Rattle.std.specs.Map.{lookup}
use Rattle.std.proofs.lemmas.List.{take_all}
use Rattle.indexmap.proofs.CallerLemmas.{filter-RetainsPairs}
use Rattle.zone_pools.specs.Owners.{owner}
use Rattle.zone_cases.proofs.Doings_laws.{ends_more, in-all, in-more, lookup-kept, ends_in}
use Rattle.zone_cases.specs.Code.Doings.{ends_there, ends_with}
use Rattle.zone_cases.proofs.session.doings.end_doings.Goals as goal

pub loop-at-preserved : goal.loop-at-preserved
loop-at-preserved c =
    let t = c.args.ended in let es = c.args.doings.now.entries in let i = c.loop-at.at in (
      λ k.
          ends_more _ _ (owner nat_eq c.args.sessions.now k) (ends_in t k (take i es)) (ends_there t k (slice_get es i)) (c.free_at.ensures.sessions k) (c.loop-at.invariant.0 k)
          ∙ ap (λ b. if b then None else owner nat_eq c.args.sessions.now k) (sym (in-more t k es i)),
      omega (arith, c.loop-at.invariant.1, c.free_at.ensures.room),
    )

pub returns-clause-doings : goal.returns-clause-doings
returns-clause-doings c = λ k.
    let t = c.args.ended in
    ap (lookup (nat_eq k)) (filter-RetainsPairs _ (λ e. not (ends_with t e.1)) _ (λ k v b w g call. search rules) _ _ c.retain.ensures.filtered)
    ∙ lookup-kept t k c.args.doings.now.entries c.len-at-end.ensures.unique

pub returns-clause-sessions : goal.returns-clause-sessions
returns-clause-sessions c = λ k.
    let t = c.args.ended in let es = c.args.doings.now.entries in
    c.loop-at.invariant.0 k ∙ ap (λ b. if b then None else owner nat_eq c.args.sessions.now k) (ap (ends_in t k) (take_all c.loop-at.at es (omega (arith, c.loop-at-test.false, c.len-at-end.ensures.len))) ∙ in-all t k es c.len-at-end.ensures.unique)
