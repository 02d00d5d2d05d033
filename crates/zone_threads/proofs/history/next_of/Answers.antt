use Rattle.std.proofs.Common.{rules, ◌≡◌, ◌∷◌, ◌==◌, ◌<◌, [], length, ap, sym, ◌∙◌, subst, List, slice_set, if◌then◌else◌}
use Rattle.std.proofs.lemmas.Option.{IfSome_then}
use Rattle.zone_threads.specs.declared.history.Tail.{Tail}
use Rattle.zone_threads.specs.Joined.{tail_of}
use Rattle.zone_threads.proofs.Joining.{found, found_none, none_then, nowhere, same_tails}
use Rattle.zone_threads.proofs.Steps.{any_default}
use Rattle.zone_threads.proofs.history.next_of.Goals as goal

pub returns-then-index-place-clause-some : goal.returns-then-index-place-clause-some
returns-then-index-place-clause-some g c =
    let items : c.loop-i.tails.items ≡ c.args.tails.now.items = ap (λ v. v.items) c.loop-i.invariant.0 in
    let near : c.loop-i.i < length c.loop-i.tails.items = search rules in
    let t : Tail g.row.E.Denot = c.index_mut.result.now in
    let k : Tail g.row.E.Denot = c.index.result.now in
    let same : t ≡ k = c.index_mut.ensures.value ∙ (any_default c.loop-i.tails.items c.loop-i.i t k near ∙ sym c.index.ensures) in
    IfSome_then c.first_of.result c.first_of.ensures.some (λ e more p.
    subst (λ (v : List (Tail g.row.E.Denot)). tail_of v p ≡ (if p == c.args.place then e ∷ tail_of (slice_set c.loop-i.tails.items c.loop-i.i c.first_of.new.tail) p else tail_of (slice_set c.loop-i.tails.items c.loop-i.i c.first_of.new.tail) p)) items
    (found c.loop-i.tails.items c.loop-i.i c.args.place t c.first_of.new.tail e near c.loop-i.invariant.1 (sym c.index_mut.ensures.value) (ap (λ x. x.place) same ∙ c.if-index-place.true) c.first_of.ensures.place more p))

pub returns-then-index-place-clause-none : goal.returns-then-index-place-clause-none
returns-then-index-place-clause-none g c =
    let items : c.loop-i.tails.items ≡ c.args.tails.now.items = ap (λ v. v.items) c.loop-i.invariant.0 in
    let near : c.loop-i.i < length c.loop-i.tails.items = search rules in
    let t : Tail g.row.E.Denot = c.index_mut.result.now in
    let k : Tail g.row.E.Denot = c.index.result.now in
    let same : t ≡ k = c.index_mut.ensures.value ∙ (any_default c.loop-i.tails.items c.loop-i.i t k near ∙ sym c.index.ensures) in
    none_then c.first_of.result c.first_of.ensures.none (λ none. (
      subst (λ (v : List (Tail g.row.E.Denot)). tail_of v c.args.place ≡ []) items
          (found_none c.loop-i.tails.items c.loop-i.i c.args.place t near c.loop-i.invariant.1 (sym c.index_mut.ensures.value) (ap (λ x. x.place) same ∙ c.if-index-place.true) none.0),
      λ p. same_tails c.loop-i.tails.items c.loop-i.i t c.first_of.new.tail near (sym c.index_mut.ensures.value) c.first_of.ensures.place (none.1 ∙ sym none.0) p ∙ ap (λ v. tail_of v p) items,
    ))

pub returns-clause-none : goal.returns-clause-none
returns-clause-none g c =
    let items : c.loop-i.tails.items ≡ c.args.tails.now.items = ap (λ v. v.items) c.loop-i.invariant.0 in (
      subst (λ (v : List (Tail g.row.E.Denot)). tail_of v c.args.place ≡ []) items (nowhere c.loop-i.tails.items c.args.place (λ j d k. c.loop-i.invariant.1 j d (search rules))),
      λ p. ap (λ v. tail_of v p) items,
    )
