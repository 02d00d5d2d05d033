use Rattle.std.proofs.Common.{◌≤◌, ◌∷◌, [], subst, sym}
use Rattle.std.specs.List.{All}
use Rattle.std.proofs.lemmas.List.Elements.{All-append, All-cons, All-nil}
use Rattle.zone_threads.specs.Ends.{IsLeft}
use Rattle.zone_threads.specs.declared.zone.Log.{Log}
use Rattle.zone_threads.proofs.end.end_zone.Goals as goal

pub returns-clause-cells : goal.returns-clause-cells
returns-clause-cells g c was =
    let P = IsLeft g.M.Zoned.machine g.J.Start.starts in
    subst (All P) (sym c.keep.ensures.logs) (All-append P c.args.logs.now.items (c.end-pass.result.1 ∷ []) was (All-cons P c.end-pass.result.1 [] c.end-pass.ensures.left (All-nil P)))

pub returns-clause-near : goal.returns-clause-near
returns-clause-near g c was =
    let P : Log g.row.M-Cell.Denot g.row.M-Entry.Denot → Type 0 = λ l. l.place ≤ g.N.Outset.zones in
    subst (All P) (sym c.keep.ensures.logs) (All-append P c.args.logs.now.items (c.end-pass.result.1 ∷ []) was (All-cons P c.end-pass.result.1 [] c.end-pass.ensures.near (All-nil P)))
