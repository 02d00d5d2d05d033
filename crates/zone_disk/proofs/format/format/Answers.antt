use Rattle.std.proofs.Common.{ℕ, List, ◌≤◌, length, sym, subst}
use Rattle.zone_disk.specs.Format.{IsHeadless, IsKind}
use Rattle.zone_disk.proofs.Formatting.{short, headless_stands, emptied, stays_durable}
use Rattle.zone_disk.proofs.format.format.Goals as goal

pub returns-in_err-format_blank-in-Blank-clause-any_moment : goal.returns-in_err-format_blank-in-Blank-clause-any_moment
returns-in_err-format_blank-in-Blank-clause-any_moment g c keeps durable =
    let q = c.kind_of.ensures.looks in
    let was = subst (λ k. IsKind k (g.D.Disk.view c.args.disk.now).reads) c.in-Blank.is (c.in_ok-kind_of.ensures.kind keeps) in
    let now = subst (λ (l : List ℕ). length l ≤ 1) (sym (q.same keeps)) was in
    emptied _ (g.D.Disk.view c.kind_of.new.disk) _ durable q (short _ was) (c.format_blank.ensures.any_moment (q.model.0 keeps) (stays_durable _ _ keeps durable q) now)

pub returns-in_ok-format_blank-in-Blank-clause-any_moment : goal.returns-in_ok-format_blank-in-Blank-clause-any_moment
returns-in_ok-format_blank-in-Blank-clause-any_moment g c keeps durable =
    let q = c.kind_of.ensures.looks in
    let was = subst (λ k. IsKind k (g.D.Disk.view c.args.disk.now).reads) c.in-Blank.is (c.in_ok-kind_of.ensures.kind keeps) in
    let now = subst (λ (l : List ℕ). length l ≤ 1) (sym (q.same keeps)) was in
    emptied _ (g.D.Disk.view c.kind_of.new.disk) _ durable q (short _ was) (c.format_blank.ensures.any_moment (q.model.0 keeps) (stays_durable _ _ keeps durable q) now)

pub returns-in_err-put_header-in-Headless-clause-any_moment : goal.returns-in_err-put_header-in-Headless-clause-any_moment
returns-in_err-put_header-in-Headless-clause-any_moment g c keeps durable =
    let q = c.kind_of.ensures.looks in
    let was = subst (λ k. IsKind k (g.D.Disk.view c.args.disk.now).reads) c.in-Headless.is (c.in_ok-kind_of.ensures.kind keeps) in
    let now = subst IsHeadless (sym (q.same keeps)) was in
    emptied _ (g.D.Disk.view c.kind_of.new.disk) _ durable q (headless_stands _ was) (c.put_header.ensures.any_moment (q.model.0 keeps) (stays_durable _ _ keeps durable q) now)

pub returns-in_ok-put_header-in-Headless-clause-any_moment : goal.returns-in_ok-put_header-in-Headless-clause-any_moment
returns-in_ok-put_header-in-Headless-clause-any_moment g c keeps durable =
    let q = c.kind_of.ensures.looks in
    let was = subst (λ k. IsKind k (g.D.Disk.view c.args.disk.now).reads) c.in-Headless.is (c.in_ok-kind_of.ensures.kind keeps) in
    let now = subst IsHeadless (sym (q.same keeps)) was in
    emptied _ (g.D.Disk.view c.kind_of.new.disk) _ durable q (headless_stands _ was) (c.put_header.ensures.any_moment (q.model.0 keeps) (stays_durable _ _ keeps durable q) now)
