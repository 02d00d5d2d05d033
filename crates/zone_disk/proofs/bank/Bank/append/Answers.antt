use Rattle.std.proofs.Common.{◌≡◌, ◌≤◌, ◌+◌, [], ◌∷◌, ◌++◌, ◌∙◌, ap, subst, ℕ, List, length, rules, arith}
use Rattle.std.specs.Prelude.{true}
use Rattle.zn_io.specs.Disk.{Leaves}
use Rattle.zone_disk.specs.declared.bank.TheConstants.{BANK_BYTES}
use Rattle.zone_disk.specs.Image.{Stands}
use Rattle.zone_disk.specs.Bank.{Account, IsBeforeOrAfter, IsSettled}
use Rattle.zone_disk.proofs.Append.{not_full, at_end, kept_more, settled_stands}
use Rattle.zone_disk.proofs.bank.Bank.append.Goals as goal

pub put_body-requires : goal.put_body-requires
put_body-requires g c =
    let i = c.self.inside in
    let fits : i.used + 5 + length c.args.body ≤ BANK_BYTES = not_full c.is_full.result i.used (length c.args.body) c.is_full.ensures c.if-is_full.false in
    omega (arith, fits)

pub returns-in_err-put_body-clause-any_moment : goal.returns-in_err-put_body-clause-any_moment
returns-in_err-put_body-clause-any_moment g c =
    let i = c.self.inside in
    let sound : i.sound ≡ true = ap (λ (a : Account g.row.D.Denot). a.sound) c.self.view_is ∙ c.requires in
    subst (λ (a : Account g.row.D.Denot). (g.D.Disk.view a.disk).Keeps → Leaves (g.D.Disk.view a.disk) (g.D.Disk.view c.put_body.new.disk) (IsBeforeOrAfter a.records c.args.body)) c.self.view_is
    (λ keeps. (c.put_body.ensures.any_moment keeps i.records.items (c.self.invariant.settled sound keeps) c.self.invariant.counted))

pub returns-in_err-put_body-clause-either : goal.returns-in_err-put_body-clause-either
returns-in_err-put_body-clause-either g c keeps =
    at_end _ _ _ (g.met.D.Disk.sound c.put_body.new.disk) (returns-in_err-put_body-clause-any_moment g c keeps)

pub returns-clause-any_moment : goal.returns-clause-any_moment
returns-clause-any_moment g c =
    let i = c.self.inside in
    let sound : i.sound ≡ true = ap (λ (a : Account g.row.D.Denot). a.sound) c.self.view_is ∙ c.requires in
    subst (λ (a : Account g.row.D.Denot). (g.D.Disk.view a.disk).Keeps → Leaves (g.D.Disk.view a.disk) (g.D.Disk.view c.put_body.new.disk) (IsBeforeOrAfter a.records c.args.body)) c.self.view_is
    (λ keeps. (c.put_body.ensures.any_moment keeps i.records.items (c.self.invariant.settled sound keeps) c.self.invariant.counted))

pub returns-clause-either : goal.returns-clause-either
returns-clause-either g c keeps = at_end _ _ _ (g.met.D.Disk.sound c.put_body.new.disk) (returns-clause-any_moment g c keeps)

pub returns-clause-lasts : goal.returns-clause-lasts
returns-clause-lasts g c =
    let i = c.self.inside in
    let sound : i.sound ≡ true = ap (λ (a : Account g.row.D.Denot). a.sound) c.self.view_is ∙ c.requires in
    subst (λ (a : Account g.row.D.Denot). (g.D.Disk.view a.disk).Keeps → (image : List ℕ) → (g.D.Disk.view c.put_body.new.disk).Now image → Stands image (a.records ++ c.args.body ∷ [])) c.self.view_is
    (λ keeps. settled_stands (g.D.Disk.view c.put_body.new.disk) (i.records.items ++ c.args.body ∷ [])
    ((c.in_ok-put_body.ensures.settled keeps i.records.items (c.self.invariant.settled sound keeps) c.self.invariant.counted)))

pub invariant_of-self-2 : goal.invariant_of-self-2
invariant_of-self-2 g c =
    let i = c.self.inside in
    let sound : i.sound ≡ true = ap (λ (a : Account g.row.D.Denot). a.sound) c.self.view_is ∙ c.requires in
    let fits : i.used + 5 + length c.args.body ≤ BANK_BYTES = not_full c.is_full.result i.used (length c.args.body) c.is_full.ensures c.if-is_full.false in
    let items : c.push.new.bodies.items ≡ i.records.items ++ c.args.body ∷ [] = search rules in
    rw c.bytes.ensures (kept_more (g.D.Disk.view c.put_body.new.disk) i.records.items c.push.new.bodies.items i.used c.args.body c.self.invariant.counted fits items
    (λ now. let keeps = c.put_body.ensures.model.1 now in (c.in_ok-put_body.ensures.settled keeps i.records.items (c.self.invariant.settled sound keeps) c.self.invariant.counted)))
