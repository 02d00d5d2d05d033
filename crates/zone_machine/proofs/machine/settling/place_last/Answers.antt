use Rattle.std.proofs.Common.{◌∙◌, ◌++◌, List, Option, ap, sym}
use Rattle.std.specs.Prelude.{if◌then◌else◌, is_ok, length, nat_lt, not, option_to_list, position, unwrap_or}
use Rattle.std.specs.List.{insert}
use Rattle.kernel_objects.specs.declared.objects.ProcRow.{ProcRow}
use Rattle.zone_cases.specs.Code.Errands.{placed}
use Rattle.zone_machine.proofs.Errand_works.{placed-last, put-at}
use Rattle.zone_machine.proofs.machine.settling.place_last.Goals as goal

pub returns : goal.returns
returns c =
    let left = c.pop.new.self.items in
    let split = sym c.into_vec-rows.ensures.items ∙ (c.pop.ensures.items ∙ ap (λ (o : Option ProcRow). left ++ option_to_list o) c.in-Some.is) in
    let row : ProcRow = record c.in-Some.last { pid = c.args.pid } in
    c.from_vec-2.ensures ∙ (c.insert.ensures.items
    ∙ (ap (λ r. if is_ok r then insert left c.place_of-at.result row else left) c.in-Ok.is
    ∙ (ap (λ i. insert left i row) (c.place_of-at.ensures.place ∙ ap (λ (rows : List ProcRow). unwrap_or (position (λ r. not (nat_lt r.pid c.args.pid)) rows) (length rows)) c.deref.ensures.value)
    ∙ (sym (put-at (λ r. nat_lt r.pid c.args.pid) row left)
    ∙ (sym (placed-last c.args.pid left c.in-Some.last) ∙ sym (ap (placed c.args.pid) split))))))
