use Rattle.zones_run.proofs.Bulk_texts.{lines_put}
use Rattle.zones_run.proofs.bulk.push_lines_for.Goals as goal

pub returns : goal.returns
returns c =
    let put = lines_put c.args.number c.args.text.now.items in
    cc (put, c.in_ok-push_numbered.ensures, c.in_ok-push_line.ensures, c.in_ok-push_line-2.ensures, c.in_ok-push_line-3.ensures, c.in_ok-push_line-4.ensures, c.in_ok-push_calls.ensures, c.in_ok-push_halt.ensures)
