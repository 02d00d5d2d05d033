use Rattle.std.proofs.Common.{◌≡◌, ◌≤◌, [], ◌∷◌, ◌++◌, ◌∙◌, ap, length, get_or, rules, arith, append_assoc, length-append, List, ℕ, sym}
use Rattle.zone_disk.specs.Image.{four}
use Rattle.zone_disk.proofs.Reading.{one_more, one_opens, rest_more}
use Rattle.zone_disk.proofs.read.take_records.Goals as goal

pub loop-rest-preserved : goal.loop-rest-preserved
loop-rest-preserved c =
    let split = c.in-Some.ensures.split in
    let is : c.push.new.self.items ≡ c.loop-rest.bodies.items ++ c.in-Some.both.0.now ∷ [] = search rules in
    let head : get_or c.loop-rest.rest.now 0 0 ≡ 1 = search rules in
    let opens = one_opens c.loop-rest.rest.now (omega arith) head in
    let body = c.in-Some.both.0.now in
    let whole : c.loop-rest.rest.now ≡ (1 ∷ (four (length body) ++ body)) ++ c.in-Some.both.1.now =
    opens ∙ ap (λ (l : List ℕ). 1 ∷ l) (split ∙ sym (append_assoc (four (length body)) body c.in-Some.both.1.now)) in
    let fits : length c.in-Some.both.1.now ≤ length c.args.bytes.now = omega (arith, c.loop-rest.invariant.shorter, ap length whole, length-append (1 ∷ (four (length body) ++ body)) c.in-Some.both.1.now) in
    record {
      read = one_more c.loop-rest.bodies.items _ body _ _ _ _ c.loop-rest.invariant.read is opens split;
      more = c.in-Some.ensures.next;
      shorter = fits;
      behind = rest_more c.args.bytes.now c.loop-rest.rest.now (1 ∷ (four (length body) ++ body)) _ c.loop-rest.invariant.shorter c.loop-rest.invariant.behind whole;
    }
