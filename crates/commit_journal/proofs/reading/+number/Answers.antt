use Rattle.std.proofs.Common.{◌≡◌, ◌≤◌, ◌-◌, ◌/◌, Some, ℕ, length, take, get_or, ap, sym, ◌∙◌, arith}
use Rattle.commit_journal.proofs.Parts.{last_behind, last_digit, no_digits}
use Rattle.commit_journal.proofs.reading.+number.Goals as goal

pub returns-in-empty : goal.returns-in-empty
returns-in-empty t c = λ k n small has is. let none = no_digits k n c.args.digits.now has c.in-empty.len_below is in ap (λ (m : ℕ). Some m) (sym none)

pub returns-in_err-number-in-len1-up : goal.returns-in_err-number-in-len1-up
returns-in_err-number-in-len1-up t c = λ k n small has is.
    let some : 1 ≤ length c.args.digits.now = c.in-len1-up.len_at_least in
    let l = last_digit k n (get_or c.args.digits.now (length c.args.digits.now - 1) 0) (take (length c.args.digits.now - 1) c.args.digits.now) has (last_behind c.args.digits.now some ∙ is) in
    let high : c.number.result ≡ Some (n / 10) = c.number.ensures l.fewer (n / 10) (omega arith) l.has l.before in
    absurd (cc (c.in_err-number-in-len1-up.was, high))

pub returns-in_ok-number-in-len1-up : goal.returns-in_ok-number-in-len1-up
returns-in_ok-number-in-len1-up t c = λ k n small has is.
    let some : 1 ≤ length c.args.digits.now = c.in-len1-up.len_at_least in
    let l = last_digit k n (get_or c.args.digits.now (length c.args.digits.now - 1) 0) (take (length c.args.digits.now - 1) c.args.digits.now) has (last_behind c.args.digits.now some ∙ is) in
    let high : c.number.result ≡ Some (n / 10) = c.number.ensures l.fewer (n / 10) (omega arith) l.has l.before in
    let front : c.in_ok-number-in-len1-up.field-0 ≡ n / 10 = cc (c.in_ok-number-in-len1-up.was, high) in
    c.with_digit.ensures n small front l.digit
