use Rattle.std.proofs.Common.{◌≡◌, ◌∙◌, None, Some, ap, option_copied, sym}
use Rattle.zn_base.specs.Cuts.{after_byte}
use Rattle.grant_text.proofs.Same_bytes.{is_another, is_fixed}
use Rattle.grant_text.proofs.Splits.{cut_is, denied, denies, first_lacks_space, needs_space, not_denied, one_way, plain}
use Rattle.grant_text.proofs.reading.read_grant.Goals as goal

pub returns-in_err-rest-clause-every : goal.returns-in_err-rest-clause-every
returns-in_err-rest-clause-every c = λ grant rest is.
    absurd (needs_space c.args.line.now grant rest (sym c.split_at_byte.ensures.after ∙ ap option_copied c.in_err-rest.was) is)

pub returns-in_err-pool_in-clause-every : goal.returns-in_err-pool_in-clause-every
returns-in_err-pool_in-clause-every c = λ grant rest is.
    let cut = cut_is _ _ _ c.in_ok-rest.rest c.split_at_byte.ensures.before c.split_at_byte.ensures.after c.in_ok-rest.was in
    let denial = denies _ _ _ grant rest cut (is_fixed _ _ _ c.if-eq.ensures c.as_slice.ensures) is in
    let found : None ≡ Some denial.pool = c.in_err-pool_in.ensures.every denial.pool (c.split_at_byte-then-eq.ensures.before ∙ denial.cut.before) in
    absurd (cc)

pub returns-in_err-rest-2-clause-every : goal.returns-in_err-rest-2-clause-every
returns-in_err-rest-2-clause-every c = λ grant rest is.
    let cut = cut_is _ _ _ c.in_ok-rest.rest c.split_at_byte.ensures.before c.split_at_byte.ensures.after c.in_ok-rest.was in
    let denial = denies _ _ _ grant rest cut (is_fixed _ _ _ c.if-eq.ensures c.as_slice.ensures) is in
    let none : after_byte 32 c.in_ok-rest.rest.now ≡ None = sym c.split_at_byte-then-eq.ensures.after ∙ ap option_copied c.in_err-rest-2.was in
    let some = denial.cut.after in
    absurd (cc)

pub grant_in-requires : goal.grant_in-requires
grant_in-requires c = first_lacks_space c.args.line.now _ _ (cut_is _ _ _ c.in_ok-rest.rest c.split_at_byte.ensures.before c.split_at_byte.ensures.after c.in_ok-rest.was)

pub returns-in_err-grant_in-clause-every : goal.returns-in_err-grant_in-clause-every
returns-in_err-grant_in-clause-every c = λ grant rest is.
    let cut = cut_is _ _ _ c.in_ok-rest.rest c.split_at_byte.ensures.before c.split_at_byte.ensures.after c.in_ok-rest.was in
    let same = not_denied _ _ _ grant rest cut (is_another _ _ _ c.if-eq.ensures c.as_slice.ensures) is in
    let found : None ≡ Some grant = c.in_err-grant_in.ensures.every grant is.number same in
    absurd (cc)

pub returns-in_ok-rest-2-clause-some : goal.returns-in_ok-rest-2-clause-some
returns-in_ok-rest-2-clause-some c =
    let cut = cut_is _ _ _ c.in_ok-rest.rest c.split_at_byte.ensures.before c.split_at_byte.ensures.after c.in_ok-rest.was in
    let more = cut_is _ _ _ c.in_ok-rest-2.field-0 c.split_at_byte-then-eq.ensures.before c.split_at_byte-then-eq.ensures.after c.in_ok-rest-2.was in
    denied _ _ _ _ _ _ cut (is_fixed _ _ _ c.if-eq.ensures c.as_slice.ensures) more c.in_ok-pool_in.ensures.some

pub returns-in_ok-rest-2-clause-every : goal.returns-in_ok-rest-2-clause-every
returns-in_ok-rest-2-clause-every c = λ grant rest is. one_way _ _ grant _ rest (returns-in_ok-rest-2-clause-some c) is

pub returns-in_ok-grant_in-clause-some : goal.returns-in_ok-grant_in-clause-some
returns-in_ok-grant_in-clause-some c =
    let cut = cut_is _ _ _ c.in_ok-rest.rest c.split_at_byte.ensures.before c.split_at_byte.ensures.after c.in_ok-rest.was in
    plain _ _ _ _ cut c.in_ok-grant_in.ensures.some.0 c.in_ok-grant_in.ensures.some.1

pub returns-in_ok-grant_in-clause-every : goal.returns-in_ok-grant_in-clause-every
returns-in_ok-grant_in-clause-every c = λ grant rest is. one_way _ _ grant _ rest (returns-in_ok-grant_in-clause-some c) is
