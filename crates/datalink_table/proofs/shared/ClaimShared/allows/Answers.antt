use Rattle.std.proofs.Common.{◌∙◌, ap, sym}
use Rattle.std.specs.Prelude.{is_some}
use Rattle.std.specs.Option.{option_copied}
use Rattle.datalink_table.specs.Claims.{claim_of}
use Rattle.datalink_table.proofs.Same_laws.{allows_found_in}
use Rattle.datalink_table.proofs.shared.ClaimShared.allows.Goals as goal

pub returns-in-Some : goal.returns-in-Some
returns-in-Some c =
    let there = sym c.get.ensures.found ∙ ap is_some c.in-Some.is in
    let found = sym c.get.ensures.key ∙ ap option_copied c.in-Some.is in
    c.may_hold.ensures ∙ allows_found_in c.args.zone.now (claim_of c.args.kind c.args.item.now) c.in-Some.claim.now _ c.args.self.now c.self.view_is there found
