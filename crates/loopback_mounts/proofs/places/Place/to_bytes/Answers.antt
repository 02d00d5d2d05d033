use Rattle.std.proofs.Common.{◌≡◌, List, ℕ, subst, sym, true}
use Rattle.std.specs.List.{list_all}
use Rattle.std.proofs.lemmas.Result.{IfOk-weaker}
use Rattle.zn_base.specs.Text.{is_text_byte}
use Rattle.loopback_mounts.proofs.Rests.{plain_printable, shown_printable}
use Rattle.loopback_mounts.proofs.places.Place.to_bytes.Goals as goal

pub returns-then-is_plain-clause-printable : goal.returns-then-is_plain-clause-printable
returns-then-is_plain-clause-printable c =
    IfOk-weaker c.with_rest.result _ _ (λ bytes is. subst (λ (xs : List ℕ). list_all is_text_byte xs ≡ true) (sym is) (plain_printable c.bytes-special.result.now c.args.self.now.rest.now c.bytes-special.ensures.text c.requires)) c.with_rest.ensures

pub returns-else-is_plain-clause-printable : goal.returns-else-is_plain-clause-printable
returns-else-is_plain-clause-printable c =
    IfOk-weaker c.joined.result _ _ (λ bytes is. subst (λ (xs : List ℕ). list_all is_text_byte xs ≡ true) (sym is) (shown_printable c.bytes-fstype.result.now c.bytes-special.result.now c.args.self.now.rest.now c.bytes-fstype.ensures.text c.bytes-special.ensures.text c.requires)) c.joined.ensures
