-- What is written of a grant and an event is read as both.
use Rattle.std.proofs.Common.{◌≡◌, ◌++◌, ◌∷◌, ℕ, List, false, refl}
use Rattle.zone_pools.specs.declared.grant.Grant.{Grant}
use Rattle.zone_pools.specs.declared.grant.Grant.TheVariants.{Denied, Nothing, Number, Yes}
use Rattle.grant_text.specs.Text.{grant_text}
use Rattle.trace_text.specs.Given.{GivenReadBack}
use Rattle.trace_text.specs.Lines.{given_text, is_no_event, line_text}
use Rattle.trace_text.proofs.Printed.{event_again}
use Rattle.trace_text.proofs.Stated.{stated_is}

has_grant : (grant : Grant) (rest : List ℕ) → is_no_event (grant_text grant ++ 32 ∷ rest) ≡ false
has_grant Nothing rest = refl
has_grant (Number n) rest = refl
has_grant Yes rest = refl
has_grant (Denied pool) rest = refl

pub given_again : GivenReadBack
given_again started grant event is right time =
    rw (has_grant grant (line_text event), stated_is (given_text grant event) (line_text event) grant (record { number = is; text = refl }), event_again started event right time) refl
