use Rattle.std.proofs.Common.{◌≡◌, ◌≤◌, List, ℕ, ap, arith, length, subst, sym, true}
use Rattle.zn_base.specs.Text.{is_text}
use Rattle.loopback_mounts.proofs.Rests.{to_text}
use Rattle.loopback_mounts.proofs.places.Place.to_text.Goals as goal

pub of-requires : goal.of-requires
of-requires c =
    let few : length c.in_ok-bytes.bytes.items ≤ 4200 = omega (arith, c.deref.ensures.len, ap length c.deref.ensures.value) in
    subst (λ (xs : List ℕ). is_text xs ≡ true) (sym c.deref.ensures.value) (to_text c.in_ok-bytes.bytes.items (record { bytes = c.in_ok-bytes.ensures.printable; short = few }))
