use Rattle.std.proofs.Common.{◌≡◌, ◌+◌, ◌-◌, ◌∙◌, ℕ, length, take, drop, ap, arith}
use Rattle.std.specs.Prelude.{min}
use Rattle.std.proofs.lemmas.Grind.{common_steps}
use Rattle.zone_disk.specs.declared.bank.TheConstants.{BANK_BYTES}
use Rattle.zone_disk.proofs.Reading.{piece_more}
use Rattle.zone_disk.proofs.read.read_piece.Goals as goal

pub returns-clause-bytes : goal.returns-clause-bytes
returns-clause-bytes g c keeps front =
    let image = (g.D.Disk.view c.args.disk.now).reads in
    let n = c.in_ok-read.field-0 in
    let at : c.len-at.result ≡ length c.args.bytes.now.items = grind (arith, common_steps) in
    let read : n ≡ min (length c.args.piece.now) (length image - length c.args.bytes.now.items) = c.in_ok-read.ensures.count keeps ∙ ap (λ (k : ℕ). min (length c.args.piece.now) (length image - k)) at in
    let same : take n c.read.new.into ≡ take n (drop (length c.args.bytes.now.items) image) = c.in_ok-read.ensures.bytes keeps ∙ ap (λ (k : ℕ). take n (drop k image)) at in
    let cut : c.min-count.result ≡ min n ((16 + BANK_BYTES) - length c.args.bytes.now.items) = omega (arith, c.min-count.ensures) in
    piece_more image c.args.bytes.now.items c.read.new.into _ (16 + BANK_BYTES) (length c.args.piece.now) n c.min-count.result front c.requires read same cut c.in_ok-extend_from_slice.ensures.items
