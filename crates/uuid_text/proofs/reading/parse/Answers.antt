use Rattle.std.proofs.Common.{◌≡◌, Some, refl, sym}
use Rattle.uuid.specs.Text.{parsed}
use Rattle.uuid.proofs.RoundTrips.{parse_gives}
use Rattle.uuid_text.proofs.Texts.{text_parses}
use Rattle.uuid_text.proofs.reading.parse.Goals as goal

pub returns : goal.returns
returns c = λ uuid is same.
    let text : Some uuid ≡ parsed c.args.text.now = rw same (sym (text_parses uuid is)) in
    let found = parse_gives c.try_parse_ascii.result c.args.text.now uuid c.try_parse_ascii.ensures.ok c.try_parse_ascii.ensures.bytes text in
    rw (c.ok.ensures.value, found) refl
