use Rattle.std.proofs.Common.{◌∙◌}
use Rattle.index_file.proofs.Lines.{first_line_is, front, line_ends}
use Rattle.index_file.proofs.Parts.{front_lacks_newline}
use Rattle.zn_base.specs.Lines.{newline}
use Rattle.zn_base.proofs.First_byte.{place_found, place_is}
use Rattle.index_file.proofs.reading.cut_line.Goals as goal

pub returns-in-None-clause-line : goal.returns-in-None-clause-line
returns-in-None-clause-line c = λ row more is begins. absurd (place_found newline c.args.text.now (front row) more (front_lacks_newline row is) (begins ∙ line_ends row more) c.in-None.ensures.place)

pub returns-in-Some-clause-line : goal.returns-in-Some-clause-line
returns-in-Some-clause-line c = λ row more is begins.
    let ends = begins ∙ line_ends row more in
    c.split_at.ensures.front ∙ first_line_is c.args.text.now row more c.in-Some.end ends (place_is newline c.args.text.now (front row) more c.in-Some.end (front_lacks_newline row is) ends c.in-Some.ensures.place)
