use Rattle.std.proofs.Common.{sym, arith, append-nil, get_or, length-take, take, ◌∙◌}
use Rattle.zonecfg_lex.specs.declared.token.TokenKind.TheVariants.{Word}
use Rattle.zonecfg_lex.specs.Subcommands.{part_text}
use Rattle.zonecfg_lex.specs.Tokens.{token}
use Rattle.zonecfg_lex.proofs.PartTokens.{none_behind, one_text, reads_whole, rest_of_text, splits_at}
use Rattle.zonecfg_lex.proofs.Printable.{readable_in}
use Rattle.zonecfg_lex.proofs.subcommands.Part.split.Goals as goal

pub returns-in_default-clause-read : goal.returns-in_default-clause-read
returns-in_default-clause-read c =
    let none = none_behind c.args.self.tokens.now c.split_at.result.1.now _ c.before_semicolon.ensures.count c.split_at.ensures.back c.in_default.len_below in
    reads_whole c.args.self.text.now _ c.args.self.tokens.now c.requires.reads none

pub returns-in_default-clause-readable : goal.returns-in_default-clause-readable
returns-in_default-clause-readable c =
    let none = none_behind c.args.self.tokens.now c.split_at.result.1.now _ c.before_semicolon.ensures.count c.split_at.ensures.back c.in_default.len_below in
    readable_in c.args.self.text.now c.requires.short c.args.self.tokens.now (reads_whole c.args.self.text.now _ c.args.self.tokens.now c.requires.reads none)

pub returns-in_default-clause-texts : goal.returns-in_default-clause-texts
returns-in_default-clause-texts c =
    let none = none_behind c.args.self.tokens.now c.split_at.result.1.now _ c.before_semicolon.ensures.count c.split_at.ensures.back c.in_default.len_below in
    one_text c.args.self.text.now c.args.self.tokens.now none ∙ sym (append-nil (part_text c.args.self.text.now c.args.self.tokens.now))

pub slice_bounds-part-end : goal.slice_bounds-part-end
slice_bounds-part-end c =
    let it = splits_at c.args.self.text.now c.args.self.tokens.now c.split_at.result.0.now c.split_at.result.1.now c.before_semicolon.result (token Word 0 0) c.requires.reads c.before_semicolon.ensures.count c.split_at.ensures.front c.split_at.ensures.back c.in-len1-up.len_at_least in
    omega (arith, it.first.ends.ordered, it.first.ends.inside, length-take (get_or c.split_at.result.1.now 0 (token Word 0 0)).start c.args.self.text.now)

pub slice_bounds-result-count : goal.slice_bounds-result-count
slice_bounds-result-count c =
    let it = splits_at c.args.self.text.now c.args.self.tokens.now c.split_at.result.0.now c.split_at.result.1.now c.before_semicolon.result (token Word 0 0) c.requires.reads c.before_semicolon.ensures.count c.split_at.ensures.front c.split_at.ensures.back c.in-len1-up.len_at_least in
    omega (arith, it.first.ends.ordered, it.first.ends.inside)

pub slice_bounds-result-start : goal.slice_bounds-result-start
slice_bounds-result-start c =
    let it = splits_at c.args.self.text.now c.args.self.tokens.now c.split_at.result.0.now c.split_at.result.1.now c.before_semicolon.result (token Word 0 0) c.requires.reads c.before_semicolon.ensures.count c.split_at.ensures.front c.split_at.ensures.back c.in-len1-up.len_at_least in
    omega (arith, it.first.ends.ordered, it.first.ends.inside)

pub returns-clause-read : goal.returns-clause-read
returns-clause-read c =
    let it = splits_at c.args.self.text.now c.args.self.tokens.now c.split_at.result.0.now c.split_at.result.1.now c.before_semicolon.result (token Word 0 0) c.requires.reads c.before_semicolon.ensures.count c.split_at.ensures.front c.split_at.ensures.back c.in-len1-up.len_at_least in
    it.first.ends.read

pub returns-clause-readable : goal.returns-clause-readable
returns-clause-readable c =
    let it = splits_at c.args.self.text.now c.args.self.tokens.now c.split_at.result.0.now c.split_at.result.1.now c.before_semicolon.result (token Word 0 0) c.requires.reads c.before_semicolon.ensures.count c.split_at.ensures.front c.split_at.ensures.back c.in-len1-up.len_at_least in
    readable_in (take (get_or c.split_at.result.1.now 0 (token Word 0 0)).start c.args.self.text.now) (omega (arith, c.requires.short, length-take (get_or c.split_at.result.1.now 0 (token Word 0 0)).start c.args.self.text.now)) c.split_at.result.0.now it.first.ends.read

pub returns-clause-rest : goal.returns-clause-rest
returns-clause-rest c =
    let it = splits_at c.args.self.text.now c.args.self.tokens.now c.split_at.result.0.now c.split_at.result.1.now c.before_semicolon.result (token Word 0 0) c.requires.reads c.before_semicolon.ensures.count c.split_at.ensures.front c.split_at.ensures.back c.in-len1-up.len_at_least in
    rw rest_of_text it.first.rest

pub returns-clause-texts : goal.returns-clause-texts
returns-clause-texts c =
    let it = splits_at c.args.self.text.now c.args.self.tokens.now c.split_at.result.0.now c.split_at.result.1.now c.before_semicolon.result (token Word 0 0) c.requires.reads c.before_semicolon.ensures.count c.split_at.ensures.front c.split_at.ensures.back c.in-len1-up.len_at_least in
    rw rest_of_text it.texts
