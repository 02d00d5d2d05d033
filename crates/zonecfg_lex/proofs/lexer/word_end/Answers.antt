use Rattle.std.proofs.Common.{◌≡◌, ◌≢◌, ◌+◌, ◌<◌, arith, get_or}
use Rattle.zonecfg_lex.specs.declared.scope.Role.TheVariants.{Letter}
use Rattle.zonecfg_lex.specs.Tokens.{in_word, role_of}
use Rattle.zonecfg_lex.proofs.Words.{found, more_at, stops_at, stops_past}
use Rattle.zonecfg_lex.proofs.lexer.word_end.Goals as goal

pub loop-end-preserved : goal.loop-end-preserved
loop-end-preserved c =
    let byte : get_or c.args.line.now c.loop-end.end 0 < 256 = omega (arith, c.type_inv.line c.loop-end.end) in
    let letter : role_of c.in_word.result (get_or c.args.line.now c.loop-end.end 0) ≡ Letter = (c.least_letter-least.ensures _ byte).0 c.if-line-end.true in
    record {
      after = omega arith;
      within = omega arith;
      words = more_at (in_word c.args.scope) (c.args.start + 1) c.loop-end.end c.args.line.now (omega arith) (omega arith) c.loop-end.invariant.words (rw c.in_word.ensures at letter);
    }

pub returns-else-line-end-clause-found : goal.returns-else-line-end-clause-found
returns-else-line-end-clause-found c =
    let byte : get_or c.args.line.now c.loop-end.end 0 < 256 = omega (arith, c.type_inv.line c.loop-end.end) in
    let stop : role_of c.in_word.result (get_or c.args.line.now c.loop-end.end 0) ≢ Letter = λ e. let reaches = (c.least_letter-least.ensures _ byte).1 e in omega (arith, reaches, c.if-line-end.false) in
    found c.args.scope c.args.start c.loop-end.end c.args.line.now c.loop-end.invariant.after c.requires.inside c.requires.begins c.loop-end.invariant.words
    (stops_at (in_word c.args.scope) c.loop-end.end c.args.line.now (omega arith) (rw c.in_word.ensures at stop))

pub returns-after-loop-end-clause-found : goal.returns-after-loop-end-clause-found
returns-after-loop-end-clause-found c =
    found c.args.scope c.args.start c.loop-end.end c.args.line.now c.loop-end.invariant.after c.requires.inside c.requires.begins c.loop-end.invariant.words
    (stops_past (in_word c.args.scope) c.loop-end.end c.args.line.now (omega arith))
