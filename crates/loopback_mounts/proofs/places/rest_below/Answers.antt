use Rattle.std.proofs.Common.{◌∙◌, ◌≡◌, List, ℕ, length, subst, sym, true}
use Rattle.zn_base.specs.Text.{is_text}
use Rattle.loopback_mounts.proofs.Rests.{path_text, rest_of_other, rest_of_root, rest_text}
use Rattle.loopback_mounts.proofs.places.rest_below.Goals as goal

pub behind-requires : goal.behind-requires
behind-requires c = (rest_of_other c.args.dir.now c.args.path.now c.requires.dir c.requires.path c.requires.over c.if-dir-gt1.true).0

pub returns-then-dir-gt1-clause-rest : goal.returns-then-dir-gt1-clause-rest
returns-then-dir-gt1-clause-rest c = c.behind.ensures ∙ (rest_of_other c.args.dir.now c.args.path.now c.requires.dir c.requires.path c.requires.over c.if-dir-gt1.true).1

pub returns-then-dir-gt1-clause-text : goal.returns-then-dir-gt1-clause-text
returns-then-dir-gt1-clause-text c = subst (λ (xs : List ℕ). is_text xs ≡ true) (sym c.behind.ensures) (rest_text c.args.path.now (length c.args.dir.now) c.requires.path)

pub returns-clause-rest : goal.returns-clause-rest
returns-clause-rest c = rest_of_root c.args.dir.now c.args.path.now c.requires.dir c.requires.path c.if-dir-gt1.false c.if-path-eq1.false

pub returns-clause-text : goal.returns-clause-text
returns-clause-text c = path_text c.args.path.now c.requires.path
