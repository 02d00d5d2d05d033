use Rattle.std.proofs.Common.{rules, sym, ◌∙◌, ap, ◌≡◌, true, false}
use Rattle.std.specs.Prelude.{bytes_eq, codes}
use Rattle.zn_base.specs.Path.{is_path}
use Rattle.zone_cases.specs.Session.Lines.{are_args, words}
use Rattle.zone_cases.proofs.Words.{args_init, args_milestone, args_single}
use Rattle.zone_cases.proofs.session.lines.+are_args.Goals as goal

pub returns-then-single : goal.returns-then-single
returns-then-single t c =
    let w : bytes_eq c.in-Some.word.now (codes "-s") ≡ true = search rules in
    c.are_args.ensures ∙ (args_single c.args.init c.args.milestone c.in-Some.word.now (words c.args.text.now) (words c.in-Some.rest.now) c.in-Some.ensures.word w
    ∙ ap (λ s. are_args s c.args.init c.args.milestone (words c.args.text.now)) (sym c.if-single.true))

pub returns-then-is_path : goal.returns-then-is_path
returns-then-is_path t c =
    let s : bytes_eq c.in-Some.word.now (codes "-s") ≡ false = search rules in
    let w : bytes_eq c.in-Some.word.now (codes "-i") ≡ true = search rules in
    let path : is_path c.in-Some-split_word.other.now ≡ true = search rules in
    let may : c.args.init ≡ true = search rules in
    c.are_args-then-is_path.ensures ∙ (args_init c.args.single c.args.milestone c.in-Some.word.now c.in-Some-split_word.other.now (words c.args.text.now) (words c.in-Some.rest.now) (words c.in-Some-split_word.rest.now) c.in-Some.ensures.word c.in-Some-split_word.ensures.word s w path
    ∙ ap (λ i. are_args c.args.single i c.args.milestone (words c.args.text.now)) (sym may))

pub returns-then-milestone : goal.returns-then-milestone
returns-then-milestone t c =
    let s : bytes_eq c.in-Some.word.now (codes "-s") ≡ false = search rules in
    let i : bytes_eq c.in-Some.word.now (codes "-i") ≡ false = search rules in
    let w : bytes_eq c.in-Some.word.now (codes "-m") ≡ true = search rules in
    c.are_args-then-milestone.ensures ∙ (args_milestone c.args.single c.args.init c.in-Some.word.now c.in-Some-split_word.other.now (words c.args.text.now) (words c.in-Some.rest.now) (words c.in-Some-split_word.rest.now) c.in-Some.ensures.word c.in-Some-split_word.ensures.word s i w
    ∙ ap (λ m. are_args c.args.single c.args.init m (words c.args.text.now)) (sym c.if-milestone.true))
