use Rattle.std.proofs.Common.{◌∷◌, ◌∙◌, [], ap, codes, string_bytes, sym}
use Rattle.std.proofs.lemmas.Slice.Eq.{bytes_eq-Decides}
use Rattle.zones_live.proofs.Lives.{one-word}
use Rattle.zones_live.proofs.run.is_live.Goals as goal

pub returns-in-len1-clause-yes : goal.returns-in-len1-clause-yes
returns-in-len1-clause-yes c = λ yes.
    one-word (λ word. string_bytes word) c.args.words.now c.word-item.result c.in-len1.len_at_least c.in-len1.len_below c.word-item.is
    ∙ ap (λ w. w ∷ []) (sym c.as_str.ensures.value ∙ (bytes_eq-Decides c.as_str.result.now (codes "live")).0 (sym c.eq.ensures ∙ yes))
