-- Two configurations with the same resources.
use Rattle.std.proofs.Common.{◌≡◌, ℕ, List, length, refl, ap, sym, subst, ◌∙◌}
use Rattle.std.specs.Prelude.{map}
use Rattle.std.specs.List.{flat_map, sum_by}
use Rattle.config_terms.specs.declared.terms.Kind.{Kind}
use Rattle.config_terms.specs.declared.terms.Resource.{Resource}
use Rattle.config_terms.specs.Fields.{kinds}
use Rattle.zone_config.specs.declared.terms.Contents.{Contents}
use Rattle.zone_config.specs.Export.{kind_text}
use Rattle.zone_config.specs.Kinds.{Row, by_kind}
use Rattle.zone_config.specs.Settable.{resources}
use Rattle.zone_config.specs.Sound.{AreSound, HasSoundResources, count}
use Rattle.zone_config.proofs.Rows.{all_kinds, each_kind, sound-row, with_properties}

-- the resources of the one are those of the other, kind by kind
abbrev pub HaveSameResources : Contents → Contents → Type 0
HaveSameResources c d = (k : Kind) → by_kind k (λ A row. row.list d ≡ row.list c)

pub same_resources-self : (c : Contents) → HaveSameResources c c
same_resources-self c = all_kinds (λ A row. row.list c ≡ row.list c) (λ A row law. refl)

pub same_resources-then : (c d e : Contents) → HaveSameResources c d → HaveSameResources d e → HaveSameResources c e
same_resources-then c d e first second =
    all_kinds (λ A row. row.list e ≡ row.list c)
    (λ A row law. law.known.says (λ B other. other.list e ≡ other.list d) (second row.kind) ∙ law.known.says (λ B other. other.list d ≡ other.list c) (first row.kind))

-- other properties leave the resources
pub same_resources-apart : (c d : Contents) → HaveSameResources c (with_properties d c)
same_resources-apart c d = all_kinds (λ A row. row.list (with_properties d c) ≡ row.list c) (λ A row law. law.part.apart c d)

-- what is made of the list of a kind is the same
alike : (B : Type 0) (make : (A : Type 0) → Row A → List A → B) (c d : Contents) → HaveSameResources c d
    → (k : Kind) → by_kind k (λ A row. make A row (row.list d)) ≡ by_kind k (λ A row. make A row (row.list c))
alike B make c d same k =
    each_kind (λ k. by_kind k (λ A row. make A row (row.list d)) ≡ by_kind k (λ A row. make A row (row.list c)))
    (λ A row law. law.known.of_kind B (λ A row. make A row (row.list d)) ∙ ap (make A row) (law.known.says (λ B other. other.list d ≡ other.list c) (same row.kind))
    ∙ sym (law.known.of_kind B (λ A row. make A row (row.list c)))) k

pub same-count : (c d : Contents) → HaveSameResources c d → count d ≡ count c
unfolding count
same-count c d same i = sum_by (λ k. alike ℕ (λ A row. length) c d same k i) kinds

pub same-texts : (c d : Contents) → HaveSameResources c d → flat_map (kind_text d) kinds ≡ flat_map (kind_text c) kinds
same-texts c d same i = flat_map (λ k. alike (List ℕ) (λ A row. flat_map row.text) c d same k i) kinds

pub same-resources : (c d : Contents) → HaveSameResources c d → resources d ≡ resources c
same-resources c d same i = flat_map (λ k. alike (List Resource) (λ A row. map row.make) c d same k i) kinds

-- resources that are the same stay sound
pub sound-same : (c d : Contents) → HaveSameResources c d → HasSoundResources c → HasSoundResources d
sound-same c d same s = record {
  kinds = all_kinds (λ A row. AreSound row (row.list d))
      (λ A row law. subst (AreSound row) (sym (law.known.says (λ B other. other.list d ≡ other.list c) (same row.kind))) (sound-row row law c s));
  few = rw (same-count c d same) s.few;
}
