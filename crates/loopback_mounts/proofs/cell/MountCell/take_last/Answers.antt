use Rattle.std.proofs.Common.{◌≡◌, ◌∙◌, ◌++◌, [], List, Option, ap, arith, sym}
use Rattle.std.specs.Prelude.{option_to_list}
use Rattle.std.specs.Option.{option_map}
use Rattle.std.proofs.lemmas.List.{nil_from_length}
use Rattle.std.proofs.lemmas.Option.{MatchOption-at_none}
use Rattle.loopback_mounts.specs.Mounts.{Mounts, last_of, without_last}
use Rattle.loopback_mounts.specs.declared.mount.MountEntry.{MountEntry}
use Rattle.loopback_mounts.proofs.Kept.{pop_gone, pop_kept, pop_last}
use Rattle.loopback_mounts.proofs.cell.MountCell.take_last.Goals as goal
use Rattle.loopback_mounts.proofs.cell.MountCell.take_last.Goals.{in-None, in-Some}

pub invariant_of-self : goal.invariant_of-self
invariant_of-self c = pop_kept c.self.inside.mounts.items _ c.pop.result c.self.invariant c.pop.ensures.items

pub returns-clause-mount : goal.returns-clause-mount
returns-clause-mount c =
    let items = c.self.inside.mounts.items in
    let left = c.pop.new.self.items in
    let whole = ap (λ (s : Mounts). option_map (λ (m : MountEntry). m.mount) (last_of s.list)) c.self.view_is in
    elim c.match-pop.branch [
      | in-Some w ↦
          let split = c.pop.ensures.items ∙ ap (λ (o : Option MountEntry). left ++ option_to_list o) w.in-Some.is in
          w.result-is ∙ (sym (ap (option_map (λ (m : MountEntry). m.mount)) (pop_last items left w.in-Some.entry split)) ∙ whole)
      | in-None w ↦
          let empty = (MatchOption-at_none _ _ w.in-None.is c.pop.ensures.cases).0 in
          let none : items ≡ [] = nil_from_length items (omega (arith, empty, c.self.inside.mounts.ok.0)) in
          w.result-is ∙ (sym (ap (λ (ms : List MountEntry). option_map (λ (m : MountEntry). m.mount) (last_of ms)) none) ∙ whole)
    ]

pub returns-clause-gone : goal.returns-clause-gone
returns-clause-gone c =
    let items = c.self.inside.mounts.items in
    let left = c.pop.new.self.items in
    let whole = ap (λ (s : Mounts). without_last s.list) c.self.view_is in
    elim c.match-pop.branch [
      | in-Some w ↦
          let split = c.pop.ensures.items ∙ ap (λ (o : Option MountEntry). left ++ option_to_list o) w.in-Some.is in
          pop_gone items left w.in-Some.entry c.self.invariant split ∙ whole
      | in-None w ↦
          let empty = MatchOption-at_none _ _ w.in-None.is c.pop.ensures.cases in
          let none : items ≡ [] = nil_from_length items (omega (arith, empty.0, c.self.inside.mounts.ok.0)) in
          let none_left : left ≡ [] = nil_from_length left (omega (arith, empty.1, c.pop.new.self.ok.0)) in
          none_left ∙ (sym (ap (λ (ms : List MountEntry). without_last ms) none) ∙ whole)
    ]
