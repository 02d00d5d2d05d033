-- What the reader's parts come to.
use Rattle.std.proofs.Common.{◌≡◌, inl, inr, ◌≤◌, ◌<◌, ◌+◌, ℕ, true, List, ◌++◌, length, take, drop, Some, None, Result, Ok, refl, ap, sym, ◌∙◌, arith, codes}
use Rattle.std.specs.Prelude.{nat_eq}
use Rattle.std.specs.List.{starts_with}
use Rattle.std.specs.Result.{result_ok}
use Rattle.std.proofs.lemmas.Bool.{cases_lt}
use Rattle.std.proofs.lemmas.List.{take-append-drop}
use Rattle.std.proofs.lemmas.Slice.Eq.{bytes_eq-Decides}
use Rattle.zn_base.specs.Answers.{AnswersUnless}
use Rattle.zn_base.specs.declared.values.Value.TheVariants.{Simple}
use Rattle.config_terms.specs.Rules.{obeys}
use Rattle.config_terms.specs.Texts.{setting}
use Rattle.config_terms.specs.declared.fault.ConfigFault.{ConfigFault}
use Rattle.config_terms.specs.declared.fault.ConfigFault.TheVariants.{Memory}
use Rattle.zn_base.specs.Lines.{lines_of}
use Rattle.zone_config.specs.Edits.{with_property}
use Rattle.zone_config.specs.Export.{export_text}
use Rattle.zone_config.specs.Property.{blank, setting_named}
use Rattle.zone_config.specs.Sound.{IsSound}
use Rattle.zone_config.specs.declared.terms.Contents.{Contents}
use Rattle.zone_config.proofs.PropertyEdits.{blank_kept}
use Rattle.export_read.specs.Begun.{BeginsSome, IsAstray, IsFront}
use Rattle.export_read.specs.Drafts.{config_of, least}
use Rattle.export_read.proofs.Whole.{fewer, reads_back}

pub least_set : result_ok (with_property (codes "autoboot") (Simple (codes "true")) blank) ≡ Some least
unfolding with_property setting_named obeys export_text setting
least_set = refl

-- a sound configuration whose text begins with some bytes
pub front_of : (c : Contents) (bytes : List ℕ) → IsSound c → starts_with nat_eq (export_text c) bytes ≡ true → IsFront bytes
front_of c bytes sound h =
    let n = length bytes in
    let front : bytes ≡ take n (export_text c) = (bytes_eq-Decides bytes (take n (export_text c))).0 h in
    record { config = c; sound = sound; tail = drop n (export_text c); begins = sym (ap (λ l. l ++ drop n (export_text c)) front ∙ take-append-drop n (export_text c)) }

-- between a number of leading lines that begin some text, and one that does not
pub record IsSearch (text : List ℕ) (begun astray : ℕ) : Type 0 where
  pub lower : BeginsSome text begun
  pub upper : (m : ℕ) → BeginsSome text m → m < astray
  pub apart : begun < astray
  pub few : astray ≤ length (lines_of text) + 1

pub search_from : (text : List ℕ) (n : ℕ) → n ≡ length (lines_of text) → IsSearch text 0 (n + 1)
search_from text n e = record {
  lower = record { config = blank; sound = blank_kept.sound; inside = omega arith; rest = lines_of (export_text blank); same = refl };
  upper = λ m b. let i = b.inside in omega (arith, i, e);
  apart = omega arith;
  few = omega (arith, e);
}

pub search_up : (text : List ℕ) (begun astray middle : ℕ) → IsSearch text begun astray → middle < astray → BeginsSome text middle → IsSearch text middle astray
search_up text begun astray middle s less b = record { lower = b; upper = s.upper; apart = less; few = s.few }

pub search_down : (text : List ℕ) (begun astray middle : ℕ) → IsSearch text begun astray → begun < middle → middle < astray → (BeginsSome text middle → ⊥) → IsSearch text begun middle
search_down text begun astray middle s more less none = record {
  lower = s.lower;
  upper = λ m b. elim (cases_lt m middle) as (λ _. m < middle) [ inl h ↦ h | inr h ↦ absurd (none (fewer text middle m h b)) ];
  apart = more;
  few = (let f = s.few in omega (arith, f));
}

pub search_end : (text : List ℕ) (begun astray : ℕ) → IsSearch text begun astray → astray ≤ begun + 1 → IsAstray text astray
search_end text begun astray s near = record { before = (begun, (let a = s.apart in omega (arith, a)), s.lower); greatest = s.upper }

-- the configuration that is read is the only one
pub reads_every : (text : List ℕ) (c d : Contents) → config_of text ≡ Some d → IsSound c → text ≡ export_text c → (let r : Result Contents ConfigFault = Ok d in AnswersUnless Memory (Ok c) r)
reads_every text c d h sound e = let both : Some c ≡ Some d = sym (reads_back c sound) ∙ ap config_of (sym e) ∙ h in ap (λ (s : Contents). Ok s) (let same : c ≡ d = cc in same)

-- no export text is refused
pub not_read : (text : List ℕ) (c : Contents) → config_of text ≡ None → IsSound c → text ≡ export_text c → ⊥
not_read text c h sound e = let both : Some c ≡ None = sym (reads_back c sound) ∙ ap config_of (sym e) ∙ h in cc
