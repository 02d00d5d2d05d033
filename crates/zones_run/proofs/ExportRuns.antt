-- What is open, and the bytes to come, in the midst of `export`.
use Rattle.std.proofs.Common.{◌≡◌, ◌≤◌, ◌<◌, ◌+◌, ◌++◌, ◌⊎◌, ℕ, List, [], ◌∷◌, length, All, Option, Some, None, IfSome, Ok, refl, ap, sym, subst, inl, ◌∙◌, arith}
use Rattle.std.proofs.lemmas.List.{length-append}
use Rattle.std.proofs.lemmas.List.Elements.{All-push}
use Rattle.zn_base.specs.Lines.{lines_of}
use Rattle.zn_io.specs.Streams.{before_known}
use Rattle.zonecfg_scopes.specs.Open.{Open, Nothing}
use Rattle.input_lines.specs.Lines.{AreWhole}
use Rattle.zones_run.specs.Obeyed.{ObeysLines, ObeysRead, lines_in_turn}
use Rattle.input_lines.specs.Reading.{TakesLine}
use Rattle.zones_run.specs.Subcommands.{edit_of}
use Rattle.input_lines.specs.Taking.{BeginsLine, TakesPiece}
use Rattle.input_lines.proofs.Begins.{takes_known, takes_none}
use Rattle.zones_run.proofs.Refusing.{turn_more}
use Rattle.zones_run.proofs.TraceRuns.{takes as takes_line}

-- of a known input: so many lines were taken and obeyed, and what is to come
pub record Obeys (count : ℕ) (o : Open) (bytes : Option (List ℕ)) (input : List ℕ) : Type 0 where
  pub past : List ℕ
  pub to_come : List ℕ
  pub here : bytes ≡ Some to_come
  pub all : input ≡ past ++ to_come
  pub fresh : AreWhole past ⊎ (to_come ≡ [])
  pub counted : length (lines_of past) ≡ count
  pub few : count ≤ 200000
  pub short : All (λ line. length line ≤ 4096) (lines_of past)
  pub obeyed : lines_in_turn (lines_of past) Nothing ≡ Ok o

pub obeys_none : (o : Open) (ahead : List ℕ) (input : Option (List ℕ)) → o ≡ Nothing → ahead ≡ [] → IfSome input (Obeys 0 o (before_known ahead input))
obeys_none o ahead None nothing none = tt
obeys_none o ahead (Some bytes) nothing none = record {
  past = [];
  to_come = bytes;
  here = ap (λ xs. Some (xs ++ bytes)) none;
  all = refl;
  fresh = inl (inl refl);
  counted = refl;
  few = omega arith;
  short = λ k d within. absurd (omega (arith, within));
  obeyed = ap Ok (sym nothing);
}

pub obeys_line : (count : ℕ) (line : List ℕ) (o next : Open) (bytes new input : Option (List ℕ)) → IfSome input (Obeys count o bytes) → count < 200000 → TakesLine line bytes new → length line ≤ 4096 → edit_of line o ≡ Ok next
    → IfSome input (Obeys (count + 1) next new)
obeys_line count line o next bytes new None run few took short is = tt
obeys_line count line o next bytes new (Some input) run few took short is =
    let more = takes_line run.past line run.to_come new run.fresh (subst (λ b. TakesLine line b new) run.here took) in
    record {
      past = more.now_past;
      to_come = more.now_to_come;
      here = more.here;
      all = run.all ∙ more.all;
      fresh = more.fresh;
      counted = ap length more.lines ∙ length-append (lines_of run.past) (line ∷ []) ∙ ap (λ n. n + 1) run.counted;
      few = omega (arith, few);
      short = subst (All (λ line. length line ≤ 4096)) (sym more.lines) (All-push (λ line. length line ≤ 4096) (lines_of run.past) line run.short short);
      obeyed = ap (λ lines. lines_in_turn lines Nothing) more.lines ∙ turn_more (lines_of run.past) line Nothing o next run.obeyed is;
    }

-- lines were taken, the beginning of one more, and a piece
abbrev takes : (count : ℕ) (o : Open) (bytes left : Option (List ℕ)) (input : List ℕ) → Obeys count o bytes input → TakesPiece bytes left → ObeysLines (Some input) left
takes count o bytes left input run piece = record {
  lines = run.past;
  to_come = run.to_come;
  whole = run.fresh;
  going = record {
    few = rw run.counted run.few;
    short = run.short;
    opened = o;
    obeyed = run.obeyed;
  };
  all = ap Some run.all;
  taken = takes_known bytes left run.to_come run.here piece;
}

pub obeys_up_to : (count : ℕ) (o : Open) (bytes left input : Option (List ℕ)) → IfSome input (Obeys count o bytes) → TakesPiece bytes left → IfSome input (λ _. ObeysLines input left)
obeys_up_to count o bytes left None run piece = tt
obeys_up_to count o bytes left (Some input) run piece = takes count o bytes left input run piece

-- the source failed at the beginning of a line
pub obeys_read : (count : ℕ) (o : Open) (bytes left input : Option (List ℕ)) → IfSome input (Obeys count o bytes) → BeginsLine bytes left → IfSome input (λ _. ObeysRead input left)
obeys_read count o bytes left None run begins = tt
obeys_read count o bytes left (Some input) run begins = (takes count o bytes left input run begins.0, begins.1)

-- nothing was taken
pub obeys_nothing : (input : Option (List ℕ)) → IfSome input (λ _. ObeysLines input input)
obeys_nothing None = tt
obeys_nothing (Some input) = takes 0 Nothing (Some input) (Some input) input (obeys_none Nothing [] (Some input) refl refl) (takes_none (Some input) (Some input) refl).0
