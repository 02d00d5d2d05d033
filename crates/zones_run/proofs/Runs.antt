-- The run over the lines, one line further.
use Rattle.std.proofs.Common.{◌≡◌, ◌<◌, ℕ, true, false, cond, List, [], ◌∷◌, ◌++◌, length, Option, Some, None, IfSome, refl, arith}
use Rattle.std.specs.Option.{option_map}
use Rattle.zonecfg_scopes.specs.Open.{Open}
use Rattle.zn_base.specs.Lines.{is_newline, lines_of, with_first}
use Rattle.input_lines.specs.Reading.{lines_left}
use Rattle.zones_run.specs.Exporting.{edited, exported}
use Rattle.zones_run.specs.Complaints.{limit_at}

-- where the first line past the last number is there, it is past the limit
past_last : (o : Open) (b : ℕ) (bytes : List ℕ) → edited 200001 o (lines_of (b ∷ bytes)) ≡ limit_at 200001
past_last o b bytes =
    elim (is_newline b) as (λ v. edited 200001 o (cond v ([] ∷ lines_of bytes) (with_first b (lines_of bytes))) ≡ limit_at 200001) [
      | true ↦ refl
      | false ↦ elim (lines_of bytes) as (λ lines. edited 200001 o (with_first b lines) ≡ limit_at 200001) [
        | [] ↦ refl
        | line ∷ lines ↦ refl
      ]
    ]

-- a byte ahead, after all the lines that there may be, is past the limit
pub limit_begins : (o : Open) (ahead : List ℕ) (left input : Option (List ℕ)) → 0 < length ahead → option_map (edited 200001 o) (lines_left ahead left) ≡ option_map exported input → IfSome input (λ bytes. limit_at 200001 ≡ exported bytes)
limit_begins o [] left input some same = absurd (omega arith)
limit_begins o (b ∷ ahead) left None some same = tt
limit_begins o (b ∷ ahead) None (Some input) some same = absurd (cc)
limit_begins o (b ∷ ahead) (Some left) (Some input) some same =
    let last = past_last o b (ahead ++ left) in
    let all : Some (edited 200001 o (lines_of (b ∷ (ahead ++ left)))) ≡ Some (exported input) = same in
    cc
