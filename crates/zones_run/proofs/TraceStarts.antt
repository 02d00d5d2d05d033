-- What a trace has taken and written before its first line.
use Rattle.std.proofs.Common.{ℕ, List, [], Option, None, IfSome, refl, sym, arith}
use Rattle.zn_io.specs.Streams.{before_known}
use Rattle.brand_hooks.specs.Brands.{Tabled}
use Rattle.commit_journal.specs.declared.records.Commit.{Commit}
use Rattle.zones_run.specs.Midway.{RunsOn, none_put}
use Rattle.zones_run.specs.declared.words.Mode.{Mode}
use Rattle.zones_run.specs.Tracing.{AnswersLines, AnswersRead, AnswersSome, HasReplies, RunsLines, run_of}
use Rattle.input_lines.proofs.Begins.{before_known-nil, takes_just, takes_none}
use Rattle.zones_run.proofs.TraceEnds.{answers_lines, answers_read, has_replies, lines_some, runs_lines}
use Rattle.zones_run.proofs.TraceRuns.{runs_from_start}

start : (mode : Mode) (brands : List Tabled) (R : List Commit) (held input : Option (List ℕ)) → RunsOn mode none_put brands R (λ S. Unit {0}) None 1 held held (before_known [] input) input
start mode brands R held input = runs_from_start mode brands R (λ S. Unit {0}) held input tt

-- before anything was read
pub no_replies : (mode : Mode) (brands : List Tabled) (R : List Commit) (held input : Option (List ℕ)) → IfSome input (λ bytes. HasReplies mode held held (run_of mode brands R bytes))
no_replies mode brands R held input = has_replies mode none_put brands R (λ S. Unit {0}) None 1 held held (before_known [] input) input (start mode brands R held input)

pub no_lines : (mode : Mode) (brands : List Tabled) (R : List Commit) (held input : Option (List ℕ)) → IfSome input (λ _. AnswersLines mode brands R input input held held)
no_lines mode brands R held input = answers_lines mode brands R (λ S. Unit {0}) None 1 held held (before_known [] input) input input (start mode brands R held input) (takes_just [] (before_known [] input) input refl (omega arith))

pub runs_none : (mode : Mode) (brands : List Tabled) (R : List Commit) (held input : Option (List ℕ)) → IfSome input (λ _. RunsLines mode brands R input input)
runs_none mode brands R held input = runs_lines mode none_put brands R (λ S. Unit {0}) None 1 held held (before_known [] input) input input (start mode brands R held input) (takes_just [] (before_known [] input) input refl (omega arith))

pub no_read : (mode : Mode) (brands : List Tabled) (R : List Commit) (held input : Option (List ℕ)) → IfSome input (λ _. AnswersRead mode brands R input input held held)
no_read mode brands R held input = answers_read mode brands R (λ S. Unit {0}) None 1 held held (before_known [] input) input input (start mode brands R held input) (takes_none (before_known [] input) input (sym (before_known-nil input)))

pub no_some : (mode : Mode) (brands : List Tabled) (R : List Commit) (held input : Option (List ℕ)) → IfSome input (λ _. AnswersSome mode brands R input input held held)
no_some mode brands R held input = lines_some mode brands R held held input input (no_lines mode brands R held input)
