-- What events do to a console, one after another.
use Rattle.std.proofs.Common.{◌≡◌, ◌≤◌, ◌++◌, ◌&&◌, ◌∷◌, [], ℕ, nat_le, Bool, List, Option, Some, None, false, true, length, refl, ap, arith, append_assoc, append-nil, sym, subst, ◌∙◌}
use Rattle.std.specs.List.{list_all}
use Rattle.std.proofs.lemmas.Bool.{false≢true, leb-true}
use Rattle.circular_buffer.specs.Buffer.{keep_last}
use Rattle.console_link.proofs.Last_bytes.{all_kept, few_kept, kept_again}
use Rattle.console_link.specs.Consoles.{Console, detached, emptied, written}
use Rattle.console_link.specs.Histories.{Attach, Detach, Empty, Event, Write, after, after_event, bytes_taken, bytes_written, leaves_holder, leaves_output, all_fit}
use Rattle.console_link.specs.declared.limits.TheConstants.{OUTPUT_MAX}

-- an attempt to attach leaves what is kept
output_stays : (session : ℕ) (output : List ℕ) (holder : Option ℕ) → (after_event (Attach session) (record { output = output; holder = holder })).output ≡ output
output_stays session output None = refl
output_stays session output (Some other) = refl

pub output_after : (es : List Event) (c : Console) → length c.output ≤ OUTPUT_MAX → list_all leaves_output es ≡ true → (after es c).output ≡ keep_last OUTPUT_MAX (c.output ++ bytes_written es)
output_after [] c few h = sym (ap (keep_last OUTPUT_MAX) (append-nil c.output) ∙ all_kept OUTPUT_MAX c.output few)
output_after (Write bytes ∷ es) c few h =
    output_after es (written bytes c) (few_kept OUTPUT_MAX (c.output ++ bytes)) h
    ∙ (kept_again OUTPUT_MAX (c.output ++ bytes) (bytes_written es) ∙ ap (keep_last OUTPUT_MAX) (append_assoc c.output bytes (bytes_written es)))
output_after (Empty ∷ es) c few h = absurd (false≢true h)
output_after (Attach session ∷ es) c few h =
    let same = output_stays session c.output c.holder in
    output_after es (after_event (Attach session) c) (subst (λ xs. length xs ≤ OUTPUT_MAX) (sym same) few) h ∙ ap (λ xs. keep_last OUTPUT_MAX (xs ++ bytes_written es)) same
output_after (Detach ∷ es) c few h = output_after es (detached c) few h

pub few_after : (es : List Event) (c : Console) → length c.output ≤ OUTPUT_MAX → length (after es c).output ≤ OUTPUT_MAX
few_after [] c few = few
few_after (Write bytes ∷ es) c few = few_after es (written bytes c) (few_kept OUTPUT_MAX (c.output ++ bytes))
few_after (Empty ∷ es) c few = few_after es (emptied c) (omega arith)
few_after (Attach session ∷ es) c few = few_after es (after_event (Attach session) c) (subst (λ xs. length xs ≤ OUTPUT_MAX) (sym (output_stays session c.output c.holder)) few)
few_after (Detach ∷ es) c few = few_after es (detached c) few

pub holder_stays : (es : List Event) (output : List ℕ) (session : ℕ) → list_all leaves_holder es ≡ true → (after es (record { output = output; holder = Some session })).holder ≡ Some session
holder_stays [] output session h = refl
holder_stays (Write bytes ∷ es) output session h = holder_stays es (keep_last OUTPUT_MAX (output ++ bytes)) session h
holder_stays (Empty ∷ es) output session h = holder_stays es [] session h
holder_stays (Attach other ∷ es) output session h = holder_stays es output session h
holder_stays (Detach ∷ es) output session h = absurd (false≢true h)

both : (a b : Bool) → (a && b) ≡ true → (a ≡ true) × (b ≡ true)
both true b h = (refl, h)
both false b h = absurd (false≢true h)

pub taken_once : (es : List Event) (c : Console) → all_fit es c ≡ true → bytes_taken es c ++ (after es c).output ≡ c.output ++ bytes_written es
taken_once [] c h = sym (append-nil c.output)
taken_once (Write bytes ∷ es) c h =
    let parts = both (nat_le (length (c.output ++ bytes)) OUTPUT_MAX) (all_fit es (written bytes c)) h in
    let all = all_kept OUTPUT_MAX (c.output ++ bytes) (leb-true (length (c.output ++ bytes)) OUTPUT_MAX parts.0) in
    taken_once es (written bytes c) parts.1 ∙ (ap (λ xs. xs ++ bytes_written es) all ∙ append_assoc c.output bytes (bytes_written es))
taken_once (Empty ∷ es) c h = append_assoc c.output (bytes_taken es (emptied c)) (after es (emptied c)).output ∙ ap (λ xs. c.output ++ xs) (taken_once es (emptied c) h)
taken_once (Attach session ∷ es) c h = taken_once es (after_event (Attach session) c) h ∙ ap (λ xs. xs ++ bytes_written es) (output_stays session c.output c.holder)
taken_once (Detach ∷ es) c h = taken_once es (detached c) h
