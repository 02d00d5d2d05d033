-- Lines that are put after one another, as the script and the summary of `bulk` are made of them.
use Rattle.std.proofs.Common.{◌≡◌, ◌+◌, ◌%◌, ◌++◌, ℕ, zero, suc, List, [], ◌∷◌, refl, ap, sym, ◌∙◌, add-one, append_assoc, codes, replicate}
use Rattle.std.specs.Fmt.{decimal}
use Rattle.std.proofs.lemmas.Grind.{flat_map-append}
use Rattle.std.proofs.lemmas.List.{append-nil}
use Rattle.zones_run.specs.Bulk.{bulk_lines, bulk_text, call_line, halt_lines, lines_for, numbered}
use Rattle.zones_run.specs.Fixed.{text_of_lines}

-- one of equal lines more
more_last : (count : ℕ) (line : List ℕ) → text_of_lines (replicate count line) ++ (line ++ 10 ∷ []) ≡ text_of_lines (replicate (suc count) line)
more_last zero line = sym (append-nil (line ++ 10 ∷ []))
more_last (suc count) line = append_assoc (line ++ 10 ∷ []) (text_of_lines (replicate count line)) (line ++ 10 ∷ []) ∙ ap (λ more. (line ++ 10 ∷ []) ++ more) (more_last count line)

pub calls_more : (n count : ℕ) (before : List ℕ) → (before ++ text_of_lines (replicate count (call_line n))) ++ (call_line n ++ 10 ∷ []) ≡ before ++ text_of_lines (replicate (count + 1) (call_line n))
calls_more n count before =
    append_assoc before (text_of_lines (replicate count (call_line n))) (call_line n ++ 10 ∷ []) ∙ ap (λ text. before ++ text) (more_last count (call_line n)) ∙ ap (λ k. before ++ text_of_lines (replicate k (call_line n))) (sym (add-one count))

-- no zone, and the lines for one zone more
pub bulk_none : bulk_text 0 ≡ []
unfolding bulk_lines
bulk_none = refl

bulk_next : (n : ℕ) → bulk_text n ++ text_of_lines (lines_for (suc n)) ≡ bulk_text (suc n)
unfolding bulk_lines
bulk_next n = sym (flat_map-append (λ (line : List ℕ). line ++ 10 ∷ []) (bulk_lines n) (lines_for (suc n)))

pub bulk_more : (n : ℕ) → bulk_text n ++ text_of_lines (lines_for (n + 1)) ≡ bulk_text (n + 1)
bulk_more n = ap (λ k. bulk_text n ++ text_of_lines (lines_for k)) (add-one n) ∙ bulk_next n ∙ ap bulk_text (sym (add-one n))

-- the halt of a zone of an even number
pub halt_put : (n : ℕ) → n % 2 ≡ 0 → numbered (codes "S 1 zoneadm -z b") n (codes " halt") ++ 10 ∷ [] ≡ text_of_lines (halt_lines n)
halt_put n is = rw is (sym (append-nil (numbered (codes "S 1 zoneadm -z b") n (codes " halt") ++ 10 ∷ [])))

-- the lines for a zone, as they are put
abbrev Line : List ℕ → List ℕ
Line line = line ++ 10 ∷ []

-- texts that are put after one another
joined : (before a b c d e f g : List ℕ) → (((((((before ++ a) ++ b) ++ c) ++ d) ++ e) ++ f) ++ g) ≡ before ++ ((a ++ b) ++ (c ++ (d ++ (e ++ (f ++ g)))))
joined before a b c d e f g = simp append_assoc

pub lines_put : (n : ℕ) (before : List ℕ)
    → (((((((before ++ (codes "S 1 zonecfg -z b" ++ decimal n)) ++ Line (numbered (codes " create -b; set zonepath=/zones/b") n (codes "; set brand=ipkg"))) ++ Line (numbered (codes "S 1 zoneadm -z b") n (codes " install")))
    ++ Line (numbered (codes "S 1 zoneadm -z b") n (codes " boot"))) ++ Line (numbered (codes "S 1 zlogin b") n (codes " ps"))) ++ text_of_lines (replicate 50 (call_line n))) ++ text_of_lines (halt_lines n))
    ≡ before ++ text_of_lines (lines_for n)
unfolding lines_for
lines_put n before =
    let made = numbered (codes " create -b; set zonepath=/zones/b") n (codes "; set brand=ipkg") in
    let installed = Line (numbered (codes "S 1 zoneadm -z b") n (codes " install")) in
    let booted = Line (numbered (codes "S 1 zoneadm -z b") n (codes " boot")) in
    let listed = Line (numbered (codes "S 1 zlogin b") n (codes " ps")) in
    let calls = text_of_lines (replicate 50 (call_line n)) in
    let halts = text_of_lines (halt_lines n) in
    joined before (codes "S 1 zonecfg -z b" ++ decimal n) (Line made) installed booted listed calls halts
    ∙ ap (λ text. before ++ (text ++ (installed ++ (booted ++ (listed ++ (calls ++ halts)))))) (whole (codes "S 1 zonecfg -z b") (decimal n) made)
    ∙ ap (λ text. before ++ (Line (numbered (codes "S 1 zonecfg -z b") n made) ++ (installed ++ (booted ++ (listed ++ text))))) (sym (flat_map-append (λ (line : List ℕ). line ++ 10 ∷ []) (replicate 50 (call_line n)) (halt_lines n)))
  where
    whole : (a b c : List ℕ) → (a ++ b) ++ Line c ≡ Line (a ++ (b ++ c))
    whole a b c = simp append_assoc

-- the summary
five_lines : (a b c d e : List ℕ) → (((Line a ++ Line b) ++ Line c) ++ Line d) ++ Line e ≡ text_of_lines (a ∷ b ∷ c ∷ d ∷ e ∷ [])
five_lines a b c d e = joined_five (Line a) (Line b) (Line c) (Line d) (Line e)
  where
    joined_five : (a b c d e : List ℕ) → (((a ++ b) ++ c) ++ d) ++ e ≡ a ++ (b ++ (c ++ (d ++ (e ++ []))))
    joined_five a b c d e = simp (append_assoc, append-nil)

pub summary_put : (a b c d e none one two three four five : List ℕ) → none ≡ [] → one ≡ none ++ Line a → two ≡ one ++ Line b → three ≡ two ++ Line c → four ≡ three ++ Line d → five ≡ four ++ Line e → five ≡ text_of_lines (a ∷ b ∷ c ∷ d ∷ e ∷ [])
summary_put a b c d e none one two three four five is first second third fourth fifth =
    fifth
    ∙ ap (λ text. text ++ Line e) (fourth ∙ ap (λ text. text ++ Line d) (third ∙ ap (λ text. text ++ Line c) (second ∙ ap (λ text. text ++ Line b) (first ∙ ap (λ text. text ++ Line a) is))))
    ∙ five_lines a b c d e
