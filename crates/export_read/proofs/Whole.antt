-- Each script is walked to its end, and what follows for reading.
use Rattle.std.proofs.Common.{◌≡◌, ◌≤◌, ℕ, zero, suc, true, false, cond, List, [], ◌∷◌, ◌++◌, length, take, drop, Option, Some, None, refl, ap, sym, subst, ◌∙◌, arith, append_assoc, append-nil}
use Rattle.std.specs.Prelude.{map, nat_eq, option_and_then}
use Rattle.std.specs.List.{flat_map, starts_with}
use Rattle.std.specs.Str.{bytes_eq}
use Rattle.std.proofs.lemmas.List.{take-append-drop, take-take, take_at}
use Rattle.std.proofs.lemmas.Slice.Eq.{bytes_eq-Decides}
use Rattle.config_terms.specs.Fields.{kinds}
use Rattle.config_terms.specs.declared.terms.Resource.{Resource}
use Rattle.export_read.proofs.Again.{command_again}
use Rattle.export_read.proofs.Cuts.{AreLines, lines_are, lines_of-ended}
use Rattle.export_read.proofs.Printable.{ArePlain, plain-script}
use Rattle.export_read.proofs.Rows.{ended-map, lines-script, plain_lines}
use Rattle.export_read.proofs.Texts.{text_of}
use Rattle.export_read.specs.Commands.{kind_commands, line_of, property_commands, script}
use Rattle.zn_base.specs.Lines.{lines_of}
use Rattle.export_read.specs.Lines.{ended}
use Rattle.export_read.specs.declared.command.Command.{Command}
use Rattle.export_read.specs.declared.command.Command.TheVariants.{Create}
use Rattle.zone_config.proofs.SameResources.{same_resources-self}
use Rattle.zone_config.specs.Export.{export_text, property_line}
use Rattle.zone_config.specs.Property.{properties}
use Rattle.zone_config.specs.Sound.{IsSound}
use Rattle.zone_config.specs.declared.terms.Contents.{Contents}
use Rattle.export_read.specs.Drafts.{begun_by, closed, completed, config_in, config_of, drafted, if_printed, is_begun, least, put, start}
use Rattle.export_read.specs.Begun.{BeginsSome, ExportTextsDiffer, IsFront}
use Rattle.export_read.specs.declared.draft.Draft.{Draft}
use Rattle.export_read.proofs.Globals.{bare_text, same_properties, walk_properties, without_resources}
use Rattle.export_read.proofs.Tables.{eq_self}
use Rattle.export_read.proofs.Places.{walk_resources}
use Rattle.export_read.proofs.Walks.{Begins, Walks, walk-one, walk-then}

start_begins : Begins (Create ∷ []) start
unfolding completed
start_begins = (least, refl, (flat_map (property_line least) properties, bare_text least (record { resources = same_resources-self least; zonepath = λ h. cc })))

-- each line of each text is taken, and after each the text so far begins one
pub walk : (c : Contents) → IsSound c → Walks [] start (script c) (closed c)
unfolding script
walk c sound =
    let P = flat_map (property_commands c) properties in
    let R = flat_map (kind_commands c) kinds in
    let globals = walk_properties c sound in
    let bare = same_properties c globals.end sound.properties.zonepath globals.kept globals.all.given in
    let W : Contents → Type 0 = λ s. Walks (Create ∷ []) start P (closed s) in
    walk-then (Create ∷ []) (P ++ R) [] start start (closed c) (walk-one [] Create start start refl start_begins)
    (walk-then P R (Create ∷ []) start (closed (without_resources c)) (closed c) (subst W bare globals.walks) (walk_resources c sound))

-- a walk is a run over the lines
drafted-walk : (xs q : List Command) (d e : Draft) (more : List (List ℕ)) → ArePlain xs → Walks q d xs e → drafted (map line_of xs ++ more) d ≡ drafted more e
unfolding drafted
drafted-walk [] q d e more plain w = ap (drafted more) w
drafted-walk (x ∷ xs) q d e more plain w =
    ap (λ o. option_and_then (drafted (map line_of xs ++ more)) (option_and_then (λ y. put y d) o)) (command_again x plain.0)
    ∙ ap (option_and_then (drafted (map line_of xs ++ more))) w.1 ∙ drafted-walk xs (q ++ x ∷ []) w.0 e more plain.1 w.3

-- a front of a walk is one, and its end is begun by it
record Stops (q : List Command) (d : Draft) (xs : List Command) : Type 0 where
  end : Draft
  walks : Walks q d xs end
  begins : Begins (q ++ xs) end

stop : (xs ys q : List Command) (d e : Draft) → Begins q d → Walks q d (xs ++ ys) e → Stops q d xs
stop [] ys q d e b w = let B : List Command → Type 0 = λ l. Begins l d in record { end = d; walks = refl; begins = subst B (sym (append-nil q)) b }
stop (x ∷ xs) ys q d e b w =
    let on = stop xs ys (q ++ x ∷ []) w.0 e w.2 w.3 in
    let B : List Command → Type 0 = λ l. Begins l on.end in
    record { end = on.end; walks = (w.0, w.1, w.2, on.walks); begins = subst B (append_assoc q (x ∷ []) xs) on.begins }

nothing_begins : Begins [] start
unfolding completed
nothing_begins = (least, refl, (export_text least, refl))

plain-front : (xs ys : List Command) → ArePlain (xs ++ ys) → ArePlain xs
plain-front [] ys h = tt
plain-front (x ∷ xs) ys h = (h.0, plain-front xs ys h.1)

-- each export text is read as its configuration
pub reads_back : (c : Contents) → IsSound c → config_of (export_text c) ≡ Some c
unfolding config_of drafted
reads_back c sound =
    let lines = lines-script c sound ∙ sym (append-nil (map line_of (script c))) in
    let run = ap (λ l. drafted l start) lines ∙ drafted-walk (script c) [] start (closed c) [] (plain-script c sound) (walk c sound) in
    ap (config_in (export_text c)) run ∙ rw (eq_self (export_text c)) refl

-- two sound configurations with one text are equal
pub texts_differ : ExportTextsDiffer
texts_differ c d sc sd e = let both : Some c ≡ Some d = sym (reads_back c sc) ∙ ap config_of e ∙ reads_back d sd in cc

-- what is read has the text
pub read_exactly : (text : List ℕ) (c : Contents) → config_of text ≡ Some c → text ≡ export_text c
unfolding config_of
read_exactly text c h =
    elim (drafted (lines_of text) start) as (λ o. config_in text o ≡ Some c → text ≡ export_text c) [
      | None ↦ λ g. absurd (cc)
      | Some d ↦ λ g. printed d.resource d.config g
    ] h
  where
    printed : (r : Option Resource) (s : Contents) → if_printed text r s ≡ Some c → text ≡ export_text c
    printed None s g =
        elim (bytes_eq (export_text s) text) as (λ v. bytes_eq (export_text s) text ≡ v → cond v (Some s) None ≡ Some c → text ≡ export_text c) [
          | true ↦ λ e k. let same : s ≡ c = cc in sym ((bytes_eq-Decides (export_text s) text).0 e) ∙ ap export_text same
          | false ↦ λ e k. absurd (cc)
        ] refl g
    printed (Some r) s g = absurd (cc)

-- some of a list's images are those of its first items
record Cut {A B : Type 0} (f : A → B) (zs : List A) (images : List B) : Type 0 where
  front : List A
  behind : List A
  whole : zs ≡ front ++ behind
  are : map f front ≡ images

cut : {A B : Type 0} (f : A → B) (zs : List A) (images rest : List B) → map f zs ≡ images ++ rest → Cut f zs images
cut f zs [] rest h = record { front = []; behind = zs; whole = refl; are = refl }
cut f [] (i ∷ images) rest h = absurd (cc)
cut f (z ∷ zs) (i ∷ images) rest h =
    let first : f z ≡ i = cc in
    let tail : map f zs ≡ images ++ rest = cc in
    let on = cut f zs images rest tail in
    record { front = z ∷ on.front; behind = on.behind; whole = ap (λ l. z ∷ l) on.whole; are = ap (λ y. y ∷ map f on.front) first ∙ ap (λ l. i ∷ l) on.are }

starts-append : (front tail : List ℕ) → starts_with nat_eq (front ++ tail) front ≡ true
starts-append front tail = ap (bytes_eq front) (take_at front tail (length front) refl) ∙ eq_self front

-- leading lines that begin some export text are seen to begin one
pub begun_again : (text : List ℕ) (n : ℕ) → BeginsSome text n → is_begun (ended (take n (lines_of text))) ≡ true
unfolding is_begun drafted
begun_again text n b =
    let c = b.config in
    let L = take n (lines_of text) in
    let piece = cut line_of (script c) L b.rest (sym (lines-script c b.sound) ∙ b.same) in
    let W : List Command → Type 0 = λ l. Walks [] start l (closed c) in
    let plain = let A : List Command → Type 0 = λ l. ArePlain l in plain-front piece.front piece.behind (subst A piece.whole (plain-script c b.sound)) in
    let at = stop piece.front piece.behind [] start (closed c) nothing_begins (subst W piece.whole (walk c b.sound)) in
    let whole : ended L ≡ text_of piece.front = ap ended (sym piece.are) ∙ ended-map piece.front in
    let lines : lines_of (ended L) ≡ map line_of piece.front ++ [] =
    ap (λ l. lines_of (ended l)) (sym piece.are) ∙ ap lines_of (sym (append-nil (ended (map line_of piece.front)))) ∙ lines_of-ended (map line_of piece.front) [] (plain_lines piece.front plain) in
    let run = ap (λ l. drafted l start) lines ∙ drafted-walk piece.front [] start at.end [] plain at.walks in
    let done = at.begins in
    ap (λ o. begun_by (ended L) (option_and_then completed o)) run ∙ ap (begun_by (ended L)) done.1
    ∙ ap (λ t. starts_with nat_eq t (ended L)) (done.2.1 ∙ ap (λ l. l ++ done.2.0) (sym whole)) ∙ starts-append (ended L) done.2.0

lines_front : (n : ℕ) (lines : List (List ℕ)) → AreLines lines → AreLines (take n lines)
lines_front zero lines h = tt
lines_front (suc n) [] h = tt
lines_front (suc n) (line ∷ lines) h = (h.0, lines_front n lines h.1)

-- whole lines that begin a text are leading lines that do
pub begun_front : (text : List ℕ) (n : ℕ) → n ≤ length (lines_of text) → IsFront (ended (take n (lines_of text))) → BeginsSome text n
begun_front text n inside f = record {
  config = f.config;
  sound = f.sound;
  inside = inside;
  rest = lines_of f.tail;
  same = ap lines_of f.begins ∙ lines_of-ended (take n (lines_of text)) f.tail (lines_front n (lines_of text) (lines_are text));
}

-- fewer of them do too
pub fewer : (text : List ℕ) (m n : ℕ) → m ≤ n → BeginsSome text n → BeginsSome text m
fewer text m n less b =
    let L = lines_of text in
    let e : take n L ≡ take m L ++ drop m (take n L) = sym (take-append-drop m (take n L)) ∙ ap (λ l. l ++ drop m (take n L)) (take-take m n L less) in
    record {
      config = b.config;
      sound = b.sound;
      inside = (let i = b.inside in omega (arith, i));
      rest = drop m (take n L) ++ b.rest;
      same = b.same ∙ ap (λ l. l ++ b.rest) e ∙ append_assoc (take m L) (drop m (take n L)) b.rest;
    }
