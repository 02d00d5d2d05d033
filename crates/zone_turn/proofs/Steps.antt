-- Each step keeps the rule.
use Rattle.std.proofs.Common.{◌≡◌, ◌≢◌, ◌⊎◌, ℕ, ◌+◌, ◌-◌, ◌%◌, ◌^◌, ◌<◌, ◌≤◌, true, List, [], ◌∷◌, ◌++◌, length, set, get_or, sym, refl, ap, ◌∙◌, subst, ⊎_elim, inl, inr, arith, length-append, length-set, Option, Some}
use Rattle.std.specs.List.{All, slice_index_or}
use Rattle.std.proofs.lemmas.List.Elements.{All-append}
use Rattle.std.proofs.Math.Nat.{mod-add-mod}
use mathlib.Core.Logic.{dite}
use mathlib.Core.Option.{some, none}
use native.Mathlib.Decide.{ℕ_discrete}
use lib.ListN.{get_elem?}
use lib.Seq.{set-get_or}
use Rattle.atomic_table.specs.Table.{State, Me, step, Act, keeps, takes, gives, stepped, homes_after, Allows, Splits, Joins, opening, Valid, carried_after}
use Rattle.atomic_table.proofs.Lists.{at_set, set_here, set_else, set_again, at_longer, at_last, one_turn}
use Rattle.zone_turn.specs.declared.views.View.{View}
use Rattle.zone_turn.specs.declared.views.Roster.{Roster}
use Rattle.zone_turn.specs.declared.views.Stage.{Stage}
use Rattle.zone_turn.specs.declared.views.Stage.TheVariants.{Idle, Waits, Out}
use Rattle.zone_turn.specs.declared.views.Role.TheVariants.{Spent, First}
use Rattle.zone_turn.specs.Passes.{after_join, after_split, alive, first_view, idle_with, is_idle, made_of, new_view, role_after_join, role_after_split, role_alive, spent, waits_for, with_part}
use Rattle.zone_turn.specs.Histories.{joined, own}
use Rattle.zone_turn.specs.Rule.{IsHome, IsOut, IsSpent, IsTurn, Knows, Moment, RoleRule, StageRule, holds_ticket, in_word, moment}
use Rattle.zone_turn.specs.Steps.{Counts, Draws, Looks}
use Rattle.zone_turn.proofs.Sums.{total_set, total_push, total_le, total_two, inside, set_only, at_end, one_answer, joined_push, own_append, own_all, own_more}
use Rattle.zone_turn.proofs.Moments.{SameCounts, SpentStay, alone, apart_push, carries, changes, differ, holds_alive, holds_as, idle_is, kind, only_one, pos_of, spent_apart, spent_back, spent_stays, ticket_or, views_ok}

abbrev two64 : ℕ
two64 = 18446744073709551616

module _ {T E : Type 0} (stands : T → List E → Type 0) (belongs : E → ℕ) where
  abbrev Table : Type 0
  Table = State (Option T) (View E)

  abbrev Self : Type 0
  Self = Me (Option T) (View E)

  abbrev Rule : Table → Type 0
  Rule = IsTurn stands belongs

  abbrev Part : List E → Table → Type 0
  Part h s = IsHome stands h s ⊎ IsOut s

  -- every held ticket is one of the last 2 ^ 32
  near : (s : Table) (r : Rule s) → length r.owners ≤ length r.batches + 4294967296
  near s r = let a = r.tickets in let b = r.living in let c = r.few in let d = total_le holds_ticket alive holds_alive s.views in omega arith

  pub begins : (x : T) → stands x [] → Rule (opening (0 ∷ 0 ∷ []) (Some x ∷ []) first_view)
  begins x st = let m : Moment E = moment [] [] (first_view ∷ []) 0 in let none_spent : (n : ℕ) → IsSpent m n → ⊥ = λ n p. alone first_view (λ j v. v.role ≡ Spent → ⊥) (λ e. differ 0 1 (omega arith) (sym (ap role_alive e))) n p.0 p.1 p.2 in record {
    owners = [];
    batches = [];
    out = 0;
    words = refl;
    tickets = omega arith;
    living = omega arith;
    few = omega arith;
    part = inl (x, refl, st);
    each = λ j v e. alone first_view (Knows belongs m) record { stage = tt; role = (refl, refl, refl, (λ k d l. absurd (omega arith)), ((λ k d l. absurd (omega arith)), λ i j d l m. absurd (omega arith)), λ n p. absurd (none_spent n p)); mine = λ _. (refl, refl) } j v e;
    unmade = λ n l. refl;
  }

  -- a view that does not have the part out steps, and the part stays where it is
  part_stays : (s : Table) (words : List ℕ) (h : List E) (id : ℕ) (v w : View E) → get_elem? s.views id ≡ some v → kind v.stage < 2 → Part h s → Part h record { words = words; homes = s.homes; views = set s.views id w }
  part_stays s words hist id v w at low (inl h) = inl h
  part_stays s words hist id v w at low (inr (j, d, t, h, there, is)) = inr (
    j,
    d,
    t,
    h,
    set_else s.views id j w (λ same.
        let e : d ≡ v = one_answer s.views j id d v same there at in
        let k : kind v.stage ≡ 2 = sym (ap (λ (x : View E). kind x.stage) e) ∙ ap kind is in omega arith) ∙ there,
    is,
  )

  part_longer : (s : Table) (words : List ℕ) (vs : List (View E)) (w : View E) (h : List E) → Part h record { words = words; homes = s.homes; views = vs } → Part h record { words = words; homes = s.homes; views = vs ++ w ∷ [] }
  part_longer s words vs w hist (inl h) = inl h
  part_longer s words vs w hist (inr (j, d, t, h, there, is)) = inr (j, d, t, h, at_longer vs (w ∷ []) j d there, is)

  idle_low : (v : View E) → is_idle v ≡ true → kind v.stage < 2
  idle_low v idle = let k : kind v.stage ≡ 0 = ap kind (idle_is v.stage idle) in omega arith

  pub draws : (slots id : ℕ) (me : Self) → is_idle me.0 ≡ true → alive me.0 ≡ 1 → Allows Rule slots id me 0 (λ n. (n + 1) % 2 ^ 64) (Draws (step slots 0 1 0 none) me)
  draws slots id me idle lives s r deep at small =
      let t : ℕ = length r.owners in
      let w : View E = waits_for t me.0 in
      let m : Moment E = moment r.owners r.batches s.views r.out in
      let m' : Moment E = moment (r.owners ++ id ∷ []) r.batches (set s.views id w) r.out in
      let longer : length (r.owners ++ id ∷ []) ≡ t + 1 = length-append r.owners (id ∷ []) in
      let kept : SpentStay belongs m m' = λ n p. (spent_stays m id m' w refl n me.0 at lives p, refl) in
      let same : SameCounts belongs m m' = (refl, length-set s.views id w, λ n p. spent_back m id m' w refl n lives p) in
      let was = holds_as me.0 Idle lives (idle_is me.0.stage idle) in
      let now = holds_as w (Waits t) lives refl in (
        w,
        keeps,
        tt,
        record {
          owners = r.owners ++ id ∷ [];
          batches = r.batches;
          out = r.out;
          words = ap (λ ws. set ws 0 ((get_or ws 0 0 + 1) % two64)) r.words ∙ ap (λ n. n ∷ in_word (length r.batches) ∷ []) (mod-add-mod t two64 1 ∙ ap in_word (sym longer));
          tickets = (let a = total_set holds_ticket s.views id me.0 w at in let b = r.tickets in omega arith);
          living = (let a = total_set alive s.views id me.0 w at in let b = r.living in omega arith);
          few = r.few;
          part = part_stays s (set s.words 0 ((get_or s.words 0 0 + 1) % two64)) (joined r.batches) id me.0 w at (idle_low me.0 idle) r.part;
          each = views_ok _ s.views id w
              (changes belongs m m' id me.0 (Waits t) me.0.list lives ((let b = r.tickets in omega arith), at_last r.owners id t refl) ((r.each id me.0 at).mine lives).1 kept same (r.each id me.0 at))
              (λ j d other there. carries belongs m m' j d (more r.owners r.batches s.views (set s.views id w) r.out id j d.stage) (λ _. refl) kept (λ _. same) (r.each j d there));
          unmade = λ n l. r.unmade n (let q = length-set s.views id w in omega arith);
        },
        (t, refl, sym (ap (λ ws. get_or ws 0 0) r.words), refl),
      )
    where
      more : (owners : List ℕ) (batches : List (List E)) (vs vs' : List (View E)) (out id j : ℕ) (st : Stage E) → StageRule (moment owners batches vs out) j st → StageRule (moment (owners ++ id ∷ []) batches vs' out) j st
      more owners batches vs vs' out id j Idle o = o
      more owners batches vs vs' out id j (Waits t) o = (o.0, at_longer owners (id ∷ []) t j o.1)
      more owners batches vs vs' out id j (Out t h) o = (o.0, at_longer owners (id ∷ []) t j o.1, o.2)

  stage_moves : (owners : List ℕ) (batches : List (List E)) (vs vs' : List (View E)) (out out' j : ℕ) (st : Stage E) → StageRule (moment owners batches vs out) j st → StageRule (moment owners batches vs' out') j st
  stage_moves owners batches vs vs' out out' j Idle o = o
  stage_moves owners batches vs vs' out out' j (Waits t) o = o
  stage_moves owners batches vs vs' out out' j (Out t h) o = o

  pub looks : (slots id : ℕ) (me : Self) (t : ℕ) → me.0.stage ≡ Waits t → alive me.0 ≡ 1 → Allows Rule slots id me 1 (λ n. n) (Looks stands belongs (step slots 1 0 0 none) me)
  looks slots id me t is lives s r deep at small = dite (ℕ_discrete (in_word t) (get_or s.words 1 0)) (λ hit. ⊎_elim (found hit) (taken hit) r.part) missed
    where
      now_serving : ℕ
      now_serving = length r.batches

      hist : List E
      hist = joined r.batches

      m : Moment E
      m = moment r.owners r.batches s.views r.out

      word : get_or s.words 1 0 ≡ in_word now_serving
      word = ap (λ ws. get_or ws 1 0) r.words

      knows : Knows belongs m id me.0
      knows = r.each id me.0 at

      mine : StageRule m id (Waits t)
      mine = subst (StageRule m id) is knows.stage

      turn : in_word t ≡ get_or s.words 1 0 → now_serving ≡ t
      turn hit = let a = inside r.owners t id mine.1 in let b = near s r in let c = mine.0 in one_turn now_serving t two64 c (omega arith) (sym word ∙ sym hit)

      Goal : Type 0
      Goal = (w : View E) × (a : Act (Option T)) × Valid s.homes me.1 a × Rule (stepped s 1 (get_or s.words 1 0) id me.1 w a) × Looks stands belongs (step slots 1 0 0 none) me (get_or s.words 1 0) (w, carried_after me.1 a)

      taken : in_word t ≡ get_or s.words 1 0 → IsOut s → Goal
      taken hit (j, v, t', h, there, out) =
          let k : StageRule m j (Out t' h) = subst (StageRule m j) out (r.each j v there).stage in
          let tickets : t' ≡ t = k.0 ∙ turn hit in
          let same : j ≡ id = one_answer r.owners t' t j id tickets k.1 mine.1 in
          let e : v ≡ me.0 = one_answer s.views j id v me.0 same there at in
          absurd (differ 1 2 (omega arith) (sym (sym (ap kind out) ∙ (ap (λ (x : View E). kind x.stage) e ∙ ap kind is))))

      found : in_word t ≡ get_or s.words 1 0 → IsHome stands hist s → Goal
      found hit (x, home, st) =
          let w : View E = with_part t hist me.0 in
          let m' : Moment E = moment r.owners r.batches (set s.views id w) r.out in
          let kept : SpentStay belongs m m' = λ n p. (spent_stays m id m' w refl n me.0 at lives p, refl) in
          let same : SameCounts belongs m m' = (refl, length-set s.views id w, λ n p. spent_back m id m' w refl n lives p) in
          let was = holds_as me.0 (Waits t) lives is in
          let now = holds_as w (Out t hist) lives refl in
          let own_id = knows.mine lives in (
            w,
            takes 0 (Some x),
            ap (λ hs. get_elem? hs 0) home,
            record {
              owners = r.owners;
              batches = r.batches;
              out = r.out;
              words = set-get_or s.words 1 0 ∙ r.words;
              tickets = (let a = total_set holds_ticket s.views id me.0 w at in let b = r.tickets in omega arith);
              living = (let a = total_set alive s.views id me.0 w at in let b = r.living in omega arith);
              few = r.few;
              part = inr (id, w, t, hist, set_here s.views id w (inside s.views id me.0 at), refl);
              each = views_ok _ s.views id w
                  (changes belongs m m' id me.0 (Out t hist) me.0.list lives (sym (turn hit), mine.1, refl) own_id.1 kept same knows)
                  (λ j d other there. carries belongs m m' j d (stage_moves r.owners r.batches s.views (set s.views id w) r.out r.out j d.stage) (λ _. refl) kept (λ _. same) (r.each j d there));
              unmade = λ n l. r.unmade n (let q = length-set s.views id w in omega arith);
            },
            (λ t' is'. let eq : t ≡ t' = ap ticket_or (sym is ∙ is') in (
              (λ _. (x, hist, ap (λ k. with_part k hist me.0) eq, refl, st, ap (λ k. own belongs k hist) own_id.0 ∙ own_id.1, (r.batches, refl, turn hit ∙ eq))),
              (λ other. absurd (other (sym (ap in_word eq) ∙ hit))),
            )),
          )

      missed : in_word t ≢ get_or s.words 1 0 → Goal
      missed miss = (
        me.0,
        keeps,
        tt,
        subst (λ (z : List ℕ × List (View E)). Rule record { words = z.0; homes = s.homes; views = z.1 }) (λ i. (sym (set-get_or s.words 1 0) i, sym (set_again s.views id me.0 at) i)) r,
        (λ t' is'. ((λ e. absurd (miss (ap in_word (ap ticket_or (sym is ∙ is')) ∙ e))), λ _. refl)),
      )

  pub counts : (slots id : ℕ) (me : Self) (t : ℕ) (h batch : List E) (x : T) → slots ≡ 1 → me.0.stage ≡ Out t h → alive me.0 ≡ 1 → me.1 ≡ (0, Some x) ∷ [] → stands x (h ++ batch)
      → All (λ e. belongs e ≡ me.0.number) batch → Allows Rule slots id me 1 (λ n. (n + 1) % 2 ^ 64) (Counts batch (step slots 1 1 0 none) me)
  counts slots id me t h batch x one is lives carried st all s r deep at small =
      let hist : List E = joined r.batches in
      let batches' : List (List E) = r.batches ++ batch ∷ [] in
      let hist' : List E = joined batches' in
      let grows : hist' ≡ hist ++ batch = joined_push r.batches batch in
      let longer : length batches' ≡ length r.batches + 1 = length-append r.batches (batch ∷ []) in
      let w : View E = idle_with (me.0.list ++ batch) me.0 in
      let m : Moment E = moment r.owners r.batches s.views r.out in
      let m' : Moment E = moment r.owners batches' (set s.views id w) r.out in
      let knows = r.each id me.0 at in
      let mine : StageRule m id (Out t h) = subst (StageRule m id) is knows.stage in
      let own_id = knows.mine lives in
      let all' : All (λ e. belongs e ≡ id) batch = λ k d l. all k d l ∙ own_id.0 in
      let more : (n : ℕ) → id ≢ n → own belongs n hist' ≡ own belongs n hist = λ n other. ap (own belongs n) grows ∙ own_more belongs id n hist batch all' other in
      let kept : SpentStay belongs m m' = λ n p. (spent_stays m id m' w refl n me.0 at lives p, more n (spent_apart m id n me.0 at lives p)) in
      let same : SameCounts belongs m m' = (refl, length-set s.views id w, λ n p. spent_back m id m' w refl n lives p) in
      let was = holds_as me.0 (Out t h) lives is in
      let now = holds_as w Idle lives refl in (
        w,
        gives,
        tt,
        record {
          owners = r.owners;
          batches = batches';
          out = r.out;
          words = ap (λ ws. set ws 1 ((get_or ws 1 0 + 1) % two64)) r.words ∙ ap (λ n. in_word (length r.owners) ∷ n ∷ []) (mod-add-mod (length r.batches) two64 1 ∙ ap in_word (sym longer));
          tickets = (let a = total_set holds_ticket s.views id me.0 w at in let b = r.tickets in omega arith);
          living = (let a = total_set alive s.views id me.0 w at in let b = r.living in omega arith);
          few = r.few;
          part = inl (x, ap (λ c. homes_after s.homes c gives) carried ∙ set_only s.homes (some (Some x)) (deep ∙ one), subst (stands x) (ap (λ l. l ++ batch) mine.2 ∙ sym grows) st);
          each = views_ok _ s.views id w
              (changes belongs m m' id me.0 Idle (me.0.list ++ batch) lives tt
              (ap (own belongs id) grows ∙ (own_append belongs id hist batch ∙ (ap (λ l. l ++ own belongs id batch) own_id.1 ∙ ap (λ l. me.0.list ++ l) (own_all belongs id batch all')))) kept same knows)
              (λ j d other there. carries belongs m m' j d (moves r.owners r.batches batches' s.views (set s.views id w) r.out id t h j d.stage longer (λ e. other (sym e)) mine.0 mine.1) (λ _. more j (λ e. other (sym e))) kept (λ _. same) (r.each j d there));
          unmade = λ n l. (let q = length-set s.views id w in let i = inside s.views id me.0 at in more n (λ e. omega arith) ∙ r.unmade n (omega arith));
        },
        (refl, refl),
      )
    where
      le_after : (served t u n : ℕ) → t ≡ served → served ≤ u → t ≢ u → n ≡ served + 1 → n ≤ u
      le_after served t u n a b c d = omega arith

      moves : (owners : List ℕ) (bs bs' : List (List E)) (vs vs' : List (View E)) (out id t : ℕ) (h : List E) (j : ℕ) (st : Stage E) → length bs' ≡ length bs + 1 → id ≢ j → t ≡ length bs → get_elem? owners t ≡ some id
          → StageRule (moment owners bs vs out) j st → StageRule (moment owners bs' vs' out) j st
      moves owners bs bs' vs vs' out id t h j Idle longer apart first drew o = o
      moves owners bs bs' vs vs' out id t h j (Waits u) longer apart first drew o = (dite (ℕ_discrete t u) (λ e. absurd (apart (one_answer owners t u id j e drew o.1))) (λ e. let a = o.0 in le_after (length bs) t u (length bs') first a e longer), o.1)
      moves owners bs bs' vs vs' out id t h j (Out u k) longer apart first drew o = absurd (apart (one_answer owners t u id j (first ∙ sym o.0) drew o.1))

  pub splits : (id : ℕ) (v : View E) (l : Roster E) → is_idle v ≡ true → v.role ≡ First l → l.out < 4294967295 → Splits Rule id v (after_split v) (new_view v)
  splits id v l idle is room s r at =
      let left : View E = after_split v in
      let right : View E = new_view v in
      let vs : List (View E) = set s.views id left in
      let m : Moment E = moment r.owners r.batches s.views r.out in
      let half : Moment E = moment r.owners r.batches vs r.out in
      let m' : Moment E = moment r.owners r.batches (vs ++ right ∷ []) (r.out + 1) in
      let lives : alive v ≡ 1 = ap role_alive is in
      let long : length (vs ++ right ∷ []) ≡ length s.views + 1 = length-append vs (right ∷ []) ∙ ap (λ k. k + 1) (length-set s.views id left) in
      let knows = r.each id v at in
      let lead : RoleRule belongs m id v.stage (First l) = subst (RoleRule belongs m id v.stage) is knows.role in
      let left_role : left.role ≡ First (record { made = l.made + 1; out = l.out + 1; kept = l.kept }) = ap role_after_split is in
      let lives' : alive left ≡ 1 = ap role_alive left_role in
      let kept : SpentStay belongs m m' = λ n p. (let q = spent_stays m id half left refl n v at lives p in (q.0, at_longer vs (right ∷ []) n q.0 q.1, q.2), refl) in
      let back : (n : ℕ) → IsSpent m' n → IsSpent m n = λ n p. ⊎_elim (λ h. spent_back m id half left refl n lives' (p.0, h, p.2))
      (λ (h : (n ≡ length vs) × (right ≡ p.0)). absurd (differ 0 1 (omega arith) (sym (ap role_alive p.2) ∙ sym (ap alive h.1)))) (at_end vs right p.0 n p.1) in
      let was = holds_as v Idle lives (idle_is v.stage idle) in
      let now = holds_as left Idle lives' (idle_is v.stage idle) in
      let small : r.out < 4294967295 = let e = lead.2 in omega arith in
      record {
        owners = r.owners;
        batches = r.batches;
        out = r.out + 1;
        words = r.words;
        tickets = (let a = total_set holds_ticket s.views id v left at in let b = r.tickets in let c = total_push holds_ticket vs right in omega arith);
        living = (let a = total_set alive s.views id v left at in let b = r.living in let c = total_push alive vs right in omega arith);
        few = omega arith;
        part = part_longer s s.words vs right (joined r.batches) (part_stays s s.words (joined r.batches) id v left at (idle_low v idle) r.part);
        each = λ j d there. ⊎_elim
            (λ h. views_ok (Knows belongs m') s.views id left
            record {
              stage = stage_moves r.owners r.batches s.views (vs ++ right ∷ []) r.out (r.out + 1) id v.stage knows.stage;
              role = subst (RoleRule belongs m' id v.stage) (sym left_role) (lead.0, ap (λ k. k + 1) lead.1 ∙ sym long, ap (λ k. k + 1) lead.2, (λ i x near. let t = lead.3 i x near in (t.0, (kept _ t.1).0)), lead.4, λ n p. lead.5 n (back n p));
              mine = λ _. knows.mine lives;
            }
            (λ i e other at'. carries belongs m m' i e (stage_moves r.owners r.batches s.views (vs ++ right ∷ []) r.out (r.out + 1) i e.stage) (λ _. refl) kept (λ z. absurd (other (z ∙ sym lead.0))) (r.each i e at')) j d h)
            (λ (h : (j ≡ length vs) × (right ≡ d)).
            let here : j ≡ length s.views = h.0 ∙ length-set s.views id left in
            subst (Knows belongs m' j) h.1 record {
              stage = tt;
              role = (λ z. let i = inside s.views id v at in omega arith);
              mine = λ _. (ap made_of is ∙ (lead.1 ∙ sym here), r.unmade j (omega arith));
            })
            (at_end vs right d j there);
        unmade = λ n near. r.unmade n (let q = long in omega arith);
      }

  pub joins : (id : ℕ) (v : View E) (l : Roster E) (other : ℕ) (w : View E) → is_idle v ≡ true → is_idle w ≡ true → v.role ≡ First l → alive w ≡ 1 → Joins Rule id v other w (after_join v w) spent
  joins id v l other w idle idle' is lives' s r at apart there =
      let left : View E = after_join v w in
      let vs : List (View E) = set s.views id left in
      let us : List (View E) = set vs other spent in
      let m : Moment E = moment r.owners r.batches s.views r.out in
      let half : Moment E = moment r.owners r.batches vs r.out in
      let m' : Moment E = moment r.owners r.batches us (r.out - 1) in
      let lives : alive v ≡ 1 = ap role_alive is in
      let was_there : get_elem? s.views other ≡ some w = sym (set_else s.views id other left apart) ∙ there in
      let long : length us ≡ length s.views = length-set vs other spent ∙ length-set s.views id left in
      let knows = r.each id v at in
      let lead : RoleRule belongs m id v.stage (First l) = subst (RoleRule belongs m id v.stage) is knows.role in
      let left_role : left.role ≡ First (record { made = l.made; out = l.out - 1; kept = l.kept ++ (w.number, w.list) ∷ [] }) = ap (role_after_join w.number w.list) is in
      let left_lives : alive left ≡ 1 = ap role_alive left_role in
      let kept : SpentStay belongs m m' = λ n p. (spent_stays half other m' spent refl n w there lives' (spent_stays m id half left refl n v at lives p), refl) in
      let gone : IsSpent m' other = (spent, set_here vs other spent (inside vs other w there), refl) in
      let own_other = (r.each other w was_there).mine lives' in
      let was = holds_as v Idle lives (idle_is v.stage idle) in
      let now = holds_as left Idle left_lives (idle_is v.stage idle) in
      let was' = holds_as w Idle lives' (idle_is w.stage idle') in
      let two = total_two alive s.views id other v w at was_there (λ e. apart (sym e)) in
      let a = total_set alive s.views id v left at in
      let b = total_set alive vs other w spent there in
      let c = total_set holds_ticket s.views id v left at in
      let d = total_set holds_ticket vs other w spent there in
      let e = r.living in
      record {
        owners = r.owners;
        batches = r.batches;
        out = r.out - 1;
        words = r.words;
        tickets = (let f = r.tickets in omega arith);
        living = omega arith;
        few = (let f = r.few in omega arith);
        part = part_stays record { words = s.words; homes = s.homes; views = vs } s.words (joined r.batches) other w spent there (idle_low w idle')
            (part_stays s s.words (joined r.batches) id v left at (idle_low v idle) r.part);
        each = λ j x near. views_ok (Knows belongs m') vs other spent
            record { stage = tt; role = refl; mine = λ z. absurd (differ 0 1 (omega arith) z) }
            (λ i y far near'. views_ok (λ k z. k ≢ other → Knows belongs m' k z) s.views id left
            (λ _. record {
              stage = stage_moves r.owners r.batches s.views us r.out (r.out - 1) id v.stage knows.stage;
              role = subst (RoleRule belongs m' id v.stage) (sym left_role) (
                lead.0,
                lead.1 ∙ sym long,
                ap (λ k. k - 1) lead.2,
                All-append (λ (k : ℕ × List E). (own belongs k.0 (joined r.batches) ≡ k.1) × IsSpent m' k.0) l.kept ((w.number, w.list) ∷ [])
                    (λ i' x' near''. let t = lead.3 i' x' near'' in (t.0, (kept _ t.1).0))
                    (only_one (λ (k : ℕ × List E). (own belongs k.0 (joined r.batches) ≡ k.1) × IsSpent m' k.0) {a = (w.number, w.list)} (ap (λ k. own belongs k (joined r.batches)) own_other.0 ∙ own_other.1, subst (IsSpent m') (sym own_other.0) gone)),
                apart_push l.kept (w.number, w.list) lead.4 (let p = own_other.0 in let q = lead.0 in pos_of w.number (λ z. apart (sym p ∙ (z ∙ sym q))))
                    (λ i' x' near'' e'. spent_apart m other (slice_index_or l.kept i' x').0 w was_there lives' (lead.3 i' x' near'').1 (sym own_other.0 ∙ sym e')),
                λ n p. ⊎_elim (λ (h : (n ≡ other) × (spent ≡ p.0)). (length l.kept, w.list, at_last l.kept (w.number, w.list) (length l.kept) refl ∙ ap (λ (k : ℕ). some (k, w.list)) (own_other.0 ∙ sym h.0)))
                    (λ (h : (n ≢ other) × (get_elem? vs n ≡ some p.0)). let q = lead.5 n (spent_back m id half left refl n left_lives (p.0, h.1, p.2)) in (q.0, q.1, at_longer l.kept ((w.number, w.list) ∷ []) q.0 (n, q.1) q.2)) (at_set vs other n spent p.0 p.1),
              );
              mine = λ _. knows.mine lives;
            })
            (λ k z other' at' _. carries belongs m m' k z (stage_moves r.owners r.batches s.views us r.out (r.out - 1) k z.stage) (λ _. refl) kept (λ q. absurd (other' (q ∙ sym lead.0))) (r.each k z at')) i y near' far) j x near;
        unmade = λ n near. r.unmade n (let q = long in omega arith);
      }
