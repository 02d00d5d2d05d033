-- The trail of a request, from its begin.
use Rattle.brand_hooks.specs.Brands.{Tabled, tabled_names}
use Rattle.commit_journal.specs.declared.records.Record.{Record}
use Rattle.config_verify.specs.Flaws.{first, flaws}
use Rattle.config_verify.specs.declared.flaw.Flaw.{Flaw}
use Rattle.datalink_table.specs.declared.claims.Claim.{Claim}
use Rattle.priv_sets.specs.Limit.{limit_of}
use Rattle.priv_sets.specs.declared.limit.PrivFault.{PrivFault}
use Rattle.std.proofs.Common.{Result, Ok, Err}
use Rattle.std.proofs.Common.{◌≡◌, ℕ, ◌+◌, List, [], ◌∷◌, ◌++◌, map, not, Bool, true, false, ◌||◌, ◌&&◌, suc, length, Option, Some, None, if◌then◌else◌, ap, sym, refl, subst, ◌∙◌, inl, inr, true≢false, arith, length-append}
use Rattle.std.proofs.lemmas.List.Folds.{list_any-append}
use Rattle.std.proofs.lemmas.List.{length-map}
use Rattle.std.specs.List.{list_any}
use Rattle.zn_base.specs.declared.state.ZoneState.{ZoneState}
use Rattle.zone_config.specs.declared.terms.Contents.{Contents}
use Rattle.zone_pools.specs.Decisions.{Just}
use Rattle.zone_pools.specs.Pools.{or_else}
use Rattle.zoneadmd_laws.proofs.Answering.{Ended, In, in_after, kept_now}
use Rattle.zoneadmd_laws.proofs.Running.{Begun, brands_stay, killed_ended, killed_next, plan_kills, run_told, told_ended, told_next}
use Rattle.zoneadmd_laws.specs.Afters.{After, after}
use Rattle.zoneadmd_laws.specs.Trails.{All_done, Begins, Ends, IsFront, IsRun, Moment, One_failed, So_far, Tells, Trail, are_free, bare_reply, in_full, is_done, is_stuck, is_well, result, told, with_steps}
use Rattle.zoneadmd_steps.specs.Desks.{Desk, state_now}
use Rattle.zoneadmd_steps.specs.Plans.{halt_part, is_limited, is_verified, kind_of, may_begin, plan, refusal, unlimited, unverified}
use Rattle.zoneadmd_steps.specs.Turns.{Seen, begin, local_turn, no_progress, started, turn}
use Rattle.zoneadmd_steps.specs.declared.requests.Outcome.TheVariants.{Done, WrongState}
use Rattle.zoneadmd_steps.specs.declared.requests.Outcome.{Outcome}
use Rattle.zoneadmd_steps.specs.declared.requests.Request.TheVariants as request
use Rattle.zoneadmd_steps.specs.declared.requests.Request.{Request}
use Rattle.zoneadmd_steps.specs.declared.requests.RequestKind.TheVariants as kind
use Rattle.zoneadmd_steps.specs.declared.requests.RequestKind.{RequestKind}
use Rattle.zoneadmd_steps.specs.declared.requests.Step.{Step}
use Rattle.zoneadmd_steps.specs.declared.requests.TurnReply.TheVariants.{Began, Finished, Stepped, Undone}
use Rattle.zoneadmd_steps.specs.declared.requests.TurnReply.{TurnReply}

-- a zone with requests that wait and none under way
abbrev at_rest : Seen → ℕ → Request → List (ℕ × Request) → Record → Seen
at_rest w t r rs row = record w { desk = record w.desk { job = None; waiting = (t, r) ∷ rs }; stored = Some row }

turn_begins : (w : Seen) (t : ℕ) (r : Request) (rs : List (ℕ × Request)) (row : Record)
    → turn (at_rest w t r rs row) ≡ Just (begin w.brands (record w.desk { job = None; waiting = rs }) t r row)
unfolding turn local_turn
turn_begins w t r rs row = refl

module _ (t : ℕ) (r : Request) (row : Record) (m : Moment) (ms : List Moment) (run : IsRun t r row m ms) where
  abbrev v : Seen
  v = at_rest m.seen t r run.others row

  same : m.seen ≡ v
  same i = record m.seen { desk = record m.seen.desk { job = run.idle i; waiting = run.first i }; stored = run.stored i }

  abbrev s : ZoneState
  s = state_now row m.seen.desk

  abbrev d : Desk
  d = record m.seen.desk { job = None; waiting = run.others }

  by_begin : (P : After → Type 0) → In P v (Just (started m.seen.brands d t r s row (refusal m.seen.brands (kind_of r) s row.config))) → P (result m)
  by_begin P p = subst (λ w. P (after (turn w) m.grant w)) (sym same) (in_after P v (turn v) m.grant (subst (In P v) (sym (turn_begins m.seen t r run.others row)) p))

  pub trail : Trail m.seen.brands t r s row.config (m ∷ ms)
  trail = at_refusal (refusal m.seen.brands (kind_of r) s row.config) refl
    where
      at_refusal : (o : Option Outcome) → refusal m.seen.brands (kind_of r) (state_now row m.seen.desk) row.config ≡ o → Trail m.seen.brands t r (state_now row m.seen.desk) row.config (m ∷ ms)
      at_refusal (Some o) e =
          let is = by_begin (Ended o t) (subst (λ x. In (Ended o t) v (Just (started m.seen.brands d t r s row x))) (sym e) (record { reply = refl; job = refl })) in
          record {
            dirs = [];
            claims = [];
            killed = killed_ended [] [] m ms t o is run.goes;
            told = inl (o, e, ([], ap (λ rs. rs ++ []) (told_ended m ms t o is run.goes)));
          }
      at_refusal None e =
          let steps = plan r s row.config in
          let is = by_begin (Begun t r (kept_now m.seen.brands r row.config) steps) (subst (λ x. In (Begun t r (kept_now m.seen.brands r row.config) steps) v (Just (started m.seen.brands d t r s row x))) (sym e) (record { reply = refl; job = refl })) in
          let rest = run_told m.seen.brands (m ∷ ms) ms (λ k is. inr is) false (result m).seen (brands_stay (turn m.seen) m.grant m.seen) t r (kept_now m.seen.brands r row.config) no_progress steps is.job (plan_kills r s row.config) run.goes in
          record {
            dirs = rest.ds;
            claims = rest.cs;
            killed = killed_next rest.ds rest.cs m ms (Began t (kind_of r)) is.reply refl (rest.killed refl);
            told = inr (told ms, e, told_next m ms (Began t (kind_of r)) is.reply refl, rest.tells);
          }

-- a check that fails isn't a good end
unverified-fault : (f : Result (Unit {0}) Flaw) (p : Result (List ℕ) PrivFault) (o : Outcome) → or_else (unverified f) (unlimited p) ≡ Some o → is_done o ≡ false
unverified-fault (Ok x) (Ok set) o e = cc
unverified-fault (Ok x) (Err f) o e = cc
unverified-fault (Err f) p o e = cc

pub refusal_fault : (brands : List Tabled) (k : RequestKind) (s : ZoneState) (c : Contents) (o : Outcome) → refusal brands k s c ≡ Some o → is_done o ≡ false
refusal_fault brands k s c o e = go (may_begin k s) (is_verified k s) (is_limited k s) (first (flaws (tabled_names brands) c)) (limit_of c.limitpriv) e
  where
    go : (a b l : Bool) (f : Result (Unit {0}) Flaw) (p : Result (List ℕ) PrivFault) → (if a then or_else (if b then unverified f else None) (if l then unlimited p else None) else Some (WrongState s)) ≡ Some o → is_done o ≡ false
    go false b l f p e = cc
    go true true true f p e = unverified-fault f p o e
    go true true false f p e = unverified-fault f (Ok []) o e
    go true false true f p e = unverified-fault (Ok tt) p o e
    go true false false f p e = unverified-fault (Ok tt) (Ok []) o e

ill_steps : (steps : List Step) → list_any is_well (map Stepped steps) ≡ false
ill_steps [] = refl
ill_steps (s ∷ steps) = ill_steps steps

ill_undone : (steps : List Step) (t : ℕ) (o : Outcome) → is_done o ≡ false → list_any is_well (map Undone steps ++ Finished t o ∷ []) ≡ false
ill_undone [] t o h = ap (λ b. b || false) h
ill_undone (s ∷ steps) t o h = ill_undone steps t o h

ill_front : (rs all : List TurnReply) → IsFront rs all → list_any is_well all ≡ false → list_any is_well rs ≡ false
ill_front rs all (rest, e) h = go (list_any is_well rs) (sym (list_any-append is_well rs rest) ∙ (ap (list_any is_well) e ∙ h))
  where
    go : (b : Bool) → (b || list_any is_well rest) ≡ false → b ≡ false
    go true e = e
    go false e = refl

ill_both : (rs more : List TurnReply) → list_any is_well rs ≡ false → list_any is_well more ≡ false → list_any is_well (rs ++ more) ≡ false
ill_both rs more h h' = list_any-append is_well rs more ∙ (λ i. h i || h' i)

-- what ends well tells all steps, and one reply more
ends_length : (t : ℕ) (more : List TurnReply) → IsFront more (Finished t Done ∷ []) → list_any is_well more ≡ true → length more ≡ 1
ends_length t [] front h = absurd (true≢false (sym h))
ends_length t (x ∷ more) (rest, e) h = omega (arith, ap length e, length-append more rest)

well_told : (t : ℕ) (steps : List Step) (rs : List TurnReply) → Tells t no_progress steps (Ends t) rs → list_any is_well rs ≡ true → length rs ≡ length steps + 1
well_told t steps rs (So_far front) h = absurd (true≢false (sym h ∙ ill_front rs _ front (ill_steps steps)))
well_told t steps rs (All_done more e front) h =
    let well : list_any is_well more ≡ true = ap (λ b. b || list_any is_well more) (sym (ill_steps steps)) ∙ (sym (list_any-append is_well (map Stepped steps) more) ∙ (ap (list_any is_well) (sym e) ∙ h)) in
    let last = ends_length t more front well in
    ap length e ∙ omega (arith, last, length-append (map Stepped steps) more, length-map steps Stepped)
well_told t steps rs (One_failed front s rest o more e f e' is) h =
    absurd (true≢false (sym h ∙ (ap (list_any is_well) e' ∙ ill_both (map Stepped front) more (ill_steps front) (ill_front more _ is (ill_undone (with_steps front no_progress).made t o f)))))

halt_length : (ds : List (List ℕ)) (cs : List Claim) → length (in_full ds cs halt_part) ≡ 8 + length ds + length cs
halt_length ds cs = simp (length-append, length-map) (omega arith)

begun_length : (brands : List Tabled) (t : ℕ) (ds : List (List ℕ)) (cs : List Claim) (s : ZoneState) (c : Contents) (rs : List TurnReply) → Begins brands t request.Halt ds cs s c (Ends t) rs → list_any is_well rs ≡ true
    → length rs ≡ 10 + length ds + length cs
begun_length brands t ds cs s c rs (inl x) h = absurd (true≢false (sym h ∙ ill_front rs _ x.2 (ap (λ b. b || false) (refusal_fault brands kind.Halt s c x.0 x.1))))
begun_length brands t ds cs s c rs (inr x) h =
    let n = well_told t (in_full ds cs halt_part) x.0 x.3 (ap (list_any is_well) (sym x.2) ∙ h) in
    ap length x.2 ∙ omega (arith, n, halt_length ds cs)

-- turns that aren't stuck are all told
pub free_told : (ms : List Moment) → are_free ms ≡ true → length (told ms) ≡ length ms
free_told [] h = refl
free_told (m ∷ ms) h = go (is_stuck (result m).reply) h (free_told ms)
  where
    go : (b : Bool) → (not b && are_free ms) ≡ true → (are_free ms ≡ true → length (told ms) ≡ length ms) → length (if b then told ms else bare_reply (result m).reply ∷ told ms) ≡ length (m ∷ ms)
    go true h f = absurd (true≢false (sym h))
    go false h f = ap suc (f h)

pub halt_counted : (t : ℕ) (row : Record) (m : Moment) (ms : List Moment) (run : IsRun t request.Halt row m ms) → are_free (m ∷ ms) ≡ true → list_any is_well (told (m ∷ ms)) ≡ true
    → let x = trail t request.Halt row m ms run in length (m ∷ ms) ≡ 10 + length x.dirs + length x.claims
halt_counted t row m ms run free well =
    let x = trail t request.Halt row m ms run in
    sym (free_told (m ∷ ms) free) ∙ begun_length m.seen.brands t x.dirs x.claims (state_now row m.seen.desk) row.config (told (m ∷ ms)) x.told well
