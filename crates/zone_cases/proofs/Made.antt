-- A configuration without a flaw has a zonepath; what a commit records of a zone that is stored.
use Rattle.std.proofs.Common.{◌≡◌, ◌++◌, ◌∙◌, List, ℕ, Bool, true, false, Ok, IsSome, is_some, refl, ap, sym}
use Rattle.config_verify.specs.Flaws.{first, flaws, unless}
use Rattle.config_verify.specs.declared.flaw.Flaw.{Flaw}
use Rattle.config_verify.specs.declared.flaw.Flaw.TheVariants.{NoZonepath}
use Rattle.zone_config.specs.declared.terms.Contents.{Contents}
use Rattle.std.specs.Prelude.{[], ◌∷◌, None, Some, if◌then◌else◌}
use Rattle.commit_journal.specs.declared.records.Record.{Record}
use Rattle.config_terms.specs.Fields.{path_text}
use Rattle.zn_base.specs.Names.{Name}
use Rattle.zone_pools.specs.Decisions.{Ask}
use Rattle.zoneadmd_steps.specs.Arrivals.{A_record, record_asked}
use Rattle.zone_pools.specs.Asked.{Asked}
use Rattle.zn_base.specs.declared.state.ZoneState.TheVariants.{Configured}
use Rattle.zone_cases.specs.Code.Cases.{as_typist, base_by, made}
use Rattle.commit_journal.specs.Uuids.{uuid_of}
use Rattle.zone_cases.specs.Session.Commits.{goes_over, places_for, records, refuses, telling}
use Rattle.zone_cases.specs.State.Decisions.{Decision}
use Rattle.zone_cases.specs.declared.cases.Committer.{Committer}
use Rattle.zone_cases.specs.declared.cases.Novelty.TheVariants as novelty
use Rattle.zone_cases.specs.declared.replies.Head.TheVariants as head
use Rattle.zone_cases.specs.declared.replies.Refusal.TheVariants.{Denied}

no_flaw : (b : Bool) (rest : List Flaw) → first (unless b NoZonepath ++ rest) ≡ Ok tt → b ≡ true
no_flaw true rest h = refl
no_flaw false rest h = absurd (cc)

pub has_zonepath : (brands : List (List ℕ)) (c : Contents) → first (flaws brands c) ≡ Ok tt → IsSome c.zonepath
unfolding flaws
has_zonepath brands c h = no_flaw (is_some c.zonepath) _ h

-- the record takes its number, whether the path is new or not, and the configuration of the base is the one that is stored
module _ (told : List (List ℕ)) (c : Committer) where
  abbrev committed : (ℕ → Record) → List Asked → Contents → Decision
  committed row asked base =
      Ask (A_record (λ n. Some (row n))) (asked ++ record_asked (λ n. Some (row n)) ∷ []) (λ pool. refuses (as_typist c) (Denied pool) told) (λ n. telling (goes_over base n (as_typist c)) head.Ok told)

  pub changed_made : (kept : Bool) (z : Name) (row : Record) → base_by c row.config ≡ row.config
      → committed (λ n. record row { revision = n }) (places_for (if kept then novelty.Nothing else novelty.Path) (path_text row.config.zonepath)) row.config
      ≡ made (if kept then novelty.Nothing else novelty.Path) z row told c
  changed_made true z row base = ap (committed (λ n. record row { revision = n }) (places_for novelty.Nothing (path_text row.config.zonepath))) (sym base)
  changed_made false z row base = ap (committed (λ n. record row { revision = n }) (places_for novelty.Path (path_text row.config.zonepath))) (sym base)

  pub new_made : (z : Name) (row : Record) (config : Contents) → row.state ≡ Configured → row.config ≡ config → base_by c config ≡ config
      → records z None config told (as_typist c) ≡ made novelty.Zone z row told c
  new_made z row config state same base =
      let now : base_by c row.config ≡ config = ap (base_by c) same ∙ base in
      λ i. committed (λ n. record { state = sym state i; uuid = uuid_of z n; revision = n; config = sym same i }) (places_for novelty.Zone (path_text (sym same i).zonepath)) (sym now i)
