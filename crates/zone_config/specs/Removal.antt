-- The removal of resources that match.
use Rattle.std.specs.Prelude.{ℕ, List, Bool, not, Result, Ok, Err, filter, option_map, slice_get, unwrap_or, if◌then◌else◌}
use Rattle.zn_base.specs.declared.values.Pair.{Pair}
use Rattle.config_terms.specs.declared.fault.ConfigFault.{ConfigFault}
use Rattle.config_terms.specs.declared.fault.ConfigFault.TheVariants.{NoMatch}
use Rattle.config_terms.specs.declared.terms.Kind.{Kind}
use Rattle.config_terms.specs.declared.terms.Resource.{Resource}
use Rattle.config_terms.specs.Edits.{empty}
use Rattle.config_terms.specs.Fields.{resource_shown}
use Rattle.config_terms.specs.Matches.{has_all}
use Rattle.zone_config.specs.declared.terms.Contents.{Contents}
use Rattle.zone_config.specs.Kinds.{by_kind}
use Rattle.zone_config.specs.Resources.{found, removed}

-- the resource of a kind at a place, or an empty one where there is none
abbrev pub resource_at : Kind → ℕ → Contents → Resource
resource_at k place c = by_kind k (λ A row. unwrap_or (option_map row.make (slice_get (row.list c) place)) (empty row.kind))

-- a configuration without the resource of a kind at a place
abbrev pub without_place : Kind → Contents → ℕ → Contents
without_place k c place = unwrap_or (option_map (λ r. r.1) (removed k place c)) c

-- a configuration without the resources of a kind that have all wanted pairs
abbrev pub without_matches : Kind → List Pair → Contents → Contents
without_matches k wanted c = by_kind k (λ A row. row.put (filter (λ x. not (has_all row.kind wanted (row.shown x))) (row.list c)) c)

-- whether the resource of a kind at a place has all wanted pairs
abbrev pub matches_at : Kind → List Pair → ℕ → Contents → Bool
matches_at k wanted place c = has_all k wanted (resource_shown (resource_at k place c))

-- a configuration without the resource of a kind at a place, where that has all wanted pairs
abbrev pub without_match_at : Kind → List Pair → ℕ → Contents → Contents
without_match_at k wanted place c = if matches_at k wanted place c then without_place k c place else c

-- an answer, with what it gives made into something else
abbrev pub given : {A B : Type 0} → (A → B) → Result A ConfigFault → Result B ConfigFault
given f (Ok x) = Ok (f x)
given f (Err fault) = Err fault

abbrev pub unless_none : Result ℕ ConfigFault → Contents → Result Contents ConfigFault
unless_none (Err NoMatch) c = Err NoMatch
unless_none answer c = Ok c

-- a configuration without the one resource of a kind that has all wanted pairs, or the refusal
abbrev pub without_found : Kind → List Pair → Contents → Result Contents ConfigFault
without_found k wanted c = given (without_place k c) (found k wanted c)

-- a configuration without all that have them, or the refusal where none has
abbrev pub without_all : Kind → List Pair → Contents → Result Contents ConfigFault
without_all k wanted c = unless_none (found k wanted c) (without_matches k wanted c)
