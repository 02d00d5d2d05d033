-- Histories in two parts. So the record of a run is one legal history.
use Rattle.std.proofs.Common.{◌≡◌, ◌&&◌, ◌∷◌, ◌++◌, [], List, true, ap, sym, ◌∙◌, refl}
use Rattle.std.proofs.lemmas.Bool.{and_from, and_parts}
use Rattle.brand_hooks.specs.Brands.{Tabled}
use Rattle.commit_journal.specs.declared.records.Commit.{Commit}
use Rattle.zone_cases.specs.State.{State}
use Rattle.zone_cases.specs.declared.events.Declaration.{Declaration}
use Rattle.zone_cases.specs.declared.events.Entry.{Entry}
use Rattle.zone_machine.specs.Machine.{opening}
use Rattle.zone_machine.specs.Machine.Histories.{after, after_entry, is_allowed, is_legal, is_told}
use Rattle.session_records.specs.Records.{Declares, IsPartial, IsRecord, IsRunPartial, IsRunRecord, Scripts}

pub after-append : (S : State) (g h : List Entry) → after S (g ++ h) ≡ after (after S g) h
after-append S [] h = refl
after-append S (e ∷ g) h = after-append (after_entry S e) g h

pub legal-append : (S : State) (g h : List Entry) → is_legal S g ≡ true → is_legal (after S g) h ≡ true → is_legal S (g ++ h) ≡ true
legal-append S [] h is more = more
legal-append S (e ∷ g) h is more =
    let parts = and_parts (is_told S e && is_allowed S e.event e.grant) (is_legal (after_entry S e) g) is in and_from _ _ parts.0 (legal-append (after_entry S e) g h parts.1 more)

pub legal-run : (brands : List Tabled) (R : List Commit) (declared : List Declaration) (scripts : Scripts) (h : List Entry) → IsRunRecord brands R declared scripts h → is_legal (opening brands R) h ≡ true
legal-run brands R declared scripts h r = ap (is_legal (opening brands R)) r.whole ∙ legal-append (opening brands R) r.first r.rest r.legal r.follows.legal

pub legal-part : (brands : List Tabled) (R : List Commit) (declared : List Declaration) (scripts : Scripts) (h : List Entry) → IsRunPartial brands R declared scripts h → is_legal (opening brands R) h ≡ true
legal-part brands R declared scripts h r = ap (is_legal (opening brands R)) r.whole ∙ legal-append (opening brands R) r.first r.rest r.legal r.follows.legal
