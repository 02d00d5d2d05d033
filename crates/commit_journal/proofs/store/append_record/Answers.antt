use Rattle.std.proofs.Common.{◌≡◌, List, ℕ, Option, ap, refl, sym, subst, ◌∙◌, Bor}
use Rattle.std.specs.Prelude.{option_map}
use Rattle.zone_disk.specs.Image.{Stands}
use Rattle.commit_journal.specs.declared.records.Record.{Record}
use Rattle.commit_journal.specs.declared.records.Row.{Row}
use Rattle.commit_journal.specs.Bodies.{IsCommit}
use Rattle.commit_journal.specs.Store.{change_text, HasZones}
use Rattle.commit_journal.specs.Stored.{with_stored}
use Rattle.commit_journal.proofs.Kept.{any_moment, before_or_after, stores_more, zones_more}
use Rattle.commit_journal.proofs.store.append_record.Goals as goal

pub returns-in_err-append-clause-any_moment : goal.returns-in_err-append-clause-any_moment
returns-in_err-append-clause-any_moment g c = λ keeps rows has may.
    let z = c.args.name.now in
    let said = option_map (λ (r : Bor Row). r.now) c.args.row in
    let text : c.in_ok-body.body ≡ change_text z said = c.in_ok-body.ensures.text ∙ ap (change_text z) c.record_in.ensures.same in
    let is : IsCommit (record { zone = z; stored = said }) = subst (λ (o : Option Record). IsCommit (record { zone = z; stored = o })) c.record_in.ensures.same (c.in_ok-body.ensures.commit c.record_in.ensures.form) in
    any_moment c.args.bank.now.records rows z said has.leave is may c.in_ok-body.body text (g.D.Disk.view c.args.bank.now.disk) (g.D.Disk.view c.append.new.bank.disk) (c.append.ensures.any_moment keeps)

pub returns-in_err-append-clause-either : goal.returns-in_err-append-clause-either
returns-in_err-append-clause-either g c = λ keeps rows has may image now.
    let z = c.args.name.now in
    let said = option_map (λ (r : Bor Row). r.now) c.args.row in
    let text : c.in_ok-body.body ≡ change_text z said = c.in_ok-body.ensures.text ∙ ap (change_text z) c.record_in.ensures.same in
    let is : IsCommit (record { zone = z; stored = said }) = subst (λ (o : Option Record). IsCommit (record { zone = z; stored = o })) c.record_in.ensures.same (c.in_ok-body.ensures.commit c.record_in.ensures.form) in
    before_or_after c.args.bank.now.records rows z said has.leave is may c.in_ok-body.body text image (c.append.ensures.either keeps image now)

pub returns-clause-zones : goal.returns-clause-zones
returns-clause-zones g c = λ rows has may.
    let z = c.args.name.now in
    let said = option_map (λ (r : Bor Row). r.now) c.args.row in
    let text : c.in_ok-body.body ≡ change_text z said = c.in_ok-body.ensures.text ∙ ap (change_text z) c.record_in.ensures.same in
    let is : IsCommit (record { zone = z; stored = said }) = subst (λ (o : Option Record). IsCommit (record { zone = z; stored = o })) c.record_in.ensures.same (c.in_ok-body.ensures.commit c.record_in.ensures.form) in
    subst (λ (l : List (List ℕ)). HasZones l (with_stored z said rows)) (sym c.in_ok-append.ensures.records)
    (zones_more c.args.bank.now.records rows (with_stored z said rows) c.in_ok-body.body (record { zone = z; stored = said }) has is text may refl)

pub returns-clause-any_moment : goal.returns-clause-any_moment
returns-clause-any_moment g c = λ keeps rows has may.
    let z = c.args.name.now in
    let said = option_map (λ (r : Bor Row). r.now) c.args.row in
    let text : c.in_ok-body.body ≡ change_text z said = c.in_ok-body.ensures.text ∙ ap (change_text z) c.record_in.ensures.same in
    let is : IsCommit (record { zone = z; stored = said }) = subst (λ (o : Option Record). IsCommit (record { zone = z; stored = o })) c.record_in.ensures.same (c.in_ok-body.ensures.commit c.record_in.ensures.form) in
    any_moment c.args.bank.now.records rows z said has.leave is may c.in_ok-body.body text (g.D.Disk.view c.args.bank.now.disk) (g.D.Disk.view c.append.new.bank.disk) (c.append.ensures.any_moment keeps)

pub returns-clause-lasts : goal.returns-clause-lasts
returns-clause-lasts g c = λ keeps rows has may image now.
    let z = c.args.name.now in
    let said = option_map (λ (r : Bor Row). r.now) c.args.row in
    let text : c.in_ok-body.body ≡ change_text z said = c.in_ok-body.ensures.text ∙ ap (change_text z) c.record_in.ensures.same in
    let is : IsCommit (record { zone = z; stored = said }) = subst (λ (o : Option Record). IsCommit (record { zone = z; stored = o })) c.record_in.ensures.same (c.in_ok-body.ensures.commit c.record_in.ensures.form) in
    stores_more c.args.bank.now.records rows z said has.leave is may c.in_ok-body.body text image
    (subst (λ (l : List (List ℕ)). Stands image l) c.in_ok-append.ensures.records (c.append.ensures.settled c.in_ok-append.ensures.sound (c.append.ensures.model.0 keeps) image now))

pub returns-clause-either : goal.returns-clause-either
returns-clause-either g c = λ keeps rows has may image now.
    let z = c.args.name.now in
    let said = option_map (λ (r : Bor Row). r.now) c.args.row in
    let text : c.in_ok-body.body ≡ change_text z said = c.in_ok-body.ensures.text ∙ ap (change_text z) c.record_in.ensures.same in
    let is : IsCommit (record { zone = z; stored = said }) = subst (λ (o : Option Record). IsCommit (record { zone = z; stored = o })) c.record_in.ensures.same (c.in_ok-body.ensures.commit c.record_in.ensures.form) in
    before_or_after c.args.bank.now.records rows z said has.leave is may c.in_ok-body.body text image (c.append.ensures.either keeps image now)
