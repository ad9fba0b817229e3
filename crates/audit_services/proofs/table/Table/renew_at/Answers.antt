use Rattle.std.proofs.Common.{◌≡◌, ap, sym, subst, ◌∙◌}
use Rattle.someip_tables.specs.Tables.{map_of}
use Rattle.audit_services.specs.Places.{is_among}
use Rattle.audit_services.specs.Stays.{HasJust}
use Rattle.audit_services.proofs.EntryLemmas.{set_at}
use Rattle.audit_services.proofs.table.Table.renew_at.Goals as goal

pub returns : goal.returns
returns g c =
    let m = map_of g.K.Ord.cmp c.args.self.now in
    set_at g.met.K.Ord.total g.met.K.Key.exact c.args.until (λ key. is_among g.P.Ord.cmp c.args.place (g.K.Placed.places key)) m (map_of g.K.Ord.cmp c.renew_all.new.self) c.deref.result.now
    (subst (HasJust m (λ key _. is_among g.P.Ord.cmp c.args.place (g.K.Placed.places key))) (sym c.deref.ensures.value) c.in_ok-keys.ensures.just) c.in_ok-renew_all.ensures
