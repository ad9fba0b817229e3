use Rattle.std.proofs.Common.{◌≡◌, ◌++◌, map, not, ap, sym, subst, ◌∙◌}
use Rattle.someip_tables.specs.Retained.{retain}
use Rattle.someip_tables.specs.Tables.{map_of}
use Rattle.someip_tables.proofs.Outcomes.{on_err}
use Rattle.std.specs.List.Sorted.{IsStrictlySortedBy}
use Rattle.audit_services.specs.Places.{is_among}
use Rattle.audit_services.specs.Stays.{HasJust, IsBegun, ended_of}
use Rattle.audit_services.proofs.EntryLemmas.{begun_none, entries_passing, rest_passing}
use Rattle.audit_services.proofs.table.Table.end_at.Goals as goal

pub returns-in_err-keys-clause-err : goal.returns-in_err-keys-clause-err
returns-in_err-keys-clause-err g c = on_err c.from_residual.result (begun_none c.args.ended.now.items _)

pub returns-in_err-end_all-clause-err : goal.returns-in_err-end_all-clause-err
returns-in_err-end_all-clause-err g c =
    let m = map_of g.K.Ord.cmp c.args.self.now in
    let at = λ (key : g.row.K.Denot) (_ : _). is_among g.P.Ord.cmp c.args.place (g.K.Placed.places key) in
    let all = entries_passing g.met.K.Ord.total g.met.K.Key.exact m at c.deref.result.now (subst (IsStrictlySortedBy g.K.Ord.cmp) (sym c.deref.ensures.value) c.in_ok-keys.ensures.rises) (subst (HasJust m at) (sym c.deref.ensures.value) c.in_ok-keys.ensures.just) in
    on_err c.from_residual-in_err-end_all.result (subst (λ es. IsBegun c.args.ended.now.items c.end_all.new.ended.items (map (ended_of c.args.why c.args.at) es)) all c.in_err-end_all.ensures.err)

pub returns-clause-ok : goal.returns-clause-ok
returns-clause-ok g c =
    let m = map_of g.K.Ord.cmp c.args.self.now in
    let at = λ (key : g.row.K.Denot) (_ : _). is_among g.P.Ord.cmp c.args.place (g.K.Placed.places key) in
    let all = entries_passing g.met.K.Ord.total g.met.K.Key.exact m at c.deref.result.now (subst (IsStrictlySortedBy g.K.Ord.cmp) (sym c.deref.ensures.value) c.in_ok-keys.ensures.rises) (subst (HasJust m at) (sym c.deref.ensures.value) c.in_ok-keys.ensures.just) in
    c.in_ok-end_all.ensures.ok ∙ ap (λ es. c.args.ended.now.items ++ map (ended_of c.args.why c.args.at) es) all

pub returns-clause-left : goal.returns-clause-left
returns-clause-left g c =
    let m = map_of g.K.Ord.cmp c.args.self.now in
    let at = λ (key : g.row.K.Denot) (_ : _). is_among g.P.Ord.cmp c.args.place (g.K.Placed.places key) in
    c.in_ok-end_all.ensures.left ∙ rest_passing g.met.K.Ord.total g.met.K.Key.exact m at c.deref.result.now (subst (HasJust m at) (sym c.deref.ensures.value) c.in_ok-keys.ensures.just)
