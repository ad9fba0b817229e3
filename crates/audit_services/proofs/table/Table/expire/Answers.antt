use Rattle.std.proofs.Common.{◌≡◌, ◌++◌, map, not, ap, sym, subst, ◌∙◌}
use Rattle.someip_tables.specs.Retained.{retain}
use Rattle.someip_tables.specs.Tables.{map_of}
use Rattle.someip_tables.proofs.Outcomes.{on_err}
use Rattle.std.specs.FinMap as finite
use Rattle.std.specs.List.Sorted.{IsStrictlySortedBy}
use Rattle.someip_tables.specs.Deadlines.{has_passed}
use Rattle.someip_tables.specs.Lastings.{expired}
use Rattle.audit_services.specs.declared.why.Why.TheVariants.{Expired}
use Rattle.audit_services.specs.Stays.{IsBegun, ended_of, entries_at}
use Rattle.audit_services.proofs.EntryLemmas.{entries_passing, just_keys, rest_passing}
use Rattle.audit_services.proofs.table.Table.expire.Goals as goal

pub returns-in_err-end_all-clause-err : goal.returns-in_err-end_all-clause-err
returns-in_err-end_all-clause-err g c =
    let m = map_of g.K.Ord.cmp c.args.self.now in
    let is : c.deref.result.now ≡ finite.keys (expired c.args.at m) = c.deref.ensures.value ∙ c.in_ok-keys.ensures.keys ∙ rw (← c.self.view_is) c.in_ok-expired.ensures in
    let just = just_keys g.met.K.Ord.total g.met.K.Key.exact m (λ _ lasting. has_passed c.args.at lasting.until) c.deref.result.now is in
    let all = entries_passing g.met.K.Ord.total g.met.K.Key.exact m (λ _ lasting. has_passed c.args.at lasting.until) c.deref.result.now (subst (IsStrictlySortedBy g.K.Ord.cmp) (sym c.deref.ensures.value) c.in_ok-keys.ensures.rises) just in
    on_err c.from_residual-in_err-end_all.result (subst (λ es. IsBegun c.args.ended.now.items c.end_all.new.ended.items (map (ended_of Expired c.args.at) es)) all (subst (λ n. IsBegun c.args.ended.now.items c.end_all.new.ended.items (map (ended_of Expired n) (entries_at m c.deref.result.now))) c.as_millis.ensures.value c.in_err-end_all.ensures.err))

pub returns-clause-ok : goal.returns-clause-ok
returns-clause-ok g c =
    let m = map_of g.K.Ord.cmp c.args.self.now in
    let is : c.deref.result.now ≡ finite.keys (expired c.args.at m) = c.deref.ensures.value ∙ c.in_ok-keys.ensures.keys ∙ rw (← c.self.view_is) c.in_ok-expired.ensures in
    let just = just_keys g.met.K.Ord.total g.met.K.Key.exact m (λ _ lasting. has_passed c.args.at lasting.until) c.deref.result.now is in
    let all = entries_passing g.met.K.Ord.total g.met.K.Key.exact m (λ _ lasting. has_passed c.args.at lasting.until) c.deref.result.now (subst (IsStrictlySortedBy g.K.Ord.cmp) (sym c.deref.ensures.value) c.in_ok-keys.ensures.rises) just in
    c.in_ok-end_all.ensures.ok ∙ ap (λ n. c.args.ended.now.items ++ map (ended_of Expired n) (entries_at m c.deref.result.now)) c.as_millis.ensures.value ∙ ap (λ es. c.args.ended.now.items ++ map (ended_of Expired c.args.at) es) all

pub returns-clause-left : goal.returns-clause-left
returns-clause-left g c =
    let m = map_of g.K.Ord.cmp c.args.self.now in
    let is : c.deref.result.now ≡ finite.keys (expired c.args.at m) = c.deref.ensures.value ∙ c.in_ok-keys.ensures.keys ∙ rw (← c.self.view_is) c.in_ok-expired.ensures in
    c.in_ok-end_all.ensures.left ∙ rest_passing g.met.K.Ord.total g.met.K.Key.exact m (λ _ lasting. has_passed c.args.at lasting.until) c.deref.result.now (just_keys g.met.K.Ord.total g.met.K.Key.exact m (λ _ lasting. has_passed c.args.at lasting.until) c.deref.result.now is)
