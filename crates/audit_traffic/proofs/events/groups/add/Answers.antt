use Rattle.std.proofs.Common.{◌≡◌, None, Some, [], ◌∷◌, ◌++◌, sym, ap, ◌∙◌}
use Rattle.std.specs.FinMap.{find}
use Rattle.std.specs.Map.{lookup, set_value}
use Rattle.someip_tables.specs.Endpoints.{endpoint_cmp}
use Rattle.someip_tables.proofs.Outcomes.{on_err}
use Rattle.audit_traffic.specs.events.FlowGroups.{AreApart, flows_in, is_same_source, lasts_of, source_of}
use Rattle.audit_traffic.proofs.about_events.AddedFlows.{joined_apart, kept_flows, kept_groups, known_by_source, one_more, set_updates}
use Rattle.audit_traffic.proofs.about_events.SourceLemmas.{flows_distinct, items_of}
use Rattle.audit_traffic.proofs.events.groups.add.Goals as goal

pub returns-in_err-push-clause-err : goal.returns-in_err-push-clause-err
returns-in_err-push-clause-err c =
    let found : lookup (is_same_source (source_of c.args.flow.now)) c.args.groups.now.entries ≡ Some c.in-Some.receivers.now = rw (← c.of-source.ensures) (sym c.in-Some.ensures.value) in
    let set : (c.get_mut.follows.lender c.push.new.self).entries ≡ set_value (is_same_source (source_of c.args.flow.now)) c.args.groups.now.entries c.push.new.self = rw (← c.of-source.ensures) (c.get_mut.follows.holds c.push.new.self).0 in
    on_err c.from_residual.result (ap flows_in set ∙ kept_flows (source_of c.args.flow.now) c.in-Some.receivers.now c.push.new.self c.args.groups.now.entries found c.in_err-push.ensures.items c.in-Some.ensures.unique)

pub returns-in_err-push-clause-flows : goal.returns-in_err-push-clause-flows
returns-in_err-push-clause-flows c =
    let found : lookup (is_same_source (source_of c.args.flow.now)) c.args.groups.now.entries ≡ Some c.in-Some.receivers.now = rw (← c.of-source.ensures) (sym c.in-Some.ensures.value) in
    let set : (c.get_mut.follows.lender c.push.new.self).entries ≡ set_value (is_same_source (source_of c.args.flow.now)) c.args.groups.now.entries c.push.new.self = rw (← c.of-source.ensures) (c.get_mut.follows.holds c.push.new.self).0 in
    rw set (kept_groups (source_of c.args.flow.now) c.in-Some.receivers.now c.push.new.self c.args.groups.now.entries found c.in_err-push.ensures.items c.in-Some.ensures.unique c.requires.flows)

pub returns-in-Some-clause-ok : goal.returns-in-Some-clause-ok
returns-in-Some-clause-ok c =
    let found : lookup (is_same_source (source_of c.args.flow.now)) c.args.groups.now.entries ≡ Some c.in-Some.receivers.now = rw (← c.of-source.ensures) (sym c.in-Some.ensures.value) in
    let set : (c.get_mut.follows.lender c.push.new.self).entries ≡ set_value (is_same_source (source_of c.args.flow.now)) c.args.groups.now.entries c.push.new.self = rw (← c.of-source.ensures) (c.get_mut.follows.holds c.push.new.self).0 in
    let items : c.push.new.self.items ≡ items_of (lookup (is_same_source (source_of c.args.flow.now)) c.args.groups.now.entries) ++ record { endpoint = c.args.flow.now.receiver; last = c.args.last } ∷ [] = rw found c.in_ok-push.ensures.items in
    let none : find endpoint_cmp c.args.flow.now.receiver (lasts_of (items_of (lookup (is_same_source (source_of c.args.flow.now)) c.args.groups.now.entries))) ≡ None =
    sym (known_by_source c.args.flow.now c.args.groups.now.entries c.in-Some.ensures.unique) ∙ c.requires.new in
    one_more (source_of c.args.flow.now) (record { endpoint = c.args.flow.now.receiver; last = c.args.last }) c.push.new.self c.args.groups.now.entries items none (c.get_mut.follows.lender c.push.new.self).entries
    c.in-Some.ensures.unique (c.get_mut.follows.holds c.push.new.self).4
    (λ q. ap (lookup (is_same_source q)) set ∙ set_updates (source_of c.args.flow.now) c.in-Some.receivers.now c.push.new.self c.args.groups.now.entries found q)

pub returns-in-Some-clause-flows : goal.returns-in-Some-clause-flows
returns-in-Some-clause-flows c =
    let found : lookup (is_same_source (source_of c.args.flow.now)) c.args.groups.now.entries ≡ Some c.in-Some.receivers.now = rw (← c.of-source.ensures) (sym c.in-Some.ensures.value) in
    let set : (c.get_mut.follows.lender c.push.new.self).entries ≡ set_value (is_same_source (source_of c.args.flow.now)) c.args.groups.now.entries c.push.new.self = rw (← c.of-source.ensures) (c.get_mut.follows.holds c.push.new.self).0 in
    let items : c.push.new.self.items ≡ items_of (lookup (is_same_source (source_of c.args.flow.now)) c.args.groups.now.entries) ++ record { endpoint = c.args.flow.now.receiver; last = c.args.last } ∷ [] = rw found c.in_ok-push.ensures.items in
    let none : find endpoint_cmp c.args.flow.now.receiver (lasts_of (items_of (lookup (is_same_source (source_of c.args.flow.now)) c.args.groups.now.entries))) ≡ None =
    sym (known_by_source c.args.flow.now c.args.groups.now.entries c.in-Some.ensures.unique) ∙ c.requires.new in
    let apart : AreApart (c.get_mut.follows.lender c.push.new.self).entries = rw set (joined_apart (source_of c.args.flow.now) (record { endpoint = c.args.flow.now.receiver; last = c.args.last }) c.push.new.self c.args.groups.now.entries items none c.requires.flows.apart) in
    record { apart = apart; distinct = flows_distinct (c.get_mut.follows.lender c.push.new.self).entries (c.get_mut.follows.holds c.push.new.self).4 apart }
