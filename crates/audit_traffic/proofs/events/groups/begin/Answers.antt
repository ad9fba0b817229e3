use Rattle.std.proofs.Common.{◌≡◌, None, [], ◌∷◌, ◌++◌, refl, rules, subst, ◌∙◌}
use Rattle.std.specs.FinMap.{find}
use Rattle.std.specs.HashMap.{PutsEntry}
use Rattle.std.specs.Map.{lookup}
use Rattle.someip_tables.specs.Endpoints.{endpoint_cmp}
use Rattle.audit_traffic.specs.events.FlowGroups.{AreApart, is_same_source, lasts_of}
use Rattle.audit_traffic.proofs.about_events.AddedFlows.{begun_apart, one_more}
use Rattle.audit_traffic.proofs.about_events.SourceLemmas.{flows_distinct, items_of}
use Rattle.audit_traffic.proofs.events.groups.begin.Goals as goal

pub returns-clause-ok : goal.returns-clause-ok
returns-clause-ok c =
    let items : c.push.new.self.items ≡ items_of (lookup (is_same_source c.args.source) c.args.groups.now.entries) ++ c.args.receiver ∷ [] = rw c.requires.new (search rules) in
    let none : find endpoint_cmp c.args.receiver.endpoint (lasts_of (items_of (lookup (is_same_source c.args.source) c.args.groups.now.entries))) ≡ None = rw c.requires.new refl in
    one_more c.args.source c.args.receiver c.push.new.self c.args.groups.now.entries items none c.insert.new.self.entries c.requires.unique c.in_ok-insert.ensures.unique c.in_ok-insert.ensures.updates.0

pub returns-clause-flows : goal.returns-clause-flows
returns-clause-flows c =
    let items : c.push.new.self.items ≡ items_of (lookup (is_same_source c.args.source) c.args.groups.now.entries) ++ c.args.receiver ∷ [] = rw c.requires.new (search rules) in
    let none : find endpoint_cmp c.args.receiver.endpoint (lasts_of (items_of (lookup (is_same_source c.args.source) c.args.groups.now.entries))) ≡ None = rw c.requires.new refl in
    let put : PutsEntry is_same_source c.args.groups.now c.insert.new.self c.args.source c.push.new.self None = subst (PutsEntry is_same_source c.args.groups.now c.insert.new.self c.args.source c.push.new.self) (c.in_ok-insert.ensures.old ∙ c.requires.new) c.in_ok-insert.ensures.entries in
    let apart : AreApart c.insert.new.self.entries = begun_apart c.args.source c.args.receiver c.push.new.self c.args.groups.now.entries items none c.insert.new.self.entries put c.requires.flows.apart in
    record { apart = apart; distinct = flows_distinct c.insert.new.self.entries c.in_ok-insert.ensures.unique apart }
