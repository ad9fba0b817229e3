use Rattle.std.proofs.Common.{ap, ◌∙◌, length, rules}
use Rattle.std.proofs.lemmas.List.{length-map}
use Rattle.someip_tables.proofs.ChangedLemmas.{changed-entries}
use Rattle.audit_traffic.specs.events.FlowGroups.{once_changed, flows_in}
use Rattle.audit_traffic.specs.events.FlowKeys.{flow_cmp}
use Rattle.audit_traffic.specs.events.FlowOrder.{flows_total, exact_flows}
use Rattle.audit_traffic.proofs.about_events.ChangedGroups.{all_kept_apart, all_kept_changed, mapped_distinct}
use Rattle.audit_traffic.proofs.events.groups.disturb.Goals as goal

pub returns-clause-after : goal.returns-clause-after
returns-clause-after c =
    changed-entries flows_total exact_flows (once_changed c.args.client c.args.server c.args.service) (flows_in c.args.groups.now.entries) (flows_in c.retain.new.self.entries)
    (all_kept_changed _ _ (once_changed c.args.client c.args.server c.args.service) (λ source v b w f' t. search rules) _ _ c.retain.ensures.filtered)

pub returns-clause-count : goal.returns-clause-count
returns-clause-count c =
    ap length (all_kept_changed _ _ (once_changed c.args.client c.args.server c.args.service) (λ source v b w f' t. search rules) _ _ c.retain.ensures.filtered) ∙ length-map (flows_in c.args.groups.now.entries) _

pub returns-clause-flows : goal.returns-clause-flows
returns-clause-flows c = record {
  apart = all_kept_apart _ _ (once_changed c.args.client c.args.server c.args.service) (λ source v b w f' t. search rules) _ _ c.retain.ensures.filtered c.requires.apart;
  distinct =
      rw (all_kept_changed _ _ (once_changed c.args.client c.args.server c.args.service) (λ source v b w f' t. search rules) _ _ c.retain.ensures.filtered)
      (mapped_distinct flow_cmp (once_changed c.args.client c.args.server c.args.service) (flows_in c.args.groups.now.entries) c.requires.distinct);
}
