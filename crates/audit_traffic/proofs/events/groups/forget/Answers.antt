use Rattle.std.proofs.Common.{ap, ◌∙◌, not, rules}
use Rattle.someip_tables.proofs.Entries.{distinct-filter}
use Rattle.someip_tables.specs.Tables.{map_of}
use Rattle.someip_tables.proofs.Trees.{map_of-filter_keys}
use Rattle.audit_traffic.specs.events.EventRules.{is_at}
use Rattle.audit_traffic.specs.events.FlowGroups.{flows_in}
use Rattle.audit_traffic.specs.events.FlowKeys.{flow_cmp}
use Rattle.audit_traffic.specs.events.FlowOrder.{flows_total, exact_flows}
use Rattle.audit_traffic.proofs.about_events.ChangedGroups.{all_filtered, all_filtered_apart, filtered_le}
use Rattle.audit_traffic.proofs.events.groups.forget.Goals as goal

pub returns-clause-after : goal.returns-clause-after
returns-clause-after c =
    ap (map_of flow_cmp) (all_filtered _ _ (λ flow. not (is_at c.args.address flow)) (λ source v b w f' t. search rules) _ _ c.retain.ensures.filtered)
    ∙ map_of-filter_keys flows_total exact_flows (λ flow. not (is_at c.args.address flow)) (flows_in c.args.groups.now.entries)

pub returns-clause-count : goal.returns-clause-count
returns-clause-count c =
    rw (all_filtered _ _ (λ flow. not (is_at c.args.address flow)) (λ source v b w f' t. search rules) _ _ c.retain.ensures.filtered)
    (filtered_le (λ e. not (is_at c.args.address e.0)) (flows_in c.args.groups.now.entries))

pub returns-clause-flows : goal.returns-clause-flows
returns-clause-flows c = record {
  apart = all_filtered_apart _ _ (λ flow. not (is_at c.args.address flow)) (λ source v b w f' t. search rules) _ _ c.retain.ensures.filtered c.requires.apart;
  distinct =
      rw (all_filtered _ _ (λ flow. not (is_at c.args.address flow)) (λ source v b w f' t. search rules) _ _ c.retain.ensures.filtered)
      (distinct-filter flows_total exact_flows (λ e. not (is_at c.args.address e.0)) (flows_in c.args.groups.now.entries) c.requires.distinct);
}
