use Rattle.std.proofs.Common.{not, rules}
use Rattle.std.specs.Ordering.{eq_by_cmp}
use Rattle.std.proofs.lemmas.Fn.{filter_same}
use Rattle.someip_tables.specs.Endpoints.{endpoint_cmp}
use Rattle.audit_traffic.proofs.events.receivers.forget_one.Goals as goal

pub returns-clause-left : goal.returns-clause-left
returns-clause-left c = filter_same _ (λ r. not (eq_by_cmp endpoint_cmp r.endpoint c.args.endpoint.now)) _ (λ x b f' k. search rules) _ _ c.retain.ensures.filtered
