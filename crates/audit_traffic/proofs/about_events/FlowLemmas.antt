-- The flows of one event.
use Rattle.std.proofs.Common.{◌≡◌, ◌==◌, Bool, true, false, ◌&&◌, refl}
use Rattle.std.specs.Ordering.{eq_by_cmp}
use Rattle.someip_tables.specs.Endpoints.{endpoint_cmp}
use Rattle.someip_tables.specs.EndpointOrder.{endpoints_total}
use Rattle.someip_tables.proofs.Entries.{own_test}
use Rattle.audit_traffic.specs.declared.events.flow.EventFlow.{EventFlow}
use Rattle.audit_traffic.specs.events.EventRules.{is_other}

-- a flow is no other one than itself
pub not_its_own : (flow : EventFlow) → is_other flow flow ≡ false
not_its_own flow = rw (own_test endpoints_total flow.receiver) (cases (eq_by_cmp endpoint_cmp flow.sender flow.sender) (flow.service == flow.service) (flow.event == flow.event))
  where
    cases : (a b c : Bool) → (a && (b && (c && false))) ≡ false
    cases true true true = refl
    cases true true false = refl
    cases true false c = refl
    cases false b c = refl
