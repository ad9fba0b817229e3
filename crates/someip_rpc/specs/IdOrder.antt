-- The orders of Message IDs, of calls and of events are total, and only equal ones tie.
use Rattle.std.proofs.Common.{refl}
use Rattle.std.specs.Cmp.{IsTotalOrder}
use Rattle.std.proofs.lemmas.Map.Lookups.{CmpEqualImpliesEq}
use Rattle.someip_tables.specs.Orders.{KeyOrder, numbers, by_pair, by_parts}
use Rattle.someip_rpc.specs.Ids.{message_cmp, call_cmp, event_cmp}

pub messages : KeyOrder message_cmp
messages = by_parts (by_pair numbers numbers) (λ m. (m.service, m.method)) (λ p. record { service = p.0; method = p.1 }) (λ _. refl)

pub calls : KeyOrder call_cmp
calls = by_parts (by_pair messages numbers) (λ k. (k.message, k.session)) (λ p. record { message = p.0; session = p.1 }) (λ _. refl)

pub events : KeyOrder event_cmp
events = by_parts (by_pair numbers (by_pair numbers numbers)) (λ e. (e.service, (e.instance, e.event))) (λ p. record { service = p.0; instance = p.1.0; event = p.1.1 }) (λ _. refl)

pub messages_total : IsTotalOrder message_cmp
messages_total = messages.total

pub exact_messages : CmpEqualImpliesEq message_cmp
exact_messages = messages.exact

pub calls_total : IsTotalOrder call_cmp
calls_total = calls.total

pub exact_calls : CmpEqualImpliesEq call_cmp
exact_calls = calls.exact

pub events_total : IsTotalOrder event_cmp
events_total = events.total

pub exact_events : CmpEqualImpliesEq event_cmp
exact_events = events.exact
