-- The orders of Message IDs, of calls and of events, and their codes.
use Rattle.std.specs.Prelude.{ℕ, refl}
use Rattle.std.specs.declared.cmp.Ordering.{Ordering}
use Rattle.std.specs.Ordering.{nat_cmp, ordering_then}
use Rattle.std.specs.Coded.{Coded, code_by, coded×, coded_ℕ}
use Rattle.someip_rpc.specs.declared.ids.MessageId.{MessageId}
use Rattle.someip_rpc.specs.declared.ids.CallKey.{CallKey}
use Rattle.someip_rpc.specs.declared.ids.EventId.{EventId}

-- by Service ID, and then by Method ID
abbrev pub message_cmp : MessageId → MessageId → Ordering
message_cmp a b = ordering_then (nat_cmp a.service b.service) (nat_cmp a.method b.method)

-- by Message ID, and then by Session ID
abbrev pub call_cmp : CallKey → CallKey → Ordering
call_cmp a b = ordering_then (message_cmp a.message b.message) (nat_cmp a.session b.session)

-- by Service ID, then by Instance ID, and then by Event ID
abbrev pub event_cmp : EventId → EventId → Ordering
event_cmp a b = ordering_then (nat_cmp a.service b.service) (ordering_then (nat_cmp a.instance b.instance) (nat_cmp a.event b.event))

-- codes, by which a proof tells values apart
abbrev pub coded_message : Coded MessageId
coded_message = code_by (ℕ × ℕ) (coded× coded_ℕ coded_ℕ) (λ m. (m.service, m.method)) (λ p. record { service = p.0; method = p.1 }) (λ _. refl)

abbrev pub coded_call : Coded CallKey
coded_call = code_by (MessageId × ℕ) (coded× coded_message coded_ℕ) (λ k. (k.message, k.session)) (λ p. record { message = p.0; session = p.1 }) (λ _. refl)

abbrev pub coded_event : Coded EventId
coded_event =
    code_by (ℕ × (ℕ × ℕ)) (coded× coded_ℕ (coded× coded_ℕ coded_ℕ)) (λ e. (e.service, (e.instance, e.event))) (λ p. record { service = p.0; instance = p.1.0; event = p.1.1 })
    (λ _. refl)
