-- IDs compared as numbers.
use Rattle.std.proofs.Common.{◌≡◌, ◌+◌, ◌*◌, ap, ◌∙◌}
use Rattle.std.specs.Ordering.{nat_cmp, ordering_then}
use Rattle.audit_traffic.specs.declared.calls.call.AuditedCall.{AuditedCall}
use Rattle.audit_traffic.specs.calls.AuditedCalls.{ids_cmp}
use Rattle.audit_traffic.specs.calls.CallNumbers.{IsIds, ids_number}
use Rattle.someip_tables.proofs.about_hashed.NumberLemmas.{decides_65536, then_assoc}

pub ids_compared : (a b : AuditedCall) → IsIds a → IsIds b → nat_cmp (ids_number a) (ids_number b) ≡ ids_cmp a b
ids_compared a b va vb =
    decides_65536 ((a.service * 65536 + a.method) * 65536 + a.client) ((b.service * 65536 + b.method) * 65536 + b.client) a.session b.session va.3 vb.3
    ∙ ap (λ o. ordering_then o (nat_cmp a.session b.session)) (decides_65536 (a.service * 65536 + a.method) (b.service * 65536 + b.method) a.client b.client va.2 vb.2)
    ∙ ap (λ o. ordering_then (ordering_then o (nat_cmp a.client b.client)) (nat_cmp a.session b.session)) (decides_65536 a.service b.service a.method b.method va.1 vb.1)
    ∙ then_assoc (ordering_then (nat_cmp a.service b.service) (nat_cmp a.method b.method)) (nat_cmp a.client b.client) (nat_cmp a.session b.session)
    ∙ then_assoc (nat_cmp a.service b.service) (nat_cmp a.method b.method) (ordering_then (nat_cmp a.client b.client) (nat_cmp a.session b.session))
