-- The order of the reassembly keys by their numbers is total, and only equal ones tie.
use Rattle.std.proofs.Common.{refl}
use Rattle.std.specs.declared.cmp.Ordering.{Ordering}
use Rattle.std.specs.Ordering.{nat_cmp, ordering_then}
use Rattle.std.specs.Cmp.{IsTotalOrder}
use Rattle.std.proofs.lemmas.Map.Lookups.{CmpEqualImpliesEq}
use Rattle.someip_tables.specs.Endpoints.{endpoint_cmp}
use Rattle.someip_tables.specs.Orders.{KeyOrder, numbers, by_pair, by_parts}
use Rattle.someip_tables.specs.EndpointOrder.{endpoints}
use Rattle.someip_rpc.specs.IdOrder.{messages}
use Rattle.someip_rpc.specs.Ids.{message_cmp}
use Rattle.someip_world_verdict.specs.declared.stream.Stream.{Stream}

-- by source, destination, Message ID, Client ID, session, Interface Version, type and Return Code
abbrev pub stream_cmp : Stream → Stream → Ordering
stream_cmp a b =
    ordering_then (endpoint_cmp a.source b.source)
    (ordering_then (endpoint_cmp a.destination b.destination)
    (ordering_then (message_cmp a.message b.message)
    (ordering_then (nat_cmp a.client b.client)
    (ordering_then (nat_cmp a.session b.session)
    (ordering_then (nat_cmp a.interface b.interface)
    (ordering_then (nat_cmp a.kind b.kind) (nat_cmp a.code b.code)))))))

pub streams : KeyOrder stream_cmp
streams =
    by_parts (by_pair endpoints (by_pair endpoints (by_pair messages (by_pair numbers (by_pair numbers (by_pair numbers (by_pair numbers numbers)))))))
    (λ s. (s.source, (s.destination, (s.message, (s.client, (s.session, (s.interface, (s.kind, s.code))))))))
    (λ p. record {
      source = p.0;
      destination = p.1.0;
      message = p.1.1.0;
      client = p.1.1.1.0;
      session = p.1.1.1.1.0;
      interface = p.1.1.1.1.1.0;
      kind = p.1.1.1.1.1.1.0;
      code = p.1.1.1.1.1.1.1;
    })
    (λ _. refl)

pub streams_total : IsTotalOrder stream_cmp
streams_total = streams.total

pub exact_streams : CmpEqualImpliesEq stream_cmp
exact_streams = streams.exact
