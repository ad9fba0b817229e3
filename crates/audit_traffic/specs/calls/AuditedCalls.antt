-- What tells the calls of a recording apart (SOME/IP Protocol, "Message ID", "Request ID").
use Rattle.std.specs.declared.cmp.Ordering.{Ordering}
use Rattle.std.specs.Ordering.{nat_cmp, ordering_then}
use Rattle.std.specs.declared.net.socket_addr.SocketAddrV4.{SocketAddrV4}
use Rattle.someip_wire.specs.declared.header.Header.{Header}
use Rattle.someip_tables.specs.Endpoints.{endpoint_cmp}
use Rattle.audit_traffic.specs.declared.calls.call.AuditedCall.{AuditedCall}

-- the call that a REQUEST with this header opens, from one endpoint to another
abbrev pub asked_call : SocketAddrV4 → SocketAddrV4 → Header → AuditedCall
asked_call from to header = record {
  from = from;
  to = to;
  service = header.service;
  method = header.method;
  client = header.client;
  session = header.session;
  interface = header.interface;
}

-- the call that an answer with this header answers: it goes from the endpoint that was asked to the one that asked
abbrev pub answered_call : SocketAddrV4 → SocketAddrV4 → Header → AuditedCall
answered_call from to header = asked_call to from header

-- by Message ID and Request ID
abbrev pub ids_cmp : AuditedCall → AuditedCall → Ordering
ids_cmp a b =
    ordering_then (nat_cmp a.service b.service) (ordering_then (nat_cmp a.method b.method) (ordering_then (nat_cmp a.client b.client) (nat_cmp a.session b.session)))

-- by these, source, destination and Interface Version
abbrev pub call_cmp : AuditedCall → AuditedCall → Ordering
call_cmp a b = ordering_then (ids_cmp a b) (ordering_then (endpoint_cmp a.from b.from) (ordering_then (endpoint_cmp a.to b.to) (nat_cmp a.interface b.interface)))
