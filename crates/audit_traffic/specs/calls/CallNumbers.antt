-- The IDs of calls as numbers, by which they are compared at once.
use Rattle.std.specs.Prelude.{◌<◌, ℕ, ◌+◌, ◌*◌, List, ◌++◌}
use Rattle.std.specs.Hash as fed
use Rattle.someip_tables.specs.hashed.EndpointNumbers.{endpoint_number}
use Rattle.audit_traffic.specs.declared.calls.call.AuditedCall.{AuditedCall}

-- Message ID and Request ID
abbrev pub ids_number : AuditedCall → ℕ
ids_number call = ((call.service * 65536 + call.method) * 65536 + call.client) * 65536 + call.session

abbrev pub IsIds : AuditedCall → Type 0
IsIds call = (call.service < 65536) × (call.method < 65536) × (call.client < 65536) × (call.session < 65536)

-- what is hashed of a call: all but the Interface Version
abbrev pub call_fed : AuditedCall → List (List ℕ)
call_fed c = fed.u64 (ids_number c) ++ fed.u64 (endpoint_number c.from) ++ fed.u64 (endpoint_number c.to)
