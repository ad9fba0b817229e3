-- The IDs of flows as numbers, by which they are compared at once, and what a hash is made of.
use Rattle.std.specs.Prelude.{ℕ, ◌+◌, ◌*◌, ◌<◌, List, ◌++◌}
use Rattle.std.specs.Hash as fed
use Rattle.std.specs.declared.cmp.Ordering.{Ordering}
use Rattle.std.specs.Ordering.{nat_cmp, ordering_then}
use Rattle.someip_tables.specs.hashed.EndpointNumbers.{endpoint_number}
use Rattle.audit_stats.specs.declared.keys.Call.{Call}
use Rattle.audit_stats.specs.declared.keys.Flow.{Flow}

-- by service, and then by method or event
abbrev pub ids_cmp : Flow → Flow → Ordering
ids_cmp a b = ordering_then (nat_cmp a.service b.service) (nat_cmp a.method b.method)

-- both as one number
abbrev pub ids_number : Flow → ℕ
ids_number f = f.service * 65536 + f.method

abbrev pub IsIds : Flow → Type 0
IsIds f = (f.service < 65536) × (f.method < 65536)

-- what the hash of a call is made of: its IDs as one number, and its endpoints
abbrev pub call_fed : Call → List (List ℕ)
call_fed c =
    fed.u64 (ids_number c.flow * 65536 * 65536 + (c.client * 65536 + c.session)) ++ (fed.u64 (endpoint_number c.flow.from) ++ fed.u64 (endpoint_number c.flow.to))
