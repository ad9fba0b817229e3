-- The order of reassembly keys, as keys of tables.
use Rattle.std.proofs.Common.{ℕ, List, [], ◌∷◌, ◌++◌, refl}
use Rattle.std.specs.Hash as fed
use Rattle.std.specs.Net.Socket.{v4_ip, v4_port}
use Rattle.std.specs.Net.Addr.{ipv4_octets}
use Rattle.std.specs.declared.cmp.Ordering.{Ordering}
use Rattle.std.specs.Cmp.{IsTotalOrder}
use Rattle.std.proofs.lemmas.Map.Lookups.{CmpEqualImpliesEq}
use Rattle.someip_tables.specs.Orders.{KeyOrder, by_parts}
use Rattle.someip_reassembly.specs.declared.key.ReassemblyKey.{ReassemblyKey}
use Rattle.someip_reassembly.specs.Keys.{key_cmp}
use Rattle.someip_reassembly.proofs.KeyOrder.{keys}
use Rattle.audit_traffic.specs.declared.segments.key.MessageKey.{MessageKey}

abbrev pub message_key : ReassemblyKey → MessageKey
message_key key = record { 0 = key }

abbrev pub message_cmp : MessageKey → MessageKey → Ordering
message_cmp a b = key_cmp a.0 b.0

pub messages : KeyOrder message_cmp
messages = by_parts keys (λ k. k.0) message_key (λ _. refl)

pub messages_total : IsTotalOrder message_cmp
messages_total = messages.total

pub exact_messages : CmpEqualImpliesEq message_cmp
exact_messages = messages.exact

-- what is hashed of a key: its endpoints and its IDs
abbrev pub message_fed : MessageKey → List (List ℕ)
message_fed k =
    (ipv4_octets (v4_ip k.0.source) ∷ ipv4_octets (v4_ip k.0.destination) ∷ [])
    ++ fed.u16 (v4_port k.0.source) ++ fed.u16 (v4_port k.0.destination) ++ fed.u16 k.0.service ++ fed.u16 k.0.method ++ fed.u16 k.0.client ++ fed.u16 k.0.session
