-- The order of reassembly keys.
use Rattle.std.specs.Prelude.{◌≡◌, ℕ, Bool, List, [], ◌∷◌, slice_index, unwrap_or}
use Rattle.std.proofs.Common.{ap}
use Rattle.std.specs.declared.cmp.Ordering.{Ordering}
use Rattle.std.specs.Ordering.{nat_cmp, ordering_then, eq_by_cmp}
use Rattle.std.specs.Cmp.Lexicographic.{slice_cmp}
use Rattle.std.specs.Coded.{Coded, code_by, coded×, coded_ℕ, coded_list}
use Rattle.std.specs.declared.net.socket_addr.SocketAddrV4.{SocketAddrV4}
use Rattle.someip_tables.specs.Endpoints.{endpoint_cmp, coded_endpoint}
use Rattle.someip_wire.specs.declared.Header.{Header}
use Rattle.someip_wire.specs.declared.header.MessageType.{MessageType}
use Rattle.someip_wire.specs.declared.header.MessageType.TheVariants.{Request}
use Rattle.someip_wire.specs.Kinds.{kind_byte, kind_of}
use Rattle.someip_wire.proofs.MessageLemmas.{kind_of-kind_byte}
use Rattle.someip_reassembly.specs.declared.key.ReassemblyKey.{ReassemblyKey}

-- the key of the segments with this header that are sent from one endpoint to another: all of the header, which has
-- no Length
abbrev pub segment_key : SocketAddrV4 → SocketAddrV4 → Header → ReassemblyKey
segment_key source destination h =
    record {
      source = source;
      destination = destination;
      service = h.service;
      method = h.method;
      client = h.client;
      session = h.session;
      interface = h.interface;
      kind = h.kind;
      code = h.code;
    }

-- what a key has beside its endpoints, as numbers: Message ID, Request ID, Interface Version, type and Return Code
abbrev pub key_numbers : ReassemblyKey → List ℕ
key_numbers k = k.service ∷ k.method ∷ k.client ∷ k.session ∷ k.interface ∷ kind_byte k.kind ∷ k.code.0 ∷ []

-- by source, destination, and then by the numbers
abbrev pub key_cmp : ReassemblyKey → ReassemblyKey → Ordering
key_cmp a b = ordering_then (endpoint_cmp a.source b.source) (ordering_then (endpoint_cmp a.destination b.destination) (slice_cmp nat_cmp (key_numbers a) (key_numbers b)))

-- the two are one key
abbrev pub same_key : ReassemblyKey → ReassemblyKey → Bool
same_key = eq_by_cmp key_cmp

-- the key with these endpoints and numbers
abbrev pub key_of : SocketAddrV4 × (SocketAddrV4 × List ℕ) → ReassemblyKey
key_of p =
    record {
      source = p.0;
      destination = p.1.0;
      service = slice_index p.1.1 0;
      method = slice_index p.1.1 1;
      client = slice_index p.1.1 2;
      session = slice_index p.1.1 3;
      interface = slice_index p.1.1 4;
      kind = unwrap_or (kind_of (slice_index p.1.1 5)) Request;
      code = record { 0 = slice_index p.1.1 6 };
    }

pub kind_back : (kind : MessageType) → unwrap_or (kind_of (kind_byte kind)) Request ≡ kind
kind_back kind = ap (λ found. unwrap_or found Request) (kind_of-kind_byte kind)

pub key_back : (k : ReassemblyKey) → key_of (k.source, (k.destination, key_numbers k)) ≡ k
key_back k = ap (λ kind. record k { kind = kind }) (kind_back k.kind)

-- a key is stored as its endpoints and its numbers
abbrev pub coded_key : Coded ReassemblyKey
coded_key = code_by (SocketAddrV4 × (SocketAddrV4 × List ℕ)) (coded× coded_endpoint (coded× coded_endpoint (coded_list coded_ℕ))) (λ k. (k.source, (k.destination, key_numbers k))) key_of key_back
