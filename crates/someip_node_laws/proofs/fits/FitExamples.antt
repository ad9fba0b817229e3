-- Numbers that are the last of their width, and the next ones.
use Rattle.std.proofs.Common.{ℕ, ◌+◌, true, List, [], ◌∷◌, arith, drop, Ok, refl, sym, subst}
use Rattle.std.specs.List.{Contains}
use Rattle.std.specs.BTreeMap.{BTreeMap}
use Rattle.std.specs.BTreeSet.{BTreeSet}
use Rattle.std.specs.declared.net.socket_addr.SocketAddrV4.{SocketAddrV4}
use Rattle.std.proofs.lemmas.List.Elements.{Contains-get_or}
use Rattle.someip_wire.specs.Faults.{length_field}
use Rattle.someip_wire.specs.Reading.{items_from, items_of, message_in}
use Rattle.someip_wire.proofs.DatagramLemmas.{items_from-message}
use Rattle.sd_wire.proofs.spelled.FieldLemmas.{IsBytes-literal}
use Rattle.someip_node_laws.specs.Fitting.{FitsOffer, FitsPacket, FitsWire}
use Rattle.someip_node_rules.specs.forms.Outputs.{Announces}
use Rattle.someip_node_laws.specs.WorkedExamples.{asking, instance, service}
use Rattle.someip_node_laws.proofs.fits.FitEntries.{front_none}
use Rattle.someip_node_laws.proofs.fits.FitPackets.{bytes_fit}

pub offer_fits : (events : BTreeMap ℕ (BTreeSet ℕ)) → FitsOffer (instance, record (service events) { ttl = 0xFFFFFF })
offer_fits events = record {
  instance = (omega arith, omega arith);
  service = omega arith;
  other = λ e. omega (arith, e);
  major = omega arith;
  minor = omega arith;
  ttl = omega arith;
  endpoint = ((refl, IsBytes-literal (192 ∷ 168 ∷ 0 ∷ 1 ∷ []) refl), omega arith);
}

pub none_announced : (from to : SocketAddrV4) → FitsWire (Announces from to (record { session = 0xFFFF; reboot = true }) [])
none_announced from to = (omega arith, front_none.0, front_none.1)

pub none_come : (from to : SocketAddrV4) → FitsPacket (record { from = from; to = to; bytes = [] })
none_come from to = bytes_fit (record { from = from; to = to; bytes = [] }) (IsBytes-literal [] refl)

-- sixteen numbers of which the first is no byte
abbrev numbers : List ℕ
numbers = 0x100 ∷ drop 1 (asking 0x21 0)

among : Contains (items_of numbers) (Ok (message_in numbers))
among =
    subst (λ xs. Contains xs (Ok (message_in numbers))) (sym (items_from-message 0 numbers (omega arith) refl))
    (Contains-get_or (Ok (message_in numbers) ∷ items_from (0 + (length_field numbers + 8)) (drop (length_field numbers + 8) numbers)) 0 (Ok (message_in numbers)) (omega arith))

pub no_bytes : (from to : SocketAddrV4) → FitsPacket (record { from = from; to = to; bytes = numbers }) → ⊥
no_bytes from to fits = let own = (fits.messages (message_in numbers) among).service in omega (arith, own)
