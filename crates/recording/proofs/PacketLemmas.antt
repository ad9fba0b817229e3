-- What an IPv4 packet carries, by where it stands in the bytes of IPv4.
use Rattle.std.proofs.Common.{◌≡◌, ℕ, ◌+◌, ◌-◌, ◌≤◌, ◌<◌, ◌*◌, ◌%◌, ◌/◌, true, false, List, [], length, drop, Option, Some, None, Ok, Err, refl, sym, ap, ◌∙◌, arith}
use Rattle.std.specs.Prelude.{slice_range, slice_index, nat_le}
use Rattle.recording.specs.declared.time.Time.{Time}
use Rattle.recording.specs.Numbers.{network16}
use Rattle.recording.specs.Packets.{DatagramValue, CarriedValue, datagram, network_place, header_len, total_len, ipv4_fault, ipv4_of, ipv4_at, ipv4_in, ipv4_from, or_skipped, udp_len, datagram_of, carried_by, carried_from, carried_in}
use Rattle.recording.proofs.RangeLemmas.{range-range, network16-range}

-- the UDP Length, where the header of UDP stands after that of IPv4
abbrev pub udp_at : List ℕ → ℕ
udp_at ip = network16 ip (header_len ip + 4)

-- the datagram there
abbrev pub datagram_at : Option Time → List ℕ → DatagramValue
datagram_at time ip = record {
  time = time;
  from = record { ip = slice_range ip 12 16; port = network16 ip (header_len ip) };
  to = record { ip = slice_range ip 16 20; port = network16 ip (header_len ip + 2) };
  payload = slice_range ip (header_len ip + 8) (header_len ip + udp_at ip);
}

-- a number of the payload, where it lies in the packet
number-at : (ip : List ℕ) (i : ℕ) → header_len ip + (i + 2) ≤ total_len ip → network16 (ipv4_of ip).payload i ≡ network16 ip (header_len ip + i)
number-at ip i within =
    let place : i + header_len ip ≡ header_len ip + i = omega arith in
    network16-range ip (header_len ip) (total_len ip) i within ∙ ap (network16 ip) place

pub udp_len-at : (ip : List ℕ) → header_len ip + 8 ≤ total_len ip → udp_len (ipv4_of ip).payload ≡ udp_at ip
udp_len-at ip room = number-at ip 4 (omega (arith, room))

pub datagram_of-at : (time : Option Time) (ip : List ℕ) → header_len ip + 8 ≤ total_len ip → 8 ≤ udp_at ip → header_len ip + udp_at ip ≤ total_len ip
    → datagram_of time (ipv4_of ip) ≡ datagram_at time ip
datagram_of-at time ip room least within =
    let first : header_len ip + 0 ≡ header_len ip = omega arith in
    let from : network16 (ipv4_of ip).payload 0 ≡ network16 ip (header_len ip) = number-at ip 0 (omega (arith, room)) ∙ ap (network16 ip) first in
    let to : network16 (ipv4_of ip).payload 2 ≡ network16 ip (header_len ip + 2) = number-at ip 2 (omega (arith, room)) in
    let size = udp_len-at ip room in
    let start : 8 + header_len ip ≡ header_len ip + 8 = omega arith in
    let stop : udp_at ip + header_len ip ≡ header_len ip + udp_at ip = omega arith in
    let payload : slice_range (ipv4_of ip).payload 8 (udp_len (ipv4_of ip).payload) ≡ slice_range ip (header_len ip + 8) (header_len ip + udp_at ip) =
    ap (slice_range (ipv4_of ip).payload 8) size
    ∙ range-range ip (header_len ip) (total_len ip) 8 (udp_at ip) least within
    ∙ ap (λ k. slice_range ip k (udp_at ip + header_len ip)) start
    ∙ ap (slice_range ip (header_len ip + 8)) stop in
    rw (from, to, payload) refl

-- a range that ends before it begins
pub range-none : (xs : List ℕ) (from to : ℕ) → to < from → [] ≡ slice_range xs from to
range-none xs from to lt = let none : to - from ≡ 0 = omega (arith, lt) in rw none refl

-- the packet in a captured one, from its place on
pub ipv4_in-at : (link : ℕ) (packet : List ℕ) (place : ℕ) → network_place link packet ≡ Ok place → ipv4_in link packet ≡ ipv4_at (drop place packet)
ipv4_in-at link packet place at = ap (ipv4_from packet) at

-- what a captured packet carries, where its bytes of IPv4 have no fault
pub carried_in-ipv4 : (time : Option Time) (link : ℕ) (packet : List ℕ) (place : ℕ) → network_place link packet ≡ Ok place → ipv4_fault (drop place packet) ≡ None
    → carried_in time link packet ≡ carried_by time (ipv4_of (drop place packet))
carried_in-ipv4 time link packet place at good =
    ap (λ r. carried_from time (ipv4_from packet r)) at
    ∙ ap (λ fault. carried_from time (or_skipped fault (ipv4_of (drop place packet)))) good
