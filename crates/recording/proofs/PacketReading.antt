-- A packet is read as it is spelled.
use Rattle.std.proofs.Common.{◌≡◌, ℕ, ◌+◌, ◌-◌, ◌*◌, ◌/◌, ◌%◌, ◌^◌, ◌<◌, ◌≤◌, Bool, true, false, cond, ltb, eqb, List, [], ◌∷◌, ◌++◌, length, get_or, take, drop, None, Ok, refl, sym, ap, subst, ◌∙◌, append_assoc, arith, inl, inr}
use Rattle.std.specs.Prelude.{nat_le, slice_range}
use Rattle.std.specs.Int.{w16, to_be_bytes}
use Rattle.std.proofs.lemmas.Bool.{le-ltb, le-leb, eq-eqb}
use Rattle.std.proofs.lemmas.List.{take_at, drop_at, drop-drop, length-append}
use Rattle.std.proofs.lemmas.Nat.{from_be_bytes-to_be_bytes_2}
use Rattle.recording.specs.Numbers.{network16}
use Rattle.recording.specs.Packets.{DatagramValue, is_tag, after_tag, ethernet_protocol, network_at, network_place, header_len, total_len, is_cut, ipv4_fault, ipv4_of, is_fragment, udp_len, is_udp, CarriedValue, datagram, datagram_of, carried_by, carried_in}
use Rattle.recording.specs.PacketSpelling.{Tag, TagFits, tag_bytes, LinkHeader, ethernet, tagged, twice_tagged, cooked, cooked_2, raw, raw_ipv4, link_type, link_bytes, LinkFits, Free, udp_bytes, ip_header_len, ip_len, ip_bytes, Fits, Carries}
use Rattle.recording.proofs.FieldSpelling.{length-range}
use Rattle.recording.proofs.PacketLemmas.{carried_in-ipv4, datagram_at, datagram_of-at, udp_at, udp_len-at}

-- ---- numbers

-- a number at a place is that of the bytes from there on
network16-drop : (bytes : List ℕ) (i : ℕ) → network16 bytes i ≡ network16 (drop i bytes) 0
network16-drop bytes i = let two : i + 2 - i ≡ 2 = omega arith in rw two refl

network16-from : (bytes rest : List ℕ) (i n : ℕ) → drop i bytes ≡ to_be_bytes w16 n ++ rest → n < 2 ^ 16 → network16 bytes i ≡ n
network16-from bytes rest i n is fits = network16-drop bytes i ∙ ap (λ (t : List ℕ). network16 t 0) is ∙ from_be_bytes-to_be_bytes_2 n fits

-- ---- the link layer

after_tag-none : (packet rest : List ℕ) (p : ℕ) → drop p packet ≡ 0x08 ∷ 0x00 ∷ rest → after_tag packet p ≡ p
after_tag-none packet rest p is =
    let number : network16 packet p ≡ 0x0800 = network16-drop packet p ∙ ap (λ (t : List ℕ). network16 t 0) is in
    rw number (either (ltb (length packet) (p + 4)))
  where
    either : (short : Bool) → cond short p p ≡ p
    either true = refl
    either false = refl

is_tag-fits : (t : Tag) → TagFits t → is_tag t.kind ≡ true
is_tag-fits t (inl is) = rw is refl
is_tag-fits t (inr (inl is)) = rw is refl
is_tag-fits t (inr (inr is)) = rw is refl

tag_small : (t : Tag) → TagFits t → t.kind < 2 ^ 16
tag_small t (inl is) = omega (arith, is)
tag_small t (inr (inl is)) = omega (arith, is)
tag_small t (inr (inr is)) = omega (arith, is)

after_tag-tag : (packet rest : List ℕ) (p : ℕ) (t : Tag) → drop p packet ≡ tag_bytes t ++ rest → p + 4 ≤ length packet → TagFits t → after_tag packet p ≡ p + 4
after_tag-tag packet rest p t is long fits =
    let number : network16 packet p ≡ t.kind = network16-from packet (t.first ∷ t.second ∷ rest) p t.kind is (tag_small t fits) in
    let room : ltb (length packet) (p + 4) ≡ false = le-ltb _ _ long in
    let tag : is_tag t.kind ≡ true = is_tag-fits t fits in
    rw (room, number, tag) refl

network_at-spelled : (packet rest : List ℕ) (p start : ℕ) → drop p packet ≡ 0x08 ∷ 0x00 ∷ rest → start ≤ length packet → network_at packet p start ≡ Ok start
network_at-spelled packet rest p start is long =
    let number : network16 packet p ≡ 0x0800 = network16-drop packet p ∙ ap (λ (t : List ℕ). network16 t 0) is in
    let room : ltb (length packet) start ≡ false = le-ltb _ _ long in
    rw (room, number) refl

ethernet_read : (packet rest : List ℕ) (p : ℕ) → ethernet_protocol packet ≡ p → drop p packet ≡ 0x08 ∷ 0x00 ∷ rest → p + 2 ≤ length packet → network_place 1 packet ≡ Ok (p + 2)
ethernet_read packet rest p at is long = rw at (network_at-spelled packet rest p (p + 2) is long)

-- IPv4 begins after the header
place_read : (h : LinkHeader) (ip : List ℕ) → LinkFits h → network_place (link_type h) (link_bytes h ++ ip) ≡ Ok (length (link_bytes h))
place_read (ethernet addresses) ip fits =
    let packet = (addresses ++ 0x08 ∷ 0x00 ∷ []) ++ ip in
    let is : drop 12 packet ≡ 0x08 ∷ 0x00 ∷ ip = ap (drop 12) (append_assoc addresses (0x08 ∷ 0x00 ∷ []) ip) ∙ drop_at addresses (0x08 ∷ 0x00 ∷ ip) 12 fits in
    let len = length-append addresses (0x08 ∷ 0x00 ∷ []) in
    let none = after_tag-none packet ip 12 is in
    ethernet_read packet ip 12 (ap (after_tag packet) none ∙ none) is (omega (arith, fits, len, length-append (addresses ++ 0x08 ∷ 0x00 ∷ []) ip))
    ∙ ap (λ (n : ℕ). Ok n) (omega (arith, fits, len))
place_read (tagged addresses tag) ip fits =
    let tail = tag_bytes tag ++ 0x08 ∷ 0x00 ∷ [] in
    let packet = (addresses ++ tail) ++ ip in
    let whole : packet ≡ addresses ++ (tail ++ ip) = append_assoc addresses tail ip in
    let is : drop 12 packet ≡ tail ++ ip = ap (drop 12) whole ∙ drop_at addresses (tail ++ ip) 12 fits.0 in
    let behind : drop 16 packet ≡ 0x08 ∷ 0x00 ∷ ip = sym (drop-drop 4 12 packet) ∙ ap (drop 4) is in
    let len = length-append addresses tail in
    let all = length-append (addresses ++ tail) ip in
    let first : after_tag packet 12 ≡ 16 = after_tag-tag packet (0x08 ∷ 0x00 ∷ ip) 12 tag is (omega (arith, fits.0, len, all)) fits.1 in
    ethernet_read packet ip 16 (ap (after_tag packet) first ∙ after_tag-none packet ip 16 behind) behind (omega (arith, fits.0, len, all))
    ∙ ap (λ (n : ℕ). Ok n) (omega (arith, fits.0, len))
place_read (twice_tagged addresses outer inner) ip fits =
    let tail = tag_bytes outer ++ (tag_bytes inner ++ 0x08 ∷ 0x00 ∷ []) in
    let packet = (addresses ++ tail) ++ ip in
    let whole : packet ≡ addresses ++ (tail ++ ip) = append_assoc addresses tail ip in
    let is : drop 12 packet ≡ tail ++ ip = ap (drop 12) whole ∙ drop_at addresses (tail ++ ip) 12 fits.0 in
    let between : drop 16 packet ≡ tag_bytes inner ++ 0x08 ∷ 0x00 ∷ ip = sym (drop-drop 4 12 packet) ∙ ap (drop 4) is in
    let behind : drop 20 packet ≡ 0x08 ∷ 0x00 ∷ ip = sym (drop-drop 4 16 packet) ∙ ap (drop 4) between in
    let len = length-append addresses tail in
    let all = length-append (addresses ++ tail) ip in
    let first : after_tag packet 12 ≡ 16 = after_tag-tag packet (tag_bytes inner ++ 0x08 ∷ 0x00 ∷ ip) 12 outer is (omega (arith, fits.0, len, all)) fits.1 in
    let second : after_tag packet 16 ≡ 20 = after_tag-tag packet (0x08 ∷ 0x00 ∷ ip) 16 inner between (omega (arith, fits.0, len, all)) fits.2 in
    ethernet_read packet ip 20 (ap (after_tag packet) first ∙ second) behind (omega (arith, fits.0, len, all))
    ∙ ap (λ (n : ℕ). Ok n) (omega (arith, fits.0, len))
place_read (cooked free) ip fits =
    let packet = (free ++ 0x08 ∷ 0x00 ∷ []) ++ ip in
    let is : drop 14 packet ≡ 0x08 ∷ 0x00 ∷ ip = ap (drop 14) (append_assoc free (0x08 ∷ 0x00 ∷ []) ip) ∙ drop_at free (0x08 ∷ 0x00 ∷ ip) 14 fits in
    let len = length-append free (0x08 ∷ 0x00 ∷ []) in
    network_at-spelled packet ip 14 16 is (omega (arith, fits, len, length-append (free ++ 0x08 ∷ 0x00 ∷ []) ip))
    ∙ ap (λ (n : ℕ). Ok n) (omega (arith, fits, len))
place_read (cooked_2 free) ip fits =
    network_at-spelled (0x08 ∷ 0x00 ∷ (free ++ ip)) (free ++ ip) 0 20 refl (omega (arith, fits, length-append free ip))
    ∙ ap (λ (n : ℕ). Ok n) (omega (arith, fits))
place_read raw ip fits = refl
place_read raw_ipv4 ip fits = refl

-- ---- IPv4 and UDP

-- what is read of the bytes from IPv4 on
record IsIp (f : Free) (d : DatagramValue) (ip : List ℕ) : Type 0 where
  pub len : ip_len f d ≤ length ip
  pub version : get_or ip 0 0 / 16 ≡ 4
  pub header : header_len ip ≡ ip_header_len f
  pub total : total_len ip ≡ ip_len f d
  pub whole : network16 ip 6 % 0x4000 ≡ 0
  pub protocol : get_or ip 9 0 ≡ 17
  pub from : slice_range ip 12 16 ≡ d.from.ip
  pub to : slice_range ip 16 20 ≡ d.to.ip
  pub from_port : network16 ip (ip_header_len f) ≡ d.from.port
  pub to_port : network16 ip (ip_header_len f + 2) ≡ d.to.port
  pub size : network16 ip (ip_header_len f + 4) ≡ 8 + length d.payload
  pub payload : slice_range ip (ip_header_len f + 8) (ip_header_len f + (8 + length d.payload)) ≡ d.payload

-- the first 12 bytes of IPv4, and what stands after them
abbrev pub front : Free → DatagramValue → List ℕ → List ℕ
front f d behind =
    (64 + ip_header_len f / 4) ∷ f.service ∷ (to_be_bytes w16 (ip_len f d)
    ++ f.identification.0 ∷ f.identification.1 ∷ (64 * f.bits) ∷ 0 ∷ f.ttl ∷ 17 ∷ f.checksum.0 ∷ f.checksum.1 ∷ behind)

-- the parts, one after the other
pub flat : (f : Free) (d : DatagramValue) (padding : List ℕ)
    → ip_bytes f d ++ padding ≡ front f d (d.from.ip ++ (d.to.ip ++ (f.options ++ (udp_bytes f d ++ (f.behind ++ padding)))))
flat f d padding =
    let udp = udp_bytes f d ++ f.behind in
    ap (front f d)
    (append_assoc d.from.ip (d.to.ip ++ (f.options ++ udp)) padding
    ∙ ap (λ (t : List ℕ). d.from.ip ++ t)
    (append_assoc d.to.ip (f.options ++ udp) padding
    ∙ ap (λ (t : List ℕ). d.to.ip ++ t)
    (append_assoc f.options udp padding ∙ ap (λ (t : List ℕ). f.options ++ t) (append_assoc (udp_bytes f d) f.behind padding))))

ip_read : (f : Free) (d : DatagramValue) (padding : List ℕ) → Fits f d → IsIp f d (ip_bytes f d ++ padding)
ip_read f d padding fits =
    let behind = f.behind ++ padding in
    let udp = udp_bytes f d ++ behind in
    let a = f.options ++ udp in
    let b = d.to.ip ++ a in
    let c = d.from.ip ++ b in
    let ip = front f d c in
    let n = ip_header_len f in
    let at16 : drop 16 ip ≡ b = sym (drop-drop 4 12 ip) ∙ drop_at d.from.ip b 4 fits.from in
    let at20 : drop 20 ip ≡ a = sym (drop-drop 4 16 ip) ∙ ap (drop 4) at16 ∙ drop_at d.to.ip a 4 fits.to in
    let at_udp : drop n ip ≡ udp = sym (drop-drop (length f.options) 20 ip) ∙ ap (drop (length f.options)) at20 ∙ drop_at f.options udp _ refl in
    let at_to : drop (n + 2) ip ≡ drop 2 udp = sym (drop-drop 2 n ip) ∙ ap (drop 2) at_udp in
    let at_size : drop (n + 4) ip ≡ drop 4 udp = sym (drop-drop 4 n ip) ∙ ap (drop 4) at_udp in
    let at_payload : drop (n + 8) ip ≡ d.payload ++ behind = sym (drop-drop 8 n ip) ∙ ap (drop 8) at_udp in
    let many : n + (8 + length d.payload) - (n + 8) ≡ length d.payload = omega arith in
    let payload : take (n + (8 + length d.payload) - (n + 8)) (drop (n + 8) ip) ≡ d.payload = rw (many, at_payload) (take_at d.payload behind _ refl) in
    let size_fits : 8 + length d.payload < 2 ^ 16 = omega (arith, fits.len) in
    let facts : IsIp f d ip = record {
      len = omega (arith, length-append d.from.ip b, length-append d.to.ip a, length-append f.options udp, length-append d.payload behind, length-append f.behind padding, fits.from, fits.to);
      version = omega (arith, fits.options);
      header = omega (arith, fits.options, fits.padded);
      total = from_be_bytes-to_be_bytes_2 (ip_len f d) fits.len;
      whole = omega arith;
      protocol = refl;
      from = take_at d.from.ip b 4 fits.from;
      to = rw at16 (take_at d.to.ip a 4 fits.to);
      from_port = network16-from ip (drop 2 udp) n d.from.port at_udp fits.from_port;
      to_port = network16-from ip (drop 4 udp) (n + 2) d.to.port at_to fits.to_port;
      size = network16-from ip (drop 6 udp) (n + 4) (8 + length d.payload) at_size size_fits;
      payload = payload;
    } in
    subst (IsIp f d) (sym (flat f d padding)) facts

ipv4_fault-spelled : (f : Free) (d : DatagramValue) (ip : List ℕ) → IsIp f d ip → ipv4_fault ip ≡ None
ipv4_fault-spelled f d ip h =
    let long : ltb (length ip) 20 ≡ false = le-ltb _ _ (omega (arith, h.len)) in
    let four : eqb (get_or ip 0 0 / 16) 4 ≡ true = eq-eqb _ _ h.version in
    let least : ltb (ip_header_len f) 20 ≡ false = le-ltb _ _ (omega arith) in
    let header : ltb (length ip) (ip_header_len f) ≡ false = le-ltb _ _ (omega (arith, h.len)) in
    let total : ltb (length ip) (ip_len f d) ≡ false = le-ltb _ _ h.len in
    rw (long, four, h.header, least, header, h.total, total) refl

datagram_at-spelled : (f : Free) (d : DatagramValue) (ip : List ℕ) → IsIp f d ip → datagram_at d.time ip ≡ d
datagram_at-spelled f d ip h = rw (h.header, h.from, h.to, h.from_port, h.to_port, h.size, h.payload) refl

carried_by-spelled : (f : Free) (d : DatagramValue) (ip : List ℕ) → IsIp f d ip → carried_by d.time (ipv4_of ip) ≡ datagram d
carried_by-spelled f d ip h =
    let udp : eqb (get_or ip 9 0) 17 ≡ true = eq-eqb _ _ h.protocol in
    let whole : eqb (network16 ip 6 % 0x4000) 0 ≡ true = eq-eqb _ _ h.whole in
    let at : udp_at ip ≡ 8 + length d.payload = ap (λ n. network16 ip (n + 4)) h.header ∙ h.size in
    let room : header_len ip + 8 ≤ total_len ip = omega (arith, h.header, h.total) in
    let within : header_len ip + udp_at ip ≤ total_len ip = omega (arith, h.header, h.total, at) in
    let size = udp_len-at ip room in
    let len : length (ipv4_of ip).payload ≡ total_len ip - header_len ip = length-range ip (header_len ip) (total_len ip) (omega (arith, h.total, h.len)) in
    let least : nat_le 8 (udp_len (ipv4_of ip).payload) ≡ true = le-leb _ _ (omega (arith, size, at)) in
    let most : nat_le (udp_len (ipv4_of ip).payload) (length (ipv4_of ip).payload) ≡ true = le-leb _ _ (omega (arith, size, len, within)) in
    let is : datagram_of d.time (ipv4_of ip) ≡ d = datagram_of-at d.time ip room (omega (arith, at)) within ∙ datagram_at-spelled f d ip h in
    rw (udp, whole, least, most) (ap (λ (v : DatagramValue). datagram v) is)

pub packet_is_read : (link : ℕ) (packet : List ℕ) (d : DatagramValue) → Carries link packet d → carried_in d.time link packet ≡ datagram d
packet_is_read link packet d h =
    let ip = ip_bytes h.free d ++ h.padding in
    let place = length (link_bytes h.header) in
    let facts = ip_read h.free d h.padding h.fits in
    let at : network_place link packet ≡ Ok place = rw (h.is_link, h.is) (place_read h.header ip h.link_fits) in
    let behind : drop place packet ≡ ip = ap (drop place) h.is ∙ drop_at (link_bytes h.header) ip place refl in
    carried_in-ipv4 d.time link packet place at (ap ipv4_fault behind ∙ ipv4_fault-spelled h.free d ip facts)
    ∙ ap (λ (b : List ℕ). carried_by d.time (ipv4_of b)) behind
    ∙ carried_by-spelled h.free d ip facts
