-- A packet in which a datagram is found carries it.
use Rattle.std.proofs.Common.{◌≡◌, ℕ, ◌+◌, ◌-◌, ◌*◌, ◌/◌, ◌%◌, ◌^◌, ◌<◌, ◌≤◌, Bool, true, false, cond, not, ltb, eqb, List, [], ◌∷◌, ◌++◌, length, get_or, drop, Option, Some, None, Result, Ok, Err, refl, sym, ap, subst, ◌∙◌, append_assoc, arith, inl, inr}
use Rattle.std.specs.Prelude.{◌⊎◌, ◌||◌, slice_range}
use Rattle.std.specs.Int.{w16, to_be_bytes}
use Rattle.std.proofs.lemmas.Bool.{and_parts, leb-true, ltb-false, eqb-true}
use Rattle.std.proofs.lemmas.List.{drop_more, get_or-drop, get_or-take}
use Rattle.std.proofs.lemmas.List.Folds.{drop_split}
use Rattle.std.proofs.lemmas.Nat.{be_bytes_2}
use Rattle.recording.specs.declared.time.Time.{Time}
use Rattle.recording.specs.declared.record.Skipped.{Skipped}
use Rattle.recording.specs.declared.record.Skipped.TheVariants.{LinkType, NotIpv4, NotUdp, Cut, BadUdpLength}
use Rattle.recording.specs.Numbers.{network16}
use Rattle.recording.specs.Packets.{DatagramValue, is_tag, after_tag, ethernet_protocol, network_at, network_place, CarriedValue, datagram, fragment, nothing, header_len, total_len, ipv4_fault, ipv4_of, or_skipped, ipv4_from, udp_len, is_udp, datagram_of, carried_from, carried_in}
use Rattle.recording.specs.PacketSpelling.{Tag, TagFits, tag_bytes, LinkHeader, ethernet, tagged, twice_tagged, cooked, cooked_2, raw, raw_ipv4, link_type, link_bytes, LinkFits, Free, udp_bytes, ip_header_len, ip_len, ip_bytes, Fits, Carries}
use Rattle.recording.specs.Spelling.{IsBytes}
use Rattle.recording.proofs.FieldSpelling.{IsBytes-drop, IsBytes-range, length-range}
use Rattle.recording.proofs.PacketLemmas.{udp_at, datagram_at, udp_len-at, datagram_of-at}
use Rattle.recording.proofs.PacketReading.{flat}

-- ---- fields

-- a byte, and what stands after it
spells1 : (bytes xs : List ℕ) (i b : ℕ) → i < length bytes → b ≡ get_or bytes i 0 → xs ≡ drop (i + 1) bytes → b ∷ xs ≡ drop i bytes
spells1 bytes xs i b lt is e = ap (λ t. b ∷ t) e ∙ ap (λ x. x ∷ drop (i + 1) bytes) is ∙ sym (drop_more bytes i 0 lt)

-- the number in two bytes, and what stands after it
spells2 : (bytes xs : List ℕ) (i n : ℕ) → IsBytes bytes → i + 2 ≤ length bytes → n ≡ network16 bytes i → xs ≡ drop (i + 2) bytes → to_be_bytes w16 n ++ xs ≡ drop i bytes
spells2 bytes xs i n fits le is e =
    let len : length (slice_range bytes i (i + 2)) ≡ 2 = omega (arith, length-range bytes i (i + 2) le) in
    let same : to_be_bytes w16 n ≡ slice_range bytes i (i + 2) = be_bytes_2 (slice_range bytes i (i + 2)) n len (IsBytes-range bytes i _ fits) is in
    ap (λ (t : List ℕ). to_be_bytes w16 n ++ t) e ∙ ap (λ (t : List ℕ). t ++ drop (i + 2) bytes) same ∙ sym (drop_split bytes i (i + 2) (omega arith))

network16-fits : (bytes : List ℕ) (i : ℕ) → IsBytes bytes → network16 bytes i < 2 ^ 16
network16-fits bytes i fits = let r = IsBytes-range bytes i ((i + 2) - i) fits in omega (arith, r 0, r 1)

-- ---- the link layer

record IsUnder (link : ℕ) (packet : List ℕ) (place : ℕ) : Type 0 where
  pub header : LinkHeader
  pub is_link : link ≡ link_type header
  pub is : packet ≡ link_bytes header ++ drop place packet
  pub fits : LinkFits header

-- the protocol at a place is IPv4's
record IsProtocol (packet : List ℕ) (protocol start place : ℕ) : Type 0 where
  pub number : network16 packet protocol ≡ 0x0800
  pub long : start ≤ length packet
  pub is : place ≡ start

network_told : (packet : List ℕ) (protocol start place : ℕ) (a b : Bool) → ltb (length packet) start ≡ a → eqb (network16 packet protocol) 0x0800 ≡ b
    → cond a (Err NotIpv4) (cond b (Ok start) (Err NotIpv4)) ≡ Ok place → IsProtocol packet protocol start place
network_told packet protocol start place true b is_a is_b is = absurd cc
network_told packet protocol start place false false is_a is_b is = absurd cc
network_told packet protocol start place false true is_a is_b is =
    let same : start ≡ place = cc in record { number = eqb-true _ _ is_b; long = ltb-false _ _ is_a; is = sym same }

-- the two bytes of the protocol, and what stands after them
protocol_bytes : (packet : List ℕ) (protocol : ℕ) → IsBytes packet → protocol + 2 ≤ length packet → network16 packet protocol ≡ 0x0800
    → 0x08 ∷ 0x00 ∷ drop (protocol + 2) packet ≡ drop protocol packet
protocol_bytes packet protocol fits long number = spells2 packet (drop (protocol + 2) packet) protocol 0x0800 fits long (sym number) refl

-- there is a tag at a place, or none
record IsTagAt (packet : List ℕ) (p : ℕ) : Type 0 where
  pub tag : Tag
  pub fits : TagFits tag
  pub after : after_tag packet p ≡ p + 4
  pub bytes : tag_bytes tag ++ drop (p + 4) packet ≡ drop p packet

tag_number : (n : ℕ) (a b d : Bool) → eqb n 0x8100 ≡ a → eqb n 0x88a8 ≡ b → eqb n 0x9100 ≡ d → (a || b || d) ≡ true → (n ≡ 0x8100) ⊎ (n ≡ 0x88a8) ⊎ (n ≡ 0x9100)
tag_number n true b d is_a is_b is_d is = inl (eqb-true _ _ is_a)
tag_number n false true d is_a is_b is_d is = inr (inl (eqb-true _ _ is_b))
tag_number n false false true is_a is_b is_d is = inr (inr (eqb-true _ _ is_d))
tag_number n false false false is_a is_b is_d is = absurd cc

tag_at : (packet : List ℕ) (p : ℕ) (a b : Bool) → IsBytes packet → ltb (length packet) (p + 4) ≡ a → is_tag (network16 packet p) ≡ b → (after_tag packet p ≡ p) ⊎ IsTagAt packet p
tag_at packet p true b fits is_a is_b = inl (rw is_a refl)
tag_at packet p false false fits is_a is_b = inl (rw (is_a, is_b) refl)
tag_at packet p false true fits is_a is_b =
    let long = ltb-false (length packet) (p + 4) is_a in
    let kind = network16 packet p in
    let second = spells1 packet (drop (p + 4) packet) (p + 3) (get_or packet (p + 3) 0) (omega (arith, long)) refl (ap (λ k. drop k packet) (omega arith)) in
    let first = spells1 packet _ (p + 2) (get_or packet (p + 2) 0) (omega (arith, long)) refl (second ∙ ap (λ k. drop k packet) (omega arith)) in
    inr (record {
      tag = record { kind = kind; first = get_or packet (p + 2) 0; second = get_or packet (p + 3) 0 };
      fits = tag_number kind _ _ _ refl refl refl is_b;
      after = rw (is_a, is_b) refl;
      bytes = spells2 packet _ p kind fits (omega (arith, long)) refl first;
    })

untagged : (packet : List ℕ) (place : ℕ) → IsBytes packet → IsProtocol packet 12 14 place → IsUnder 1 packet place
untagged packet place fits h =
    let addresses = slice_range packet 0 12 in
    let bytes = protocol_bytes packet 12 fits h.long h.number in
    let whole : addresses ++ 0x08 ∷ 0x00 ∷ drop 14 packet ≡ packet = ap (λ (t : List ℕ). addresses ++ t) bytes ∙ sym (drop_split packet 0 12 (omega arith)) in
    let facts : IsUnder 1 packet 14 = record {
      header = ethernet addresses;
      is_link = refl;
      is = sym (append_assoc addresses (0x08 ∷ 0x00 ∷ []) (drop 14 packet) ∙ whole);
      fits = omega (arith, length-range packet 0 12 (omega (arith, h.long)));
    } in
    subst (IsUnder 1 packet) (sym h.is) facts

one_tag : (packet : List ℕ) (place : ℕ) → IsBytes packet → IsTagAt packet 12 → IsProtocol packet 16 18 place → IsUnder 1 packet place
one_tag packet place fits t h =
    let addresses = slice_range packet 0 12 in
    let tail = tag_bytes t.tag ++ 0x08 ∷ 0x00 ∷ [] in
    let bytes = protocol_bytes packet 16 fits h.long h.number in
    let whole : addresses ++ (tail ++ drop 18 packet) ≡ packet =
    ap (λ (s : List ℕ). addresses ++ (tag_bytes t.tag ++ s)) bytes ∙ ap (λ (s : List ℕ). addresses ++ s) t.bytes ∙ sym (drop_split packet 0 12 (omega arith)) in
    let facts : IsUnder 1 packet 18 = record {
      header = tagged addresses t.tag;
      is_link = refl;
      is = sym (append_assoc addresses tail (drop 18 packet) ∙ whole);
      fits = (omega (arith, length-range packet 0 12 (omega (arith, h.long))), t.fits);
    } in
    subst (IsUnder 1 packet) (sym h.is) facts

two_tags : (packet : List ℕ) (place : ℕ) → IsBytes packet → IsTagAt packet 12 → IsTagAt packet 16 → IsProtocol packet 20 22 place → IsUnder 1 packet place
two_tags packet place fits t u h =
    let addresses = slice_range packet 0 12 in
    let tail = tag_bytes t.tag ++ (tag_bytes u.tag ++ 0x08 ∷ 0x00 ∷ []) in
    let bytes = protocol_bytes packet 20 fits h.long h.number in
    let whole : addresses ++ (tail ++ drop 22 packet) ≡ packet =
    ap (λ (s : List ℕ). addresses ++ (tag_bytes t.tag ++ (tag_bytes u.tag ++ s))) bytes ∙ ap (λ (s : List ℕ). addresses ++ (tag_bytes t.tag ++ s)) u.bytes
    ∙ ap (λ (s : List ℕ). addresses ++ s) t.bytes ∙ sym (drop_split packet 0 12 (omega arith)) in
    let facts : IsUnder 1 packet 22 = record {
      header = twice_tagged addresses t.tag u.tag;
      is_link = refl;
      is = sym (append_assoc addresses tail (drop 22 packet) ∙ whole);
      fits = (omega (arith, length-range packet 0 12 (omega (arith, h.long))), t.fits, u.fits);
    } in
    subst (IsUnder 1 packet) (sym h.is) facts

ethernet_told : (packet : List ℕ) (place protocol : ℕ) → IsBytes packet → ethernet_protocol packet ≡ protocol → IsProtocol packet protocol (protocol + 2) place → IsUnder 1 packet place
ethernet_told packet place protocol fits at h =
    elim (tag_at packet 12 _ _ fits refl refl) [
      | inl none ↦
          let is : protocol ≡ 12 = sym at ∙ ap (after_tag packet) none ∙ none in
          untagged packet place fits (subst (λ p. IsProtocol packet p (p + 2) place) is h)
      | inr t ↦
          elim (tag_at packet 16 _ _ fits refl refl) [
            | inl none ↦
                let is : protocol ≡ 16 = sym at ∙ ap (after_tag packet) t.after ∙ none in
                one_tag packet place fits t (subst (λ p. IsProtocol packet p (p + 2) place) is h)
            | inr u ↦
                let is : protocol ≡ 20 = sym at ∙ ap (after_tag packet) t.after ∙ u.after in
                two_tags packet place fits t u (subst (λ p. IsProtocol packet p (p + 2) place) is h)
          ]
    ]

cooked_told : (packet : List ℕ) (place : ℕ) → IsBytes packet → IsProtocol packet 14 16 place → IsUnder 113 packet place
cooked_told packet place fits h =
    let free = slice_range packet 0 14 in
    let bytes = protocol_bytes packet 14 fits h.long h.number in
    let whole : free ++ 0x08 ∷ 0x00 ∷ drop 16 packet ≡ packet = ap (λ (t : List ℕ). free ++ t) bytes ∙ sym (drop_split packet 0 14 (omega arith)) in
    let facts : IsUnder 113 packet 16 = record {
      header = cooked free;
      is_link = refl;
      is = sym (append_assoc free (0x08 ∷ 0x00 ∷ []) (drop 16 packet) ∙ whole);
      fits = omega (arith, length-range packet 0 14 (omega (arith, h.long)));
    } in
    subst (IsUnder 113 packet) (sym h.is) facts

cooked_2_told : (packet : List ℕ) (place : ℕ) → IsBytes packet → IsProtocol packet 0 20 place → IsUnder 276 packet place
cooked_2_told packet place fits h =
    let free = slice_range packet 2 20 in
    let bytes : 0x08 ∷ 0x00 ∷ drop 2 packet ≡ packet = protocol_bytes packet 0 fits (omega (arith, h.long)) h.number in
    let whole : 0x08 ∷ 0x00 ∷ (free ++ drop 20 packet) ≡ packet = ap (λ (t : List ℕ). 0x08 ∷ 0x00 ∷ t) (sym (drop_split packet 2 20 (omega arith))) ∙ bytes in
    let facts : IsUnder 276 packet 20 = record {
      header = cooked_2 free;
      is_link = refl;
      is = sym whole;
      fits = omega (arith, length-range packet 2 20 (omega (arith, h.long)));
    } in
    subst (IsUnder 276 packet) (sym h.is) facts

under : (link : ℕ) (packet : List ℕ) (place : ℕ) (a b d e f : Bool) → IsBytes packet
    → eqb link 1 ≡ a → eqb link 113 ≡ b → eqb link 276 ≡ d → eqb link 101 ≡ e → eqb link 228 ≡ f
    → cond a (network_at packet (ethernet_protocol packet) (ethernet_protocol packet + 2))
    (cond b (network_at packet 14 16) (cond d (network_at packet 0 20) (cond (e || f) (Ok 0) (Err LinkType))))
    ≡ Ok place
    → IsUnder link packet place
under link packet place true b d e f fits is_a is_b is_d is_e is_f is =
    subst (λ l. IsUnder l packet place) (sym (eqb-true _ _ is_a))
    (ethernet_told packet place (ethernet_protocol packet) fits refl (network_told packet (ethernet_protocol packet) (ethernet_protocol packet + 2) place _ _ refl refl is))
under link packet place false true d e f fits is_a is_b is_d is_e is_f is =
    subst (λ l. IsUnder l packet place) (sym (eqb-true _ _ is_b)) (cooked_told packet place fits (network_told packet 14 16 place _ _ refl refl is))
under link packet place false false true e f fits is_a is_b is_d is_e is_f is =
    subst (λ l. IsUnder l packet place) (sym (eqb-true _ _ is_d)) (cooked_2_told packet place fits (network_told packet 0 20 place _ _ refl refl is))
under link packet place false false false true f fits is_a is_b is_d is_e is_f is =
    let same : 0 ≡ place = cc in
    subst (IsUnder link packet) same (record { header = raw; is_link = eqb-true _ _ is_e; is = refl; fits = tt })
under link packet place false false false false true fits is_a is_b is_d is_e is_f is =
    let same : 0 ≡ place = cc in
    subst (IsUnder link packet) same (record { header = raw_ipv4; is_link = eqb-true _ _ is_f; is = refl; fits = tt })
under link packet place false false false false false fits is_a is_b is_d is_e is_f is = absurd cc

-- ---- IPv4 and UDP

-- the lengths of whole packets
record IsWholeIpv4 (ip : List ℕ) : Type 0 where
  pub fixed : 20 ≤ length ip
  pub version : get_or ip 0 0 / 16 ≡ 4
  pub header : 20 ≤ header_len ip
  pub total : total_len ip ≤ length ip

-- the lengths and the numbers of whole packets with whole datagrams
record IsWhole (ip : List ℕ) : Type 0 where
  pub fixed : 20 ≤ length ip
  pub version : get_or ip 0 0 / 16 ≡ 4
  pub header : 20 ≤ header_len ip
  pub unbroken : network16 ip 6 % 0x4000 ≡ 0
  pub protocol : get_or ip 9 0 ≡ 17
  pub total : total_len ip ≤ length ip
  pub least : 8 ≤ udp_at ip
  pub within : header_len ip + udp_at ip ≤ total_len ip

ip_told : (ip : List ℕ) (cut : Skipped) (a b d g h : Bool)
    → ltb (length ip) 20 ≡ a → eqb (get_or ip 0 0 / 16) 4 ≡ b → ltb (header_len ip) 20 ≡ d → ltb (length ip) (header_len ip) ≡ g → ltb (length ip) (total_len ip) ≡ h
    → cond a (Some NotIpv4) (cond (not b) (Some NotIpv4) (cond d (Some NotIpv4) (cond (g || h) (Some cut) None))) ≡ None
    → IsWholeIpv4 ip
ip_told ip cut true b d g h is_a is_b is_d is_g is_h is = absurd cc
ip_told ip cut false false d g h is_a is_b is_d is_g is_h is = absurd cc
ip_told ip cut false true true g h is_a is_b is_d is_g is_h is = absurd cc
ip_told ip cut false true false true h is_a is_b is_d is_g is_h is = absurd cc
ip_told ip cut false true false false true is_a is_b is_d is_g is_h is = absurd cc
ip_told ip cut false true false false false is_a is_b is_d is_g is_h is =
    record { fixed = ltb-false _ _ is_a; version = eqb-true _ _ is_b; header = ltb-false _ _ is_d; total = ltb-false _ _ is_h }

-- a whole packet that carries a datagram
record IsCarrier (time : Option Time) (ip : List ℕ) (d : DatagramValue) : Type 0 where
  pub protocol : get_or ip 9 0 ≡ 17
  pub unbroken : network16 ip 6 % 0x4000 ≡ 0
  pub udp : is_udp (ipv4_of ip).payload ≡ true
  pub is : datagram_of time (ipv4_of ip) ≡ d

carrier_told : (time : Option Time) (ip : List ℕ) (d : DatagramValue) (f e u : Bool)
    → eqb (get_or ip 9 0) 17 ≡ f → eqb (network16 ip 6 % 0x4000) 0 ≡ e → is_udp (ipv4_of ip).payload ≡ u
    → cond (not f) (nothing NotUdp) (cond (not e) fragment (cond u (datagram (datagram_of time (ipv4_of ip))) (nothing BadUdpLength))) ≡ datagram d
    → IsCarrier time ip d
carrier_told time ip d false e u is_f is_e is_u is = absurd cc
carrier_told time ip d true false u is_f is_e is_u is = absurd cc
carrier_told time ip d true true false is_f is_e is_u is = absurd cc
carrier_told time ip d true true true is_f is_e is_u is = record { protocol = eqb-true _ _ is_f; unbroken = eqb-true _ _ is_e; udp = is_u; is = cc }

-- both together
whole_of : (time : Option Time) (ip : List ℕ) (d : DatagramValue) → IsWholeIpv4 ip → IsCarrier time ip d → IsWhole ip × (datagram_at time ip ≡ d)
whole_of time ip d w k =
    let parts = and_parts _ _ k.udp in
    let least : 8 ≤ udp_len (ipv4_of ip).payload = leb-true _ _ parts.0 in
    let most : udp_len (ipv4_of ip).payload ≤ length (ipv4_of ip).payload = leb-true _ _ parts.1 in
    let len : length (ipv4_of ip).payload ≡ total_len ip - header_len ip = length-range ip (header_len ip) (total_len ip) w.total in
    let room : header_len ip + 8 ≤ total_len ip = omega (arith, least, most, len) in
    let size = udp_len-at ip room in
    let low : 8 ≤ udp_at ip = omega (arith, least, size) in
    let within : header_len ip + udp_at ip ≤ total_len ip = omega (arith, least, most, len, size) in (
      record {
        fixed = w.fixed;
        version = w.version;
        header = w.header;
        unbroken = k.unbroken;
        protocol = k.protocol;
        total = w.total;
        least = low;
        within = within;
      },
      sym (datagram_of-at time ip room low within) ∙ k.is,
    )

-- what is not looked at
abbrev free_in : List ℕ → Free
free_in ip = record {
  service = get_or ip 1 0;
  identification = (get_or ip 4 0, get_or ip 5 0);
  bits = get_or ip 6 0 / 64;
  ttl = get_or ip 8 0;
  checksum = (get_or ip 10 0, get_or ip 11 0);
  options = slice_range ip 20 (header_len ip);
  udp_checksum = (get_or ip (header_len ip + 6) 0, get_or ip (header_len ip + 7) 0);
  behind = slice_range ip (header_len ip + udp_at ip) (total_len ip);
}

-- the two bytes of the fragment's field
unbroken_bytes : (ip : List ℕ) → IsBytes ip → network16 ip 6 % 0x4000 ≡ 0 → (64 * (get_or ip 6 0 / 64) ≡ get_or ip 6 0) × (0 ≡ get_or ip 7 0)
unbroken_bytes ip fits is =
    let high : get_or (slice_range ip 6 8) 0 0 ≡ get_or ip 6 0 = get_or-take 2 (drop 6 ip) 0 0 (omega arith) ∙ get_or-drop 6 ip 0 0 in
    let low : get_or (slice_range ip 6 8) 1 0 ≡ get_or ip 7 0 = get_or-take 2 (drop 6 ip) 1 0 (omega arith) ∙ get_or-drop 6 ip 1 0 in
    (omega (arith, high, low, is, fits 6, fits 7), omega (arith, high, low, is, fits 6, fits 7))

record IsLengths (ip : List ℕ) (d : DatagramValue) : Type 0 where
  pub header : ip_header_len (free_in ip) ≡ header_len ip
  pub udp : 8 + length d.payload ≡ udp_at ip
  pub total : ip_len (free_in ip) d ≡ total_len ip

lengths : (time : Option Time) (ip : List ℕ) → IsWhole ip → IsLengths ip (datagram_at time ip)
lengths time ip w =
    let options = length-range ip 20 (header_len ip) (omega (arith, w.within, w.total)) in
    let payload = length-range ip (header_len ip + 8) (header_len ip + udp_at ip) (omega (arith, w.within, w.total)) in
    let behind = length-range ip (header_len ip + udp_at ip) (total_len ip) w.total in
    record {
      header = omega (arith, options, w.header);
      udp = omega (arith, payload, w.least);
      total = omega (arith, options, payload, behind, w.header, w.least, w.within);
    }

-- UDP, and what stands after it
udp_spells : (time : Option Time) (ip : List ℕ) → IsBytes ip → IsWhole ip
    → udp_bytes (free_in ip) (datagram_at time ip) ++ ((free_in ip).behind ++ drop (total_len ip) ip) ≡ drop (header_len ip) ip
udp_spells time ip fits w =
    let h = header_len ip in
    let u = udp_at ip in
    let d = datagram_at time ip in
    let long : h + 8 ≤ length ip = omega (arith, w.within, w.least, w.total) in
    let sizes = lengths time ip w in
    let behind : (free_in ip).behind ++ drop (total_len ip) ip ≡ drop (h + u) ip = sym (drop_split ip (h + u) (total_len ip) w.within) in
    let payload : d.payload ++ ((free_in ip).behind ++ drop (total_len ip) ip) ≡ drop (h + 8) ip =
    ap (λ (t : List ℕ). d.payload ++ t) behind ∙ sym (drop_split ip (h + 8) (h + u) (omega (arith, w.least))) in
    let c1 = spells1 ip _ (h + 7) (get_or ip (h + 7) 0) (omega (arith, long)) refl (payload ∙ ap (λ k. drop k ip) (omega arith)) in
    let c0 = spells1 ip _ (h + 6) (get_or ip (h + 6) 0) (omega (arith, long)) refl (c1 ∙ ap (λ k. drop k ip) (omega arith)) in
    let size = spells2 ip _ (h + 4) (8 + length d.payload) fits (omega (arith, long)) sizes.udp (c0 ∙ ap (λ k. drop k ip) (omega arith)) in
    let to = spells2 ip _ (h + 2) d.to.port fits (omega (arith, long)) refl (size ∙ ap (λ k. drop k ip) (omega arith)) in
    spells2 ip _ h d.from.port fits (omega (arith, long)) refl to

-- the packet, and what stands after it
ip_spells : (time : Option Time) (ip : List ℕ) → IsBytes ip → IsWhole ip → ip_bytes (free_in ip) (datagram_at time ip) ++ drop (total_len ip) ip ≡ ip
ip_spells time ip fits w =
    let h = header_len ip in
    let f = free_in ip in
    let d = datagram_at time ip in
    let sizes = lengths time ip w in
    let len = w.fixed in
    let unbroken = unbroken_bytes ip fits w.unbroken in
    let udp = udp_spells time ip fits w in
    let options = ap (λ (t : List ℕ). f.options ++ t) udp ∙ sym (drop_split ip 20 h w.header) in
    let to = ap (λ (t : List ℕ). d.to.ip ++ t) options ∙ sym (drop_split ip 16 20 (omega arith)) in
    let from = ap (λ (t : List ℕ). d.from.ip ++ t) to ∙ sym (drop_split ip 12 16 (omega arith)) in
    let b11 = spells1 ip _ 11 f.checksum.1 (omega (arith, len)) refl from in
    let b10 = spells1 ip _ 10 f.checksum.0 (omega (arith, len)) refl b11 in
    let b9 = spells1 ip _ 9 17 (omega (arith, len)) (sym w.protocol) b10 in
    let b8 = spells1 ip _ 8 f.ttl (omega (arith, len)) refl b9 in
    let b7 = spells1 ip _ 7 0 (omega (arith, len)) unbroken.1 b8 in
    let b6 = spells1 ip _ 6 (64 * f.bits) (omega (arith, len)) unbroken.0 b7 in
    let b5 = spells1 ip _ 5 f.identification.1 (omega (arith, len)) refl b6 in
    let b4 = spells1 ip _ 4 f.identification.0 (omega (arith, len)) refl b5 in
    let b2 = spells2 ip _ 2 (ip_len f d) fits (omega (arith, len)) sizes.total b4 in
    let b1 = spells1 ip _ 1 f.service (omega (arith, len)) refl b2 in
    let b0 = spells1 ip _ 0 (64 + ip_header_len f / 4) (omega (arith, len)) (omega (arith, sizes.header, w.version)) b1 in
    flat f d (drop (total_len ip) ip) ∙ b0

ip_fits : (time : Option Time) (ip : List ℕ) → IsBytes ip → IsWhole ip → Fits (free_in ip) (datagram_at time ip)
ip_fits time ip fits w =
    let sizes = lengths time ip w in
    let options = length-range ip 20 (header_len ip) (omega (arith, w.within, w.total)) in
    record {
      bits = omega (arith, fits 6);
      padded = omega (arith, options, w.header);
      options = omega (arith, options, w.header);
      len = omega (arith, sizes.total, network16-fits ip 2 fits);
      from = omega (arith, length-range ip 12 16 (omega (arith, w.fixed)));
      to = omega (arith, length-range ip 16 20 (omega (arith, w.fixed)));
      from_port = network16-fits ip (header_len ip) fits;
      to_port = network16-fits ip (header_len ip + 2) fits;
    }

-- ---- the packet

-- the datagram stands in the packet, recorded at this time
abbrev pub Found : Option Time → ℕ → List ℕ → DatagramValue → Type 0
Found time link packet d = Carries link packet d × (d.time ≡ time)

carried : (time : Option Time) (link : ℕ) (packet : List ℕ) (place : ℕ) → IsBytes packet → IsUnder link packet place → IsWhole (drop place packet)
    → Carries link packet (datagram_at time (drop place packet))
carried time link packet place fits under w =
    let ip = drop place packet in
    let bytes = IsBytes-drop place packet fits in
    record {
      header = under.header;
      free = free_in ip;
      padding = drop (total_len ip) ip;
      is_link = under.is_link;
      is = under.is ∙ ap (λ (t : List ℕ). link_bytes under.header ++ t) (sym (ip_spells time ip bytes w));
      link_fits = under.fits;
      fits = ip_fits time ip bytes w;
    }

told : (time : Option Time) (link : ℕ) (packet : List ℕ) (place : ℕ) (d : DatagramValue) (fault : Option Skipped) → IsBytes packet → IsUnder link packet place
    → ipv4_fault (drop place packet) ≡ fault → carried_from time (or_skipped fault (ipv4_of (drop place packet))) ≡ datagram d → Found time link packet d
told time link packet place d (Some e) fits under is_fault is = absurd cc
told time link packet place d None fits under is_fault is =
    let ip = drop place packet in
    let w = ip_told ip _ _ _ _ _ _ refl refl refl refl refl is_fault in
    let both = whole_of time ip d w (carrier_told time ip d _ _ _ refl refl refl is) in
    subst (Found time link packet) both.1 (carried time link packet place fits under both.0, refl)

from_place : (time : Option Time) (link : ℕ) (packet : List ℕ) (d : DatagramValue) (r : Result ℕ Skipped) → IsBytes packet → network_place link packet ≡ r
    → carried_from time (ipv4_from packet r) ≡ datagram d → Found time link packet d
from_place time link packet d (Err e) fits at is = absurd cc
from_place time link packet d (Ok place) fits at is =
    told time link packet place d _ fits (under link packet place _ _ _ _ _ fits refl refl refl refl refl at) refl is

pub packet_is_split : (time : Option Time) (link : ℕ) (packet : List ℕ) (d : DatagramValue) → IsBytes packet → carried_in time link packet ≡ datagram d → Found time link packet d
packet_is_split time link packet d fits is = from_place time link packet d _ fits refl is
