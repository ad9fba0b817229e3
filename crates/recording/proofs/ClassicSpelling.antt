-- A file of classic pcap is read as it is spelled.
use Rattle.std.proofs.Common.{◌≡◌, ℕ, ◌+◌, ◌-◌, ◌*◌, ◌%◌, ◌^◌, ◌<◌, Bool, true, false, if◌then◌else◌, ltb, eqb, List, [], ◌∷◌, ◌++◌, length, take, drop, Option, Some, None, Ok, Err, refl, ap, subst, ◌∙◌, append_assoc, arith}
use Rattle.std.specs.List.{flat_map, AllByRecursion}
use Rattle.std.proofs.lemmas.Bool.{le-ltb}
use Rattle.std.proofs.lemmas.List.{take_at, drop_at, length-append}
use Rattle.std.proofs.lemmas.Nat.{from_be_bytes-to_be_bytes_4, from_le_bytes-to_le_bytes_4}
use Rattle.recording.specs.declared.error.RecordingError.{RecordingError}
use Rattle.recording.specs.declared.number.ByteOrder.{ByteOrder}
use Rattle.recording.specs.declared.number.ByteOrder.TheVariants.{Big, Little}
use Rattle.recording.specs.declared.classic.Classic as declared_classic
use Rattle.recording.specs.declared.format.Format.TheVariants.{Classic}
use Rattle.recording.specs.Numbers.{number32}
use Rattle.recording.specs.Captured.{RecordValue}
use Rattle.recording.specs.Classic.{classic_in, header_in, packet_fault, packet_len, packet_record}
use Rattle.recording.specs.Records.{Item, items_from, items_behind, items_of, format_of, or_fault, part_meaning}
use Rattle.recording.specs.Spelling.{bytes32, PacketValue, PacketFits, packet_bytes, header_bytes, given_by, EndsAt, IsClassic, classic_list}
use Rattle.recording.proofs.ItemLemmas.{items_from-nil, items_from-part}

-- ---- numbers

pub length-bytes32 : (o : ByteOrder) (n : ℕ) → length (bytes32 o n) ≡ 4
length-bytes32 Big n = refl
length-bytes32 Little n = refl

pub number32-front : (o : ByteOrder) (n : ℕ) (rest : List ℕ) → n < 2 ^ 32 → number32 o (bytes32 o n ++ rest) 0 ≡ n
number32-front Big n rest fits = from_be_bytes-to_be_bytes_4 n fits
number32-front Little n rest fits = from_le_bytes-to_le_bytes_4 n fits

-- a number at a place is that of the bytes from there on
pub number32-drop : (o : ByteOrder) (bytes : List ℕ) (i : ℕ) → number32 o bytes i ≡ number32 o (drop i bytes) 0
number32-drop Big bytes i = let four : i + 4 - i ≡ 4 = omega arith in rw four refl
number32-drop Little bytes i = let four : i + 4 - i ≡ 4 = omega arith in rw four refl

pub number32-at : (o : ByteOrder) (front : List ℕ) (n : ℕ) (rest : List ℕ) (i : ℕ) → length front ≡ i → n < 2 ^ 32 → number32 o (front ++ (bytes32 o n ++ rest)) i ≡ n
number32-at o front n rest i is fits =
    number32-drop o (front ++ (bytes32 o n ++ rest)) i ∙ ap (λ (t : List ℕ). number32 o t 0) (drop_at front (bytes32 o n ++ rest) i is) ∙ number32-front o n rest fits

-- ---- a packet

record IsHead (o : ByteOrder) (k : PacketValue) (bytes rest : List ℕ) : Type 0 where
  pub seconds : number32 o bytes 0 ≡ k.seconds
  pub fraction : number32 o bytes 4 ≡ k.fraction
  pub captured : number32 o bytes 8 ≡ length k.bytes
  pub original : number32 o bytes 12 ≡ k.original
  pub len : length bytes ≡ 16 + length k.bytes + length rest
  pub behind : drop 16 bytes ≡ k.bytes ++ rest

head_read : (o : ByteOrder) (k : PacketValue) (rest : List ℕ) → PacketFits k → IsHead o k (packet_bytes o k ++ rest) rest
head_read Big k rest fits = record {
  seconds = from_be_bytes-to_be_bytes_4 k.seconds fits.seconds;
  fraction = from_be_bytes-to_be_bytes_4 k.fraction fits.fraction;
  captured = from_be_bytes-to_be_bytes_4 (length k.bytes) fits.captured;
  original = from_be_bytes-to_be_bytes_4 k.original fits.original;
  len = omega (arith, length-append k.bytes rest);
  behind = refl;
}
head_read Little k rest fits = record {
  seconds = from_le_bytes-to_le_bytes_4 k.seconds fits.seconds;
  fraction = from_le_bytes-to_le_bytes_4 k.fraction fits.fraction;
  captured = from_le_bytes-to_le_bytes_4 (length k.bytes) fits.captured;
  original = from_le_bytes-to_le_bytes_4 k.original fits.original;
  len = omega (arith, length-append k.bytes rest);
  behind = refl;
}

pub length-packet_bytes : (o : ByteOrder) (k : PacketValue) → length (packet_bytes o k) ≡ 16 + length k.bytes
length-packet_bytes Big k = omega arith
length-packet_bytes Little k = omega arith

packet_fault-spelled : (c : declared_classic.Classic) (p : ℕ) (k : PacketValue) (bytes rest : List ℕ) → IsHead c.order k bytes rest → packet_fault c p bytes ≡ None
packet_fault-spelled c p k bytes rest h =
    let long : ltb (length bytes) 16 ≡ false = le-ltb _ _ (omega (arith, h.len)) in
    let whole : ltb (length bytes) (packet_len c bytes) ≡ false = le-ltb _ _ (omega (arith, h.len, h.captured)) in
    rw (long, whole) refl

packet_record-spelled : (c : declared_classic.Classic) (k : PacketValue) (bytes rest : List ℕ) → IsHead c.order k bytes rest → packet_record c bytes ≡ given_by c k
packet_record-spelled c k bytes rest h =
    let captured : take (length k.bytes + 16 - 16) (drop 16 bytes) ≡ k.bytes = rw h.behind (take_at k.bytes rest _ (omega arith)) in
    rw (h.captured, captured, h.seconds, h.fraction, h.original) refl

-- what is known of a packet as it is spelled, and the bytes after it
pub record PacketStep (c : declared_classic.Classic) (k : PacketValue) (bytes others : List ℕ) : Type 0 where
  pub some : 0 < length bytes
  pub meaning : (p : ℕ) → part_meaning (Classic c) [] p bytes ≡ Ok (Some (given_by c k))
  pub len : packet_len c bytes ≡ 16 + length k.bytes
  pub behind : drop (packet_len c bytes) bytes ≡ others

pub packet_step : (c : declared_classic.Classic) (k : PacketValue) (others : List ℕ) → PacketFits k → PacketStep c k (packet_bytes c.order k ++ others) others
packet_step c k others fits =
    let bytes = packet_bytes c.order k ++ others in
    let h = head_read c.order k others fits in
    let own = length-packet_bytes c.order k in
    record {
      some = omega (arith, h.len);
      meaning = λ p. ap (λ o. or_fault o (Ok (Some (packet_record c bytes)))) (packet_fault-spelled c p k bytes others h)
          ∙ ap (λ (r : RecordValue). Ok (Some r)) (packet_record-spelled c k bytes others h);
      len = omega (arith, h.captured);
      behind = drop_at (packet_bytes c.order k) others _ (omega (arith, h.captured, own));
    }

-- ---- the packets

packets_read : (c : declared_classic.Classic) (p : ℕ) (packets : List PacketValue) (end : Option RecordingError) (rest : List ℕ) → AllByRecursion PacketFits packets
    → EndsAt c (p + length (flat_map (packet_bytes c.order) packets)) rest end
    → items_from (Classic c) [] p (flat_map (packet_bytes c.order) packets ++ rest) ≡ classic_list c packets end
packets_read c p [] None rest fits ends = ap (items_from (Classic c) [] p) ends ∙ items_from-nil (Classic c) [] p
packets_read c p [] (Some e) [] fits ends = absurd (ends.0 refl)
packets_read c p [] (Some e) (b ∷ rest) fits ends =
    let fault : packet_fault c p (b ∷ rest) ≡ Some e = ap (λ q. packet_fault c q (b ∷ rest)) (omega arith) ∙ ends.1 in
    items_from-part (Classic c) [] p (b ∷ rest) (Err e) (omega arith) (ap (λ o. or_fault o (Ok (Some (packet_record c (b ∷ rest))))) fault)
packets_read c p (k ∷ packets) end rest fits ends =
    let others = flat_map (packet_bytes c.order) packets ++ rest in
    let bytes = packet_bytes c.order k ++ others in
    let h = packet_step c k others fits.0 in
    let next : items_from (Classic c) [] (p + packet_len c bytes) others ≡ classic_list c packets end =
    packets_read c (p + packet_len c bytes) packets end rest fits.1
    (subst (λ q. EndsAt c q rest end) (omega (arith, h.len, length-packet_bytes c.order k, length-append (packet_bytes c.order k) (flat_map (packet_bytes c.order) packets))) ends) in
    ap (items_from (Classic c) [] p) (append_assoc (packet_bytes c.order k) (flat_map (packet_bytes c.order) packets) rest)
    ∙ items_from-part (Classic c) [] p bytes (Ok (Some (given_by c k))) h.some (h.meaning p)
    ∙ ap (λ (t : List ℕ). Ok (given_by c k) ∷ items_from (Classic c) [] (p + packet_len c bytes) t) h.behind
    ∙ ap (λ (t : List Item). Ok (given_by c k) ∷ t) next

-- ---- the file

-- the bytes after a magic number
abbrev behind_magic : ByteOrder → ℕ → List ℕ → List ℕ → List ℕ
behind_magic o link free body = free ++ (bytes32 o link ++ body)

header_read : (o : ByteOrder) (micro : Bool) (x y z w : ℕ) (free : List ℕ) (upper link : ℕ) (body : List ℕ) → length free ≡ 16 → upper < 2 ^ 16 → link < 2 ^ 16
    → ((t : List ℕ) → classic_in (x ∷ y ∷ z ∷ w ∷ t) ≡ Some (header_in o micro (x ∷ y ∷ z ∷ w ∷ t)))
    → ((t : List ℕ) → eqb (number32 Big (x ∷ y ∷ z ∷ w ∷ t) 0) 0x0a0d0d0a ≡ false)
    → format_of (x ∷ y ∷ z ∷ w ∷ behind_magic o (upper * 0x10000 + link) free body)
    ≡ Some (Classic (record { order = o; micro = micro; link = link }), 24)
header_read o micro x y z w free upper link body sixteen upper_fits link_fits is_classic no_blocks =
    let tail = behind_magic o (upper * 0x10000 + link) free body in
    let file = x ∷ y ∷ z ∷ w ∷ tail in
    let own = length-bytes32 o (upper * 0x10000 + link) in
    let len : length file ≡ 24 + length body = omega (arith, sixteen, own, length-append free (bytes32 o (upper * 0x10000 + link) ++ body), length-append (bytes32 o (upper * 0x10000 + link)) body) in
    let some : ltb (length file) 12 ≡ false = le-ltb _ _ (omega (arith, len)) in
    let enough : ltb (length file) 24 ≡ false = le-ltb _ _ (omega (arith, len)) in
    let number : number32 o file 20 ≡ upper * 0x10000 + link =
    number32-at o (x ∷ y ∷ z ∷ w ∷ free) (upper * 0x10000 + link) body 20 (omega (arith, sixteen)) (omega (arith, upper_fits, link_fits)) in
    let lower : (upper * 0x10000 + link) % 0x10000 ≡ link = omega (arith, link_fits) in
    rw (some, no_blocks tail, enough, is_classic tail, number, lower) refl

pub format_of-header : (c : declared_classic.Classic) (free : List ℕ) (upper : ℕ) (body : List ℕ) → length free ≡ 16 → upper < 2 ^ 16 → c.link < 2 ^ 16
    → format_of (header_bytes c free upper ++ body) ≡ Some (Classic c, 24)
format_of-header c free upper body sixteen upper_fits link_fits =
    by_order c.order c.micro
  where
    by_order : (o : ByteOrder) (micro : Bool) → format_of (header_bytes (record { order = o; micro = micro; link = c.link }) free upper ++ body)
        ≡ Some (Classic (record { order = o; micro = micro; link = c.link }), 24)
    by_order Big true = ap (λ (t : List ℕ). format_of (0xa1 ∷ 0xb2 ∷ 0xc3 ∷ 0xd4 ∷ t)) (append_assoc free _ body)
        ∙ header_read Big true 0xa1 0xb2 0xc3 0xd4 free upper c.link body sixteen upper_fits link_fits (λ t. refl) (λ t. refl)
    by_order Big false = ap (λ (t : List ℕ). format_of (0xa1 ∷ 0xb2 ∷ 0x3c ∷ 0x4d ∷ t)) (append_assoc free _ body)
        ∙ header_read Big false 0xa1 0xb2 0x3c 0x4d free upper c.link body sixteen upper_fits link_fits (λ t. refl) (λ t. refl)
    by_order Little true = ap (λ (t : List ℕ). format_of (0xd4 ∷ 0xc3 ∷ 0xb2 ∷ 0xa1 ∷ t)) (append_assoc free _ body)
        ∙ header_read Little true 0xd4 0xc3 0xb2 0xa1 free upper c.link body sixteen upper_fits link_fits (λ t. refl) (λ t. refl)
    by_order Little false = ap (λ (t : List ℕ). format_of (0x4d ∷ 0x3c ∷ 0xb2 ∷ 0xa1 ∷ t)) (append_assoc free _ body)
        ∙ header_read Little false 0x4d 0x3c 0xb2 0xa1 free upper c.link body sixteen upper_fits link_fits (λ t. refl) (λ t. refl)

pub behind-header : (c : declared_classic.Classic) (free : List ℕ) (upper : ℕ) (body : List ℕ) → length free ≡ 16 → drop 24 (header_bytes c free upper ++ body) ≡ body
behind-header c free upper body sixteen =
    let magic = length-bytes32 c.order (if c.micro then 0xa1b2c3d4 else 0xa1b23c4d) in
    let link = length-bytes32 c.order (upper * 0x10000 + c.link) in
    drop_at (header_bytes c free upper) body 24
    (omega (arith, sixteen, magic, link, length-append (bytes32 c.order (if c.micro then 0xa1b2c3d4 else 0xa1b23c4d)) (free ++ bytes32 c.order (upper * 0x10000 + c.link)), length-append free (bytes32 c.order (upper * 0x10000 + c.link))))

pub classic_is_read : (c : declared_classic.Classic) (packets : List PacketValue) (end : Option RecordingError) (file : List ℕ) → IsClassic c packets end file
    → items_of file ≡ Ok (classic_list c packets end)
classic_is_read c packets end file h =
    let body = flat_map (packet_bytes c.order) packets ++ h.rest in
    let spelled = header_bytes c h.free h.upper ++ body in
    ap items_of h.is
    ∙ ap (items_behind spelled) (format_of-header c h.free h.upper body h.free_len h.upper_fits h.link_fits)
    ∙ ap (λ (t : List ℕ). Ok (items_from (Classic c) [] 24 t)) (behind-header c h.free h.upper body h.free_len)
    ∙ ap (λ (t : List Item). Ok t) (packets_read c 24 packets end h.rest h.packets_fit h.ends)
