-- Each file under a header of classic pcap is packets and an end.
use Rattle.std.proofs.Common.{◌≡◌, ℕ, zero, suc, ◌+◌, ◌*◌, ◌/◌, ◌^◌, ◌<◌, ◌≤◌, Bool, true, false, cond, eqb, List, [], ◌∷◌, ◌++◌, length, drop, Option, Some, None, refl, sym, ap, subst, ◌∙◌, append_assoc, arith}
use Rattle.std.specs.Prelude.{slice_range}
use Rattle.std.specs.List.{flat_map, AllByRecursion}
use Rattle.std.proofs.lemmas.Bool.{eqb-true}
use Rattle.std.proofs.lemmas.List.{length-append, length-drop}
use Rattle.std.proofs.lemmas.List.Folds.{drop_split}
use Rattle.recording.specs.declared.error.RecordingError.{RecordingError}
use Rattle.recording.specs.declared.number.ByteOrder.{ByteOrder}
use Rattle.recording.specs.declared.number.ByteOrder.TheVariants.{Big, Little}
use Rattle.recording.specs.declared.classic.Classic.{Classic}
use Rattle.recording.specs.Numbers.{number32}
use Rattle.recording.specs.Classic.{classic_in, header_in, packet_fault, packet_len}
use Rattle.recording.specs.Spelling.{IsBytes, bytes32, PacketValue, PacketFits, packet_bytes, header_bytes, EndsAt, IsClassic}
use Rattle.recording.proofs.FieldSpelling.{IsBytes-drop, length-range, spells32, number32-fits}

-- the packet at the front
abbrev packet_in : Classic → List ℕ → PacketValue
packet_in c bytes = record {
  seconds = number32 c.order bytes 0;
  fraction = number32 c.order bytes 4;
  original = number32 c.order bytes 12;
  bytes = slice_range bytes 16 (packet_len c bytes);
}

record IsWhole (c : Classic) (bytes : List ℕ) : Type 0 where
  pub head : 16 ≤ length bytes
  pub whole : packet_len c bytes ≤ length bytes

none_is_whole : (c : Classic) (p : ℕ) (bytes : List ℕ) → packet_fault c p bytes ≡ None → IsWhole c bytes
none_is_whole c p bytes h = record { head = grind arith; whole = grind arith }

packet_flat : (o : ByteOrder) (k : PacketValue) (rest : List ℕ)
    → packet_bytes o k ++ rest ≡ bytes32 o k.seconds ++ (bytes32 o k.fraction ++ (bytes32 o (length k.bytes) ++ (bytes32 o k.original ++ (k.bytes ++ rest))))
packet_flat Big k rest = refl
packet_flat Little k rest = refl

packet_spells : (c : Classic) (bytes : List ℕ) → IsBytes bytes → IsWhole c bytes → packet_bytes c.order (packet_in c bytes) ++ drop (packet_len c bytes) bytes ≡ bytes
packet_spells c bytes fits w =
    let k = packet_in c bytes in
    let len = w.head in
    let captured : length k.bytes ≡ number32 c.order bytes 8 = omega (arith, length-range bytes 16 (packet_len c bytes) w.whole) in
    let body : k.bytes ++ drop (packet_len c bytes) bytes ≡ drop 16 bytes = sym (drop_split bytes 16 (packet_len c bytes) (omega arith)) in
    let original = spells32 c.order bytes _ 12 k.original fits (omega (arith, len)) refl body in
    let length_of = spells32 c.order bytes _ 8 (length k.bytes) fits (omega (arith, len)) captured original in
    let fraction = spells32 c.order bytes _ 4 k.fraction fits (omega (arith, len)) refl length_of in
    packet_flat c.order k (drop (packet_len c bytes) bytes) ∙ spells32 c.order bytes _ 0 k.seconds fits (omega (arith, len)) refl fraction

packet_fits : (c : Classic) (bytes : List ℕ) → IsBytes bytes → IsWhole c bytes → PacketFits (packet_in c bytes)
packet_fits c bytes fits w = record {
  seconds = number32-fits c.order bytes 0 fits;
  fraction = number32-fits c.order bytes 4 fits;
  captured = omega (arith, length-range bytes 16 (packet_len c bytes) w.whole, number32-fits c.order bytes 8 fits);
  original = number32-fits c.order bytes 12 fits;
}

-- ---- the packets

record IsSplit (c : Classic) (p : ℕ) (bytes : List ℕ) : Type 0 where
  pub packets : List PacketValue
  pub end : Option RecordingError
  pub rest : List ℕ
  pub is : bytes ≡ flat_map (packet_bytes c.order) packets ++ rest
  pub fits : AllByRecursion PacketFits packets
  pub ends : EndsAt c (p + length (flat_map (packet_bytes c.order) packets)) rest end

split_more : (c : Classic) (p : ℕ) (k : PacketValue) (bytes others : List ℕ) → PacketFits k → bytes ≡ packet_bytes c.order k ++ others → IsSplit c (p + length (packet_bytes c.order k)) others → IsSplit c p bytes
split_more c p k bytes others fits is s = record {
  packets = k ∷ s.packets;
  end = s.end;
  rest = s.rest;
  is = is ∙ ap (λ (t : List ℕ). packet_bytes c.order k ++ t) s.is ∙ sym (append_assoc (packet_bytes c.order k) (flat_map (packet_bytes c.order) s.packets) s.rest);
  fits = (fits, s.fits);
  ends = subst (λ q. EndsAt c q s.rest s.end) (omega (arith, length-append (packet_bytes c.order k) (flat_map (packet_bytes c.order) s.packets))) s.ends;
}

split_within : (n : ℕ) (c : Classic) (p : ℕ) (bytes : List ℕ) → length bytes ≤ n → IsBytes bytes → IsSplit c p bytes
split_within n c p [] le fits = record { packets = []; end = None; rest = []; is = refl; fits = tt; ends = refl }
split_within zero c p (b ∷ bytes) le fits = absurd (omega (arith, le))
split_within (suc n) c p (b ∷ bytes) le fits =
    let P : Option RecordingError → Type 0 = λ o. packet_fault c p (b ∷ bytes) ≡ o → IsSplit c p (b ∷ bytes) in
    (elim (packet_fault c p (b ∷ bytes)) as P [
      | Some e ↦ λ is. record {
        packets = [];
        end = Some e;
        rest = b ∷ bytes;
        is = refl;
        fits = tt;
        ends = ((λ no. cc), ap (λ q. packet_fault c q (b ∷ bytes)) (omega arith) ∙ is);
      }
      | None ↦ λ is.
          let w = none_is_whole c p (b ∷ bytes) is in
          let k = packet_in c (b ∷ bytes) in
          let others = drop (packet_len c (b ∷ bytes)) (b ∷ bytes) in
          let shorter : length others ≤ n = omega (arith, length-drop (packet_len c (b ∷ bytes)) (b ∷ bytes), le) in
          split_more c p k (b ∷ bytes) others (packet_fits c (b ∷ bytes) fits w) (sym (packet_spells c (b ∷ bytes) fits w))
          (split_within n c (p + length (packet_bytes c.order k)) others shorter (IsBytes-drop (packet_len c (b ∷ bytes)) (b ∷ bytes) fits))
    ]) refl

-- ---- the header

record IsHeader (c : Classic) (file : List ℕ) : Type 0 where
  pub free : List ℕ
  pub upper : ℕ
  pub is : file ≡ header_bytes c free upper ++ drop 24 file
  pub free_len : length free ≡ 16
  pub upper_fits : upper < 2 ^ 16
  pub link_fits : c.link < 2 ^ 16

header_flat : (c : Classic) (free : List ℕ) (upper : ℕ) (rest : List ℕ)
    → header_bytes c free upper ++ rest ≡ bytes32 c.order (cond c.micro 0xa1b2c3d4 0xa1b23c4d) ++ (free ++ (bytes32 c.order (upper * 0x10000 + c.link) ++ rest))
header_flat c free upper rest =
    let magic = bytes32 c.order (cond c.micro 0xa1b2c3d4 0xa1b23c4d) in
    let number = bytes32 c.order (upper * 0x10000 + c.link) in
    append_assoc magic (free ++ number) rest ∙ ap (λ (t : List ℕ). magic ++ t) (append_assoc free number rest)

-- the header whose magic number, the highest byte first, is m
header_split : (o : ByteOrder) (micro : Bool) (m : ℕ) (file : List ℕ) → IsBytes file → 24 ≤ length file → number32 Big file 0 ≡ m
    → bytes32 o (cond micro 0xa1b2c3d4 0xa1b23c4d) ≡ bytes32 Big m → IsHeader (header_in o micro file) file
header_split o micro m file fits len is same =
    let number = number32 o file 20 in
    let c = header_in o micro file in
    let free = slice_range file 4 20 in
    let small = number32-fits o file 20 fits in
    let whole : number / 0x10000 * 0x10000 + c.link ≡ number = omega arith in
    let link : bytes32 o (number / 0x10000 * 0x10000 + c.link) ++ drop 24 file ≡ drop 20 file = spells32 o file (drop 24 file) 20 (number / 0x10000 * 0x10000 + c.link) fits (omega (arith, len)) whole refl in
    let skipped : free ++ (bytes32 o (number / 0x10000 * 0x10000 + c.link) ++ drop 24 file) ≡ drop 4 file = ap (λ (t : List ℕ). free ++ t) link ∙ sym (drop_split file 4 20 (omega arith)) in
    let magic = spells32 Big file _ 0 m fits (omega (arith, len)) (sym is) skipped in
    record {
      free = free;
      upper = number / 0x10000;
      is = sym (header_flat c free (number / 0x10000) (drop 24 file) ∙ ap (λ (t : List ℕ). t ++ (free ++ (bytes32 o (number / 0x10000 * 0x10000 + c.link) ++ drop 24 file))) same ∙ magic);
      free_len = omega (arith, length-range file 4 20 (omega (arith, len)));
      upper_fits = omega (arith, small);
      link_fits = omega arith;
    }

header_told : (file : List ℕ) (c : Classic) (a b d e : Bool) → IsBytes file → 24 ≤ length file
    → eqb (number32 Big file 0) 0xa1b2c3d4 ≡ a → eqb (number32 Big file 0) 0xa1b23c4d ≡ b → eqb (number32 Big file 0) 0xd4c3b2a1 ≡ d → eqb (number32 Big file 0) 0x4d3cb2a1 ≡ e
    → cond a (Some (header_in Big true file)) (cond b (Some (header_in Big false file)) (cond d (Some (header_in Little true file)) (cond e (Some (header_in Little false file)) None))) ≡ Some c
    → IsHeader c file
header_told file c true b d e fits len is_a is_b is_d is_e is =
    let same : header_in Big true file ≡ c = cc in subst (λ h. IsHeader h file) same (header_split Big true 0xa1b2c3d4 file fits len (eqb-true _ _ is_a) refl)
header_told file c false true d e fits len is_a is_b is_d is_e is =
    let same : header_in Big false file ≡ c = cc in subst (λ h. IsHeader h file) same (header_split Big false 0xa1b23c4d file fits len (eqb-true _ _ is_b) refl)
header_told file c false false true e fits len is_a is_b is_d is_e is =
    let same : header_in Little true file ≡ c = cc in subst (λ h. IsHeader h file) same (header_split Little true 0xd4c3b2a1 file fits len (eqb-true _ _ is_d) refl)
header_told file c false false false true fits len is_a is_b is_d is_e is =
    let same : header_in Little false file ≡ c = cc in subst (λ h. IsHeader h file) same (header_split Little false 0x4d3cb2a1 file fits len (eqb-true _ _ is_e) refl)
header_told file c false false false false fits len is_a is_b is_d is_e is = absurd cc

-- ---- the file

pub classic_is_split : (c : Classic) (file : List ℕ) → IsBytes file → 24 ≤ length file → classic_in file ≡ Some c
    → (packets : List PacketValue) × (end : Option RecordingError) × IsClassic c packets end file
classic_is_split c file fits len is =
    let h = header_told file c _ _ _ _ fits len refl refl refl refl is in
    let s = split_within (length (drop 24 file)) c 24 (drop 24 file) (omega arith) (IsBytes-drop 24 file fits) in (
      s.packets,
      s.end,
      record {
        free = h.free;
        upper = h.upper;
        rest = s.rest;
        is = h.is ∙ ap (λ (t : List ℕ). header_bytes c h.free h.upper ++ t) s.is;
        free_len = h.free_len;
        upper_fits = h.upper_fits;
        link_fits = h.link_fits;
        packets_fit = s.fits;
        ends = s.ends;
      },
    )
