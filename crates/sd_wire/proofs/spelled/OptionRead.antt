-- An option that is spelled is read, whatever follows it.
use Rattle.std.proofs.Common.{◌≡◌, ℕ, ◌+◌, ◌-◌, ◌^◌, ◌<◌, ◌≤◌, true, false, eqb, ltb, List, ◌∷◌, ◌++◌, length, get_or, take, drop, Some, refl, sym, ap, subst, ◌∙◌, append_assoc, arith}
use Rattle.std.specs.Prelude.{slice_range}
use Rattle.std.specs.Net.Addr.{octets_of}
use Rattle.std.proofs.lemmas.Bool.{ne_eqb, le-ltb}
use Rattle.std.proofs.lemmas.List.{take_at, drop_at, get_or-append_right, length-append, drop-drop}
use Rattle.std.proofs.lemmas.Nat.{from_be_bytes-to_be_bytes_2}
use Rattle.sd_wire.specs.declared.endpoint.Ipv4Endpoint.{Ipv4Endpoint}
use Rattle.sd_wire.specs.declared.endpoint.Ipv6Endpoint.{Ipv6Endpoint}
use Rattle.sd_wire.specs.declared.option.SdOption.{SdOption}
use Rattle.sd_wire.specs.declared.option.SdOption.TheVariants.{LoadBalancing, Endpoint4, Multicast4, SdEndpoint4, Endpoint6, Multicast6, SdEndpoint6, Raw}
use Rattle.sd_wire.specs.contents.Raw.{has_layout}
use Rattle.sd_wire.specs.layout.Fields.{number16}
use Rattle.sd_wire.specs.layout.Spelling.{ipv4_bytes, ipv6_bytes, option_bytes, Ipv4Fits, Ipv6Fits, RawFits, OptionFits}
use Rattle.sd_wire.specs.decoding.Reading.{SpellsOption}
use Rattle.sd_wire.specs.layout.Layout.{option_len}
use Rattle.sd_wire.specs.decoding.Faults.{has_len, option_size}
use Rattle.sd_wire.specs.decoding.Program.{ipv4_in, ipv6_in, option_by, option_in}
use Rattle.sd_wire.proofs.spelled.FieldLemmas.{segments_of-octets_of, length-octets_of}

-- these bytes, with any after them, begin with this option
pub record IsRead (o : SdOption) (first rest : List ℕ) : Type 0 where
  pub size : option_size (first ++ rest) ≡ Some (length first)
  pub is : option_in (first ++ rest) ≡ o

-- an address of n octets between two fields
module _ (n : ℕ) (octets tail : List ℕ) (len : length octets ≡ n) where
  behind : (k : ℕ) → get_or (octets ++ tail) (n + k) 0 ≡ get_or tail k 0
  behind k = let back : n + k - n ≡ k = omega arith in rw (get_or-append_right octets tail n (n + k) 0 len (omega arith), back) refl

  drop_behind : (k : ℕ) → drop (n + k) (octets ++ tail) ≡ drop k tail
  drop_behind k = let step : n + k ≡ n + k = refl in sym (drop-drop k n (octets ++ tail)) ∙ ap (drop k) (drop_at octets tail n len)

ipv4_in-spelled : (kind r s : ℕ) (octets : List ℕ) (port protocol : ℕ) (rest : List ℕ) → length octets ≡ 4 → port < 2 ^ 16
    → ipv4_in (ipv4_bytes kind r s (record { socket = record { ip = record { octets = octets }; port = port }; protocol = record { 0 = protocol } }) ++ rest)
    ≡ record { socket = record { ip = record { octets = octets }; port = port }; protocol = record { 0 = protocol } }
ipv4_in-spelled kind r s octets port protocol rest len fits =
    let tail : List ℕ = s ∷ protocol ∷ number16 port in
    let assoc : (octets ++ tail) ++ rest ≡ octets ++ (tail ++ rest) = append_assoc octets tail rest in
    let address : take 4 (octets ++ (tail ++ rest)) ≡ octets = take_at octets (tail ++ rest) 4 len in
    let number = behind 4 octets (tail ++ rest) len 1 in
    let ports = drop_behind 4 octets (tail ++ rest) len 2 in
    rw (assoc, address, number, ports, from_be_bytes-to_be_bytes_2 port fits) refl

ipv6_in-spelled : (kind r s : ℕ) (segments : List ℕ) (port protocol : ℕ) (rest : List ℕ) → length segments ≡ 8 → port < 2 ^ 16
    → ipv6_in (ipv6_bytes kind r s (record { address = record { segments = segments }; port = port; protocol = record { 0 = protocol } }) ++ rest)
    ≡ record { address = record { segments = segments }; port = port; protocol = record { 0 = protocol } }
ipv6_in-spelled kind r s segments port protocol rest is fits =
    let octets = octets_of segments in
    let len : length octets ≡ 16 = omega (arith, length-octets_of segments, is) in
    let tail : List ℕ = s ∷ protocol ∷ number16 port in
    let assoc : (octets ++ tail) ++ rest ≡ octets ++ (tail ++ rest) = append_assoc octets tail rest in
    let address : take 16 (octets ++ (tail ++ rest)) ≡ octets = take_at octets (tail ++ rest) 16 len in
    let number = behind 16 octets (tail ++ rest) len 1 in
    let ports = drop_behind 16 octets (tail ++ rest) len 2 in
    rw (assoc, address, number, ports, segments_of-octets_of segments, from_be_bytes-to_be_bytes_2 port fits) refl

-- the size of an option with this type and length
size_by : (kind l : ℕ) (bytes : List ℕ) → option_len bytes ≡ l → get_or bytes 2 0 ≡ kind → 1 ≤ l → l + 3 ≤ length bytes → has_len kind l ≡ true → option_size bytes ≡ Some (l + 3)
size_by kind l bytes len is some le has =
    let a : ltb (length bytes) 3 ≡ false = le-ltb _ _ (omega (arith, le)) in
    let b : eqb l 0 ≡ false = ne_eqb l 0 (λ e. omega (arith, e, some)) in
    let d : ltb (length bytes) (l + 3) ≡ false = le-ltb _ _ le in
    rw (a, len, b, d, is, has) refl

ipv4_size : (kind r s : ℕ) (e : Ipv4Endpoint) (rest : List ℕ) → Ipv4Fits e → has_len kind 9 ≡ true → option_size (ipv4_bytes kind r s e ++ rest) ≡ Some (length (ipv4_bytes kind r s e))
ipv4_size kind r s e rest fits has =
    let o : List ℕ = e.socket.ip.octets in
    let tail : List ℕ = s ∷ e.protocol.0 ∷ number16 e.socket.port in
    let n : length (ipv4_bytes kind r s e) ≡ 12 = omega (arith, length-append o tail, fits.address.0) in
    let le : 12 ≤ length (ipv4_bytes kind r s e ++ rest) = omega (arith, length-append (o ++ tail) rest, length-append o tail, fits.address.0) in
    rw n (size_by kind 9 (ipv4_bytes kind r s e ++ rest) refl refl (omega arith) le has)

ipv6_size : (kind r s : ℕ) (e : Ipv6Endpoint) (rest : List ℕ) → Ipv6Fits e → has_len kind 21 ≡ true → option_size (ipv6_bytes kind r s e ++ rest) ≡ Some (length (ipv6_bytes kind r s e))
ipv6_size kind r s e rest fits has =
    let o : List ℕ = octets_of e.address.segments in
    let tail : List ℕ = s ∷ e.protocol.0 ∷ number16 e.port in
    let octets = length-octets_of e.address.segments in
    let n : length (ipv6_bytes kind r s e) ≡ 24 = omega (arith, length-append o tail, octets, fits.address.0) in
    let le : 24 ≤ length (ipv6_bytes kind r s e ++ rest) = omega (arith, length-append (o ++ tail) rest, length-append o tail, octets, fits.address.0) in
    rw n (size_by kind 21 (ipv6_bytes kind r s e ++ rest) refl refl (omega arith) le has)

ipv4_read : (kind r s : ℕ) (e : Ipv4Endpoint) (rest : List ℕ) → Ipv4Fits e → ipv4_in (ipv4_bytes kind r s e ++ rest) ≡ e
ipv4_read kind r s e rest fits = ipv4_in-spelled kind r s e.socket.ip.octets e.socket.port e.protocol.0 rest fits.address.0 fits.port

ipv6_read : (kind r s : ℕ) (e : Ipv6Endpoint) (rest : List ℕ) → Ipv6Fits e → ipv6_in (ipv6_bytes kind r s e ++ rest) ≡ e
ipv6_read kind r s e rest fits = ipv6_in-spelled kind r s e.address.segments e.port e.protocol.0 rest fits.address.0 fits.port

-- a type without a layout
unknown_type : (kind l : ℕ) (bytes : List ℕ) → has_layout kind ≡ false → (has_len kind l ≡ true) × (option_by kind bytes ≡ Raw (record { kind = kind; bytes = slice_range bytes 3 (option_len bytes + 3) }))
unknown_type kind l bytes unknown =
    let no : (k : ℕ) → has_layout k ≡ true → kind ≡ k → ⊥ = λ k known e. let bad = sym unknown ∙ ap has_layout e ∙ known in cc in
    let tests : (k : ℕ) → has_layout k ≡ true → eqb kind k ≡ false = λ k known. ne_eqb kind k (no k known) in (
      rw (tests 0x02 refl, tests 0x04 refl, tests 0x14 refl, tests 0x24 refl, tests 0x06 refl, tests 0x16 refl, tests 0x26 refl) refl,
      rw (tests 0x02 refl, tests 0x04 refl, tests 0x14 refl, tests 0x24 refl, tests 0x06 refl, tests 0x16 refl, tests 0x26 refl) refl,
    )

raw_read : (r s kind : ℕ) (content rest : List ℕ) → RawFits (record { kind = kind; bytes = content })
    → IsRead (Raw (record { kind = kind; bytes = content })) (option_bytes r s (Raw (record { kind = kind; bytes = content }))) rest
raw_read r s kind content rest fits =
    let bytes : List ℕ = option_bytes r s (Raw (record { kind = kind; bytes = content })) ++ rest in
    let len : option_len bytes ≡ length content = from_be_bytes-to_be_bytes_2 (length content) fits.raw.fits in
    let le : length content + 3 ≤ length bytes = omega (arith, length-append content rest) in
    let three : length content + 3 - 3 ≡ length content = omega arith in
    let unknown = unknown_type kind (length content) bytes fits.raw.unknown in
    let size : length (option_bytes r s (Raw (record { kind = kind; bytes = content }))) ≡ length content + 3 = omega arith in
    let same : take (option_len bytes + 3 - 3) (content ++ rest) ≡ content = rw (len, three) (take_at content rest (length content) refl) in
    record {
      size = rw size (size_by kind (length content) bytes len refl fits.raw.some le unknown.0);
      is = unknown.1 ∙ ap (λ (t : List ℕ). Raw (record { kind = kind; bytes = t })) same;
    }

load_read : (r s priority weight : ℕ) (rest : List ℕ) → priority < 2 ^ 16 → weight < 2 ^ 16 → IsRead (LoadBalancing priority weight) (option_bytes r s (LoadBalancing priority weight)) rest
load_read r s priority weight rest fits1 fits2 = record {
  size = size_by 2 5 (option_bytes r s (LoadBalancing priority weight) ++ rest) refl refl (omega arith) (omega arith) refl;
  is = rw (from_be_bytes-to_be_bytes_2 priority fits1, from_be_bytes-to_be_bytes_2 weight fits2) refl;
}

-- what is spelled is read
spelled_read : (r s : ℕ) (o : SdOption) (rest : List ℕ) → OptionFits o → IsRead o (option_bytes r s o) rest
spelled_read r s (LoadBalancing priority weight) rest fits = load_read r s priority weight rest fits.0 fits.1
spelled_read r s (Endpoint4 e) rest fits = record { size = ipv4_size 0x04 r s e rest fits refl; is = ap Endpoint4 (ipv4_read 0x04 r s e rest fits) }
spelled_read r s (Multicast4 e) rest fits = record { size = ipv4_size 0x14 r s e rest fits refl; is = ap Multicast4 (ipv4_read 0x14 r s e rest fits) }
spelled_read r s (SdEndpoint4 e) rest fits = record { size = ipv4_size 0x24 r s e rest fits refl; is = ap SdEndpoint4 (ipv4_read 0x24 r s e rest fits) }
spelled_read r s (Endpoint6 e) rest fits = record { size = ipv6_size 0x06 r s e rest fits refl; is = ap Endpoint6 (ipv6_read 0x06 r s e rest fits) }
spelled_read r s (Multicast6 e) rest fits = record { size = ipv6_size 0x16 r s e rest fits refl; is = ap Multicast6 (ipv6_read 0x16 r s e rest fits) }
spelled_read r s (SdEndpoint6 e) rest fits = record { size = ipv6_size 0x26 r s e rest fits refl; is = ap SdEndpoint6 (ipv6_read 0x26 r s e rest fits) }
spelled_read r s (Raw o) rest fits = raw_read r s o.kind o.bytes rest fits

pub option_read : (o : SdOption) (first rest : List ℕ) → SpellsOption o first → IsRead o first rest
option_read o first rest spells = subst (λ (t : List ℕ). IsRead o t rest) (sym spells.is) (spelled_read spells.reserved1 spells.reserved2 o rest spells.fits)
