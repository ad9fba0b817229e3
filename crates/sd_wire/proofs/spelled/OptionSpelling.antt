-- An option at the front of bytes is spelled by them, and one that is spelled is read, whatever follows it.
use Rattle.std.proofs.Common.{◌≡◌, ℕ, ◌+◌, ◌-◌, ◌≤◌, true, false, List, ◌∷◌, ◌++◌, length, get_or, drop, refl, sym, ap, subst, ◌∙◌, append_assoc, arith}
use Rattle.std.specs.Prelude.{slice_range}
use Rattle.std.specs.Net.Addr.{segments_of, octets_of}
use Rattle.std.specs.Net.Socket.{v4_port}
use Rattle.std.proofs.lemmas.Bool.{eqb-true, ne_eqb}
use Rattle.std.proofs.lemmas.List.Folds.{drop_split}
use Rattle.sd_wire.specs.declared.endpoint.Ipv4Endpoint.{Ipv4Endpoint}
use Rattle.sd_wire.specs.declared.endpoint.Ipv6Endpoint.{Ipv6Endpoint}
use Rattle.sd_wire.specs.declared.option.SdOption.{SdOption}
use Rattle.sd_wire.specs.declared.option.SdOption.TheVariants.{LoadBalancing, Endpoint4, Multicast4, SdEndpoint4, Endpoint6, Multicast6, SdEndpoint6, Raw}
use Rattle.sd_wire.specs.contents.Raw.{has_layout}
use Rattle.sd_wire.specs.layout.Fields.{IsBytes, number16, field16}
use Rattle.sd_wire.specs.layout.Spelling.{ipv4_bytes, ipv6_bytes, option_bytes, Ipv4Fits, Ipv6Fits, OptionFits}
use Rattle.sd_wire.specs.layout.Layout.{option_len}
use Rattle.sd_wire.specs.decoding.Faults.{has_len}
use Rattle.sd_wire.specs.decoding.Program.{HasOption, ipv4_in, ipv6_in, option_in}
use Rattle.sd_wire.proofs.spelled.TestLemmas.{pick}
use Rattle.sd_wire.proofs.spelled.FieldLemmas.{IsBytes-range, length-range, spells1, spells2, field16_fits, are_segments}

-- the option stands in front of the bytes, and has n of them
pub record IsFront (n : ℕ) (bytes : List ℕ) (o : SdOption) : Type 0 where
  pub reserved1 : ℕ
  pub reserved2 : ℕ
  pub is : option_bytes reserved1 reserved2 o ++ drop n bytes ≡ bytes
  pub fits : OptionFits o

-- ---- what is read is spelled so

ipv4_front : (kind : ℕ) (bytes : List ℕ) → IsBytes bytes → 12 ≤ length bytes → option_len bytes ≡ 9 → kind ≡ get_or bytes 2 0
    → ipv4_bytes kind (get_or bytes 3 0) (get_or bytes 8 0) (ipv4_in bytes) ++ drop 12 bytes ≡ bytes
ipv4_front kind bytes fits le len is =
    let e = ipv4_in bytes in
    let octets = slice_range bytes 4 8 in
    let port = spells2 bytes _ 10 (v4_port e.socket) fits (omega (arith, le)) refl refl in
    let protocol = spells1 bytes _ 9 e.protocol.0 (omega (arith, le)) refl port in
    let reserved = spells1 bytes _ 8 (get_or bytes 8 0) (omega (arith, le)) refl protocol in
    let address = append_assoc octets (get_or bytes 8 0 ∷ e.protocol.0 ∷ number16 (v4_port e.socket)) (drop 12 bytes) ∙ ap (λ (t : List ℕ). octets ++ t) reserved ∙ sym (drop_split bytes 4 8 (omega arith)) in
    let first = spells1 bytes _ 3 (get_or bytes 3 0) (omega (arith, le)) refl address in
    let kinds = spells1 bytes _ 2 kind (omega (arith, le)) is first in
    spells2 bytes _ 0 9 fits (omega (arith, le)) (sym len) kinds

ipv6_front : (kind : ℕ) (bytes : List ℕ) → IsBytes bytes → 24 ≤ length bytes → option_len bytes ≡ 21 → kind ≡ get_or bytes 2 0
    → ipv6_bytes kind (get_or bytes 3 0) (get_or bytes 20 0) (ipv6_in bytes) ++ drop 24 bytes ≡ bytes
ipv6_front kind bytes fits le len is =
    let e = ipv6_in bytes in
    let octets = slice_range bytes 4 20 in
    let segments = are_segments 8 octets (length-range bytes 4 16 (omega (arith, le))) (IsBytes-range bytes 4 16 fits) in
    let port = spells2 bytes _ 22 e.port fits (omega (arith, le)) refl refl in
    let protocol = spells1 bytes _ 21 e.protocol.0 (omega (arith, le)) refl port in
    let reserved = spells1 bytes _ 20 (get_or bytes 20 0) (omega (arith, le)) refl protocol in
    let tail : List ℕ = get_or bytes 20 0 ∷ e.protocol.0 ∷ number16 e.port in
    let address = append_assoc octets tail (drop 24 bytes) ∙ ap (λ (t : List ℕ). octets ++ t) reserved ∙ sym (drop_split bytes 4 20 (omega arith)) in
    let whole : (octets_of (segments_of octets) ++ tail) ++ drop 24 bytes ≡ drop 4 bytes = ap (λ (t : List ℕ). (t ++ tail) ++ drop 24 bytes) segments.back ∙ address in
    let first = spells1 bytes _ 3 (get_or bytes 3 0) (omega (arith, le)) refl whole in
    let kinds = spells1 bytes _ 2 kind (omega (arith, le)) is first in
    spells2 bytes _ 0 21 fits (omega (arith, le)) (sym len) kinds

load_front : (kind : ℕ) (bytes : List ℕ) → IsBytes bytes → 8 ≤ length bytes → option_len bytes ≡ 5 → 2 ≡ get_or bytes 2 0
    → option_bytes (get_or bytes 3 0) 0 (LoadBalancing (field16 bytes 4) (field16 bytes 6)) ++ drop 8 bytes ≡ bytes
load_front kind bytes fits le len is =
    let weight = spells2 bytes _ 6 (field16 bytes 6) fits (omega (arith, le)) refl refl in
    let priority = spells2 bytes _ 4 (field16 bytes 4) fits (omega (arith, le)) refl weight in
    let first = spells1 bytes _ 3 (get_or bytes 3 0) (omega (arith, le)) refl priority in
    let kinds = spells1 bytes _ 2 2 (omega (arith, le)) is first in
    spells2 bytes _ 0 5 fits (omega (arith, le)) (sym len) kinds

raw_front : (kind : ℕ) (bytes : List ℕ) → IsBytes bytes → option_len bytes + 3 ≤ length bytes → kind ≡ get_or bytes 2 0
    → option_bytes 0 0 (Raw (record { kind = kind; bytes = slice_range bytes 3 (option_len bytes + 3) })) ++ drop (option_len bytes + 3) bytes ≡ bytes
raw_front kind bytes fits le is =
    let n = option_len bytes in
    let content = slice_range bytes 3 (n + 3) in
    let three : n + 3 - 3 ≡ n = omega arith in
    let len : length content ≡ n = rw three (length-range bytes 3 n (omega (arith, le))) in
    let behind = sym (drop_split bytes 3 (n + 3) (omega arith)) in
    let kinds = spells1 bytes _ 2 kind (omega (arith, le)) is behind in
    spells2 bytes _ 0 (length content) fits (omega (arith, le)) len kinds

ipv4_in-fits : (bytes : List ℕ) → IsBytes bytes → 12 ≤ length bytes → Ipv4Fits (ipv4_in bytes)
ipv4_in-fits bytes fits le = record {
  address = (length-range bytes 4 4 (omega (arith, le)), IsBytes-range bytes 4 4 fits);
  protocol = fits 9;
  port = field16_fits bytes 10 fits;
}

ipv6_in-fits : (bytes : List ℕ) → IsBytes bytes → 24 ≤ length bytes → Ipv6Fits (ipv6_in bytes)
ipv6_in-fits bytes fits le =
    let segments = are_segments 8 (slice_range bytes 4 20) (length-range bytes 4 16 (omega (arith, le))) (IsBytes-range bytes 4 16 fits) in
    record { address = (segments.length, segments.fits); protocol = fits 21; port = field16_fits bytes 22 fits }

-- the length that a type has
len_of : (kind len k : ℕ) → kind ≡ k → has_len kind len ≡ true → has_len k len ≡ true
len_of kind len k is has = subst (λ x. has_len x len ≡ true) is has

ipv4_is_front : (kind n : ℕ) (bytes : List ℕ) → IsBytes bytes → HasOption bytes n → option_len bytes ≡ 9 → kind ≡ get_or bytes 2 0 → (n ≡ 12) × (ipv4_bytes kind (get_or bytes 3 0) (get_or bytes 8 0) (ipv4_in bytes) ++ drop n bytes ≡ bytes) × Ipv4Fits (ipv4_in bytes)
ipv4_is_front kind n bytes fits has len is =
    let size : n ≡ 12 = omega (arith, has.size, len) in
    let le : 12 ≤ length bytes = omega (arith, has.within, size) in
    (size, rw size (ipv4_front kind bytes fits le len is), ipv4_in-fits bytes fits le)

ipv6_is_front : (kind n : ℕ) (bytes : List ℕ) → IsBytes bytes → HasOption bytes n → option_len bytes ≡ 21 → kind ≡ get_or bytes 2 0 → (n ≡ 24) × (ipv6_bytes kind (get_or bytes 3 0) (get_or bytes 20 0) (ipv6_in bytes) ++ drop n bytes ≡ bytes) × Ipv6Fits (ipv6_in bytes)
ipv6_is_front kind n bytes fits has len is =
    let size : n ≡ 24 = omega (arith, has.size, len) in
    let le : 24 ≤ length bytes = omega (arith, has.within, size) in
    (size, rw size (ipv6_front kind bytes fits le len is), ipv6_in-fits bytes fits le)

module _ (n : ℕ) (bytes : List ℕ) (fits : IsBytes bytes) (has : HasOption bytes n) where
  kind_at : ℕ
  kind_at = get_or bytes 2 0

  front4 : (k : ℕ) (o : Ipv4Endpoint → SdOption) → ((r s : ℕ) (e : Ipv4Endpoint) → option_bytes r s (o e) ≡ ipv4_bytes k r s e) → ((e : Ipv4Endpoint) → Ipv4Fits e → OptionFits (o e)) → (has_len k (option_len bytes) ≡ true → option_len bytes ≡ 9) → get_or bytes 2 0 ≡ k → IsFront n bytes (o (ipv4_in bytes))
  front4 k o spelled fit len is =
      let f = ipv4_is_front k n bytes fits has (len (len_of _ _ k is has.len)) (sym is) in
      record {
        reserved1 = get_or bytes 3 0;
        reserved2 = get_or bytes 8 0;
        is = ap (λ (t : List ℕ). t ++ drop n bytes) (spelled _ _ (ipv4_in bytes)) ∙ f.1;
        fits = fit (ipv4_in bytes) f.2;
      }

  front6 : (k : ℕ) (o : Ipv6Endpoint → SdOption) → ((r s : ℕ) (e : Ipv6Endpoint) → option_bytes r s (o e) ≡ ipv6_bytes k r s e) → ((e : Ipv6Endpoint) → Ipv6Fits e → OptionFits (o e)) → (has_len k (option_len bytes) ≡ true → option_len bytes ≡ 21) → get_or bytes 2 0 ≡ k → IsFront n bytes (o (ipv6_in bytes))
  front6 k o spelled fit len is =
      let f = ipv6_is_front k n bytes fits has (len (len_of _ _ k is has.len)) (sym is) in
      record {
        reserved1 = get_or bytes 3 0;
        reserved2 = get_or bytes 20 0;
        is = ap (λ (t : List ℕ). t ++ drop n bytes) (spelled _ _ (ipv6_in bytes)) ∙ f.1;
        fits = fit (ipv6_in bytes) f.2;
      }

  front_load : get_or bytes 2 0 ≡ 2 → IsFront n bytes (LoadBalancing (field16 bytes 4) (field16 bytes 6))
  front_load is =
      let len : option_len bytes ≡ 5 = eqb-true _ _ (len_of _ _ 2 is has.len) in
      let size : n ≡ 8 = omega (arith, has.size, len) in
      record {
        reserved1 = get_or bytes 3 0;
        reserved2 = 0;
        is = rw size (load_front 2 bytes fits (omega (arith, has.within, size)) len (sym is));
        fits = (field16_fits bytes 4 fits, field16_fits bytes 6 fits);
      }

  front_raw : has_layout (get_or bytes 2 0) ≡ false → IsFront n bytes (Raw (record { kind = get_or bytes 2 0; bytes = slice_range bytes 3 (option_len bytes + 3) }))
  front_raw unknown =
      let l = option_len bytes in
      let three : l + 3 - 3 ≡ l = omega arith in
      let le : l + 3 ≤ length bytes = omega (arith, has.within, has.size) in
      let len : length (slice_range bytes 3 (l + 3)) ≡ l = rw three (length-range bytes 3 l (omega (arith, le))) in
      record {
        reserved1 = 0;
        reserved2 = 0;
        is = rw has.size (raw_front (get_or bytes 2 0) bytes fits le refl);
        fits = record {
          kind = fits 2;
          raw = record { unknown = unknown; some = omega (arith, len, has.some); fits = omega (arith, len, field16_fits bytes 0 fits) };
          bytes = IsBytes-range bytes 3 _ fits;
        };
      }

  -- the option at the front is spelled by the bytes there
  pub is_front : IsFront n bytes (option_in bytes)
  is_front =
      let k = get_or bytes 2 0 in
      pick (IsFront n bytes) k 0x02 _ _ front_load (λ a.
      pick (IsFront n bytes) k 0x04 _ _ (front4 0x04 Endpoint4 (λ r s e. refl) (λ e f. f) (λ h. eqb-true _ _ h)) (λ b.
      pick (IsFront n bytes) k 0x14 _ _ (front4 0x14 Multicast4 (λ r s e. refl) (λ e f. f) (λ h. eqb-true _ _ h)) (λ c.
      pick (IsFront n bytes) k 0x24 _ _ (front4 0x24 SdEndpoint4 (λ r s e. refl) (λ e f. f) (λ h. eqb-true _ _ h)) (λ d.
      pick (IsFront n bytes) k 0x06 _ _ (front6 0x06 Endpoint6 (λ r s e. refl) (λ e f. f) (λ h. eqb-true _ _ h)) (λ e.
      pick (IsFront n bytes) k 0x16 _ _ (front6 0x16 Multicast6 (λ r s e. refl) (λ e f. f) (λ h. eqb-true _ _ h)) (λ f.
      pick (IsFront n bytes) k 0x26 _ _ (front6 0x26 SdEndpoint6 (λ r s e. refl) (λ e f. f) (λ h. eqb-true _ _ h)) (λ g.
      front_raw (rw (ne_eqb k 2 a, ne_eqb k 4 b, ne_eqb k 0x14 c, ne_eqb k 0x24 d, ne_eqb k 6 e, ne_eqb k 0x16 f, ne_eqb k 0x26 g) refl))))))))
