-- Entries whose runs are placed in a pool, one after the other.
use Rattle.std.proofs.Common.{◌≡◌, ℕ, zero, suc, ◌+◌, ◌*◌, ◌<◌, ◌≤◌, List, [], ◌∷◌, ◌++◌, length, map, get_or, take, drop, refl, sym, ap, subst, ◌∙◌, append_assoc, arith, inl, inr}
use Rattle.std.specs.List.{AllByRecursion}
use Rattle.std.proofs.lemmas.List.{append-nil, length-append, length-take, take_more, map_push}
use Rattle.sd_wire.specs.declared.endpoint.Ipv4Endpoint.{Ipv4Endpoint}
use Rattle.sd_wire.specs.declared.endpoint.Ipv6Endpoint.{Ipv6Endpoint}
use Rattle.sd_wire.specs.declared.option.SdOption.{SdOption}
use Rattle.sd_wire.specs.declared.option.SdOption.TheVariants.{LoadBalancing, Endpoint4, Multicast4, SdEndpoint4, Endpoint6, Multicast6, SdEndpoint6, Raw}
use Rattle.std.specs.Net.Addr.{octets_of}
use Rattle.sd_wire.specs.declared.error.SdError.TheVariants as errors
use Rattle.sd_wire.specs.declared.entry.Entry.{Entry}
use Rattle.sd_wire.specs.layout.Fields.{number16}
use Rattle.sd_wire.specs.contents.Values.{EntryValue, view_entry}
use Rattle.sd_wire.specs.layout.Spelling.{ipv4_bytes, ipv6_bytes, option_bytes, Ipv4Fits, Ipv6Fits, OptionFits, Runs, entry_bytes, HeadFits}
use Rattle.sd_wire.specs.encoding.Writing.{IsRefused, Stands, PlacesEntry, Packs, pool_bytes}
use Rattle.sd_wire.specs.encoding.Written.{IsPackError}
use Rattle.sd_wire.proofs.spelled.FieldLemmas.{length-octets_of}

abbrev Pool : Type 0
Pool = List SdOption

-- one more entry
pub packs-push : (pool : Pool) (entries : List EntryValue) (text : List ℕ) (last : Pool) (e : EntryValue) (runs : Runs) (next : Pool) → Packs pool entries text last → PlacesEntry last e runs next
    → Packs pool (entries ++ e ∷ []) (text ++ entry_bytes 0 runs e.head) next
packs-push pool [] text last e runs next h places = (
  runs,
  next,
  [],
  subst (λ (p : Pool). PlacesEntry p e runs next) h.1 places,
  ap (λ (t : List ℕ). t ++ entry_bytes 0 runs e.head) h.0 ∙ sym (append-nil (entry_bytes 0 runs e.head)),
  (refl, refl),
)
packs-push pool (x ∷ entries) text last e runs next h places = (
  h.0,
  h.1,
  h.2 ++ entry_bytes 0 runs e.head,
  h.3,
  ap (λ (t : List ℕ). t ++ entry_bytes 0 runs e.head) h.4 ∙ append_assoc (entry_bytes 0 h.0 x.head) h.2 (entry_bytes 0 runs e.head),
  packs-push h.1 entries h.2 last e runs next h.5 places,
)

pub all-push : {X : Type 0} (P : X → Type 0) (xs : List X) (x : X) → AllByRecursion P xs → P x → AllByRecursion P (xs ++ x ∷ [])
all-push P [] x all is = (is, tt)
all-push P (y ∷ xs) x all is = (all.0, all-push P xs x all.1 is)

-- ---- how the pool grows

pub stands-more : (pool run : Pool) (index : ℕ) (after : Pool) → Stands pool run index after → (more : Pool) × (after ≡ pool ++ more)
stands-more pool run index after h =
    elim h [
      | inl none ↦ ([], none.2 ∙ sym (append-nil pool))
      | inr other ↦ elim other [
        | inl found ↦ ([], found.2 ∙ sym (append-nil pool))
        | inr added ↦ (run, added.3)
      ]
    ]

pub stands-length : (pool run : Pool) (index : ℕ) (after : Pool) → Stands pool run index after → index ≤ 255 → length run ≤ 15 → length pool ≤ 270 → length after ≤ 270
stands-length pool run index after h le short few =
    elim h [
      | inl none ↦ omega (arith, ap length none.2, few)
      | inr other ↦ elim other [
        | inl found ↦ omega (arith, ap length found.2, few)
        | inr added ↦ omega (arith, ap length added.3, length-append pool run, added.2, le, short)
      ]
    ]

pub places-length : (pool : Pool) (e : EntryValue) (runs : Runs) (after : Pool) → PlacesEntry pool e runs after → length pool ≤ 270 → length after ≤ 270
places-length pool e runs after p few =
    let fits = p.fits in
    let middle = stands-length pool e.first runs.index1 p.middle p.first (omega (arith, fits.index1)) (omega (arith, fits.count1, p.count1)) few in
    stands-length p.middle e.second runs.index2 after p.second (omega (arith, fits.index2)) (omega (arith, fits.count2, p.count2)) middle

-- ---- how long options are

ipv4_length : (kind r s : ℕ) (e : Ipv4Endpoint) → Ipv4Fits e → length (ipv4_bytes kind r s e) ≤ 65538
ipv4_length kind r s e fits =
    let tail : List ℕ = s ∷ e.protocol.0 ∷ number16 e.socket.port in
    let octets : List ℕ = e.socket.ip.octets in
    omega (arith, length-append octets tail, fits.address.0)

ipv6_length : (kind r s : ℕ) (e : Ipv6Endpoint) → Ipv6Fits e → length (ipv6_bytes kind r s e) ≤ 65538
ipv6_length kind r s e fits =
    let tail : List ℕ = s ∷ e.protocol.0 ∷ number16 e.port in
    let octets : List ℕ = octets_of e.address.segments in
    omega (arith, length-append octets tail, length-octets_of e.address.segments, fits.address.0)

pub option_length : (r s : ℕ) (o : SdOption) → OptionFits o → length (option_bytes r s o) ≤ 65538
option_length r s (LoadBalancing priority weight) fits = omega arith
option_length r s (Endpoint4 e) fits = ipv4_length 0x04 r s e fits
option_length r s (Multicast4 e) fits = ipv4_length 0x14 r s e fits
option_length r s (SdEndpoint4 e) fits = ipv4_length 0x24 r s e fits
option_length r s (Endpoint6 e) fits = ipv6_length 0x06 r s e fits
option_length r s (Multicast6 e) fits = ipv6_length 0x16 r s e fits
option_length r s (SdEndpoint6 e) fits = ipv6_length 0x26 r s e fits
option_length r s (Raw o) fits = omega (arith, fits.raw.fits)

pub pool_bytes-push : (pool : Pool) (o : SdOption) → pool_bytes (pool ++ o ∷ []) ≡ pool_bytes pool ++ option_bytes 0 0 o
pool_bytes-push [] o = append-nil (option_bytes 0 0 o)
pool_bytes-push (x ∷ pool) o = ap (λ (t : List ℕ). option_bytes 0 0 x ++ t) (pool_bytes-push pool o) ∙ sym (append_assoc (option_bytes 0 0 x) (pool_bytes pool) (option_bytes 0 0 o))

-- ---- as the loop goes

-- an element, with those before and after it
pub split_at : (entries : List Entry) (k : ℕ) (e : Entry) → k < length entries → e ≡ get_or entries k e
    → map view_entry entries ≡ map view_entry (take k entries) ++ view_entry e ∷ map view_entry (drop (k + 1) entries)
split_at [] k e lt is = absurd (omega (arith, lt))
split_at (x ∷ entries) zero e lt is = rw is refl
split_at (x ∷ entries) (suc k) e lt is =
    let next : suc k + 1 ≡ suc (k + 1) = omega arith in
    rw next (ap (λ (t : List EntryValue). view_entry x ∷ t) (split_at entries k e (omega arith) is))

-- one more of them
pub map_more : (entries : List Entry) (k : ℕ) (e : Entry) → k < length entries → e ≡ get_or entries k e → map view_entry (take (k + 1) entries) ≡ map view_entry (take k entries) ++ view_entry e ∷ []
map_more entries k e lt is = ap (map view_entry) (take_more entries k e lt ∙ ap (λ (x : Entry). take k entries ++ x ∷ []) (sym is)) ∙ map_push view_entry (take k entries) e

-- what the loop knows in front of entry k
pub record PackedUpTo (entries : List Entry) (k : ℕ) (text : List ℕ) (pool : Pool) : Type 0 where
  pub packs : Packs [] (map view_entry (take k entries)) text pool
  pub heads : AllByRecursion (λ e. HeadFits e.head) (map view_entry (take k entries))
  pub len : length text ≡ 16 * k
  pub few : length pool ≤ 270

pub packed_more : (entries : List Entry) (k : ℕ) (text bytes : List ℕ) (pool : Pool) (e : Entry) (runs : Runs) (next : Pool) → k < length entries → e ≡ get_or entries k e → PackedUpTo entries k text pool
    → PlacesEntry pool (view_entry e) runs next → HeadFits e.head → bytes ≡ entry_bytes 0 runs e.head → length bytes ≡ 16 → PackedUpTo entries (k + 1) (text ++ bytes) next
packed_more entries k text bytes pool e runs next lt is h places fits same sixteen =
    let front = map view_entry (take k entries) in
    let more = map_more entries k e lt is in
    record {
      packs = rw (same, more) (packs-push [] front text pool (view_entry e) runs next h.packs places);
      heads = rw more (all-push (λ x. HeadFits x.head) front (view_entry e) h.heads fits);
      len = omega (arith, length-append text bytes, h.len, sixteen);
      few = places-length pool (view_entry e) runs next places h.few;
    }

pub length_view : (entries : List Entry) → length (map view_entry entries) ≡ length entries
length_view [] = refl
length_view (e ∷ entries) = omega (arith, length_view entries)

pub packed_error : (entries : List Entry) (k : ℕ) (text : List ℕ) (pool : Pool) (e : Entry) → k < length entries → e ≡ get_or entries k e → PackedUpTo entries k text pool → IsRefused pool (view_entry e)
    → IsPackError (map view_entry entries) (errors.TooManyOptions k)
packed_error entries k text pool e lt is h refused = record {
  front = map view_entry (take k entries);
  e = view_entry e;
  back = map view_entry (drop (k + 1) entries);
  is = split_at entries k e lt is;
  counted = omega (arith, length_view (take k entries), length-take k entries);
  text = text;
  pool = pool;
  packs = h.packs;
  refused = refused;
}

-- ---- the text of a pool

pub record PooledUpTo (pool : Pool) (k : ℕ) (text : List ℕ) : Type 0 where
  pub is : text ≡ pool_bytes (take k pool)
  pub fits : AllByRecursion OptionFits (take k pool)
  pub len : length text ≤ 65538 * k

pub pooled_more : (pool : Pool) (k : ℕ) (text after : List ℕ) (o : SdOption) → k < length pool → o ≡ get_or pool k o → PooledUpTo pool k text → after ≡ text ++ option_bytes 0 0 o → OptionFits o → PooledUpTo pool (k + 1) after
pooled_more pool k text after o lt is h same fits =
    let more : take (k + 1) pool ≡ take k pool ++ o ∷ [] = take_more pool k o lt ∙ ap (λ (x : SdOption). take k pool ++ x ∷ []) (sym is) in
    record {
      is = rw (same, more, h.is) (sym (pool_bytes-push (take k pool) o));
      fits = rw more (all-push OptionFits (take k pool) o h.fits fits);
      len = omega (arith, ap length same, length-append text (option_bytes 0 0 o), option_length 0 0 o fits, h.len);
    }
