-- Which entries always fit a datagram alone.
use Rattle.std.proofs.Common.{◌≡◌, ℕ, ◌+◌, ◌≤◌, true, List, [], ◌∷◌, length, drop, refl, ap, arith, inl, inr}
use Rattle.std.specs.List.{AllByRecursion}
use Rattle.std.proofs.lemmas.List.{length-append, length-take, length-drop}
use Rattle.std.specs.Net.Addr.{octets_of}
use Rattle.sd_wire.specs.declared.endpoint.Ipv4Endpoint.{Ipv4Endpoint}
use Rattle.sd_wire.specs.declared.endpoint.Ipv6Endpoint.{Ipv6Endpoint}
use Rattle.sd_wire.specs.declared.option.SdOption.{SdOption}
use Rattle.sd_wire.specs.declared.option.SdOption.TheVariants.{Endpoint4, Endpoint6}
use Rattle.sd_wire.specs.layout.Fields.{number16}
use Rattle.sd_wire.specs.contents.Values.{EntryValue}
use Rattle.sd_wire.specs.layout.Spelling.{ipv4_bytes, ipv6_bytes, option_bytes, entry_bytes, Ipv4Fits, Ipv6Fits, RunsFit}
use Rattle.sd_wire.specs.encoding.Writing.{Stands, pool_bytes}
use Rattle.sd_wire.specs.fronts.Splitting.{FitsDatagram, AreFronts}
use Rattle.sd_wire.specs.encoding.Encoding.{place_for, runs_for, all_runs_fit, entries_bytes, pool_after_all}
use Rattle.sd_wire.specs.fronts.Fronts.{IsEndpoint, HasOneEndpointAtMost, IsShortEntry, fronts_of}
use Rattle.sd_wire.proofs.spelled.FieldLemmas.{length-octets_of}
use Rattle.sd_wire.proofs.fronts.SplitLemmas.{pool_bytes-append, entry_length, packed_fits}
use Rattle.sd_wire.proofs.encoding.EncodingLemmas.{stands, fits_test, fit_packs}
use Rattle.sd_wire.proofs.fronts.FrontLemmas.{fronts_fit}

abbrev Pool : Type 0
Pool = List SdOption

-- in an empty pool a run stands at 0, and is then the pool
first_place : (run : Pool) → ((place_for [] run).index ≡ 0) × ((place_for [] run).pool ≡ run)
first_place [] = (refl, refl)
first_place (o ∷ run) = (refl, refl)

-- a run stands within the pool or at its end, and adds at most its own bytes
record Adds (pool run : Pool) (index : ℕ) (after : Pool) : Type 0 where
  pub within : index ≤ length pool
  pub bytes : length (pool_bytes after) ≤ length (pool_bytes pool) + length (pool_bytes run)

adds : (pool run : Pool) (index : ℕ) (after : Pool) → Stands pool run index after → Adds pool run index after
adds pool run index after (inl none) = record { within = omega (arith, none.1); bytes = omega (arith, ap (λ p. length (pool_bytes p)) none.2) }
adds pool run index after (inr (inl found)) = record {
  within = omega (arith, found.0, ap length found.1.0, length-take (length run) (drop index pool), length-drop index pool);
  bytes = omega (arith, ap (λ p. length (pool_bytes p)) found.2);
}
adds pool run index after (inr (inr added)) = record {
  within = omega (arith, added.2);
  bytes = omega (arith, ap (λ p. length (pool_bytes p)) added.3, ap length (pool_bytes-append pool run), length-append (pool_bytes pool) (pool_bytes run));
}

pub short_alone : (e : EntryValue) → IsShortEntry e → FitsDatagram (e ∷ [])
short_alone e short =
    let first = first_place e.first in
    let middle : Pool = (place_for [] e.first).pool in
    let index : ℕ = (place_for middle e.second).index in
    let after : Pool = (place_for middle e.second).pool in
    let second = adds middle e.second index after (stands middle e.second) in
    let few : length middle ≤ 15 = omega (arith, ap length first.1, short.first) in
    let fits : RunsFit (runs_for [] e) = record {
      index1 = omega (arith, first.0);
      index2 = omega (arith, second.within, few);
      count1 = omega (arith, short.first);
      count2 = omega (arith, short.second);
    } in
    let test : all_runs_fit [] (e ∷ []) ≡ true = rw (fits_test (runs_for [] e) fits) refl in
    let entry = entry_length (runs_for [] e) e.head in
    let text : List ℕ = entry_bytes 0 (runs_for [] e) e.head in
    let none : List ℕ = [] in
    let options : length (pool_bytes after) ≤ 1372 =
    omega (arith, second.bytes, ap (λ p. length (pool_bytes p)) first.1, short.bytes, ap length (pool_bytes-append e.first e.second), length-append (pool_bytes e.first) (pool_bytes e.second)) in
    packed_fits (e ∷ []) (entries_bytes [] (e ∷ [])) (pool_after_all [] (e ∷ [])) (fit_packs [] (e ∷ []) test) (omega (arith, length-append text none, entry, options))

-- ---- one endpoint at most

ipv4_length : (kind : ℕ) (e : Ipv4Endpoint) → Ipv4Fits e → length (ipv4_bytes kind 0 0 e) ≤ 24
ipv4_length kind e fits =
    let tail : List ℕ = 0 ∷ e.protocol.0 ∷ number16 e.socket.port in
    let octets : List ℕ = e.socket.ip.octets in
    omega (arith, length-append octets tail, fits.address.0)

ipv6_length : (kind : ℕ) (e : Ipv6Endpoint) → Ipv6Fits e → length (ipv6_bytes kind 0 0 e) ≤ 24
ipv6_length kind e fits =
    let tail : List ℕ = 0 ∷ e.protocol.0 ∷ number16 e.port in
    let octets : List ℕ = octets_of e.address.segments in
    omega (arith, length-append octets tail, length-octets_of e.address.segments, fits.address.0)

endpoint_length : (o : SdOption) → IsEndpoint o → length (option_bytes 0 0 o) ≤ 24
endpoint_length (Endpoint4 e) fits = ipv4_length 0x04 e fits
endpoint_length (Endpoint6 e) fits = ipv6_length 0x06 e fits
endpoint_length _ fits = absurd fits

is_short : (e : EntryValue) → HasOneEndpointAtMost e → IsShortEntry e
is_short e (inl none) = record {
  first = omega (arith, length-append e.first e.second, ap length none);
  second = omega (arith, length-append e.first e.second, ap length none);
  bytes = omega (arith, ap (λ os. length (pool_bytes os)) none);
}
is_short e (inr (o, is, fits)) =
    let last : List ℕ = [] in
    record {
      first = omega (arith, length-append e.first e.second, ap length is);
      second = omega (arith, length-append e.first e.second, ap length is);
      bytes = omega (arith, ap (λ os. length (pool_bytes os)) is, length-append (option_bytes 0 0 o) last, endpoint_length o fits);
    }

pub endpoint_alone : (e : EntryValue) → HasOneEndpointAtMost e → FitsDatagram (e ∷ [])
endpoint_alone e one = short_alone e (is_short e one)

all_alone : (entries : List EntryValue) → AllByRecursion HasOneEndpointAtMost entries → AllByRecursion (λ e. FitsDatagram (e ∷ [])) entries
all_alone [] all = tt
all_alone (e ∷ entries) all = (endpoint_alone e all.0, all_alone entries all.1)

-- all fronts of such entries fit
pub endpoint_fronts : (entries : List EntryValue) (lengths : List ℕ) → AllByRecursion HasOneEndpointAtMost entries → AreFronts entries lengths → AllByRecursion FitsDatagram (fronts_of lengths entries)
endpoint_fronts entries lengths all are = fronts_fit entries lengths (all_alone entries all) are
