-- The fronts of entries are no longer than what is left, and short.
use Rattle.std.proofs.Common.{◌≡◌, ◌≤◌, ℕ, ◌*◌, List, [], ◌∷◌, length, map, take, drop, inl, inr, ap, ◌∙◌, arith, length-drop}
use Rattle.std.proofs.lemmas.List.{length-append, length-map, length-take}
use Rattle.sd_wire.specs.declared.entry.Entry.{Entry}
use Rattle.sd_wire.specs.declared.option.SdOption.{SdOption}
use Rattle.sd_wire.specs.layout.Fields.{flags_byte}
use Rattle.sd_wire.specs.layout.Spelling.{entry_bytes}
use Rattle.sd_wire.specs.fronts.Splitting.{FitsDatagram, IsLongestFront, AreFronts, message_of_entries}
use Rattle.sd_wire.specs.contents.Values.{EntryValue, view_entry}
use Rattle.sd_wire.specs.encoding.Writing.{Packs, WritesSd, pool_bytes}
use Rattle.sd_wire.proofs.fronts.SplitLemmas.{entry_length, sd_length}
use Rattle.someip_node_engine.specs.FrontSizes.{AreWithin}

-- 16 bytes for each entry
packed_length : (pool : List SdOption) (entries : List EntryValue) (text : List ℕ) (after : List SdOption) → Packs pool entries text after → length text ≡ 16 * length entries
packed_length pool [] text after p = ap length p.0
packed_length pool (e ∷ entries) text after p =
    let rest = packed_length p.1 entries p.2 after p.5 in
    omega (arith, ap length p.4 ∙ length-append (entry_bytes 0 p.0 e.head) p.2, entry_length p.0 e.head, rest)

few : (entries : List EntryValue) → FitsDatagram entries → length entries ≤ 65535
few entries fits =
    let w : WritesSd (message_of_entries entries) fits.0 = fits.1 in
    omega (arith, fits.2, ap length w.is ∙ sd_length (flags_byte (message_of_entries entries).flags) w.entries (pool_bytes w.pool), packed_length [] entries w.entries w.pool w.packs)

front_few : (entries : List EntryValue) (n : ℕ) → IsLongestFront entries n → n ≤ 65535
front_few entries n front =
    elim front.fits [
      | inl fits ↦ omega (arith, few (take n entries) fits, length-take n entries, front.within)
      | inr one ↦ omega (arith, one)
    ]

are_within : (entries : List EntryValue) (lengths : List ℕ) → AreFronts entries lengths → AreWithin lengths (length entries)
are_within entries [] fronts = tt
are_within entries (n ∷ lengths) fronts =
    (fronts.0.within, front_few entries n fronts.0, rw (← length-drop n entries) (are_within (drop n entries) lengths fronts.1))

pub fronts_are_within : (entries : List Entry) (lengths : List ℕ) → AreFronts (map view_entry entries) lengths → AreWithin lengths (length entries)
fronts_are_within entries lengths fronts = rw (← length-map entries view_entry) (are_within (map view_entry entries) lengths fronts)
