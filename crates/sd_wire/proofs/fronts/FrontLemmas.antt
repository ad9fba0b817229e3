-- The fronts of entries as a function are those of the relation, and which entries always fit.
use Rattle.std.proofs.Common.{◌≡◌, ℕ, zero, suc, ◌<◌, ◌≤◌, Bool, true, false, List, [], ◌∷◌, length, take, drop, Option, Some, None, refl, sym, ap, subst, arith, inl, inr}
use Rattle.std.specs.Prelude.{◌⊎◌, nat_le, if◌then◌else◌}
use Rattle.std.specs.List.{AllByRecursion}
use Rattle.std.proofs.lemmas.Bool.{cases_lt}
use Rattle.std.proofs.lemmas.Bool.Decides.{nat_tests}
use Rattle.std.proofs.lemmas.List.{length-drop}
use Rattle.sd_wire.specs.declared.flags.SdFlags.{SdFlags}
use Rattle.sd_wire.specs.layout.Fields.{flags_byte}
use Rattle.sd_wire.specs.contents.Values.{EntryValue}
use Rattle.sd_wire.specs.layout.Spelling.{sd_bytes}
use Rattle.sd_wire.specs.encoding.Writing.{pool_bytes, WritesSd}
use Rattle.sd_wire.specs.fronts.Splitting.{message_of_entries, FitsDatagram, IsLongestFront, AreFronts}
use Rattle.sd_wire.specs.encoding.Encoding.{message_bytes}
use Rattle.sd_wire.specs.fronts.Fronts.{is_short, fits_datagram, longest_front, lengths_of_fronts, front_lengths, fronts_of}
use Rattle.sd_wire.proofs.encoding.EncodingLemmas.{written_bytes, bytes_written}
use Rattle.sd_wire.proofs.fronts.SplitLemmas.{sd_length, same_fronts}

-- ---- what fits

pub fits_test : (entries : List EntryValue) → FitsDatagram entries → fits_datagram entries ≡ true
fits_test entries fits =
    let bytes : message_bytes (message_of_entries entries) ≡ Some fits.0 = written_bytes (message_of_entries entries) fits.0 fits.1 in
    let short : nat_le (length fits.0) 1400 ≡ true = is_short_text (length fits.0) fits.2 in
    rw bytes short
  where
    is_short_text : (n : ℕ) → n ≤ 1400 → nat_le n 1400 ≡ true
    is_short_text n le = grind (arith, nat_tests)

pub test_fits : (entries : List EntryValue) → fits_datagram entries ≡ true → FitsDatagram entries
test_fits entries fits = cases (message_bytes (message_of_entries entries)) refl fits
  where
    short_of : (n : ℕ) → nat_le n 1400 ≡ true → n ≤ 1400
    short_of n is = grind (arith, nat_tests)

    cases : (o : Option (List ℕ)) → message_bytes (message_of_entries entries) ≡ o → is_short o ≡ true → FitsDatagram entries
    cases None is short = absurd cc
    cases (Some text) is short =
        let few : length text ≤ 1400 = short_of (length text) short in
        (text, bytes_written (message_of_entries entries) text is (omega (arith, few)), few)

-- under any flags
pub fits_with : (flags : SdFlags) (entries : List EntryValue) → FitsDatagram entries
    → (text : List ℕ) × WritesSd (record { flags = flags; entries = entries }) text × (length text ≤ 1400)
fits_with flags entries fits =
    let w = fits.1 in
    let text : List ℕ = sd_bytes (flags_byte flags) 0 0 0 w.entries (pool_bytes w.pool) in (
      text,
      record { entries = w.entries; pool = w.pool; packs = w.packs; is = refl; entries_fit = w.entries_fit; options_fit = w.options_fit },
      omega (arith, ap length w.is, sd_length (flags_byte flags) w.entries (pool_bytes w.pool), sd_length (flags_byte (message_of_entries entries).flags) w.entries (pool_bytes w.pool), fits.2),
    )

-- ---- the longest front

-- the longest of the fronts of at most n entries
record IsLongestOf (n : ℕ) (entries : List EntryValue) (front : ℕ) : Type 0 where
  pub some : 1 ≤ front
  pub within : (front ≤ n) ⊎ (front ≡ 1)
  pub fits : FitsDatagram (take front entries) ⊎ (front ≡ 1)
  pub longest : (m : ℕ) → front < m → m ≤ n → FitsDatagram (take m entries) → ⊥

wider : (n front : ℕ) → (front ≤ n) ⊎ (front ≡ 1) → (front ≤ suc n) ⊎ (front ≡ 1)
wider n front (inl le) = inl (omega (arith, le))
wider n front (inr one) = inr one

longest_but : (n : ℕ) (entries : List EntryValue) (front m : ℕ) → fits_datagram (take (suc n) entries) ≡ false → IsLongestOf n entries front → front < m → FitsDatagram (take m entries) → (m < suc n) ⊎ (suc n ≤ m) → m ≤ suc n → ⊥
longest_but n entries front m not_fits shorter above fits (inl less) le = shorter.longest m above (omega (arith, less)) fits
longest_but n entries front m not_fits shorter above fits (inr most) le =
    let same : m ≡ suc n = omega (arith, most, le) in
    let test = fits_test (take (suc n) entries) (subst (λ k. FitsDatagram (take k entries)) same fits) in
    cc

longest_of : (n : ℕ) (entries : List EntryValue) → IsLongestOf n entries (longest_front n entries)
longest_of zero entries = record {
  some = omega arith;
  within = inr refl;
  fits = inr refl;
  longest = λ m above le. absurd (omega (arith, above, le));
}
longest_of (suc n) entries = cases (fits_datagram (take (suc n) entries)) refl (longest_of n entries)
  where
    cases : (b : Bool) → fits_datagram (take (suc n) entries) ≡ b → IsLongestOf n entries (longest_front n entries) → IsLongestOf (suc n) entries (if b then suc n else longest_front n entries)
    cases true fits shorter = record {
      some = omega arith;
      within = inl (omega arith);
      fits = inl (test_fits (take (suc n) entries) fits);
      longest = λ m above le. absurd (omega (arith, above, le));
    }
    cases false not_fits shorter = record {
      some = shorter.some;
      within = wider n (longest_front n entries) shorter.within;
      fits = shorter.fits;
      longest = λ m above le fits. longest_but n entries (longest_front n entries) m not_fits shorter above fits (cases_lt m (suc n)) le;
    }

-- the lengths of the longest fronts
front_is : (entries : List EntryValue) → 1 ≤ length entries → IsLongestFront entries (longest_front (length entries) entries)
front_is entries some =
    let f = longest_of (length entries) entries in
    record {
      some = f.some;
      within = elim f.within [ inl le ↦ le | inr one ↦ omega (arith, one, some) ];
      fits = f.fits;
      longest = f.longest;
    }

fronts_are : (n : ℕ) (entries : List EntryValue) → length entries ≤ n → AreFronts entries (lengths_of_fronts n entries)
fronts_are zero [] le = refl
fronts_are zero (e ∷ entries) le = absurd (omega (arith, le))
fronts_are (suc n) [] le = refl
fronts_are (suc n) (e ∷ entries) le =
    let front = front_is (e ∷ entries) (omega arith) in
    let k : ℕ = longest_front (suc (length entries)) (e ∷ entries) in
    (front, fronts_are n (drop k (e ∷ entries)) (omega (arith, length-drop k (e ∷ entries), front.some, le)))

pub lengths_are : (entries : List EntryValue) → AreFronts entries (front_lengths entries)
unfolding front_lengths
lengths_are entries = fronts_are (length entries) entries (omega arith)

pub are_lengths : (entries : List EntryValue) (lengths : List ℕ) → AreFronts entries lengths → lengths ≡ front_lengths entries
are_lengths entries lengths are = same_fronts entries lengths (front_lengths entries) are (lengths_are entries)

first_alone : (entries : List EntryValue) → AllByRecursion (λ e. FitsDatagram (e ∷ [])) entries → 1 ≤ length entries → FitsDatagram (take 1 entries)
first_alone [] alone some = absurd (omega (arith, some))
first_alone (e ∷ entries) alone some = alone.0

all-drop : {X : Type 0} (P : X → Type 0) (n : ℕ) (xs : List X) → AllByRecursion P xs → AllByRecursion P (drop n xs)
all-drop P zero xs all = all
all-drop P (suc n) [] all = tt
all-drop P (suc n) (x ∷ xs) all = all-drop P n xs all.1

front_alone : (entries : List EntryValue) (n : ℕ) → AllByRecursion (λ e. FitsDatagram (e ∷ [])) entries → IsLongestFront entries n → FitsDatagram (take n entries)
front_alone entries n alone front =
    elim front.fits [
      | inl fits ↦ fits
      | inr one ↦ subst (λ k. FitsDatagram (take k entries)) (sym one) (first_alone entries alone (omega (arith, front.some, front.within)))
    ]

-- fronts of entries that fit alone all fit
pub fronts_fit : (entries : List EntryValue) (lengths : List ℕ) → AllByRecursion (λ e. FitsDatagram (e ∷ [])) entries → AreFronts entries lengths → AllByRecursion FitsDatagram (fronts_of lengths entries)
fronts_fit entries [] alone are = tt
fronts_fit entries (n ∷ lengths) alone are = (front_alone entries n alone are.0, fronts_fit (drop n entries) lengths (all-drop (λ e. FitsDatagram (e ∷ [])) n entries alone) are.1)

-- ---- which entries fit alone
