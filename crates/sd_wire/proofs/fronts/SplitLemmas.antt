-- The longest fronts of entries that fit a datagram.
use Rattle.std.proofs.Common.{◌≡◌, ℕ, zero, suc, ◌+◌, ◌*◌, ◌^◌, ◌<◌, ◌≤◌, List, [], ◌∷◌, ◌++◌, length, map, max, get_or, take, drop, refl, sym, ap, subst, ◌∙◌, append_assoc, arith, inl, inr}
use Rattle.std.proofs.lemmas.Bool.{cases_lt}
use Rattle.std.proofs.lemmas.List.{append-nil, length-append, length-take}
use Rattle.sd_wire.specs.declared.option.SdOption.{SdOption}
use Rattle.sd_wire.specs.declared.entry.EntryHead.{EntryHead}
use Rattle.sd_wire.specs.declared.entry.EntryHead.TheVariants.{Service, Eventgroup}
use Rattle.sd_wire.specs.declared.entry.Entry.{Entry}
use Rattle.sd_wire.specs.layout.Fields.{number32, flags_byte}
use Rattle.sd_wire.specs.contents.Values.{EntryValue, view_entry}
use Rattle.sd_wire.specs.layout.Spelling.{option_bytes, Runs, entry_bytes, sd_bytes}
use Rattle.sd_wire.specs.encoding.Writing.{PlacesEntry, IsRefused, Packs, pool_bytes}
use Rattle.sd_wire.specs.fronts.Splitting.{message_of_entries, FitsDatagram, IsLongestFront, AreFronts}
use Rattle.sd_wire.proofs.encoding.PackLemmas.{packs-push, split_at, map_more, places-length}
use Rattle.sd_wire.proofs.encoding.WriteLemmas.{same_entry, same_packs, refused_not_packed, packs-more}

abbrev Pool : Type 0
Pool = List SdOption

pub pool_bytes-append : (pool more : Pool) → pool_bytes (pool ++ more) ≡ pool_bytes pool ++ pool_bytes more
pool_bytes-append [] more = refl
pool_bytes-append (o ∷ pool) more = ap (λ (t : List ℕ). option_bytes 0 0 o ++ t) (pool_bytes-append pool more) ∙ sym (append_assoc (option_bytes 0 0 o) (pool_bytes pool) (pool_bytes more))

-- ---- how long packed entries are

pub entry_length : (runs : Runs) (head : EntryHead) → length (entry_bytes 0 runs head) ≡ 16
entry_length runs (Service e) = refl
entry_length runs (Eventgroup e) = refl

packs-length : (pool : Pool) (entries : List EntryValue) (text : List ℕ) (after : Pool) → Packs pool entries text after → length text ≡ 16 * length entries
packs-length pool [] text after h = ap length h.0
packs-length pool (e ∷ entries) text after h =
    omega (arith, ap length h.4, length-append (entry_bytes 0 h.0 e.head) h.2, entry_length h.0 e.head, packs-length h.1 entries h.2 after h.5)

pub sd_length : (f : ℕ) (entries options : List ℕ) → length (sd_bytes f 0 0 0 entries options) ≡ 12 + length entries + length options
sd_length f entries options =
    let tail : List ℕ = number32 (length options) ++ options in
    omega (arith, length-append entries tail)

-- a message of packed entries fits
pub packed_fits : (entries : List EntryValue) (text : List ℕ) (pool : Pool) → Packs [] entries text pool → 12 + length text + length (pool_bytes pool) ≤ 1400 → FitsDatagram entries
packed_fits entries text pool packs le =
    let m = message_of_entries entries in
    let whole : List ℕ = sd_bytes (flags_byte m.flags) 0 0 0 text (pool_bytes pool) in
    let len = sd_length (flags_byte m.flags) text (pool_bytes pool) in
    let short1 : length text < 2 ^ 32 = omega (arith, le) in
    let short2 : length (pool_bytes pool) < 2 ^ 32 = omega (arith, le) in
    (whole, record { entries = text; pool = pool; packs = packs; is = refl; entries_fit = short1; options_fit = short2 }, omega (arith, len, le))

fits_length : (entries : List EntryValue) (fits : FitsDatagram entries) → 12 + length fits.1.entries + length (pool_bytes fits.1.pool) ≤ 1400
fits_length entries fits = let w = fits.1 in omega (arith, ap length w.is, sd_length (flags_byte (message_of_entries entries).flags) w.entries (pool_bytes w.pool), fits.2)

-- the front of packed entries is packed
packs-front : (pool : Pool) (front back : List EntryValue) (text : List ℕ) (after : Pool) → Packs pool (front ++ back) text after
    → (one other : List ℕ) × (middle : Pool) × Packs pool front one middle × Packs middle back other after × (text ≡ one ++ other)
packs-front pool [] back text after h = ([], text, pool, (refl, refl), h, refl)
packs-front pool (e ∷ front) back text after h =
    let r = packs-front h.1 front back h.2 after h.5 in (
      entry_bytes 0 h.0 e.head ++ r.0,
      r.1,
      r.2,
      (h.0, h.1, r.0, h.3, refl, r.3),
      r.4,
      h.4 ∙ ap (λ (t : List ℕ). entry_bytes 0 h.0 e.head ++ t) r.5 ∙ sym (append_assoc (entry_bytes 0 h.0 e.head) r.0 r.1),
    )

-- ---- one more entry

-- some entries are packed in the pool, and a message of them has so many bytes
pub record FrontUpTo (entries : List EntryValue) (k : ℕ) (pool : Pool) (size : ℕ) : Type 0 where
  pub text : List ℕ
  pub packs : Packs [] (take k entries) text pool
  pub within : k ≤ length entries
  pub counted : size ≡ 12 + 16 * k + length (pool_bytes pool)
  pub few : length pool ≤ 270
  pub fits : size ≤ 1400

length_front : (entries : List EntryValue) (k : ℕ) → k ≤ length entries → length (take k entries) ≡ k
length_front entries k le = omega (arith, length-take k entries)

front_fits : (entries : List EntryValue) (k : ℕ) (pool : Pool) (size : ℕ) → FrontUpTo entries k pool size → FitsDatagram (take k entries)
front_fits entries k pool size h =
    let len = packs-length [] (take k entries) h.text pool h.packs in
    packed_fits (take k entries) h.text pool h.packs (omega (arith, len, length_front entries k h.within, h.counted, h.fits))

-- a longer front is the shorter one, the next entry and others
longer : (entries : List EntryValue) (k m : ℕ) (e : EntryValue) (back : List EntryValue) → entries ≡ take k entries ++ e ∷ back → k < m → m ≤ length entries → (rest : List EntryValue) × (take m entries ≡ take k entries ++ e ∷ rest)
longer entries zero zero e back is lt le = absurd (omega (arith, lt))
longer [] k (suc m) e back is lt le = absurd (omega (arith, le))
longer (x ∷ entries) zero (suc m) e back is lt le = let same : x ≡ e = cc in (take m entries, ap (λ (y : EntryValue). y ∷ take m entries) same)
longer entries (suc k) zero e back is lt le = absurd (omega (arith, lt))
longer (x ∷ entries) (suc k) (suc m) e back is lt le =
    let tails : entries ≡ take k entries ++ e ∷ back = cc in
    let r = longer entries k m e back tails (omega (arith, lt)) (omega (arith, le)) in
    (r.0, ap (λ (t : List EntryValue). x ∷ t) r.1)

-- no longer front fits, where the next entry is refused
refused_ends : (entries : List EntryValue) (k m : ℕ) (e : EntryValue) (back : List EntryValue) (pool : Pool) (size : ℕ) → FrontUpTo entries k pool size → entries ≡ take k entries ++ e ∷ back → IsRefused pool e
    → k < m → m ≤ length entries → FitsDatagram (take m entries) → ⊥
refused_ends entries k m e back pool size h is refused lt le fits =
    let l = longer entries k m e back is lt le in
    let w = fits.1 in
    refused_not_packed [] (take k entries) e l.0 h.text w.entries pool w.pool h.packs refused (subst (λ (es : List EntryValue). Packs [] es w.entries w.pool) l.1 w.packs)

-- no longer front fits, where the next entry makes too many bytes
full_ends : (entries : List EntryValue) (k m : ℕ) (e : EntryValue) (back : List EntryValue) (pool next : Pool) (size bytes : ℕ) (runs : Runs) → FrontUpTo entries k pool size → entries ≡ take k entries ++ e ∷ back → PlacesEntry pool e runs next
    → bytes + length (pool_bytes pool) ≡ 16 + length (pool_bytes next) → 1400 < size + bytes → k < m → m ≤ length entries → FitsDatagram (take m entries) → ⊥
full_ends entries k m e back pool next size bytes runs h is places grown over lt le fits =
    let l = longer entries k m e back is lt le in
    let w = fits.1 in
    let packs : Packs [] (take k entries ++ e ∷ l.0) w.entries w.pool = subst (λ (es : List EntryValue). Packs [] es w.entries w.pool) l.1 w.packs in
    let parts = packs-front [] (take k entries) (e ∷ l.0) w.entries w.pool packs in
    let same = same_packs [] (take k entries) parts.0 h.text parts.2 pool parts.3 h.packs in
    let behind = parts.4 in
    let there = same_entry pool e behind.0 runs behind.1 next (subst (λ (p : Pool). PlacesEntry p e behind.0 behind.1) same.1 behind.3) places in
    let more = packs-more behind.1 l.0 behind.2 w.pool behind.5 in
    let options = ap (λ (p : Pool). length (pool_bytes p)) (more.1 ∙ ap (λ (p : Pool). p ++ more.0) there.1) in
    let len = packs-length [] (take m entries) w.entries w.pool w.packs in
    omega (arith, len, length_front entries m le, options, ap length (pool_bytes-append next more.0), length-append (pool_bytes next) (pool_bytes more.0), fits_length (take m entries) fits, h.counted, grown, over, lt)

-- the next entry is placed, and all fit
pub front_more : (entries : List EntryValue) (k : ℕ) (e : EntryValue) (pool next : Pool) (size bytes : ℕ) (runs : Runs) → FrontUpTo entries k pool size → take (k + 1) entries ≡ take k entries ++ e ∷ [] → k < length entries → PlacesEntry pool e runs next
    → bytes + length (pool_bytes pool) ≡ 16 + length (pool_bytes next) → size + bytes ≤ 1400 → FrontUpTo entries (k + 1) next (size + bytes)
front_more entries k e pool next size bytes runs h is lt places grown fits = record {
  text = h.text ++ entry_bytes 0 runs e.head;
  packs = rw is (packs-push [] (take k entries) h.text pool e runs next h.packs places);
  within = omega (arith, lt);
  counted = omega (arith, h.counted, grown);
  few = places-length pool e runs next places h.few;
  fits = fits;
}

-- the front that ends here is the longest
ends_here : (entries : List EntryValue) (k n : ℕ) (pool : Pool) (size : ℕ) → FrontUpTo entries k pool size → k < length entries → n ≡ max k 1 → ((m : ℕ) → k < m → m ≤ length entries → FitsDatagram (take m entries) → ⊥) → IsLongestFront entries n
ends_here entries zero n pool size h lt is longest = record {
  some = omega (arith, is);
  within = omega (arith, is, lt);
  fits = inr (omega (arith, is));
  longest = λ m above le. longest m (omega (arith, is, above)) le;
}
ends_here entries (suc k) n pool size h lt is longest =
    let same : n ≡ suc k = omega (arith, is) in
    record {
      some = omega (arith, same);
      within = omega (arith, same, lt);
      fits = inl (subst (λ j. FitsDatagram (take j entries)) (sym same) (front_fits entries (suc k) pool size h));
      longest = λ m above le. longest m (omega (arith, same, above)) le;
    }

pub refused_here : (entries : List EntryValue) (k n : ℕ) (e : EntryValue) (back : List EntryValue) (pool : Pool) (size : ℕ) → FrontUpTo entries k pool size → entries ≡ take k entries ++ e ∷ back → k < length entries → IsRefused pool e → n ≡ max k 1
    → IsLongestFront entries n
refused_here entries k n e back pool size h is lt refused n_is = ends_here entries k n pool size h lt n_is (λ m above le fits. refused_ends entries k m e back pool size h is refused above le fits)

pub full_here : (entries : List EntryValue) (k n : ℕ) (e : EntryValue) (back : List EntryValue) (pool next : Pool) (size bytes : ℕ) (runs : Runs) → FrontUpTo entries k pool size → entries ≡ take k entries ++ e ∷ back → k < length entries → PlacesEntry pool e runs next
    → bytes + length (pool_bytes pool) ≡ 16 + length (pool_bytes next) → 1400 < size + bytes → n ≡ max k 1 → IsLongestFront entries n
full_here entries k n e back pool next size bytes runs h is lt places grown over n_is =
    ends_here entries k n pool size h lt n_is (λ m above le fits. full_ends entries k m e back pool next size bytes runs h is places grown over above le fits)

-- all entries fit
pub all_here : (entries : List EntryValue) (k : ℕ) (pool : Pool) (size : ℕ) → FrontUpTo entries k pool size → length entries ≤ k → 1 ≤ length entries → IsLongestFront entries (length entries)
all_here entries k pool size h le some =
    let same : k ≡ length entries = omega (arith, h.within, le) in
    record {
      some = some;
      within = omega arith;
      fits = inl (subst (λ j. FitsDatagram (take j entries)) same (front_fits entries k pool size h));
      longest = λ m above within. absurd (omega (arith, above, within));
    }

-- ---- there is one way to split

same_front : (entries : List EntryValue) (n m : ℕ) → IsLongestFront entries n → IsLongestFront entries m → n < m → ⊥
same_front entries n m a b lt =
    elim b.fits [
      | inl fits ↦ a.longest m lt b.within fits
      | inr one ↦ omega (arith, one, a.some, lt)
    ]

one_front : (entries : List EntryValue) (n m : ℕ) → IsLongestFront entries n → IsLongestFront entries m → n ≡ m
one_front entries n m a b =
    elim (cases_lt n m) [
      | inl lt ↦ absurd (same_front entries n m a b lt)
      | inr le ↦ elim (cases_lt m n) [
        | inl lt ↦ absurd (same_front entries m n b a lt)
        | inr le' ↦ omega (arith, le, le')
      ]
    ]

pub same_fronts : (entries : List EntryValue) (ns ms : List ℕ) → AreFronts entries ns → AreFronts entries ms → ns ≡ ms
same_fronts entries [] [] a b = refl
same_fronts entries [] (m ∷ ms) a b = let f = b.0 in absurd (omega (arith, ap length a, f.some, f.within))
same_fronts entries (n ∷ ns) [] a b = let f = a.0 in absurd (omega (arith, ap length b, f.some, f.within))
same_fronts entries (n ∷ ns) (m ∷ ms) a b =
    let same = one_front entries n m a.0 b.0 in
    let rest = same_fronts (drop m entries) ns ms (subst (λ k. AreFronts (drop k entries) ns) same a.1) b.1 in
    ap (λ (x : ℕ). x ∷ ns) same ∙ ap (λ (t : List ℕ). m ∷ t) rest

-- ---- as the loop goes

-- these fronts, and after them those of the rest
abbrev pub AreFrontsUpTo : List EntryValue → List ℕ → List EntryValue → Type 0
AreFrontsUpTo entries lengths rest = (others : List ℕ) → AreFronts rest others → AreFronts entries (lengths ++ others)

pub fronts_more : (entries : List EntryValue) (lengths : List ℕ) (rest : List EntryValue) (n : ℕ) → AreFrontsUpTo entries lengths rest → IsLongestFront rest n → AreFrontsUpTo entries (lengths ++ n ∷ []) (drop n rest)
fronts_more entries lengths rest n so_far front others are = subst (λ (t : List ℕ). AreFronts entries t) (sym (append_assoc lengths (n ∷ []) others)) (so_far (n ∷ others) (front, are))

pub fronts_all : (entries : List EntryValue) (lengths : List ℕ) (rest : List EntryValue) → AreFrontsUpTo entries lengths rest → rest ≡ [] → AreFronts entries lengths
fronts_all entries lengths rest so_far is = subst (λ (t : List ℕ). AreFronts entries t) (append-nil lengths) (so_far [] is)

pub drop_view : (n : ℕ) (entries : List Entry) → map view_entry (drop n entries) ≡ drop n (map view_entry entries)
drop_view zero entries = refl
drop_view (suc n) [] = refl
drop_view (suc n) (e ∷ entries) = drop_view n entries

pub take_view : (n : ℕ) (entries : List Entry) → map view_entry (take n entries) ≡ take n (map view_entry entries)
take_view zero entries = refl
take_view (suc n) [] = refl
take_view (suc n) (e ∷ entries) = ap (λ (t : List EntryValue). view_entry e ∷ t) (take_view n entries)

pub at_entry : (entries : List Entry) (k : ℕ) (e : Entry) → k < length entries → e ≡ get_or entries k e → map view_entry entries ≡ take k (map view_entry entries) ++ view_entry e ∷ map view_entry (drop (k + 1) entries)
at_entry entries k e lt is = split_at entries k e lt is ∙ ap (λ (t : List EntryValue). t ++ view_entry e ∷ map view_entry (drop (k + 1) entries)) (take_view k entries)

pub next_entry : (entries : List Entry) (k : ℕ) (e : Entry) → k < length entries → e ≡ get_or entries k e → take (k + 1) (map view_entry entries) ≡ take k (map view_entry entries) ++ view_entry e ∷ []
next_entry entries k e lt is = sym (take_view (k + 1) entries) ∙ map_more entries k e lt is ∙ ap (λ (t : List EntryValue). t ++ view_entry e ∷ []) (take_view k entries)
