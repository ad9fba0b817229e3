-- What is written is read as the message, and a message has one text or one entry that is refused.
use Rattle.std.proofs.Common.{◌≡◌, ℕ, ◌+◌, ◌<◌, ◌≤◌, Bool, true, false, List, [], ◌∷◌, ◌++◌, length, map, take, drop, refl, sym, ap, subst, ◌∙◌, append_assoc, arith, inl, inr}
use Rattle.std.specs.Prelude.{nat_lt, ◌&&◌}
use Rattle.std.specs.List.{AllByRecursion}
use Rattle.std.proofs.lemmas.Bool.{le-ltb, cases_lt}
use Rattle.std.proofs.lemmas.List.{append-nil, length-append, length-take, length-drop, nil_from_length, take_at, take-append-le, drop-append-le, drop_at}
use Rattle.sd_wire.specs.declared.flags.SdFlags.{SdFlags}
use Rattle.sd_wire.specs.declared.option.SdOption.{SdOption}
use Rattle.sd_wire.specs.layout.Fields.{flags_byte, flags_in}
use Rattle.sd_wire.specs.contents.Values.{EntryValue, good, SdMessageValue}
use Rattle.sd_wire.specs.layout.Spelling.{option_bytes, OptionFits, Runs, entry_bytes, HeadFits}
use Rattle.sd_wire.specs.decoding.Reading.{Spelled, SpellsOption, passes_pool, has_bad_run, selected, SpellsEntry, Sd}
use Rattle.sd_wire.specs.encoding.Writing.{HoldsAt, IsLeast, Stands, PlacesEntry, IsRefused, Packs, pool_bytes, EntryFits, WritesSd, TooMany, as_read}
use Rattle.sd_wire.proofs.encoding.PackLemmas.{stands-more}

abbrev Pool : Type 0
Pool = List SdOption

-- ---- what is written is read

-- a run that the pool holds is selected from the pool, also where more options stand after it
selected_held : (pool more run : Pool) (index : ℕ) → HoldsAt pool run index → index + length run ≤ length pool → run ≡ selected (pool ++ more) index (length run)
selected_held pool more run index holds le =
    let n = length run in
    let behind : drop index (pool ++ more) ≡ drop index pool ++ more = drop-append-le index pool more (omega (arith, le)) in
    let some : n ≤ length (drop index pool) = omega (arith, length-drop index pool, le) in
    let front : take n (drop index pool ++ more) ≡ take n (drop index pool) = take-append-le n (drop index pool) more some in
    sym (ap (take n) behind ∙ front ∙ holds)

-- a run does not pass the pool, and selects its options
record IsSelected (pool run : Pool) (index count : ℕ) : Type 0 where
  pub within : passes_pool pool index count ≡ false
  pub is : run ≡ selected pool index count

stands_within : (pool run : Pool) (index : ℕ) → index + length run ≤ length pool → passes_pool pool index (length run) ≡ false
stands_within pool run index le =
    let b : nat_lt (length pool) (index + length run) ≡ false = le-ltb _ _ le in
    let P : Bool → Type 0 = λ t. (t && nat_lt (length pool) (index + length run)) ≡ false in
    elim (nat_lt 0 (length run)) as P [ true ↦ b | false ↦ refl ]

is_selected : (pool run : Pool) (index : ℕ) (after more : Pool) → Stands pool run index after → IsSelected (after ++ more) run index (length run)
is_selected pool run index after more h =
    elim h [
      | inl none ↦
          let empty : run ≡ [] = nil_from_length run none.0 in
          rw empty (record { within = refl; is = refl })
      | inr other ↦ elim other [
        | inl found ↦
            let holds = found.1.0 in
            let le : index + length run ≤ length pool = omega (arith, ap length holds, length-take (length run) (drop index pool), length-drop index pool, found.0) in
            let longer : index + length run ≤ length (after ++ more) = omega (arith, length-append after more, ap length found.2, le) in
            record {
              within = stands_within (after ++ more) run index longer;
              is = rw found.2 (selected_held pool more run index holds le);
            }
        | inr added ↦
            let le : index + length run ≤ length after = omega (arith, ap length added.3, length-append pool run, added.2) in
            let longer : index + length run ≤ length (after ++ more) = omega (arith, length-append after more, le) in
            let back : drop (length pool) (pool ++ (run ++ more)) ≡ run ++ more = drop_at pool (run ++ more) (length pool) refl in
            record {
              within = stands_within (after ++ more) run index longer;
              is = rw (added.3, added.2, append_assoc pool run more, back) (sym (take_at run more (length run) refl));
            }
      ]
    ]

-- the pool that is left is a longer one
pub packs-more : (pool : Pool) (entries : List EntryValue) (text : List ℕ) (after : Pool) → Packs pool entries text after → (more : Pool) × (after ≡ pool ++ more)
packs-more pool [] text after h = ([], h.1 ∙ sym (append-nil pool))
packs-more pool (e ∷ entries) text after h =
    let p = h.3 in
    let a = stands-more pool e.first h.0.index1 p.middle p.first in
    let b = stands-more p.middle e.second h.0.index2 h.1 p.second in
    let c = packs-more h.1 entries h.2 after h.5 in
    (a.0 ++ (b.0 ++ c.0), c.1 ∙ ap (λ (t : Pool). t ++ c.0) b.1 ∙ append_assoc p.middle b.0 c.0 ∙ ap (λ (t : Pool). t ++ (b.0 ++ c.0)) a.1 ∙ append_assoc pool a.0 (b.0 ++ c.0))

entry_written : (pool : Pool) (e : EntryValue) (runs : Runs) (next final more : Pool) → PlacesEntry pool e runs next → final ≡ next ++ more → HeadFits e.head → SpellsEntry final (good e) (entry_bytes 0 runs e.head)
entry_written pool e runs next final more p is fits =
    let b = stands-more p.middle e.second runs.index2 next p.second in
    let whole : final ≡ p.middle ++ (b.0 ++ more) = is ∙ ap (λ (t : Pool). t ++ more) b.1 ∙ append_assoc p.middle b.0 more in
    let first : IsSelected final e.first runs.index1 runs.count1 = rw (whole, p.count1) (is_selected pool e.first runs.index1 p.middle (b.0 ++ more) p.first) in
    let second : IsSelected final e.second runs.index2 runs.count2 = rw (is, p.count2) (is_selected p.middle e.second runs.index2 next more p.second) in
    let bad : has_bad_run final runs ≡ false = rw (first.within, second.within) refl in
    (runs, record { reserved = 0; is = refl; fits = fits; runs_fit = p.fits; reserved_fits = omega arith }, bad, first.is, second.is)

entries_written : (pool : Pool) (entries : List EntryValue) (text : List ℕ) (after : Pool) → Packs pool entries text after → AllByRecursion (λ e. HeadFits e.head) entries → Spelled (SpellsEntry after) (map good entries) text
entries_written pool [] text after h fits = h.0
entries_written pool (e ∷ entries) text after h fits =
    let c = packs-more h.1 entries h.2 after h.5 in
    (entry_bytes 0 h.0 e.head, h.2, h.4, entry_written pool e h.0 h.1 after c.0 h.3 c.1 fits.0, entries_written h.1 entries h.2 after h.5 fits.1)

options_written : (pool : Pool) → AllByRecursion OptionFits pool → Spelled SpellsOption pool (pool_bytes pool)
options_written [] fits = refl
options_written (o ∷ pool) fits = (option_bytes 0 0 o, pool_bytes pool, refl, record { reserved1 = 0; reserved2 = 0; is = refl; fits = fits.0 }, options_written pool fits.1)

flags_written : (f : SdFlags) → f ≡ flags_in (flags_byte f)
flags_written f =
    let P : Bool → Bool → Type 0 = λ a b. (let g : SdFlags = record { reboot = a; unicast = b } in g ≡ flags_in (flags_byte g)) in
    let Q : Bool → Type 0 = λ a. P a f.unicast in
    elim f.reboot as Q [
      | true ↦ elim f.unicast as (λ b. P true b) [ true ↦ refl | false ↦ refl ]
      | false ↦ elim f.unicast as (λ b. P false b) [ true ↦ refl | false ↦ refl ]
    ]

-- a text whose numbers fit holds the message
pub written_holds : (m : SdMessageValue) (text : List ℕ) (w : WritesSd m text) → AllByRecursion (λ e. HeadFits e.head) m.entries → AllByRecursion OptionFits w.pool → Sd (as_read m) text
written_holds m text w heads options = record {
  flags = flags_byte m.flags;
  reserved1 = 0;
  reserved2 = 0;
  reserved3 = 0;
  entries = w.entries;
  options = pool_bytes w.pool;
  pool = w.pool;
  is = w.is;
  are_flags = flags_written m.flags;
  entries_fit = w.entries_fit;
  options_fit = w.options_fit;
  are_options = options_written w.pool options;
  are_entries = entries_written [] m.entries w.entries w.pool w.packs heads;
}

-- ---- a message has one text

same_least : (pool run : Pool) (i j : ℕ) → IsLeast pool run i → IsLeast pool run j → i ≡ j
same_least pool run i j a b =
    elim (cases_lt i j) [
      | inl lt ↦ absurd (b.1 i lt a.0)
      | inr le ↦ elim (cases_lt j i) [
        | inl lt ↦ absurd (a.1 j lt b.0)
        | inr le' ↦ omega (arith, le, le')
      ]
    ]

pub same_place : (pool run : Pool) (i j : ℕ) (a b : Pool) → Stands pool run i a → Stands pool run j b → (i ≡ j) × (a ≡ b)
same_place pool run i j a b one other =
    elim one [
      | inl x ↦ elim other [
        | inl y ↦ (x.1 ∙ sym y.1, x.2 ∙ sym y.2)
        | inr z ↦ elim z [ inl y ↦ absurd (omega (arith, x.0, y.0)) | inr y ↦ absurd (omega (arith, x.0, y.0)) ]
      ]
      | inr w ↦ elim w [
        | inl x ↦ elim other [
          | inl y ↦ absurd (omega (arith, x.0, y.0))
          | inr z ↦ elim z [ inl y ↦ (same_least pool run i j x.1 y.1, x.2 ∙ sym y.2) | inr y ↦ absurd (y.1 i x.1.0) ]
        ]
        | inr x ↦ elim other [
          | inl y ↦ absurd (omega (arith, x.0, y.0))
          | inr z ↦ elim z [ inl y ↦ absurd (x.1 j y.1.0) | inr y ↦ (x.2 ∙ sym y.2, x.3 ∙ sym y.3) ]
        ]
      ]
    ]

-- an entry has one place
pub same_entry : (pool : Pool) (e : EntryValue) (r q : Runs) (a b : Pool) → PlacesEntry pool e r a → PlacesEntry pool e q b → (r ≡ q) × (a ≡ b)
same_entry pool e r q a b one other =
    let first = same_place pool e.first r.index1 q.index1 one.middle other.middle one.first other.first in
    let second = same_place other.middle e.second r.index2 q.index2 a b (subst (λ (p : Pool). Stands p e.second r.index2 a) first.1 one.second) other.second in
    let count1 : r.count1 ≡ q.count1 = one.count1 ∙ sym other.count1 in
    let count2 : r.count2 ≡ q.count2 = one.count2 ∙ sym other.count2 in
    ((λ i. record { index1 = first.0 i; index2 = second.0 i; count1 = count1 i; count2 = count2 i }), second.1)

-- an entry that has a place is not refused
pub placed_not_refused : (pool : Pool) (e : EntryValue) (runs : Runs) (after : Pool) → PlacesEntry pool e runs after → IsRefused pool e → ⊥
placed_not_refused pool e runs after p refused =
    elim refused [
      | inl long ↦ omega (arith, long, p.count1, p.fits.count1)
      | inr other ↦ elim other [
        | inl long ↦ omega (arith, long, p.count2, p.fits.count2)
        | inr high ↦
            let first = same_place pool e.first runs.index1 high.0 p.middle high.1 p.first high.2 in
            elim high.3 [
              | inl far ↦ omega (arith, far, first.0, p.fits.index1)
              | inr behind ↦
                  let second = same_place high.1 e.second runs.index2 behind.0 after behind.1 (subst (λ (q : Pool). Stands q e.second runs.index2 after) first.1 p.second) behind.2 in
                  omega (arith, behind.3, second.0, p.fits.index2)
            ]
      ]
    ]

pub same_packs : (pool : Pool) (entries : List EntryValue) (s t : List ℕ) (a b : Pool) → Packs pool entries s a → Packs pool entries t b → (s ≡ t) × (a ≡ b)
same_packs pool [] s t a b one other = (one.0 ∙ sym other.0, one.1 ∙ sym other.1)
same_packs pool (e ∷ entries) s t a b one other =
    let same = same_entry pool e one.0 other.0 one.1 other.1 one.3 other.3 in
    let rest = same_packs other.1 entries one.2 other.2 a b (subst (λ (p : Pool). Packs p entries one.2 a) same.1 one.5) other.5 in
    (one.4 ∙ ap (λ (r : Runs). entry_bytes 0 r e.head ++ one.2) same.0 ∙ ap (λ (x : List ℕ). entry_bytes 0 other.0 e.head ++ x) rest.0 ∙ sym other.4, rest.1)

-- entries with one that is refused among them have no text
pub refused_not_packed : (pool : Pool) (front : List EntryValue) (e : EntryValue) (back : List EntryValue) (s t : List ℕ) (q after : Pool) → Packs pool front s q → IsRefused q e → Packs pool (front ++ e ∷ back) t after → ⊥
refused_not_packed pool [] e back s t q after h refused packs =
    placed_not_refused pool e packs.0 packs.1 packs.3 (subst (λ (p : Pool). IsRefused p e) h.1 refused)
refused_not_packed pool (x ∷ front) e back s t q after h refused packs =
    let same = same_entry pool x h.0 packs.0 h.1 packs.1 h.3 packs.3 in
    refused_not_packed packs.1 front e back h.2 packs.2 q after (subst (λ (p : Pool). Packs p front h.2 q) same.1 h.5) refused packs.5

-- a message with a text has no entry that is refused
pub written_not_refused : (m : SdMessageValue) (text : List ℕ) (k : ℕ) → WritesSd m text → TooMany m.entries k → ⊥
written_not_refused m text k w t =
    refused_not_packed [] t.front t.e t.back t.text w.entries t.pool w.pool t.packs t.refused (subst (λ (es : List EntryValue). Packs [] es w.entries w.pool) t.is w.packs)

-- a message has one text
pub one_text : (m : SdMessageValue) (s t : List ℕ) → WritesSd m s → WritesSd m t → s ≡ t
one_text m s t a b =
    let same = same_packs [] m.entries a.entries b.entries a.pool b.pool a.packs b.packs in
    a.is ∙ rw (same.0, same.1) (sym b.is)

-- ---- the entry that is refused is one

longer_front : (xs ys : List EntryValue) (x y : EntryValue) (us vs : List EntryValue) → xs ++ x ∷ us ≡ ys ++ y ∷ vs → length xs < length ys → (rest : List EntryValue) × (ys ≡ xs ++ x ∷ rest)
longer_front [] [] x y us vs is lt = absurd (omega (arith, lt))
longer_front [] (b ∷ ys) x y us vs is lt = let same : b ≡ x = cc in (ys, ap (λ (t : EntryValue). t ∷ ys) same)
longer_front (a ∷ xs) [] x y us vs is lt = absurd (omega (arith, lt))
longer_front (a ∷ xs) (b ∷ ys) x y us vs is lt =
    let same : b ≡ a = cc in
    let tails : xs ++ x ∷ us ≡ ys ++ y ∷ vs = cc in
    let r = longer_front xs ys x y us vs tails (omega (arith, lt)) in
    (r.0, ap (λ (t : EntryValue). t ∷ ys) same ∙ ap (λ (t : List EntryValue). a ∷ t) r.1)

first_refused : (entries : List EntryValue) (k n : ℕ) → TooMany entries k → TooMany entries n → k < n → ⊥
first_refused entries k n t u lt =
    let front = longer_front t.front u.front t.e u.e t.back u.back (sym t.is ∙ u.is) (omega (arith, t.counted, u.counted, lt)) in
    refused_not_packed [] t.front t.e front.0 t.text u.text t.pool u.pool t.packs t.refused (subst (λ (es : List EntryValue). Packs [] es u.text u.pool) front.1 u.packs)

pub one_refused : (entries : List EntryValue) (k n : ℕ) → TooMany entries k → TooMany entries n → k ≡ n
one_refused entries k n t u =
    elim (cases_lt k n) [
      | inl lt ↦ absurd (first_refused entries k n t u lt)
      | inr le ↦ elim (cases_lt n k) [
        | inl lt ↦ absurd (first_refused entries n k u t lt)
        | inr le' ↦ omega (arith, le, le')
      ]
    ]

-- ---- the options of the pool are those of the runs

all-append : {X : Type 0} (P : X → Type 0) (xs ys : List X) → AllByRecursion P xs → AllByRecursion P ys → AllByRecursion P (xs ++ ys)
all-append P [] ys a b = b
all-append P (x ∷ xs) ys a b = (a.0, all-append P xs ys a.1 b)

stands-fit : (pool run : Pool) (index : ℕ) (after : Pool) → Stands pool run index after → AllByRecursion OptionFits pool → AllByRecursion OptionFits run → AllByRecursion OptionFits after
stands-fit pool run index after h all fits =
    elim h [
      | inl none ↦ subst (AllByRecursion OptionFits) (sym none.2) all
      | inr other ↦ elim other [
        | inl found ↦ subst (AllByRecursion OptionFits) (sym found.2) all
        | inr added ↦ subst (AllByRecursion OptionFits) (sym added.3) (all-append OptionFits pool run all fits)
      ]
    ]

pool-fits : (pool : Pool) (entries : List EntryValue) (text : List ℕ) (after : Pool) → Packs pool entries text after → AllByRecursion OptionFits pool → AllByRecursion EntryFits entries → AllByRecursion OptionFits after
pool-fits pool [] text after h all fits = subst (AllByRecursion OptionFits) (sym h.1) all
pool-fits pool (e ∷ entries) text after h all fits =
    let p = h.3 in
    let one = fits.0 in
    let middle = stands-fit pool e.first h.0.index1 p.middle p.first all one.1 in
    let next = stands-fit p.middle e.second h.0.index2 h.1 p.second middle one.2 in
    pool-fits h.1 entries h.2 after h.5 next fits.1

heads-fit : (entries : List EntryValue) → AllByRecursion EntryFits entries → AllByRecursion (λ e. HeadFits e.head) entries
heads-fit [] fits = tt
heads-fit (e ∷ entries) fits = let one = fits.0 in (one.0, heads-fit entries fits.1)

-- what is written is read
pub written_is_read : (m : SdMessageValue) (text : List ℕ) → AllByRecursion EntryFits m.entries → WritesSd m text → Sd (as_read m) text
written_is_read m text fits w = written_holds m text w (heads-fit m.entries fits) (pool-fits [] m.entries w.entries w.pool w.packs tt fits)
