-- The bytes of a message as a function are those of the relation.
use Rattle.std.proofs.Common.{◌≡◌, ℕ, zero, suc, ◌<◌, ◌≤◌, ◌^◌, Bool, true, false, cond, eqb, List, [], ◌∷◌, ◌++◌, length, take, drop, get_or, Option, Some, None, refl, sym, ap, subst, ◌∙◌, arith, inl, inr}
use Rattle.std.specs.Prelude.{◌&&◌, nat_lt, if◌then◌else◌}
use Rattle.std.specs.Bool.{Decides}
use Rattle.std.specs.List.{starts_with}
use Rattle.std.specs.Option.{option_map}
use Rattle.std.proofs.lemmas.Bool.Decides.{nat_tests}
use Rattle.std.proofs.lemmas.Slice.Eq.{bytes_eq-Decides, slice_eq-Decides}
use Rattle.std.proofs.lemmas.List.{length-take, length-drop}
use Rattle.sd_wire.specs.declared.endpoint.Ipv4Endpoint.{Ipv4Endpoint}
use Rattle.sd_wire.specs.declared.endpoint.Ipv6Endpoint.{Ipv6Endpoint}
use Rattle.sd_wire.specs.declared.option.SdOption.{SdOption}
use Rattle.sd_wire.specs.declared.option.SdOption.TheVariants.{LoadBalancing, Endpoint4, Multicast4, SdEndpoint4, Endpoint6, Multicast6, SdEndpoint6, Raw}
use Rattle.sd_wire.specs.layout.Fields.{flags_byte}
use Rattle.sd_wire.specs.contents.Values.{EntryValue, SdMessageValue}
use Rattle.sd_wire.specs.layout.Spelling.{Runs, RunsFit, entry_bytes, sd_bytes}
use Rattle.sd_wire.specs.encoding.Writing.{HoldsAt, IsLeast, IsNowhere, Stands, PlacesEntry, IsRefused, Packs, pool_bytes, WritesSd, TooMany}
use Rattle.sd_wire.specs.encoding.Encoding.{option_numbers, same_option, index_of_run, place_at, place_for, runs_for, pool_after, runs_fit, all_runs_fit, entries_bytes, pool_after_all, message_bytes}
use Rattle.sd_wire.proofs.encoding.WriteLemmas.{same_place, refused_not_packed}
use Rattle.sd_wire.proofs.fronts.SplitLemmas.{sd_length}

abbrev Pool : Type 0
Pool = List SdOption

-- ---- two options are the same where their numbers are

-- the option that holds the numbers
option_by : ℕ → List ℕ → SdOption
option_by kind ns =
    let ip4 : Ipv4Endpoint = record { socket = record { ip = record { octets = drop 2 ns }; port = get_or ns 1 0 }; protocol = record { 0 = get_or ns 0 0 } } in
    let ip6 : Ipv6Endpoint = record { address = record { segments = drop 2 ns }; port = get_or ns 1 0; protocol = record { 0 = get_or ns 0 0 } } in
    cond (eqb kind 0x02) (LoadBalancing (get_or ns 0 0) (get_or ns 1 0))
    (cond (eqb kind 0x04) (Endpoint4 ip4)
    (cond (eqb kind 0x14) (Multicast4 ip4)
    (cond (eqb kind 0x24) (SdEndpoint4 ip4)
    (cond (eqb kind 0x06) (Endpoint6 ip6)
    (cond (eqb kind 0x16) (Multicast6 ip6)
    (cond (eqb kind 0x26) (SdEndpoint6 ip6)
    (Raw (record { kind = get_or ns 0 0; bytes = drop 1 ns }))))))))

option_with : List ℕ → SdOption
option_with ns = option_by (get_or ns 0 0) (drop 1 ns)

numbers_back : (o : SdOption) → option_with (option_numbers o) ≡ o
unfolding option_with option_by
numbers_back (LoadBalancing priority weight) = refl
numbers_back (Endpoint4 e) = refl
numbers_back (Multicast4 e) = refl
numbers_back (SdEndpoint4 e) = refl
numbers_back (Endpoint6 e) = refl
numbers_back (Multicast6 e) = refl
numbers_back (SdEndpoint6 e) = refl
numbers_back (Raw o) = refl

same_numbers : (a b : SdOption) → option_numbers a ≡ option_numbers b → a ≡ b
same_numbers a b is = sym (numbers_back a) ∙ ap option_with is ∙ numbers_back b

pub same_option-Decides : (a b : SdOption) → Decides (same_option a b) (a ≡ b)
same_option-Decides a b =
    let d = bytes_eq-Decides (option_numbers a) (option_numbers b) in
    (λ t. same_numbers a b (d.0 t), λ is. d.1 (ap option_numbers is))

-- ---- where a run stands

begins : (pool run : Pool) → Decides (starts_with same_option pool run) (run ≡ take (length run) pool)
begins pool run = slice_eq-Decides same_option-Decides run (take (length run) pool) (starts_with same_option pool run) refl

-- what the search for a run found
abbrev Finds : Pool → Pool → Option ℕ → Type 0
Finds pool run (Some index) = IsLeast pool run index
Finds pool run None = IsNowhere pool run

found_later : (o : SdOption) (pool run : Pool) (r : Option ℕ) → (HoldsAt (o ∷ pool) run 0 → ⊥) → Finds pool run r → Finds (o ∷ pool) run (option_map suc r)
found_later o pool run None not_here nowhere = λ i. later i
  where
    later : (i : ℕ) → HoldsAt (o ∷ pool) run i → ⊥
    later zero = not_here
    later (suc i) = nowhere i
found_later o pool run (Some index) not_here least = (least.0, λ i. later i)
  where
    later : (i : ℕ) → i < suc index → HoldsAt (o ∷ pool) run i → ⊥
    later zero lt = not_here
    later (suc i) lt = least.1 i (omega (arith, lt))

finds : (pool run : Pool) → 0 < length run → Finds pool run (index_of_run pool run)
finds [] run some = λ i holds. let none : Pool = [] in omega (arith, ap length holds, length-take (length run) (drop i none), length-drop i none, some)
finds (o ∷ pool) run some = cases (starts_with same_option (o ∷ pool) run) (begins (o ∷ pool) run) (finds pool run some)
  where
    cases : (b : Bool) → Decides b (run ≡ take (length run) (o ∷ pool)) → Finds pool run (index_of_run pool run) → Finds (o ∷ pool) run (if b then Some 0 else option_map suc (index_of_run pool run))
    cases true d rest = (sym (d.0 refl), λ i lt. absurd (omega (arith, lt)))
    cases false d rest = found_later o pool run (index_of_run pool run) (λ holds. let bad = d.1 (sym holds) in cc) rest

stands_at : (pool run : Pool) (r : Option ℕ) → 0 < length run → Finds pool run r → Stands pool run (place_at pool run r).index (place_at pool run r).pool
stands_at pool run (Some index) some least = inr (inl (some, least, refl))
stands_at pool run None some nowhere = inr (inr (some, nowhere, refl, refl))

-- a run stands where the function says
pub stands : (pool run : Pool) → Stands pool run (place_for pool run).index (place_for pool run).pool
stands pool [] = inl (refl, refl, refl)
stands pool (o ∷ run) = let some : 0 < length (o ∷ run) = omega arith in stands_at pool (o ∷ run) (index_of_run pool (o ∷ run)) some (finds pool (o ∷ run) some)

-- ---- the runs of an entry

both : (a b : Bool) → (a && b) ≡ true → (a ≡ true) × (b ≡ true)
both true b is = (refl, is)
both false b is = absurd cc

below : (a b : ℕ) → nat_lt a b ≡ true → a < b
below a b is = grind (arith, nat_tests)

not_below : (a b : ℕ) → nat_lt a b ≡ false → b ≤ a
not_below a b is = grind (arith, nat_tests)

is_below : (a b : ℕ) → a < b → nat_lt a b ≡ true
is_below a b lt = grind (arith, nat_tests)

abbrev runs_test : Runs → Type 0
runs_test r = runs_fit r ≡ true

test_fits : (r : Runs) → runs_fit r ≡ true → RunsFit r
test_fits r is =
    let a = both (nat_lt r.index1 256) _ is in
    let b = both (nat_lt r.index2 256) _ a.1 in
    let c = both (nat_lt r.count1 16) _ b.1 in
    record {
      index1 = below r.index1 256 a.0;
      index2 = below r.index2 256 b.0;
      count1 = below r.count1 16 c.0;
      count2 = below r.count2 16 c.1;
    }

pub fits_test : (r : Runs) → RunsFit r → runs_fit r ≡ true
fits_test r fits =
    let a : nat_lt r.index1 256 ≡ true = is_below r.index1 256 fits.index1 in
    let b : nat_lt r.index2 256 ≡ true = is_below r.index2 256 fits.index2 in
    let c : nat_lt r.count1 16 ≡ true = is_below r.count1 16 fits.count1 in
    let d : nat_lt r.count2 16 ≡ true = is_below r.count2 16 fits.count2 in
    rw (a, b, c, d) refl

-- an entry whose runs fit is placed so
pub places : (pool : Pool) (e : EntryValue) → runs_fit (runs_for pool e) ≡ true → PlacesEntry pool e (runs_for pool e) (pool_after pool e)
places pool e fits = record {
  middle = (place_for pool e.first).pool;
  first = stands pool e.first;
  second = stands (place_for pool e.first).pool e.second;
  count1 = refl;
  count2 = refl;
  fits = test_fits (runs_for pool e) fits;
}

-- and no other way
placed : (pool : Pool) (e : EntryValue) (runs : Runs) (after : Pool) → PlacesEntry pool e runs after → (runs ≡ runs_for pool e) × (after ≡ pool_after pool e)
placed pool e runs after p =
    let middle : Pool = (place_for pool e.first).pool in
    let first = same_place pool e.first runs.index1 (place_for pool e.first).index p.middle middle p.first (stands pool e.first) in
    let second = same_place middle e.second runs.index2 (place_for middle e.second).index after (place_for middle e.second).pool (subst (λ (q : Pool). Stands q e.second runs.index2 after) first.1 p.second) (stands middle e.second) in
    let count1 = p.count1 in
    let count2 = p.count2 in
    ((λ i. record { index1 = first.0 i; index2 = second.0 i; count1 = count1 i; count2 = count2 i }), second.1)

placed_test : (pool : Pool) (e : EntryValue) (runs : Runs) (after : Pool) → PlacesEntry pool e runs after → runs_fit (runs_for pool e) ≡ true
placed_test pool e runs after p = subst runs_test (placed pool e runs after p).0 (fits_test runs p.fits)

-- an entry whose runs do not fit is refused
refuses : (pool : Pool) (e : EntryValue) (r : Runs) → r ≡ runs_for pool e → (a b c d : Bool) → nat_lt r.index1 256 ≡ a → nat_lt r.index2 256 ≡ b → nat_lt r.count1 16 ≡ c → nat_lt r.count2 16 ≡ d → (a && (b && (c && d))) ≡ false → IsRefused pool e
refuses pool e r same a b false d i1 i2 c1 c2 is = let many : 15 < length e.first = omega (arith, not_below r.count1 16 c1, ap (λ x. x.count1) same) in inl many
refuses pool e r same a b true false i1 i2 c1 c2 is = let many : 15 < length e.second = omega (arith, not_below r.count2 16 c2, ap (λ x. x.count2) same) in inr (inl many)
refuses pool e r same false b true true i1 i2 c1 c2 is =
    let far : 255 < (place_for pool e.first).index = omega (arith, not_below r.index1 256 i1, ap (λ x. x.index1) same) in
    inr (inr ((place_for pool e.first).index, (place_for pool e.first).pool, stands pool e.first, inl far))
refuses pool e r same true false true true i1 i2 c1 c2 is =
    let middle : Pool = (place_for pool e.first).pool in
    let far : 255 < (place_for middle e.second).index = omega (arith, not_below r.index2 256 i2, ap (λ x. x.index2) same) in
    inr (inr ((place_for pool e.first).index, middle, stands pool e.first, inr ((place_for middle e.second).index, (place_for middle e.second).pool, stands middle e.second, far)))
refuses pool e r same true true true true i1 i2 c1 c2 is = absurd cc

pub refused_test : (pool : Pool) (e : EntryValue) → runs_fit (runs_for pool e) ≡ false → IsRefused pool e
refused_test pool e is = refuses pool e (runs_for pool e) refl _ _ _ _ refl refl refl refl is

-- ---- entries one after the other

pub packs_fit : (pool : Pool) (entries : List EntryValue) (text : List ℕ) (after : Pool) → Packs pool entries text after
    → (all_runs_fit pool entries ≡ true) × (text ≡ entries_bytes pool entries) × (after ≡ pool_after_all pool entries)
packs_fit pool [] text after h = (refl, h.0, h.1)
packs_fit pool (e ∷ entries) text after h =
    let is = placed pool e h.0 h.1 h.3 in
    let test : runs_fit (runs_for pool e) ≡ true = placed_test pool e h.0 h.1 h.3 in
    let rest = packs_fit (pool_after pool e) entries h.2 after (subst (λ (p : Pool). Packs p entries h.2 after) is.1 h.5) in
    (rw test rest.0, h.4 ∙ ap (λ (r : Runs). entry_bytes 0 r e.head ++ h.2) is.0 ∙ ap (λ (t : List ℕ). entry_bytes 0 (runs_for pool e) e.head ++ t) rest.1, rest.2)

pub fit_packs : (pool : Pool) (entries : List EntryValue) → all_runs_fit pool entries ≡ true → Packs pool entries (entries_bytes pool entries) (pool_after_all pool entries)
fit_packs pool [] is = (refl, refl)
fit_packs pool (e ∷ entries) is =
    let fits = both (runs_fit (runs_for pool e)) (all_runs_fit (pool_after pool e) entries) is in
    (runs_for pool e, pool_after pool e, entries_bytes (pool_after pool e) entries, places pool e fits.0, refl, fit_packs (pool_after pool e) entries fits.1)

-- ---- the message

abbrev bytes_of : SdMessageValue → List ℕ
bytes_of m = sd_bytes (flags_byte m.flags) 0 0 0 (entries_bytes [] m.entries) (pool_bytes (pool_after_all [] m.entries))

pub written_bytes : (m : SdMessageValue) (text : List ℕ) → WritesSd m text → message_bytes m ≡ Some text
unfolding message_bytes
written_bytes m text w =
    let fit = packs_fit [] m.entries w.entries w.pool w.packs in
    let is : text ≡ bytes_of m = w.is ∙ ap (λ (t : List ℕ). sd_bytes (flags_byte m.flags) 0 0 0 t (pool_bytes w.pool)) fit.1 ∙ ap (λ (p : Pool). sd_bytes (flags_byte m.flags) 0 0 0 (entries_bytes [] m.entries) (pool_bytes p)) fit.2 in
    rw fit.0 (ap Some (sym is))

pub refused_bytes : (m : SdMessageValue) (k : ℕ) → TooMany m.entries k → message_bytes m ≡ None
unfolding message_bytes
refused_bytes m k t = cases (all_runs_fit [] m.entries) refl
  where
    cases : (b : Bool) → all_runs_fit [] m.entries ≡ b → (if b then Some (bytes_of m) else None) ≡ None
    cases false is = refl
    cases true is =
        let packs = fit_packs [] m.entries is in
        absurd (refused_not_packed [] t.front t.e t.back t.text (entries_bytes [] m.entries) t.pool (pool_after_all [] m.entries) t.packs t.refused
        (subst (λ (es : List EntryValue). Packs [] es (entries_bytes [] m.entries) (pool_after_all [] m.entries)) t.is packs))

pub bytes_written : (m : SdMessageValue) (text : List ℕ) → message_bytes m ≡ Some text → length text < 2 ^ 32 → WritesSd m text
unfolding message_bytes
bytes_written m text is few = cases (all_runs_fit [] m.entries) refl is
  where
    cases : (b : Bool) → all_runs_fit [] m.entries ≡ b → (if b then Some (bytes_of m) else None) ≡ Some text → WritesSd m text
    cases false fit none = absurd cc
    cases true fit some =
        let same : text ≡ bytes_of m = cc in
        let len = sd_length (flags_byte m.flags) (entries_bytes [] m.entries) (pool_bytes (pool_after_all [] m.entries)) in
        record {
          entries = entries_bytes [] m.entries;
          pool = pool_after_all [] m.entries;
          packs = fit_packs [] m.entries fit;
          is = same;
          entries_fit = omega (arith, len, ap length same, few);
          options_fit = omega (arith, len, ap length same, few);
        }

-- the first entry whose runs do not fit, with those in front of it
record Misfit (pool : Pool) (entries : List EntryValue) : Type 0 where
  pub front : List EntryValue
  pub e : EntryValue
  pub back : List EntryValue
  pub is : entries ≡ front ++ e ∷ back
  pub fit : all_runs_fit pool front ≡ true
  pub misfit : runs_fit (runs_for (pool_after_all pool front) e) ≡ false

first_misfit : (pool : Pool) (entries : List EntryValue) → all_runs_fit pool entries ≡ false → Misfit pool entries
first_misfit pool [] is = absurd cc
first_misfit pool (e ∷ entries) is = cases (runs_fit (runs_for pool e)) refl (first_misfit (pool_after pool e) entries)
  where
    cases : (b : Bool) → runs_fit (runs_for pool e) ≡ b → (all_runs_fit (pool_after pool e) entries ≡ false → Misfit (pool_after pool e) entries) → Misfit pool (e ∷ entries)
    cases false misfit rest = record { front = []; e = e; back = entries; is = refl; fit = refl; misfit = misfit }
    cases true fit rest =
        let later = rest (rw fit at is) in
        record {
          front = e ∷ later.front;
          e = later.e;
          back = later.back;
          is = ap (λ (t : List EntryValue). e ∷ t) later.is;
          fit = rw fit later.fit;
          misfit = later.misfit;
        }

pub bytes_refused : (m : SdMessageValue) → message_bytes m ≡ None → (k : ℕ) × TooMany m.entries k
unfolding message_bytes
bytes_refused m is = cases (all_runs_fit [] m.entries) refl is
  where
    cases : (b : Bool) → all_runs_fit [] m.entries ≡ b → (if b then Some (bytes_of m) else None) ≡ None → (k : ℕ) × TooMany m.entries k
    cases true fit some = absurd cc
    cases false misfit none =
        let at = first_misfit [] m.entries misfit in (
          length at.front,
          record {
            front = at.front;
            e = at.e;
            back = at.back;
            is = at.is;
            counted = refl;
            text = entries_bytes [] at.front;
            pool = pool_after_all [] at.front;
            packs = fit_packs [] at.front at.fit;
            refused = refused_test (pool_after_all [] at.front) at.e at.misfit;
          },
        )
