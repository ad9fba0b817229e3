-- Entries by rising keys: where one stands or goes, and what one more leaves in order.
use Rattle.std.proofs.Common.{◌≡◌, ℕ, zero, suc, ◌+◌, ◌<◌, ◌≤◌, Bool, true, false, cond, nat_lt, List, [], ◌∷◌, ◌++◌, take, drop, length, set, get_or, insert as put_in, ◌==◌, None, Some, Result, Ok, Err, refl, sym, ap, subst, ◌∙◌, arith}
use Rattle.std.specs.Option.{is_none}
use Rattle.std.specs.Ordering.{eq_by_cmp, is_eq, ordering_index, ordering_reverse}
use Rattle.std.specs.declared.cmp.Ordering.{Ordering}
use Rattle.std.specs.declared.cmp.Ordering.TheVariants.{Less, Equal, Greater}
use Rattle.std.specs.Cmp.{tied_back, alike_right}
use Rattle.std.specs.List.{All}
use Rattle.std.specs.List.Sorted.{IsNonDecreasingBy, IsBinarySearchResult, IsSearchInRange}
use Rattle.std.specs.FinMap.{find, insert, get-from_entries, get-insert, same_map}
use Rattle.std.proofs.lemmas.Bool.{and_from, eqb-true}
use Rattle.std.proofs.lemmas.Bool.Decides.{nat_tests}
use Rattle.std.proofs.lemmas.List.{get_or_default, get_or-set_same, get_or-set_other, get_or-map, length-set, take-map, drop-map, map-append}
use Rattle.std.proofs.lemmas.List.Elements.{All-append, All-take, All-drop, All-cons}
use Rattle.std.proofs.lemmas.List.Kept.{AllPairs-cons}
use Rattle.std.proofs.lemmas.List.Quantifiers.{all_pairs_remove}
use Rattle.someip_tables.specs.Distinct.{are_distinct}
use Rattle.someip_reassembly.specs.declared.key.ReassemblyKey.{ReassemblyKey}
use Rattle.someip_reassembly.specs.Keys.{key_cmp, same_key}
use Rattle.someip_reassembly.specs.Parts.{Part}
use Rattle.someip_reassembly.specs.Partials.{Entry}
use Rattle.someip_tp.specs.RoomParts.{PartInRoom}
use Rattle.someip_tp.specs.Pools.{entries_of, AreRising, GoesAt, Finds}
use Rattle.someip_reassembly.specs.Stores.{StandsAt, parts_of_entries}
use Rattle.someip_reassembly.proofs.KeyOrder.{keys_total, exact_keys, same_from_test, test_from_same}
use Rattle.someip_reassembly.proofs.StoreLemmas.{none_stands}
use Rattle.someip_tp.proofs.reserved_memory.SlotLemmas.{as_many, entries_left, changed_entries, own_entry}

-- ---- no key stands twice

below_all : (e : Entry) (es : List Entry) → AreRising (e ∷ es) → All (λ (b : Entry). key_cmp e.0 b.0 ≡ Less) es
below_all e es rising = λ k d lt. rising 0 (suc k) d (omega arith) (omega (arith, lt))

rest_rises : (e : Entry) (es : List Entry) → AreRising (e ∷ es) → AreRising es
rest_rises e es rising = λ i j d lt within. rising (suc i) (suc j) d (omega (arith, lt)) (omega (arith, within))

pub apart : (es : List Entry) → AreRising es → are_distinct key_cmp es ≡ true
apart [] rising = refl
apart (e ∷ es) rising =
    and_from _ _ (ap is_none (none_stands e.0 es (λ k d lt. ap is_eq (below_all e es rising k d lt)))) (apart es (rest_rises e es rising))

-- ---- where a key goes, it does not stand

turned : (a b : ReassemblyKey) (r : Ordering) → key_cmp a b ≡ r → key_cmp b a ≡ ordering_reverse r
turned a b r is = keys_total.antisymm b a ∙ ap ordering_reverse is

pub new_there : (key : ReassemblyKey) (es : List Entry) (i : ℕ) → GoesAt key es i → StandsAt key es None
new_there key es i goes = none_stands key es (λ k d lt. cases k d lt (nat_lt k i) refl)
  where
    cases : (k : ℕ) (d : Entry) → k < length es → (b : Bool) → nat_lt k i ≡ b → same_key key (get_or es k d).0 ≡ false
    cases k d lt true test = ap is_eq (turned (get_or es k d).0 key Less (goes.1.0 k d (omega arith) (grind (arith, nat_tests))))
    cases k d lt false test = ap is_eq (turned (get_or es k d).0 key Greater (goes.1.1 k d (grind (arith, nat_tests)) lt))

-- ---- an entry of a new key

pub rising_once_put : (key : ReassemblyKey) (es : List Entry) (i : ℕ) (n : Entry) → AreRising es → GoesAt key es i → n.0 ≡ key → AreRising (put_in es i n)
rising_once_put key [] zero n rising goes own = AllPairs-cons (λ (a b : Entry). key_cmp a.0 b.0 ≡ Less) n [] (λ k d lt. absurd (omega (arith, lt))) rising
rising_once_put key [] (suc i) n rising goes own = absurd (omega (arith, goes.0))
rising_once_put key (e ∷ es) zero n rising goes own =
    AllPairs-cons (λ (a b : Entry). key_cmp a.0 b.0 ≡ Less) n (e ∷ es) (λ k d lt. ap (λ q. key_cmp q (get_or (e ∷ es) k d).0) own ∙ turned (get_or (e ∷ es) k d).0 key Greater (goes.1.1 k d (omega arith) lt)) rising
rising_once_put key (e ∷ es) (suc i) n rising goes own =
    let R : Entry → Type 0 = λ (b : Entry). key_cmp e.0 b.0 ≡ Less in
    let all = below_all e es rising in
    AllPairs-cons (λ (a b : Entry). key_cmp a.0 b.0 ≡ Less) e (put_in es i n)
    (All-append R (take i es) (n ∷ drop i es) (All-take R i es all) (All-cons R n (drop i es) (ap (key_cmp e.0) own ∙ goes.1.0 0 e (omega arith) (omega arith)) (All-drop R i es all)))
    (rising_once_put key es i n (rest_rises e es rising) (omega (arith, goes.0), ((λ k d from below. goes.1.0 (suc k) d (omega arith) (omega (arith, below))), (λ k d from below. goes.1.1 (suc k) d (omega (arith, from)) (omega (arith, below))))) own)

find-put : (key q : ReassemblyKey) (part : Part) (es : List Entry) (i : ℕ) → find key_cmp key es ≡ None
    → find key_cmp q (put_in es i (key, part)) ≡ cond (eq_by_cmp key_cmp q key) (Some part) (find key_cmp q es)
find-put key q part es zero none = refl
find-put key q part [] (suc i) none = refl
find-put key q part (e ∷ es) (suc i) none = first (eq_by_cmp key_cmp key e.0) refl none (find-put key q part es i)
  where
    cases : (t u : Bool) → eq_by_cmp key_cmp q e.0 ≡ t → eq_by_cmp key_cmp q key ≡ u → eq_by_cmp key_cmp key e.0 ≡ false
        → cond t (Some e.1) (cond u (Some part) (find key_cmp q es)) ≡ cond u (Some part) (cond t (Some e.1) (find key_cmp q es))
    cases true true is own other =
        let same : eq_by_cmp key_cmp key e.0 ≡ true = test_from_same key e.0 (sym (same_from_test q key own) ∙ same_from_test q e.0 is) in
        absurd (cc)
    cases true false is own other = refl
    cases false u is own other = refl

    first : (t : Bool) → eq_by_cmp key_cmp key e.0 ≡ t → cond t (Some e.1) (find key_cmp key es) ≡ None
        → (find key_cmp key es ≡ None → find key_cmp q (put_in es i (key, part)) ≡ cond (eq_by_cmp key_cmp q key) (Some part) (find key_cmp q es))
        → find key_cmp q (put_in (e ∷ es) (suc i) (key, part)) ≡ cond (eq_by_cmp key_cmp q key) (Some part) (find key_cmp q (e ∷ es))
    first true is none rest = absurd (cc)
    first false is none rest =
        ap (λ found. cond (eq_by_cmp key_cmp q e.0) (Some e.1) found) (rest none)
        ∙ cases (eq_by_cmp key_cmp q e.0) (eq_by_cmp key_cmp q key) refl refl is

pub parts_put : (key : ReassemblyKey) (part : Part) (es : List Entry) (i : ℕ) (n : Entry) → StandsAt key es None → n ≡ (key, part)
    → parts_of_entries (put_in es i n) ≡ insert (parts_of_entries es) key part
parts_put key part es i n none is =
    ap (λ (x : Entry). parts_of_entries (put_in es i x)) is
    ∙ same_map keys_total exact_keys _ _ (λ q.
    get-from_entries keys_total (put_in es i (key, part)) q ∙ find-put key q part es i none
    ∙ sym (get-insert keys_total (parts_of_entries es) key part q ∙ ap (cond (eq_by_cmp key_cmp q key) (Some part)) (get-from_entries keys_total es q)))

-- ---- an entry that becomes another of its key

pub rising_once_set : (es : List Entry) (i : ℕ) (e n : Entry) → AreRising es → i < length es → e ≡ get_or es i e → n.0 ≡ e.0 → AreRising (set es i n)
rising_once_set es i e n rising lt is same = λ j k d below within.
    let inside : k < length es = omega (arith, within, length-set es i n) in
    ap (λ a. key_cmp a (get_or (set es i n) k d).0) (key_of_place j d (omega (arith, below, inside))) ∙ (ap (key_cmp (get_or es j d).0) (key_of_place k d inside) ∙ rising j k d below inside)
  where
    key_of_place : (k : ℕ) (d : Entry) → k < length es → (get_or (set es i n) k d).0 ≡ (get_or es k d).0
    key_of_place k d inside = cases (k == i) refl
      where
        cases : (b : Bool) → (k == i) ≡ b → (get_or (set es i n) k d).0 ≡ (get_or es k d).0
        cases true test =
            let at : k ≡ i = eqb-true k i test in
            ap (λ m. (get_or (set es i n) m d).0) at ∙ (ap (λ (x : Entry). x.0) (get_or-set_same es i n d lt) ∙ (same ∙ (ap (λ (x : Entry). x.0) (is ∙ get_or_default es i e d lt) ∙ ap (λ m. (get_or es m d).0) (sym at))))
        cases false test = ap (λ (x : Entry). x.0) (get_or-set_other es i k n d (grind (arith, test)))

-- ---- what a binary search tells

place : (ps : List PartInRoom) (k : ℕ) (p : PartInRoom) (d : Entry) → k < length ps → get_or (entries_of ps) k d ≡ (get_or ps k p).entry
place ps k p d lt = get_or-map (λ (q : PartInRoom). q.entry) ps k p d lt

-- what is below another stands no higher to a key
no_higher : (a b key : ReassemblyKey) → key_cmp a b ≡ Less → ordering_index (key_cmp a key) ≤ ordering_index (key_cmp b key)
no_higher a b key below = cases (key_cmp b key) refl
  where
    at_most_two : (r : Ordering) → ordering_index r ≤ 2
    at_most_two Less = omega arith
    at_most_two Equal = omega arith
    at_most_two Greater = omega arith

    cases : (r : Ordering) → key_cmp b key ≡ r → ordering_index (key_cmp a key) ≤ ordering_index r
    cases Less is = omega (arith, ap ordering_index (keys_total.trans a b key below is))
    cases Equal is = omega (arith, ap ordering_index (sym (alike_right keys_total b key a is) ∙ below))
    cases Greater is = at_most_two (key_cmp a key)

steps_up : (key : ReassemblyKey) (ps : List PartInRoom) → AreRising (entries_of ps) → IsNonDecreasingBy (λ (p : PartInRoom). ordering_index (key_cmp p.entry.0 key)) ps
steps_up key ps rising i j d le within = cases (nat_lt i j) refl
  where
    cases : (b : Bool) → nat_lt i j ≡ b → ordering_index (key_cmp (get_or ps i d).entry.0 key) ≤ ordering_index (key_cmp (get_or ps j d).entry.0 key)
    cases true test =
        let lt : i < j = grind (arith, nat_tests) in
        let low : get_or (entries_of ps) i d.entry ≡ (get_or ps i d).entry = place ps i d d.entry (omega (arith, lt, within)) in
        let high : get_or (entries_of ps) j d.entry ≡ (get_or ps j d).entry = place ps j d d.entry within in
        no_higher (get_or ps i d).entry.0 (get_or ps j d).entry.0 key
        (sym (λ m. key_cmp (low m).0 (high m).0) ∙ rising i j d.entry lt (omega (arith, within, as_many ps)))
    cases false test =
        let same : i ≡ j = grind (arith, nat_tests) in
        omega (arith, ap (λ m. ordering_index (key_cmp (get_or ps m d).entry.0 key)) same)

pub found_so : (key : ReassemblyKey) (ps : List PartInRoom) (r : Result ℕ ℕ) → AreRising (entries_of ps) → IsSearchInRange r (length ps) → IsBinarySearchResult (λ (p : PartInRoom). key_cmp p.entry.0 key) ps r → Finds key (entries_of ps) r
found_so key ps (Ok i) rising range found = (
  omega (arith, range, as_many ps),
  λ d.
      let p : PartInRoom = record { entry = d; limit = 0 } in
      ap (λ (e : Entry). same_key key e.0) (place ps i p d range) ∙ ap is_eq (tied_back keys_total (get_or ps i p).entry.0 key (found p)),
)
found_so key ps (Err i) rising range found =
    let split = found (steps_up key ps rising) in (
      omega (arith, range, as_many ps),
      (
        (λ k d from below.
            let p : PartInRoom = record { entry = d; limit = 0 } in
            ap (λ (e : Entry). key_cmp e.0 key) (place ps k p d (omega (arith, range, below))) ∙ split.0 k p from below),
        (λ k d from below.
            let p : PartInRoom = record { entry = d; limit = 0 } in
            let inside : k < length ps = omega (arith, below, as_many ps) in
            ap (λ (e : Entry). key_cmp e.0 key) (place ps k p d inside) ∙ split.1 k p from inside),
      ),
    )

-- ---- parts by rising keys

pub rising_left : (i : ℕ) (ps new : List PartInRoom) → AreRising (entries_of ps) → i < length ps → new ≡ take i ps ++ drop (i + 1) ps → AreRising (entries_of new)
rising_left i ps new rising lt is =
    subst AreRising (sym (entries_left i ps new is)) (all_pairs_remove (λ (a b : Entry). key_cmp a.0 b.0 ≡ Less) (entries_of ps) i (omega (arith, lt, as_many ps)) rising)

pub rising_once_changed : (key : ReassemblyKey) (ps : List PartInRoom) (i : ℕ) (p n : PartInRoom) → AreRising (entries_of ps) → StandsAt key (entries_of ps) (Some i) → p ≡ get_or ps i p → n.entry.0 ≡ p.entry.0
    → AreRising (entries_of (set ps i n))
rising_once_changed key ps i p n rising at is same =
    subst AreRising (sym (changed_entries ps i n)) (rising_once_set (entries_of ps) i p.entry n.entry rising at.0 (own_entry key ps i p at is) same)

put_entries : (ps : List PartInRoom) (i : ℕ) (n : PartInRoom) → entries_of (put_in ps i n) ≡ put_in (entries_of ps) i n.entry
put_entries ps i n =
    map-append (λ (p : PartInRoom). p.entry) (take i ps) (n ∷ drop i ps)
    ∙ λ j. sym (take-map (λ (p : PartInRoom). p.entry) i ps) j ++ n.entry ∷ sym (drop-map (λ (p : PartInRoom). p.entry) i ps) j

pub rising_with : (key : ReassemblyKey) (ps new : List PartInRoom) (i : ℕ) (n : PartInRoom) → new ≡ put_in ps i n → AreRising (entries_of ps) → GoesAt key (entries_of ps) i → n.entry.0 ≡ key → AreRising (entries_of new)
rising_with key ps new i n is rising goes own = subst AreRising (sym (ap entries_of is ∙ put_entries ps i n)) (rising_once_put key (entries_of ps) i n.entry rising goes own)

pub parts_with : (key : ReassemblyKey) (part : Part) (ps new : List PartInRoom) (i : ℕ) (n : PartInRoom) → new ≡ put_in ps i n → GoesAt key (entries_of ps) i → n.entry ≡ (key, part)
    → parts_of_entries (entries_of new) ≡ insert (parts_of_entries (entries_of ps)) key part
parts_with key part ps new i n is goes own =
    ap (λ xs. parts_of_entries (entries_of xs)) is ∙ (ap parts_of_entries (put_entries ps i n) ∙ parts_put key part (entries_of ps) i n.entry (new_there key (entries_of ps) i goes) own)
