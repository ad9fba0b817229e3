-- Parts that are taken out of their list, and what it shows of them.
use Rattle.std.proofs.Common.{◌≡◌, ℕ, zero, suc, ◌+◌, ◌<◌, ◌≤◌, Bool, true, false, cond, not, nat_lt, nat_le, List, [], ◌∷◌, ◌++◌, filter, take, drop, length, set, get_or, insert as put_in, None, Some, refl, sym, ap, subst, ◌∙◌, arith}
use Rattle.std.specs.Option.{is_none, is_some}
use Rattle.std.specs.List.{All}
use Rattle.std.specs.FinMap.{find, insert, len}
use Rattle.std.proofs.lemmas.Bool.{and_parts}
use Rattle.std.proofs.lemmas.Bool.Decides.{nat_tests}
use Rattle.std.proofs.lemmas.List.{take-map, drop-map, map-append, map-set, get_or-map, length-map, take_all, drop_all, append-nil, get_or_default}
use Rattle.std.proofs.lemmas.List.Elements.{All-append, All-take, All-drop, All-cons, All-nil, All-head, All-tail}
use Rattle.std.proofs.lemmas.Option.{same_Some}
use Rattle.someip_tables.specs.Distinct.{are_distinct}
use Rattle.someip_tables.proofs.Entries as entries
use Rattle.someip_reassembly.specs.declared.key.ReassemblyKey.{ReassemblyKey}
use Rattle.someip_reassembly.specs.Keys.{key_cmp, same_key}
use Rattle.someip_reassembly.specs.Partials.{Entry}
use Rattle.someip_tp.specs.RoomParts.{PartInRoom}
use Rattle.someip_tp.specs.Pools.{entries_of}
use Rattle.someip_reassembly.specs.Stores.{StandsAt, parts_of_entries}
use Rattle.someip_reassembly.specs.Parts.{is_gone}
use Rattle.someip_reassembly.specs.SegmentOffers.{SegmentOffer, with_offer, message_of, message_at, parts_less, part_under}
use Rattle.someip_reassembly.proofs.KeyOrder.{same_from_test}
use Rattle.someip_reassembly.proofs.StoreLemmas.{stands, message_there, entry_under, parts_less_whole, changed_parts, count_is}

-- ---- all but one

-- the list without the element at i
abbrev pub without : {X : Type 0} → ℕ → List X → List X
without i xs = take i xs ++ drop (suc i) xs

pub map_without : (i : ℕ) (ps : List PartInRoom) → entries_of (without i ps) ≡ without i (entries_of ps)
map_without i ps =
    map-append (λ (p : PartInRoom). p.entry) (take i ps) (drop (suc i) ps)
    ∙ λ j. sym (take-map (λ (p : PartInRoom). p.entry) i ps) j ++ sym (drop-map (λ (p : PartInRoom). p.entry) (suc i) ps) j

pub all_without : {X : Type 0} (P : X → Type 0) (i : ℕ) (xs : List X) → All P xs → All P (without i xs)
all_without P i xs all = All-append P (take i xs) (drop (suc i) xs) (All-take P i xs all) (All-drop P (suc i) xs all)

pub all_pushed : {X : Type 0} (P : X → Type 0) (xs : List X) (x : X) → All P xs → P x → All P (xs ++ x ∷ [])
all_pushed P xs x all own = All-append P xs (x ∷ []) all (All-cons P x [] own (All-nil P))

pub all_put : {X : Type 0} (P : X → Type 0) (xs : List X) (i : ℕ) (x : X) → All P xs → P x → All P (put_in xs i x)
all_put P xs i x all own = All-append P (take i xs) (x ∷ drop i xs) (All-take P i xs all) (All-cons P x (drop i xs) own (All-drop P i xs all))

-- ---- without the entry of a key

none_filtered : (key : ReassemblyKey) (es : List Entry) → find key_cmp key es ≡ None → es ≡ filter (λ e. not (same_key key e.0)) es
none_filtered key [] none = refl
none_filtered key (e ∷ es) none = by_test (same_key key e.0) none (none_filtered key es)
  where
    by_test : (t : Bool) → cond t (Some e.1) (find key_cmp key es) ≡ None → (find key_cmp key es ≡ None → es ≡ filter (λ e. not (same_key key e.0)) es)
        → (e ∷ es) ≡ cond (not t) (e ∷ filter (λ e. not (same_key key e.0)) es) (filter (λ e. not (same_key key e.0)) es)
    by_test true none rest = absurd (cc)
    by_test false none rest = ap (λ more. e ∷ more) (rest none)

pub without_key : (key : ReassemblyKey) (i : ℕ) (es : List Entry) → are_distinct key_cmp es ≡ true → i < length es → ((d : Entry) → same_key key (get_or es i d).0 ≡ true)
    → without i es ≡ filter (λ e. not (same_key key e.0)) es
without_key key i [] distinct lt at = absurd (omega (arith, lt))
without_key key zero (e ∷ es) distinct lt at =
    let parts = and_parts (is_none (find key_cmp e.0 es)) (are_distinct key_cmp es) distinct in
    let none : find key_cmp key es ≡ None = ap (λ k. find key_cmp k es) (same_from_test key e.0 (at e)) ∙ entries.none_found _ parts.0 in
    rw (at e) (none_filtered key es none)
without_key key (suc i) (e ∷ es) distinct lt at =
    let parts = and_parts (is_none (find key_cmp e.0 es)) (are_distinct key_cmp es) distinct in
    by_test (same_key key e.0) refl (entries.none_found _ parts.0) (stands key es i e parts.1 (omega (arith, lt)) (at e))
    (without_key key i es parts.1 (omega (arith, lt)) at)
  where
    by_test : (t : Bool) → same_key key e.0 ≡ t → find key_cmp e.0 es ≡ None → find key_cmp key es ≡ Some (get_or es i e).1 → without i es ≡ filter (λ e. not (same_key key e.0)) es
        → (e ∷ without i es) ≡ cond (not t) (e ∷ filter (λ e. not (same_key key e.0)) es) (filter (λ e. not (same_key key e.0)) es)
    by_test true same none there rest =
        let gone : find key_cmp key es ≡ None = ap (λ k. find key_cmp k es) (same_from_test key e.0 same) ∙ none in
        absurd (cc)
    by_test false other none there rest = ap (λ more. e ∷ more) rest

-- ---- from the last to the first, those that a test refuses go

-- those from k on are kept if they pass the test, and those before as they are
abbrev pub kept_from : {X : Type 0} → (X → Bool) → ℕ → List X → List X
kept_from keep k xs = take k xs ++ filter keep (drop k xs)

pub one_goes : {X : Type 0} (keep : X → Bool) (k : ℕ) (xs : List X) → k < length xs → ((d : X) → keep (get_or xs k d) ≡ false) → without k (kept_from keep (suc k) xs) ≡ kept_from keep k xs
one_goes keep k [] lt fails = absurd (omega (arith, lt))
one_goes keep zero (x ∷ xs) lt fails = rw (fails x) refl
one_goes keep (suc k) (x ∷ xs) lt fails = ap (λ rest. x ∷ rest) (one_goes keep k xs (omega (arith, lt)) fails)

pub one_stays : {X : Type 0} (keep : X → Bool) (k : ℕ) (xs : List X) → k < length xs → ((d : X) → keep (get_or xs k d) ≡ true) → kept_from keep (suc k) xs ≡ kept_from keep k xs
one_stays keep k [] lt passes = absurd (omega (arith, lt))
one_stays keep zero (x ∷ xs) lt passes = rw (passes x) refl
one_stays keep (suc k) (x ∷ xs) lt passes = ap (λ rest. x ∷ rest) (one_stays keep k xs (omega (arith, lt)) passes)

-- those before k stand where they stood
pub still_there : {X : Type 0} (keep : X → Bool) (k : ℕ) (xs : List X) (d : X) → k < length xs → get_or (kept_from keep (suc k) xs) k d ≡ get_or xs k d
still_there keep k [] d lt = absurd (omega (arith, lt))
still_there keep zero (x ∷ xs) d lt = refl
still_there keep (suc k) (x ∷ xs) d lt = still_there keep k xs d (omega (arith, lt))

pub long_enough : {X : Type 0} (keep : X → Bool) (k : ℕ) (xs : List X) → k < length xs → k < length (kept_from keep (suc k) xs)
long_enough keep k [] lt = absurd (omega (arith, lt))
long_enough keep zero (x ∷ xs) lt = omega arith
long_enough keep (suc k) (x ∷ xs) lt = omega (arith, long_enough keep k xs (omega (arith, lt)))

-- ---- a part and its entry

pub entry_at : (ps : List PartInRoom) (i : ℕ) (p : PartInRoom) → i < length ps → p ≡ get_or ps i p → (d : Entry) → get_or (entries_of ps) i d ≡ p.entry
entry_at ps i p lt is d = get_or-map (λ (q : PartInRoom). q.entry) ps i p d lt ∙ ap (λ (q : PartInRoom). q.entry) (sym is)

pub as_many : (ps : List PartInRoom) → length (entries_of ps) ≡ length ps
as_many ps = length-map ps (λ (p : PartInRoom). p.entry)

-- ---- as Rust's remove says it

pub as_without : {X : Type 0} (i : ℕ) (xs : List X) → take i xs ++ drop (i + 1) xs ≡ without i xs
as_without i xs = let next : i + 1 ≡ suc i = omega arith in ap (λ k. take i xs ++ drop k xs) next

pub entries_left : (i : ℕ) (ps new : List PartInRoom) → new ≡ take i ps ++ drop (i + 1) ps → entries_of new ≡ without i (entries_of ps)
entries_left i ps new is = ap entries_of (is ∙ as_without i ps) ∙ map_without i ps

-- ---- a step from the last part to the first

at_step : (keep : Entry → Bool) (es : List Entry) (ps : List PartInRoom) (i k : ℕ) (p : PartInRoom) → suc k ≡ i → i ≤ length es → entries_of ps ≡ kept_from keep i es → k < length ps → p ≡ get_or ps k p
    → (d : Entry) → get_or es k d ≡ p.entry
at_step keep es ps i k p next le so_far lt is d =
    let here : entries_of ps ≡ kept_from keep (suc k) es = so_far ∙ ap (λ n. kept_from keep n es) (sym next) in
    sym (still_there keep k es d (omega (arith, next, le))) ∙ (ap (λ xs. get_or xs k d) (sym here) ∙ entry_at ps k p lt is d)

pub gone_step : (keep : Entry → Bool) (es new : List Entry) (ps : List PartInRoom) (i k : ℕ) (p : PartInRoom) → suc k ≡ i → i ≤ length es → entries_of ps ≡ kept_from keep i es → k < length ps → p ≡ get_or ps k p
    → keep p.entry ≡ false → new ≡ take k (entries_of ps) ++ drop (k + 1) (entries_of ps) → new ≡ kept_from keep k es
gone_step keep es new ps i k p next le so_far lt is fails left =
    let here : entries_of ps ≡ kept_from keep (suc k) es = so_far ∙ ap (λ n. kept_from keep n es) (sym next) in
    left ∙ (as_without k (entries_of ps) ∙ (ap (without k) here ∙ one_goes keep k es (omega (arith, next, le)) (λ d. ap keep (at_step keep es ps i k p next le so_far lt is d) ∙ fails)))

pub stay_step : (keep : Entry → Bool) (es : List Entry) (ps : List PartInRoom) (i k : ℕ) (p : PartInRoom) → suc k ≡ i → i ≤ length es → entries_of ps ≡ kept_from keep i es → k < length ps → p ≡ get_or ps k p
    → keep p.entry ≡ true → entries_of ps ≡ kept_from keep k es
stay_step keep es ps i k p next le so_far lt is passes =
    so_far ∙ (ap (λ n. kept_from keep n es) (sym next) ∙ one_stays keep k es (omega (arith, next, le)) (λ d. ap keep (at_step keep es ps i k p next le so_far lt is d) ∙ passes))

-- so many are there
pub kept_length : (keep : Entry → Bool) (es : List Entry) (ps : List PartInRoom) (i k : ℕ) → suc k ≡ i → i ≤ length es → entries_of ps ≡ kept_from keep i es → k < length ps
kept_length keep es ps i k next le so_far =
    let here : entries_of ps ≡ kept_from keep (suc k) es = so_far ∙ ap (λ n. kept_from keep n es) (sym next) in
    omega (arith, long_enough keep k es (omega (arith, next, le)), as_many ps, ap length here)

pub none_yet : (keep : Entry → Bool) (es : List Entry) (n : ℕ) → length es ≤ n → es ≡ kept_from keep n es
none_yet keep es n le =
    let all : take n es ≡ es = take_all n es le in
    let none : drop n es ≡ [] = drop_all n es le in
    rw (all, none) (sym (append-nil es))

-- ---- the part of a key

pub own_entry : (key : ReassemblyKey) (ps : List PartInRoom) (i : ℕ) (p : PartInRoom) → StandsAt key (entries_of ps) (Some i) → p ≡ get_or ps i p → p.entry ≡ get_or (entries_of ps) i p.entry
own_entry key ps i p at is = sym (entry_at ps i p (omega (arith, at.0, as_many ps)) is p.entry)

pub message_in : (key : ReassemblyKey) (ps : List PartInRoom) (i : ℕ) (p : PartInRoom) → are_distinct key_cmp (entries_of ps) ≡ true → StandsAt key (entries_of ps) (Some i) → p ≡ get_or ps i p
    → message_at (parts_of_entries (entries_of ps)) key ≡ message_of p.entry.1
message_in key ps i p distinct at is = message_there key (entries_of ps) i p.entry distinct at (own_entry key ps i p at is)

pub part_in : (key : ReassemblyKey) (ps : List PartInRoom) (i : ℕ) (p : PartInRoom) → are_distinct key_cmp (entries_of ps) ≡ true → StandsAt key (entries_of ps) (Some i) → p ≡ get_or ps i p
    → part_under (parts_of_entries (entries_of ps)) key ≡ p.entry.1
part_in key ps i p distinct at is = entry_under key (entries_of ps) i p.entry distinct at (own_entry key ps i p at is)

pub freed : (key : ReassemblyKey) (es new : List Entry) (i : ℕ) → are_distinct key_cmp es ≡ true → StandsAt key es (Some i) → new ≡ take i es ++ drop (i + 1) es → new ≡ filter (λ e. not (same_key key e.0)) es
freed key es new i distinct at is = is ∙ (as_without i es ∙ without_key key i es distinct at.0 at.1)

pub freed_parts : (key : ReassemblyKey) (es new : List Entry) (i : ℕ) → are_distinct key_cmp es ≡ true → StandsAt key es (Some i) → new ≡ take i es ++ drop (i + 1) es
    → is_some (message_at (parts_of_entries es) key) ≡ true → parts_of_entries new ≡ parts_less (parts_of_entries es) key
freed_parts key es new i distinct at is whole = ap parts_of_entries (freed key es new i distinct at is) ∙ parts_less_whole key es distinct whole

-- ---- a part is changed in its place

pub changed_entries : (ps : List PartInRoom) (i : ℕ) (n : PartInRoom) → entries_of (set ps i n) ≡ set (entries_of ps) i n.entry
changed_entries ps i n = map-set (λ (p : PartInRoom). p.entry) ps i n

pub parts_once_changed : (key : ReassemblyKey) (now : ℕ) (o : SegmentOffer) (ps : List PartInRoom) (i : ℕ) (p n : PartInRoom) → are_distinct key_cmp (entries_of ps) ≡ true → StandsAt key (entries_of ps) (Some i) → p ≡ get_or ps i p
    → n.entry ≡ (p.entry.0, with_offer p.entry.1 now o)
    → parts_of_entries (entries_of (set ps i n)) ≡ insert (parts_of_entries (entries_of ps)) key (with_offer (part_under (parts_of_entries (entries_of ps)) key) now o)
parts_once_changed key now o ps i p n distinct at is new =
    ap parts_of_entries (changed_entries ps i n) ∙ changed_parts key now o (entries_of ps) i p.entry n.entry distinct at (own_entry key ps i p at is) new

-- ---- how many parts there are

pub part_count : (ps : List PartInRoom) → are_distinct key_cmp (entries_of ps) ≡ true → len (parts_of_entries (entries_of ps)) ≡ length ps
part_count ps distinct = count_is (entries_of ps) distinct ∙ as_many ps

pub one_of_all : {X : Type 0} (P : X → Type 0) (xs : List X) (n : ℕ) (x : X) → All P xs → n < length xs → Some x ≡ Some (get_or xs n x) → P x
one_of_all P xs n x all lt is = subst P (sym (same_Some x (get_or xs n x) is)) (all n x lt)

-- ---- when the parts had their last segments

-- no part is left out of a moment that none of them had its last segment before
pub none_sooner : (ps : List PartInRoom) (i : ℕ) (p : PartInRoom) (old soonest : ℕ) → i < length ps → p ≡ get_or ps i p → soonest ≤ old → soonest ≤ p.entry.1.last
    → ((k : ℕ) (d : PartInRoom) → k < i → old ≤ (get_or ps k d).entry.1.last) → (k : ℕ) (d : PartInRoom) → k < i + 1 → soonest ≤ (get_or ps k d).entry.1.last
none_sooner ps i p old soonest lt is less own before k d below = cases (nat_lt k i) refl
  where
    cases : (b : Bool) → nat_lt k i ≡ b → soonest ≤ (get_or ps k d).entry.1.last
    cases true test = omega (arith, less, before k d (grind (arith, nat_tests)))
    cases false test =
        let same : k ≡ i = grind (arith, nat_tests) in
        let this : get_or ps k d ≡ p = ap (λ j. get_or ps j d) same ∙ (get_or_default ps i d p lt ∙ sym is) in
        omega (arith, own, ap (λ (q : PartInRoom). q.entry.1.last) this)

pub sooner : (ps : List PartInRoom) (old soonest : ℕ) → soonest ≤ old → All (λ (p : PartInRoom). old ≤ p.entry.1.last) ps → All (λ (p : PartInRoom). soonest ≤ p.entry.1.last) ps
sooner ps old soonest less all = λ k d lt. omega (arith, less, all k d lt)

-- where the time of none is over yet, all are left
pub none_gone : (timeout now soonest : ℕ) (ps : List PartInRoom) → All (λ (p : PartInRoom). soonest ≤ p.entry.1.last) ps → nat_le (soonest + timeout) now ≡ false
    → entries_of ps ≡ filter (λ e. not (is_gone timeout now e.1)) (entries_of ps)
none_gone timeout now soonest [] all early = refl
none_gone timeout now soonest (p ∷ ps) all early =
    let own : soonest ≤ p.entry.1.last = All-head (λ (p : PartInRoom). soonest ≤ p.entry.1.last) p ps all in
    let stays : is_gone timeout now p.entry.1 ≡ false = grind (arith, nat_tests, early, own) in
    rw stays (ap (λ rest. p.entry ∷ rest) (none_gone timeout now soonest ps (All-tail (λ (p : PartInRoom). soonest ≤ p.entry.1.last) p ps all) early))
