-- What a list of entries, one for each key, says of the parts.
use Rattle.std.proofs.Common.{◌≡◌, ◌≢◌, ℕ, zero, suc, ◌+◌, ◌<◌, Bool, true, false, cond, not, nat_lt, nat_le, List, [], ◌∷◌, ◌++◌, filter, length, set, get_or, Option, None, Some, Result, Ok, Err, refl, sym, ap, subst, ◌∙◌, arith}
use Rattle.std.specs.Option.{is_some, is_none, unwrap_or, option_and_then}
use Rattle.std.specs.Ordering.{nat_cmp, eq_by_cmp}
use Rattle.std.specs.FinMap.{find, get, insert, remove, len, empty, get-from_entries, get-insert, get-empty, same_map, keys, from_entries_push}
use Rattle.std.proofs.lemmas.Bool.{and_parts, and_from}
use Rattle.std.proofs.lemmas.Bool.Decides.{nat_tests}
use Rattle.std.proofs.lemmas.List.{get_or_default, append-nil}
use Rattle.someip_reassembly.specs.declared.key.ReassemblyKey.{ReassemblyKey}
use Rattle.someip_tables.specs.Distinct.{are_distinct}
use Rattle.someip_reassembly.specs.Keys.{key_cmp, same_key}
use Rattle.someip_reassembly.specs.Parts.{Part, Parts, Limits, is_gone, parts_at}
use Rattle.someip_reassembly.specs.declared.reassembly.Offered.{Offered}
use Rattle.someip_reassembly.specs.declared.error.TpError.{TpError}
use Rattle.someip_reassembly.specs.declared.error.TpError.TheVariants.{Unaligned, TooLong, Conflict, NoSlot, OutOfMemory, NoHeader}
use Rattle.std.specs.Result.{is_ok, OnErr}
use Rattle.someip_reassembly.specs.SegmentOffers.{SegmentOffer, judged, judgement, kept, parts_after, judged_among, part_or_whole, part_under, no_part, conflicts, passes, total_of, with_offer, message_of, message_at, parts_less}
use Rattle.someip_reassembly.specs.Partials.{Entry}
use Rattle.someip_reassembly.specs.Stores.{StandsAt, Acts, parts_of_entries}
use Rattle.someip_reassembly.proofs.Placed.{none_differs}
use Rattle.someip_reassembly.proofs.PartialLemmas.{no_place_passes}
use Rattle.someip_reassembly.proofs.KeyOrder.{keys_total, exact_keys, same_from_test, test_from_same}
use Rattle.someip_tables.proofs.Entries as entries

-- ---- where an entry stands

-- an entry that is not among the first ones
pub none_stands : (key : ReassemblyKey) (es : List Entry) → ((k : ℕ) (d : Entry) → k < length es → same_key key (get_or es k d).0 ≡ false) → find key_cmp key es ≡ None
none_stands key [] none = refl
none_stands key (e ∷ es) none =
    rw (none 0 e (omega arith)) (none_stands key es (λ k d lt. none (suc k) d (omega (arith, lt))))

-- one entry more that is not the key's
pub none_more : (key : ReassemblyKey) (es : List Entry) (i : ℕ) (e : Entry) → i < length es → e ≡ get_or es i e → same_key key e.0 ≡ false
    → ((k : ℕ) (d : Entry) → k < i → same_key key (get_or es k d).0 ≡ false) → (k : ℕ) (d : Entry) → k < i + 1 → same_key key (get_or es k d).0 ≡ false
none_more key es i e lt is other old k d below = cases (nat_lt k i) refl
  where
    cases : (b : Bool) → nat_lt k i ≡ b → same_key key (get_or es k d).0 ≡ false
    cases true test = old k d (grind (arith, nat_tests))
    cases false test =
        let same : k ≡ i = grind (arith, nat_tests) in
        let this : get_or es k d ≡ e = ap (λ j. get_or es j d) same ∙ (get_or_default es i d e lt ∙ sym is) in
        ap (λ (x : Entry). same_key key x.0) this ∙ other

-- what a key's entry has, where no key stands twice
pub stands : (key : ReassemblyKey) (es : List Entry) (i : ℕ) (d : Entry) → are_distinct key_cmp es ≡ true → i < length es → same_key key (get_or es i d).0 ≡ true → find key_cmp key es ≡ Some (get_or es i d).1
stands key [] i d distinct lt is = absurd (omega (arith, lt))
stands key (e ∷ es) zero d distinct lt is = rw is refl
stands key (e ∷ es) (suc i) d distinct lt is =
    let parts = and_parts (is_none (find key_cmp e.0 es)) (are_distinct key_cmp es) distinct in
    let rest = stands key es i d parts.1 (omega (arith, lt)) is in
    cases (eq_by_cmp key_cmp key e.0) refl (entries.none_found _ parts.0) rest
  where
    cases : (t : Bool) → eq_by_cmp key_cmp key e.0 ≡ t → find key_cmp e.0 es ≡ None → find key_cmp key es ≡ Some (get_or es i d).1 → cond t (Some e.1) (find key_cmp key es) ≡ Some (get_or es i d).1
    cases true same none rest =
        let gone : find key_cmp key es ≡ None = ap (λ k. find key_cmp k es) (same_from_test key e.0 same) ∙ none in
        cc
    cases false other none rest = rest

pub part_there : (key : ReassemblyKey) (es : List Entry) (i : ℕ) (d : Entry) → are_distinct key_cmp es ≡ true → StandsAt key es (Some i) → get (parts_of_entries es) key ≡ Some (get_or es i d).1
part_there key es i d distinct at = get-from_entries keys_total es key ∙ stands key es i d distinct at.0 (at.1 d)

pub part_under_there : (key : ReassemblyKey) (es : List Entry) (i : ℕ) (d : Entry) → are_distinct key_cmp es ≡ true → StandsAt key es (Some i) → part_under (parts_of_entries es) key ≡ (get_or es i d).1
part_under_there key es i d distinct at = ap (λ o. unwrap_or o no_part) (part_there key es i d distinct at)

pub no_part_there : (key : ReassemblyKey) (es : List Entry) → StandsAt key es None → get (parts_of_entries es) key ≡ None
no_part_there key es at = get-from_entries keys_total es key ∙ at

-- ---- an entry is changed in its place

find-set : (key q : ReassemblyKey) (part : Part) (es : List Entry) (i : ℕ) → are_distinct key_cmp es ≡ true → i < length es → ((d : Entry) → (get_or es i d).0 ≡ key)
    → find key_cmp q (set es i (key, part)) ≡ cond (eq_by_cmp key_cmp q key) (Some part) (find key_cmp q es)
find-set key q part [] i distinct lt at = absurd (omega (arith, lt))
find-set key q part (e ∷ es) zero distinct lt at = cases (eq_by_cmp key_cmp q key) refl
  where
    cases : (t : Bool) → eq_by_cmp key_cmp q key ≡ t → cond t (Some part) (find key_cmp q es) ≡ cond t (Some part) (cond (eq_by_cmp key_cmp q e.0) (Some e.1) (find key_cmp q es))
    cases true test = refl
    cases false test =
        let other : eq_by_cmp key_cmp q e.0 ≡ false = ap (eq_by_cmp key_cmp q) (at e) ∙ test in
        rw other refl
find-set key q part (e ∷ es) (suc i) distinct lt at =
    let parts = and_parts (is_none (find key_cmp e.0 es)) (are_distinct key_cmp es) distinct in
    let rest = find-set key q part es i parts.1 (omega (arith, lt)) at in
    rw rest (cases (eq_by_cmp key_cmp q e.0) (eq_by_cmp key_cmp q key) refl refl (entries.none_found _ parts.0))
  where
    cases : (t u : Bool) → eq_by_cmp key_cmp q e.0 ≡ t → eq_by_cmp key_cmp q key ≡ u → find key_cmp e.0 es ≡ None
        → cond t (Some e.1) (cond u (Some part) (find key_cmp q es)) ≡ cond u (Some part) (cond t (Some e.1) (find key_cmp q es))
    cases true true first second none =
        let there : find key_cmp key es ≡ Some (get_or es i e).1 = stands key es i e (and_parts (is_none (find key_cmp e.0 es)) (are_distinct key_cmp es) distinct).1 (omega (arith, lt)) (test_from_same key (get_or es i e).0 (sym (at e))) in
        let gone : find key_cmp key es ≡ None = ap (λ k. find key_cmp k es) (sym (same_from_test q key second) ∙ same_from_test q e.0 first) ∙ none in
        absurd (cc)
    cases true false first second none = refl
    cases false u first second none = refl

pub distinct-set : (key : ReassemblyKey) (part : Part) (es : List Entry) (i : ℕ) → are_distinct key_cmp es ≡ true → i < length es → ((d : Entry) → (get_or es i d).0 ≡ key) → are_distinct key_cmp (set es i (key, part)) ≡ true
distinct-set key part [] i distinct lt at = absurd (omega (arith, lt))
distinct-set key part (e ∷ es) zero distinct lt at =
    let parts = and_parts (is_none (find key_cmp e.0 es)) (are_distinct key_cmp es) distinct in
    and_from _ _ (ap (λ k. is_none (find key_cmp k es)) (sym (at e)) ∙ parts.0) parts.1
distinct-set key part (e ∷ es) (suc i) distinct lt at =
    let parts = and_parts (is_none (find key_cmp e.0 es)) (are_distinct key_cmp es) distinct in
    let found = find-set key e.0 part es i parts.1 (omega (arith, lt)) at in
    let there = stands key es i e parts.1 (omega (arith, lt)) (test_from_same key (get_or es i e).0 (sym (at e))) in
    and_from _ _ (ap is_none found ∙ cases (eq_by_cmp key_cmp e.0 key) refl (entries.none_found _ parts.0) there) (distinct-set key part es i parts.1 (omega (arith, lt)) at)
  where
    cases : (t : Bool) → eq_by_cmp key_cmp e.0 key ≡ t → find key_cmp e.0 es ≡ None → find key_cmp key es ≡ Some (get_or es i e).1 → is_none (cond t (Some part) (find key_cmp e.0 es)) ≡ true
    cases true same none there =
        let gone : find key_cmp key es ≡ None = ap (λ k. find key_cmp k es) (sym (same_from_test e.0 key same)) ∙ none in
        absurd (cc)
    cases false other none there = ap is_none none

pub parts-set : (key : ReassemblyKey) (part : Part) (es : List Entry) (i : ℕ) → are_distinct key_cmp es ≡ true → i < length es → ((d : Entry) → (get_or es i d).0 ≡ key)
    → parts_of_entries (set es i (key, part)) ≡ insert (parts_of_entries es) key part
parts-set key part es i distinct lt at =
    same_map keys_total exact_keys _ _ (λ q.
    get-from_entries keys_total (set es i (key, part)) q ∙ find-set key q part es i distinct lt at
    ∙ sym (get-insert keys_total (parts_of_entries es) key part q ∙ ap (cond (eq_by_cmp key_cmp q key) (Some part)) (get-from_entries keys_total es q)))

-- ---- the entry that stands at i becomes another of its key

own_key : (es : List Entry) (i : ℕ) (e n : Entry) → i < length es → e ≡ get_or es i e → n.0 ≡ e.0 → (d : Entry) → (get_or es i d).0 ≡ n.0
own_key es i e n lt is same d = ap (λ (x : Entry). x.0) (get_or_default es i d e lt ∙ sym is) ∙ sym same

pub changed_distinct : (es : List Entry) (i : ℕ) (e n : Entry) → are_distinct key_cmp es ≡ true → i < length es → e ≡ get_or es i e → n.0 ≡ e.0 → are_distinct key_cmp (set es i n) ≡ true
changed_distinct es i e n distinct lt is same = distinct-set n.0 n.1 es i distinct lt (own_key es i e n lt is same)

-- the entry at i is that of the key
pub entry_under : (key : ReassemblyKey) (es : List Entry) (i : ℕ) (e : Entry) → are_distinct key_cmp es ≡ true → StandsAt key es (Some i) → e ≡ get_or es i e → part_under (parts_of_entries es) key ≡ e.1
entry_under key es i e distinct at is = part_under_there key es i e distinct at ∙ sym (ap (λ (x : Entry). x.1) is)

pub changed_parts : (key : ReassemblyKey) (now : ℕ) (o : SegmentOffer) (es : List Entry) (i : ℕ) (e n : Entry) → are_distinct key_cmp es ≡ true → StandsAt key es (Some i) → e ≡ get_or es i e
    → n ≡ (e.0, with_offer e.1 now o) → parts_of_entries (set es i n) ≡ insert (parts_of_entries es) key (with_offer (part_under (parts_of_entries es) key) now o)
changed_parts key now o es i e n distinct at is new =
    let same : n.0 ≡ e.0 = ap (λ (x : Entry). x.0) new in
    let own : key ≡ n.0 = same_from_test key (get_or es i e).0 (at.1 e) ∙ (sym (ap (λ (x : Entry). x.0) is) ∙ sym same) in
    let part : with_offer (part_under (parts_of_entries es) key) now o ≡ n.1 = ap (λ p. with_offer p now o) (entry_under key es i e distinct at is) ∙ sym (ap (λ (x : Entry). x.1) new) in
    parts-set n.0 n.1 es i distinct at.0 (own_key es i e n at.0 is same) ∙ sym (λ j. insert (parts_of_entries es) (own j) (part j))

-- ---- an entry of a new key

pub pushed_distinct : (key : ReassemblyKey) (es : List Entry) (n : Entry) → are_distinct key_cmp es ≡ true → StandsAt key es None → n.0 ≡ key → are_distinct key_cmp (es ++ n ∷ []) ≡ true
pushed_distinct key es n distinct none own = entries.distinct-push keys_total exact_keys n.0 n.1 es (ap (λ k. find key_cmp k es) own ∙ none) distinct

pub pushed_parts : (key : ReassemblyKey) (part : Part) (es : List Entry) (n : Entry) → StandsAt key es None → n ≡ (key, part) → parts_of_entries (es ++ n ∷ []) ≡ insert (parts_of_entries es) key part
pushed_parts key part es n none is = ap (λ (x : Entry). parts_of_entries (es ++ x ∷ [])) is ∙ from_entries_push keys_total exact_keys es key part none

pub nothing_conflicts : (o : SegmentOffer) → conflicts no_part o ≡ false
nothing_conflicts o =
    rw (none_differs (get empty) o.offset o.bytes (λ place a b h k. nothing place a h), last (total_of o)) refl
  where
    clash : (o : Option ℕ) (a : ℕ) → o ≡ None → o ≡ Some a → ⊥
    clash o a none some = cc

    nothing : {Q : Type 0} (place a : ℕ) → get (empty {K = ℕ} {X = ℕ} {R = nat_cmp}) place ≡ Some a → Q
    nothing place a h = absurd (clash _ a (get-empty nat_cmp place) h)

    unheld : (o : Option ℕ) {Q : Type 0} → o ≡ None → is_some o ≡ true → Q
    unheld o none some = absurd (cc)

    last : (t : Option ℕ) → passes t (keys (empty {K = ℕ} {X = ℕ} {R = nat_cmp})) ≡ false
    last None = refl
    last (Some t) = no_place_passes (nat_le t) empty (λ place held. unheld _ (get-empty nat_cmp place) held)

-- ---- entries that go

pub removed_distinct : (key : ReassemblyKey) (es : List Entry) → are_distinct key_cmp es ≡ true → are_distinct key_cmp (filter (λ e. not (same_key key e.0)) es) ≡ true
removed_distinct key es distinct = entries.distinct-filter keys_total exact_keys (λ e. not (same_key key e.0)) es distinct

pub removed_parts : (key : ReassemblyKey) (es : List Entry) → are_distinct key_cmp es ≡ true → parts_of_entries (filter (λ e. not (same_key key e.0)) es) ≡ remove (parts_of_entries es) key
removed_parts key es distinct = entries.from_entries-filter keys_total exact_keys (λ e. not (same_key key e.0)) es distinct ∙ entries.remove_retain keys_total exact_keys (parts_of_entries es) key

pub left_distinct : (timeout now : ℕ) (es : List Entry) → are_distinct key_cmp es ≡ true → are_distinct key_cmp (filter (λ e. not (is_gone timeout now e.1)) es) ≡ true
left_distinct timeout now es distinct = entries.distinct-filter keys_total exact_keys (λ e. not (is_gone timeout now e.1)) es distinct

pub left_parts : (limits : Limits) (now : ℕ) (es : List Entry) → are_distinct key_cmp es ≡ true → parts_of_entries (filter (λ e. not (is_gone limits.timeout now e.1)) es) ≡ parts_at limits now (parts_of_entries es)
unfolding parts_at
left_parts limits now es distinct = entries.from_entries-filter keys_total exact_keys (λ e. not (is_gone limits.timeout now e.1)) es distinct

pub count_is : (es : List Entry) → are_distinct key_cmp es ≡ true → len (parts_of_entries es) ≡ length es
count_is es distinct = entries.len-from_entries keys_total exact_keys es distinct

-- ---- how a segment is judged

pub judged_conflict : (slots now : ℕ) (o : SegmentOffer) (parts : Parts) (part : Part) → get parts o.key ≡ Some part → conflicts (part_under parts o.key) o ≡ true → Err Conflict ≡ judged_among slots now o parts
judged_conflict slots now o parts part there clash =
    let known : is_none (get parts o.key) ≡ false = ap is_none there in
    rw (known, clash) refl

pub judged_fit : (slots now : ℕ) (o : SegmentOffer) (parts : Parts) (part : Part) → get parts o.key ≡ Some part → conflicts (part_under parts o.key) o ≡ false
    → Ok (part_or_whole (with_offer (part_under parts o.key) now o)) ≡ judged_among slots now o parts
judged_fit slots now o parts part there fits =
    let known : is_none (get parts o.key) ≡ false = ap is_none there in
    rw (known, fits) refl

pub judged_full : (slots now : ℕ) (o : SegmentOffer) (parts : Parts) → get parts o.key ≡ None → nat_le slots (len parts) ≡ true → Err NoSlot ≡ judged_among slots now o parts
judged_full slots now o parts none full =
    let new : is_none (get parts o.key) ≡ true = ap is_none none in
    rw (new, full) refl

pub judged_new : (slots now : ℕ) (o : SegmentOffer) (parts : Parts) → get parts o.key ≡ None → nat_le slots (len parts) ≡ false → Ok (part_or_whole (with_offer no_part now o)) ≡ judged_among slots now o parts
judged_new slots now o parts none room =
    let new : is_none (get parts o.key) ≡ true = ap is_none none in
    let empty_part : part_under parts o.key ≡ no_part = ap (λ p. unwrap_or p no_part) none in
    rw (new, room, empty_part, nothing_conflicts o) refl

pub wanting_acts : (judgement : Result Offered TpError) (now : ℕ) (o : SegmentOffer) (old new : Parts) (r : Result Offered TpError) (offered : Offered) → r ≡ Err OutOfMemory → Ok offered ≡ judgement → new ≡ old → Acts judgement now o old r new
wanting_acts judgement now o old new r offered is told same = subst (λ x. Acts judgement now o old x new) (sym is) (ap is_ok (sym told), same)

pub no_part_under : (key : ReassemblyKey) (now : ℕ) (o : SegmentOffer) (parts : Parts) → get parts key ≡ None → insert parts key (with_offer no_part now o) ≡ insert parts key (with_offer (part_under parts key) now o)
no_part_under key now o parts none = ap (λ p. insert parts key (with_offer p now o)) (sym (ap (λ p. unwrap_or p no_part) none))

-- ---- a message is taken

pub none_whole : (key : ReassemblyKey) (parts : Parts) → get parts key ≡ None → message_at parts key ≡ None
unfolding message_at
none_whole key parts none = ap (option_and_then message_of) none

pub message_there : (key : ReassemblyKey) (es : List Entry) (i : ℕ) (e : Entry) → are_distinct key_cmp es ≡ true → StandsAt key es (Some i) → e ≡ get_or es i e → message_at (parts_of_entries es) key ≡ message_of e.1
unfolding message_at
message_there key es i e distinct at is = ap (option_and_then message_of) (part_there key es i e distinct at ∙ ap Some (sym (ap (λ (x : Entry). x.1) is)))

pub parts_less_whole : (key : ReassemblyKey) (es : List Entry) → are_distinct key_cmp es ≡ true → is_some (message_at (parts_of_entries es) key) ≡ true
    → parts_of_entries (filter (λ e. not (same_key key e.0)) es) ≡ parts_less (parts_of_entries es) key
unfolding parts_less
parts_less_whole key es distinct whole = removed_parts key es distinct ∙ rw whole refl

pub parts_less_none : (key : ReassemblyKey) (parts : Parts) → is_some (message_at parts key) ≡ false → parts ≡ parts_less parts key
unfolding parts_less
parts_less_none key parts none = rw none refl

-- nothing is appended where no message is whole
pub nothing_appended : (bytes : List ℕ) (message : Option (List ℕ)) → is_some message ≡ false → bytes ≡ bytes ++ unwrap_or message []
nothing_appended bytes None none = sym (append-nil bytes)
nothing_appended bytes (Some m) none = cc

-- ---- what an act says

pub acts_judged : (judgement : Result Offered TpError) (now : ℕ) (o : SegmentOffer) (old new : Parts) (r : Result Offered TpError) → Acts judgement now o old r new → r ≢ Err OutOfMemory → (r ≡ judgement) × (new ≡ kept r now o old)
acts_judged judgement now o old new (Ok x) acts apart = acts
acts_judged judgement now o old new (Err Unaligned) acts apart = acts
acts_judged judgement now o old new (Err TooLong) acts apart = acts
acts_judged judgement now o old new (Err Conflict) acts apart = acts
acts_judged judgement now o old new (Err NoSlot) acts apart = acts
acts_judged judgement now o old new (Err NoHeader) acts apart = acts
acts_judged judgement now o old new (Err OutOfMemory) acts apart = absurd (apart refl)

pub acts_wanting : (judgement : Result Offered TpError) (now : ℕ) (o : SegmentOffer) (old new : Parts) (r : Result Offered TpError) → Acts judgement now o old r new → r ≡ Err OutOfMemory → (is_ok judgement ≡ true) × (new ≡ old)
acts_wanting judgement now o old new r acts is = subst (λ x. Acts judgement now o old x new) is acts

pub judged_so : (limits : Limits) (now : ℕ) (o : SegmentOffer) (parts left new : Parts) (r : Result Offered TpError) → left ≡ parts_at limits now parts → Acts (judged limits now o left) now o left r new → r ≢ Err OutOfMemory
    → r ≡ judgement limits now o parts
unfolding judgement
judged_so limits now o parts left new r is acts apart = (acts_judged _ now o left new r acts apart).0 ∙ ap (judged limits now o) is

pub changed_so : (limits : Limits) (now : ℕ) (o : SegmentOffer) (parts left new : Parts) (r : Result Offered TpError) → left ≡ parts_at limits now parts → Acts (judged limits now o left) now o left r new → r ≢ Err OutOfMemory
    → new ≡ parts_after limits now o parts
unfolding parts_after
changed_so limits now o parts left new r is acts apart =
    let both = acts_judged _ now o left new r acts apart in
    both.1 ∙ (ap (λ x. kept x now o left) both.0 ∙ ap (λ ps. kept (judged limits now o ps) now o ps) is)

pub wanting_so : (limits : Limits) (now : ℕ) (o : SegmentOffer) (parts left new : Parts) (r : Result Offered TpError) → left ≡ parts_at limits now parts → Acts (judged limits now o left) now o left r new → r ≡ Err OutOfMemory
    → (is_ok (judgement limits now o parts) ≡ true) × (new ≡ parts_at limits now parts)
unfolding judgement
wanting_so limits now o parts left new r is acts wanting =
    let both = acts_wanting _ now o left new r acts wanting in
    (ap (λ ps. is_ok (judged limits now o ps)) (sym is) ∙ both.0, both.1 ∙ is)

-- what is true is true where there is an error
pub on_err_any : {T E P : Type 0} (r : Result T E) → P → OnErr r P
on_err_any (Ok x) p = tt
on_err_any (Err e) p = p
