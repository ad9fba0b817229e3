-- Parts stay within the slots and the message limit.
use Rattle.std.proofs.Common.{◌≡◌, ◌≢◌, ℕ, zero, suc, ◌+◌, ◌-◌, ◌<◌, ◌≤◌, Bool, true, false, cond, not, ◌&&◌, nat_lt, nat_le, if◌then◌else◌, List, [], ◌∷◌, map, length, Option, None, Some, Result, Ok, Err, refl, sym, ap, ◌∙◌, arith}
use Rattle.std.specs.Option.{is_some, is_none, unwrap_or}
use Rattle.std.specs.List.{list_any}
use Rattle.std.proofs.lemmas.Bool.{or_left}
use Rattle.std.proofs.lemmas.Bool.Decides.{nat_tests}
use Rattle.std.specs.Ordering.{nat_cmp, eq_by_cmp}
use Rattle.std.specs.FinMap.{get, insert, remove, keys, len, empty, contains_key-keys, len-entries, entries, empty_of_len, get-empty, get-insert, get-remove, len-empty, len-insert, len-remove}
use Rattle.someip_reassembly.specs.declared.key.ReassemblyKey.{ReassemblyKey}
use Rattle.someip_reassembly.specs.Keys.{key_cmp}
use Rattle.someip_tables.specs.Retained.{kept_if}
use Rattle.someip_reassembly.specs.Parts.{Limits, Part, Parts, is_gone, parts_at}
use Rattle.someip_reassembly.specs.declared.reassembly.Offered.{Offered}
use Rattle.someip_reassembly.specs.declared.error.TpError.{TpError}
use Rattle.someip_reassembly.specs.declared.error.TpError.TheVariants.{Unaligned, TooLong, Conflict, NoSlot, OutOfMemory}
use Rattle.someip_reassembly.specs.SegmentOffers.{SegmentOffer as Segment, offer, part_or_whole, conflicts, is_unaligned, is_too_long, part_under, no_part, with_offer, parts_after, parts_less, message_at, kept as offer_kept}
use Rattle.someip_reassembly.specs.Slices.{byte_at}
use Rattle.someip_tp.specs.Wholes.{IsWithin}
use Rattle.someip_tp.specs.declared.calls.TpCall.{TpCall}
use Rattle.someip_tp.specs.declared.calls.TpCall.TheVariants.{Offer, Take, Expire, Clear}
use Rattle.someip_tp.specs.Calls.{parts_after_call, parts_through}
use Rattle.std.proofs.lemmas.Option.{slice_get_within}
use Rattle.someip_reassembly.proofs.Placed.{over, get-added}
use Rattle.someip_reassembly.proofs.SliceLemmas.{byte_within}
use Rattle.someip_reassembly.proofs.KeyOrder.{keys_total, exact_keys}
use Rattle.someip_tables.proofs.Entries.{own_test, get-retain}
use Rattle.someip_reassembly.proofs.OfferLemmas.{offered_by}

-- ---- a map with fewer keys is no larger

some_key : (ks : List ReassemblyKey) (n : ℕ) → length ks ≡ suc n → (k : ReassemblyKey) × (list_any (eq_by_cmp key_cmp k) ks ≡ true)
some_key [] n is = absurd (omega (arith, is))
some_key (k ∷ ks) n is = (k, or_left _ _ (own_test keys_total k))

keys_counted : (parts : Parts) → length (keys parts) ≡ len parts
keys_counted parts = counted (entries parts) ∙ sym (len-entries parts)
  where
    counted : (es : List (ReassemblyKey × Part)) → length (map (λ (e : ReassemblyKey × Part). e.0) es) ≡ length es
    counted [] = refl
    counted (e ∷ es) = ap suc (counted es)

without : (parts : Parts) (key q : ReassemblyKey) → is_some (get (remove parts key) q) ≡ true → (eq_by_cmp key_cmp q key ≡ false) × (is_some (get parts q) ≡ true)
without parts key q held = cases (eq_by_cmp key_cmp q key) refl (ap is_some (sym (get-remove keys_total parts key q)) ∙ held)
  where
    cases : (t : Bool) → eq_by_cmp key_cmp q key ≡ t → is_some (cond t None (get parts q)) ≡ true → (eq_by_cmp key_cmp q key ≡ false) × (is_some (get parts q) ≡ true)
    cases true same held = cc
    cases false other held = (other, held)

still : (parts : Parts) (key q : ReassemblyKey) → eq_by_cmp key_cmp q key ≡ false → is_some (get parts q) ≡ true → is_some (get (remove parts key) q) ≡ true
still parts key q other held = ap is_some (get-remove keys_total parts key q ∙ rw other refl) ∙ held

filled : (parts : Parts) (key : ReassemblyKey) → is_some (get parts key) ≡ true → 0 < len parts
filled parts key held = cases (nat_lt 0 (len parts)) refl
  where
    unheld : (o : Option Part) → o ≡ None → is_some o ≡ true → ⊥
    unheld o none some = cc

    cases : (b : Bool) → nat_lt 0 (len parts) ≡ b → 0 < len parts
    cases true test = grind (arith, nat_tests)
    cases false test =
        let nothing : len parts ≡ 0 = grind (arith, nat_tests) in
        absurd (unheld (get parts key) (ap (λ ps. get ps key) (empty_of_len parts nothing) ∙ get-empty key_cmp key) held)

one_less : (parts : Parts) (key : ReassemblyKey) → is_some (get parts key) ≡ true → len (remove parts key) ≡ len parts - 1
one_less parts key held = len-remove keys_total parts key ∙ rw held refl

fewer_by : (n : ℕ) (less more : Parts) → len less ≡ n → ((q : ReassemblyKey) → is_some (get less q) ≡ true → is_some (get more q) ≡ true) → len less ≤ len more
fewer_by zero less more count within = omega (arith, count)
fewer_by (suc n) less more count within =
    let some = some_key (keys less) n (keys_counted less ∙ count) in
    let key = some.0 in
    let there : is_some (get less key) ≡ true = contains_key-keys less key ∙ some.1 in
    let left : len (remove less key) ≡ n = omega (arith, one_less less key there, count) in
    let rest : len (remove less key) ≤ len (remove more key) =
    fewer_by n (remove less key) (remove more key) left (λ q held.
    let both = without less key q held in
    still more key q both.0 (within q both.1)) in
    omega (arith, count, left, rest, one_less more key (within key there), filled more key (within key there))

pub fewer : (less more : Parts) → ((q : ReassemblyKey) → is_some (get less q) ≡ true → is_some (get more q) ≡ true) → len less ≤ len more
fewer less more within = fewer_by (len less) less more refl within

-- ---- parts that are left

held_by : (less : Option Part) (more : Option Part) → ((x : Part) → less ≡ Some x → more ≡ Some x) → is_some less ≡ true → is_some more ≡ true
held_by None more same held = cc
held_by (Some x) more same held = ap is_some (same x refl)

pub within_fewer : (limits : Limits) (less more : Parts) → ((q : ReassemblyKey) (x : Part) → get less q ≡ Some x → get more q ≡ Some x) → IsWithin limits more → IsWithin limits less
within_fewer limits less more same within = (
  omega (arith, fewer less more (λ q held. held_by (get less q) (get more q) (same q) held), within.0),
  (λ key part place is held. within.1 key part place (same key part is) held),
)

kept_if_same : (test : Part → Bool) (o : Option Part) (x : Part) → kept_if test o ≡ Some x → o ≡ Some x
kept_if_same test None x is = cc
kept_if_same test (Some y) x is = cases (test y) is
  where
    cases : (b : Bool) → (if b then Some y else None) ≡ Some x → Some y ≡ Some x
    cases true is = is
    cases false is = cc

-- a part that is left at a moment is as it was
pub left_same : (limits : Limits) (now : ℕ) (parts : Parts) (q : ReassemblyKey) (x : Part) → get (parts_at limits now parts) q ≡ Some x → get parts q ≡ Some x
unfolding parts_at
left_same limits now parts q x is =
    kept_if_same (λ part. not (is_gone limits.timeout now part)) (get parts q) x (sym (get-retain keys_total exact_keys parts (λ key part. not (is_gone limits.timeout now part)) q) ∙ is)

pub within_at : (limits : Limits) (now : ℕ) (parts : Parts) → IsWithin limits parts → IsWithin limits (parts_at limits now parts)
within_at limits now parts within = within_fewer limits (parts_at limits now parts) parts (left_same limits now parts) within

pub removed_same : (b : Bool) (o : Option Part) (x : Part) → cond b None o ≡ Some x → o ≡ Some x
removed_same true o x is = cc
removed_same false o x is = is

pub within_removed : (limits : Limits) (parts : Parts) (key : ReassemblyKey) → IsWithin limits parts → IsWithin limits (remove parts key)
within_removed limits parts key within =
    within_fewer limits (remove parts key) parts (λ q x is. removed_same (eq_by_cmp key_cmp q key) (get parts q) x (sym (get-remove keys_total parts key q) ∙ is)) within

-- ---- no parts

no_value : {X Q : Type 0} (o : Option X) (x : X) → o ≡ None → o ≡ Some x → Q
no_value o x none some = absurd (cc)

pub within_nothing : (limits : Limits) → IsWithin limits empty
within_nothing limits =
    (omega (arith, len-empty key_cmp Part), (λ key part place is held. no_value _ part (get-empty key_cmp key) is))

-- ---- a part more

inserted : (limits : Limits) (parts : Parts) (key : ReassemblyKey) (part : Part) → IsWithin limits parts → (is_none (get parts key) && nat_le limits.slots (len parts)) ≡ false
    → ((place : ℕ) → is_some (get part.bytes place) ≡ true → place < limits.limit) → IsWithin limits (insert parts key part)
inserted limits parts key part within room below =
    (count (get parts key) refl, places)
  where
    count : (o : Option Part) → get parts key ≡ o → len (insert parts key part) ≤ limits.slots
    count (Some x) is =
        let same : len (insert parts key part) ≡ len parts = len-insert keys_total parts key part ∙ rw is refl in
        omega (arith, same, within.0)
    count None is =
        let more : len (insert parts key part) ≡ len parts + 1 = len-insert keys_total parts key part ∙ rw is refl in
        let free : nat_le limits.slots (len parts) ≡ false = rw is at room in
        let lt : len parts < limits.slots = grind (arith, nat_tests, free) in
        omega (arith, more, lt)

    which : (b : Bool) (o : Option Part) (x : Part) (q : ReassemblyKey) (place : ℕ) → get parts q ≡ o → cond b (Some part) o ≡ Some x → is_some (get x.bytes place) ≡ true → place < limits.limit
    which true o x q place was is held =
        let same : part ≡ x = cc in
        below place (ap (λ (p : Part). is_some (get p.bytes place)) same ∙ held)
    which false o x q place was is held = within.1 q x place (was ∙ is) held

    places : (q : ReassemblyKey) (x : Part) (place : ℕ) → get (insert parts key part) q ≡ Some x → is_some (get x.bytes place) ≡ true → place < limits.limit
    places q x place is held = which (eq_by_cmp key_cmp q key) (get parts q) x q place refl (sym (get-insert keys_total parts key part q) ∙ is) held

pub within_offered : (limits : Limits) (now : ℕ) (o : Segment) (parts : Parts) → IsWithin limits parts → is_too_long limits.limit o ≡ false → (is_none (get parts o.key) && nat_le limits.slots (len parts)) ≡ false
    → IsWithin limits (insert parts o.key (with_offer (part_under parts o.key) now o))
within_offered limits now o parts within short room =
    inserted limits parts o.key (with_offer (part_under parts o.key) now o) within room (λ place held.
    below place (byte_at o.offset o.bytes place) refl (ap is_some (sym (get-added (part_under parts o.key).bytes o.offset o.bytes place)) ∙ held))
  where
    fits : o.offset + length o.bytes ≤ limits.limit
    fits = grind (arith, nat_tests, short)

    before : (place : ℕ) (p : Option Part) → get parts o.key ≡ p → is_some (get (unwrap_or p no_part).bytes place) ≡ true → place < limits.limit
    before place None is held = no_byte _ (get-empty nat_cmp place) held
      where
        no_byte : {Q : Type 0} (b : Option ℕ) → b ≡ None → is_some b ≡ true → Q
        no_byte b none some = absurd (cc)
    before place (Some part) is held = within.1 o.key part place is held

    below : (place : ℕ) (b : Option ℕ) → byte_at o.offset o.bytes place ≡ b → is_some (over b (get (part_under parts o.key).bytes place)) ≡ true → place < limits.limit
    below place None is held = before place (get parts o.key) refl held
    below place (Some b) is held =
        let inside = byte_within o.offset o.bytes place b is in
        let lt = slice_get_within o.bytes (place - o.offset) b inside.1 in
        omega (arith, inside.0, lt, fits)

kept_so : (limits : Limits) (now : ℕ) (o : Segment) (parts : Parts) (unaligned long full clash : Bool) → is_too_long limits.limit o ≡ long → (is_none (get parts o.key) && nat_le limits.slots (len parts)) ≡ full → IsWithin limits parts
    → IsWithin limits (offer_kept (if unaligned then Err Unaligned else (if long then Err TooLong else (if full then Err NoSlot else (if clash then Err Conflict else Ok (part_or_whole (with_offer (part_under parts o.key) now o)))))) now o parts)
kept_so limits now o parts true long full clash is room within = within
kept_so limits now o parts false true full clash is room within = within
kept_so limits now o parts false false true clash is room within = within
kept_so limits now o parts false false false true is room within = within_removed limits parts o.key within
kept_so limits now o parts false false false false is room within = within_offered limits now o parts within is room

pub within_after : (limits : Limits) (now : ℕ) (o : Segment) (parts : Parts) → IsWithin limits parts → IsWithin limits (parts_after limits now o parts)
unfolding parts_after
within_after limits now o parts within =
    let left = parts_at limits now parts in
    kept_so limits now o left (is_unaligned o) (is_too_long limits.limit o) (is_none (get left o.key) && nat_le limits.slots (len left)) (conflicts (part_under left o.key) o) refl refl (within_at limits now parts within)

less_so : (limits : Limits) (parts : Parts) (key : ReassemblyKey) (whole : Bool) → IsWithin limits parts → IsWithin limits (if whole then remove parts key else parts)
less_so limits parts key true within = within_removed limits parts key within
less_so limits parts key false within = within

pub within_less : (limits : Limits) (parts : Parts) (key : ReassemblyKey) → IsWithin limits parts → IsWithin limits (parts_less parts key)
unfolding parts_less
within_less limits parts key within = less_so limits parts key (is_some (message_at parts key)) within

-- whether memory was wanting or not
pub within_offered_so : (limits : Limits) (now : ℕ) (o : Segment) (parts left : Parts) (r : Result Offered TpError) → (r ≢ Err OutOfMemory → left ≡ parts_after limits now o parts)
    → (r ≡ Err OutOfMemory → left ≡ parts_at limits now parts) → IsWithin limits parts → IsWithin limits left
within_offered_so limits now o parts left r after gone within =
    offered_by (IsWithin limits) limits now o parts left r after gone (within_after limits now o parts within) (within_at limits now parts within)

-- ---- any calls

one_call : (limits : Limits) (call : TpCall) (parts : Parts) → IsWithin limits parts → IsWithin limits (parts_after_call limits call parts)
one_call limits (Offer key offset more bytes now) parts within = within_after limits now (offer key offset more bytes.now) parts within
one_call limits (Take key) parts within = within_less limits parts key within
one_call limits (Expire now) parts within = within_at limits now parts within
one_call limits Clear parts within = within_nothing limits

pub within_through : (limits : Limits) (calls : List TpCall) (parts : Parts) → IsWithin limits parts → IsWithin limits (parts_through limits calls parts)
within_through limits [] parts within = within
within_through limits (call ∷ calls) parts within = within_through limits calls (parts_after_call limits call parts) (one_call limits call parts within)
