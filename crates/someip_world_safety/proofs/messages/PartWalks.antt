-- Which parts stand once an item was met: those that stood before, and the one of a segment that was offered.
use Rattle.std.proofs.Common.{◌≡◌, ◌⊎◌, inl, inr, ℕ, ◌+◌, ◌<◌, Bool, true, false, cond, not, ◌&&◌, nat_le, if◌then◌else◌, List, Option, None, Some, refl, sym, subst, ◌∙◌, arith}
use Rattle.std.specs.Option.{is_none, is_some, unwrap_or, option_and_then}
use Rattle.std.specs.FinMap.{get, remove, len, get-insert, get-remove}
use Rattle.std.proofs.lemmas.Bool.Decides.{nat_tests}
use Rattle.someip_wire.specs.Spelling.{MessageValue}
use Rattle.someip_tables.specs.Retained.{kept_if}
use Rattle.someip_tables.proofs.Entries.{get-retain}
use Rattle.someip_reassembly.specs.declared.key.ReassemblyKey.{ReassemblyKey}
use Rattle.someip_tp.specs.Accepted.{HoldsOnly, IsSegmentOf}
use Rattle.someip_reassembly.specs.Keys.{same_key}
use Rattle.someip_reassembly.specs.SegmentOffers.{SegmentOffer, conflicts, is_too_long, is_unaligned, kept, message_at, message_of, no_part, part_under, parts_after, parts_less, with_offer}
use Rattle.someip_reassembly.specs.Parts.{Limits, Part, Parts, is_gone, parts_at}
use Rattle.someip_tp.proofs.promises.AcceptedLemmas.{accepts, begins, whole_is_payload}
use Rattle.someip_tp.proofs.promises.BoundLemmas.{left_same, removed_same}
use Rattle.someip_reassembly.proofs.KeyOrder.{exact_keys, keys_total, same_from_test}
use Rattle.someip_reassembly.proofs.OfferLemmas.{judged_by}
use Rattle.someip_node_rules.specs.histories.DiscoveryQuestions.{parts_by}
use Rattle.someip_node_rules.specs.histories.Items as items
use Rattle.someip_node_rules.specs.histories.Items.{Item}

-- ---- parts that are left

-- a value that passes the test of time is not gone
kept_in_time : (timeout now : ℕ) (o : Option Part) (x : Part) → kept_if (λ part. not (is_gone timeout now part)) o ≡ Some x → now < x.last + timeout
kept_in_time timeout now None x is = absurd cc
kept_in_time timeout now (Some y) x is = cases (is_gone timeout now y) refl is
  where
    cases : (b : Bool) → is_gone timeout now y ≡ b → (if not b then Some y else None) ≡ Some x → now < x.last + timeout
    cases true test is = absurd cc
    cases false test is =
        let same : y ≡ x = cc in
        let time : now < y.last + timeout = grind (arith, nat_tests, test) in
        subst (λ (z : Part). now < z.last + timeout) same time

-- a part that is left at a moment has time
pub left_in_time : (limits : Limits) (now : ℕ) (parts : Parts) (q : ReassemblyKey) (x : Part) → get (parts_at limits now parts) q ≡ Some x → now < x.last + limits.timeout
unfolding parts_at
left_in_time limits now parts q x is =
    kept_in_time limits.timeout now (get parts q) x (sym (get-retain keys_total exact_keys parts (λ key part. not (is_gone limits.timeout now part)) q) ∙ is)

-- a part that stands after a message was taken stood before
less_same : (parts : Parts) (k key : ReassemblyKey) (part : Part) → get (parts_less parts k) key ≡ Some part → get parts key ≡ Some part
unfolding parts_less
less_same parts k key part is = cases (is_some (message_at parts k)) is
  where
    cases : (t : Bool) → get (cond t (remove parts k) parts) key ≡ Some part → get parts key ≡ Some part
    cases true is = removed_same (same_key key k) (get parts key) part (sym (get-remove keys_total parts k key) ∙ is)
    cases false is = is

-- ---- a segment that was offered

-- a part is the one with a segment that was accepted
pub record IsJoined (now : ℕ) (o : SegmentOffer) (left : Parts) (key : ReassemblyKey) (part : Part) : Type 0 where
  pub same : key ≡ o.key
  pub is : part ≡ with_offer (part_under left o.key) now o

-- what stands under a key once a part was put under one
inserted : (now : ℕ) (o : SegmentOffer) (left : Parts) (key : ReassemblyKey) (part : Part) (same : Bool) → same_key key o.key ≡ same → cond same (Some (with_offer (part_under left o.key) now o)) (get left key) ≡ Some part
    → (get left key ≡ Some part) ⊎ IsJoined now o left key part
inserted now o left key part true test is = inr (record { same = same_from_test key o.key test; is = cc })
inserted now o left key part false test is = inl is

-- by the four tests of a segment
offered_by_tests : (now : ℕ) (o : SegmentOffer) (left : Parts) (key : ReassemblyKey) (part : Part) (unaligned long full clash : Bool) → get (kept (judged_by unaligned long full clash now o left) now o left) key ≡ Some part
    → (get left key ≡ Some part) ⊎ IsJoined now o left key part
offered_by_tests now o left key part true long full clash is = inl is
offered_by_tests now o left key part false true full clash is = inl is
offered_by_tests now o left key part false false true clash is = inl is
offered_by_tests now o left key part false false false true is = inl (removed_same (same_key key o.key) (get left key) part (sym (get-remove keys_total left o.key key) ∙ is))
offered_by_tests now o left key part false false false false is =
    inserted now o left key part (same_key key o.key) refl (sym (get-insert keys_total left o.key (with_offer (part_under left o.key) now o) key) ∙ is)

-- a part that stands after a segment was offered was left before, or has the segment
pub offered_parts : (limits : Limits) (now : ℕ) (o : SegmentOffer) (parts : Parts) (key : ReassemblyKey) (part : Part) → get (parts_after limits now o parts) key ≡ Some part
    → (get (parts_at limits now parts) key ≡ Some part) ⊎ IsJoined now o (parts_at limits now parts) key part
unfolding parts_after
offered_parts limits now o parts key part is =
    let left = parts_at limits now parts in
    offered_by_tests now o left key part (is_unaligned o) (is_too_long limits.limit o) (is_none (get left o.key) && nat_le limits.slots (len left)) (conflicts (part_under left o.key) o) is

-- where the part under the key of a segment held only bytes of its message, it does with the segment too
pub joined_holds : (now : ℕ) (o : SegmentOffer) (m : MessageValue) (left : Parts) (key : ReassemblyKey) (part : Part) → IsSegmentOf m o → ((part : Part) → get left o.key ≡ Some part → HoldsOnly m.payload part)
    → IsJoined now o left key part → HoldsOnly m.payload part
joined_holds now o m left key part segment held joined =
    subst (HoldsOnly m.payload) (sym joined.is) (accepts m (part_under left o.key) now o (before (get left o.key) refl) segment)
  where
    before : (v : Option Part) → get left o.key ≡ v → HoldsOnly m.payload (unwrap_or v no_part)
    before None none = begins m.payload
    before (Some p) some = held p some

-- ---- items

-- after an item that offers no segment under a key only a part stands there that stood before
pub no_new_parts : (limits : Limits) (item : Item) (now : ℕ) (parts : Parts) (key : ReassemblyKey) (part : Part) → ((o : SegmentOffer) → item ≡ items.SegmentOffered o → key ≡ o.key → ⊥)
    → get (parts_by limits item now parts) key ≡ Some part → get parts key ≡ Some part
no_new_parts limits (items.Ticked ms) now parts key part none is = left_same limits (now + ms) parts key part is
no_new_parts limits (items.SegmentOffered o) now parts key part none is = cases (offered_parts limits now o parts key part is)
  where
    cases : (get (parts_at limits now parts) key ≡ Some part) ⊎ IsJoined now o (parts_at limits now parts) key part → get parts key ≡ Some part
    cases (inl left) = left_same limits now parts key part left
    cases (inr joined) = absurd (none o refl joined.same)
no_new_parts limits (items.MessageTaken k) now parts key part none is = less_same parts k key part is
no_new_parts limits item now parts key part none is = is

-- ---- whole messages

-- a message that is whole under a key, whose part holds only the bytes of a payload, is that payload
pub whole_payload : (parts : Parts) (key : ReassemblyKey) (payload message : List ℕ) → ((part : Part) → get parts key ≡ Some part → HoldsOnly payload part) → message_at parts key ≡ Some message → message ≡ payload
unfolding message_at
whole_payload parts key payload message held is = cases (get parts key) refl is
  where
    cases : (v : Option Part) → get parts key ≡ v → option_and_then message_of v ≡ Some message → message ≡ payload
    cases None none is = absurd cc
    cases (Some part) some is = whole_is_payload payload part message (held part some) is
