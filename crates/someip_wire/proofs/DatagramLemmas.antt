-- The items of a datagram, one after the other, and that they are those of the one way to take it apart.
use Rattle.std.proofs.Common.{◌≡◌, ℕ, zero, suc, ◌+◌, ◌<◌, ◌≤◌, List, [], ◌∷◌, ◌++◌, length, drop, Option, Some, None, Result, Ok, Err, refl, sym, ap, subst, ◌∙◌, append_assoc, arith}
use Rattle.std.specs.List.{flat_map, AllByRecursion}
use Rattle.std.proofs.lemmas.List.{drop_at, drop_all, drop-drop, length-drop, length-append}
use Rattle.someip_wire.specs.declared.error.WireError.{WireError}
use Rattle.someip_wire.specs.Spelling.{MessageValue, Fits, IsBytes, spelling}
use Rattle.someip_wire.specs.Faults.{length_field, fault_at}
use Rattle.someip_wire.specs.Datagram.{EndsAt, AreMessages, Datagram, items}
use Rattle.someip_wire.specs.Reading.{message_in, item_at, or_fault, items_after, items_within, items_from}
use Rattle.someip_wire.proofs.MessageLemmas.{IsBytes-drop, none_is_whole, message_spells, message_fits, fault_at_spelled, message_in_spelled, length_field_spelled, length_spelled}

abbrev Items : Type 0
Items = List (Result MessageValue WireError)

-- more steps than bytes change nothing
items_within-enough : (k n p : ℕ) (bytes : List ℕ) → length bytes ≤ k → length bytes ≤ n → items_within k p bytes ≡ items_within n p bytes
unfolding items_within
items_within-enough zero zero p [] le le' = refl
items_within-enough zero (suc n) p [] le le' = refl
items_within-enough (suc k) zero p [] le le' = refl
items_within-enough (suc k) (suc n) p [] le le' = refl
items_within-enough zero n p (b ∷ bytes) le le' = absurd (omega (arith, le))
items_within-enough (suc k) zero p (b ∷ bytes) le le' = absurd (omega (arith, le'))
items_within-enough (suc k) (suc n) p (b ∷ bytes) le le' =
    let size = length_field (b ∷ bytes) + 8 in
    let shorter = length-drop size (b ∷ bytes) in
    elim (item_at p (b ∷ bytes)) as (λ r. items_after (items_within k) p (b ∷ bytes) r ≡ items_after (items_within n) p (b ∷ bytes) r) [
      | Err e ↦ refl
      | Ok m ↦ ap (λ (others : Items). Ok m ∷ others) (items_within-enough k n (p + size) (drop size (b ∷ bytes)) (omega (arith, shorter)) (omega (arith, shorter)))
    ]

pub items_from-nil : (p : ℕ) → items_from p [] ≡ []
unfolding items_within
items_from-nil p = refl

-- the items of bytes that are left are the first and the others
items_from-cons : (p b : ℕ) (bytes : List ℕ) → items_from p (b ∷ bytes) ≡ items_after items_from p (b ∷ bytes) (item_at p (b ∷ bytes))
unfolding items_within
items_from-cons p b bytes =
    let size = length_field (b ∷ bytes) + 8 in
    let shorter = length-drop size (b ∷ bytes) in
    elim (item_at p (b ∷ bytes)) as (λ r. items_after (items_within (length bytes)) p (b ∷ bytes) r ≡ items_after items_from p (b ∷ bytes) r) [
      | Err e ↦ refl
      | Ok m ↦ ap (λ (others : Items). Ok m ∷ others) (items_within-enough (length bytes) _ (p + size) (drop size (b ∷ bytes)) (omega (arith, shorter)) (omega arith))
    ]

pub items_from-fault : (p : ℕ) (bytes : List ℕ) (e : WireError) → 0 < length bytes → fault_at p bytes ≡ Some e → items_from p bytes ≡ Err e ∷ []
items_from-fault p [] e some is = absurd (omega (arith, some))
items_from-fault p (b ∷ bytes) e some is = items_from-cons p b bytes ∙ ap (λ o. items_after items_from p (b ∷ bytes) (or_fault o (message_in (b ∷ bytes)))) is

pub items_from-message : (p : ℕ) (bytes : List ℕ) → 0 < length bytes → fault_at p bytes ≡ None
    → items_from p bytes ≡ Ok (message_in bytes) ∷ items_from (p + (length_field bytes + 8)) (drop (length_field bytes + 8) bytes)
items_from-message p [] some is = absurd (omega (arith, some))
items_from-message p (b ∷ bytes) some is = items_from-cons p b bytes ∙ ap (λ o. items_after items_from p (b ∷ bytes) (or_fault o (message_in (b ∷ bytes)))) is

pub left_none : (datagram : List ℕ) → items_from (length datagram) (drop (length datagram) datagram) ≡ []
left_none datagram = rw (drop_all (length datagram) datagram (omega arith)) (items_from-nil (length datagram))

-- the same, at a place of the datagram
pub left_message : (datagram : List ℕ) (place end : ℕ) (m : MessageValue) → place < length datagram → fault_at place (drop place datagram) ≡ None → m ≡ message_in (drop place datagram)
    → end ≡ place + (length_field (drop place datagram) + 8) → items_from place (drop place datagram) ≡ Ok m ∷ items_from end (drop end datagram)
left_message datagram place end m lt none message is_end =
    let some : 0 < length (drop place datagram) = omega (arith, length-drop place datagram) in
    rw (message, is_end, ← drop-drop (length_field (drop place datagram) + 8) place datagram) (items_from-message place (drop place datagram) some none)

pub left_fault : (datagram : List ℕ) (place : ℕ) (e : WireError) → place < length datagram → fault_at place (drop place datagram) ≡ Some e
    → items_from place (drop place datagram) ≡ Err e ∷ items_from (length datagram) (drop (length datagram) datagram)
left_fault datagram place e lt is =
    let some : 0 < length (drop place datagram) = omega (arith, length-drop place datagram) in
    items_from-fault place (drop place datagram) e some is ∙ ap (λ (others : Items). Err e ∷ others) (sym (left_none datagram))

-- ---- the one way to take a datagram apart

items_from-end : (p : ℕ) (rest : List ℕ) (end : Option WireError) → EndsAt p rest end → items_from p rest ≡ items [] end
items_from-end p rest None ends = ap (items_from p) ends ∙ items_from-nil p
items_from-end p [] (Some e) ends = absurd (ends.0 refl)
items_from-end p (b ∷ rest) (Some e) ends = items_from-fault p (b ∷ rest) e (omega arith) ends.1

items_from-messages : (p : ℕ) (messages : List MessageValue) (end : Option WireError) (rest : List ℕ) → AllByRecursion Fits messages → EndsAt (p + length (flat_map spelling messages)) rest end
    → items_from p (flat_map spelling messages ++ rest) ≡ items messages end
items_from-messages p [] end rest fits ends = items_from-end p rest end (subst (λ k. EndsAt k rest end) (omega arith) ends)
items_from-messages p (m ∷ messages) end rest fits ends =
    let others = flat_map spelling messages ++ rest in
    let bytes = spelling m ++ others in
    let size = length_field_spelled m others fits.0 in
    let len = length_spelled m others in
    let own : length (spelling m) ≡ length_field bytes + 8 = omega (arith, size) in
    let after : drop (length_field bytes + 8) bytes ≡ others = drop_at (spelling m) others _ own in
    let next : items_from (p + (length_field bytes + 8)) others ≡ items messages end =
    items_from-messages (p + (length_field bytes + 8)) messages end rest fits.1 (subst (λ k. EndsAt k rest end) (omega (arith, own, length-append (spelling m) (flat_map spelling messages))) ends) in
    ap (items_from p) (append_assoc (spelling m) (flat_map spelling messages) rest)
    ∙ items_from-message p bytes (omega (arith, len)) (fault_at_spelled p m others fits.0)
    ∙ ap (λ x. Ok x ∷ items_from (p + (length_field bytes + 8)) (drop (length_field bytes + 8) bytes)) (message_in_spelled m others fits.0)
    ∙ ap (λ (t : List ℕ). Ok m ∷ items_from (p + (length_field bytes + 8)) t) after
    ∙ ap (λ (t : Items). Ok m ∷ t) next

pub items_from-datagram : (messages : List MessageValue) (end : Option WireError) (bytes : List ℕ) → Datagram messages end bytes → items_from 0 bytes ≡ items messages end
items_from-datagram messages end bytes d = ap (items_from 0) d.parts ∙ items_from-messages 0 messages end d.rest d.each d.ends

-- messages and an end are those of their list
pub items_same : (ms others : List MessageValue) (a b : Option WireError) → items ms a ≡ items others b → (ms ≡ others) × (a ≡ b)
items_same [] [] None None is = (refl, refl)
items_same [] [] None (Some f) is = absurd cc
items_same [] [] (Some e) None is = absurd cc
items_same [] [] (Some e) (Some f) is = let same : e ≡ f = cc in (refl, ap (λ (x : WireError). Some x) same)
items_same [] (m ∷ others) None b is = absurd cc
items_same [] (m ∷ others) (Some e) b is = absurd cc
items_same (n ∷ ms) [] a None is = absurd cc
items_same (n ∷ ms) [] a (Some f) is = absurd cc
items_same (n ∷ ms) (m ∷ others) a b is =
    let same : n ≡ m = cc in
    let rest : items ms a ≡ items others b = cc in
    let r = items_same ms others a b rest in
    (ap (λ x. x ∷ ms) same ∙ ap (λ (t : List MessageValue). m ∷ t) r.0, r.1)

-- a datagram is read in one way
pub Datagram-same : (ms others : List MessageValue) (a b : Option WireError) (bytes : List ℕ) → Datagram ms a bytes → Datagram others b bytes → (ms ≡ others) × (a ≡ b)
Datagram-same ms others a b bytes one other = items_same ms others a b (sym (items_from-datagram ms a bytes one) ∙ items_from-datagram others b bytes other)

-- there is a way to take it apart
abbrev Split : ℕ → List ℕ → Type 0
Split p bytes = (messages : List MessageValue) × (end : Option WireError) × AreMessages p messages end bytes

split_more : (p : ℕ) (m : MessageValue) (bytes others : List ℕ) → Fits m → bytes ≡ spelling m ++ others → Split (p + length (spelling m)) others → Split p bytes
split_more p m bytes others fits is s = (
  m ∷ s.0,
  s.1,
  record {
    rest = s.2.rest;
    parts = is ∙ ap (λ (t : List ℕ). spelling m ++ t) s.2.parts ∙ sym (append_assoc (spelling m) (flat_map spelling s.0) s.2.rest);
    each = (fits, s.2.each);
    ends = subst (λ k. EndsAt k s.2.rest s.1) (omega (arith, length-append (spelling m) (flat_map spelling s.0))) s.2.ends;
  },
)

split_within : (n p : ℕ) (bytes : List ℕ) → length bytes ≤ n → IsBytes bytes → Split p bytes
split_within n p [] le fits = ([], None, record { rest = []; parts = refl; each = tt; ends = refl })
split_within zero p (b ∷ bytes) le fits = absurd (omega (arith, le))
split_within (suc n) p (b ∷ bytes) le fits =
    let P : Option WireError → Type 0 = λ o. fault_at p (b ∷ bytes) ≡ o → Split p (b ∷ bytes) in
    (elim (fault_at p (b ∷ bytes)) as P [
      | Some e ↦ λ is. ([], Some e, record { rest = b ∷ bytes; parts = refl; each = tt; ends = ((λ no. cc), ap (λ k. fault_at k (b ∷ bytes)) (omega arith) ∙ is) })
      | None ↦ λ is.
          let w = none_is_whole p (b ∷ bytes) is in
          let m = message_in (b ∷ bytes) in
          let others = drop (length_field (b ∷ bytes) + 8) (b ∷ bytes) in
          let shorter : length others ≤ n = omega (arith, length-drop (length_field (b ∷ bytes) + 8) (b ∷ bytes), le) in
          split_more p m (b ∷ bytes) others (message_fits (b ∷ bytes) fits w) (sym (message_spells (b ∷ bytes) fits w))
          (split_within n (p + length (spelling m)) others shorter (IsBytes-drop (length_field (b ∷ bytes) + 8) (b ∷ bytes) fits))
    ]) refl

pub is_split : (bytes : List ℕ) → IsBytes bytes → (messages : List MessageValue) × (end : Option WireError) × Datagram messages end bytes × (items_from 0 bytes ≡ items messages end)
is_split bytes fits = let s = split_within (length bytes) 0 bytes (omega arith) fits in (s.0, s.1, s.2, items_from-datagram s.0 s.1 bytes s.2)
