-- Forms that values can have, as facts.
use Rattle.std.proofs.Common.{◌≡◌, ℕ, ◌<◌, ◌≤◌, ◌^◌, ◌%◌, Bool, true, false, ltb, leb, eqb, not, ◌&&◌, ◌||◌, List, [], ◌∷◌, length, map, Some, None, refl, arith}
use Rattle.std.proofs.lemmas.Bool.{and_parts, ltb-true, leb-true, ne_eqb, eq-eqb}
use Rattle.std.specs.Prelude.{ℤ}
use Rattle.someip_payload_values.specs.declared.shape.Encoding.{Encoding}
use Rattle.someip_payload_values.specs.declared.shape.Encoding.TheVariants.{Utf8, Utf16}
use Rattle.someip_payload_values.specs.Data.{Form, bool, unsigned, signed, float, string, padded, array, fixed, «struct», union, tagged, named, enumerated, Forms, no_forms, form_then, Variants, no_variants, variant, Members, no_members, member_then}
use Rattle.someip_payload_values.specs.Check.{has_members, has_variants, has_tagged_members, is_fixed, can_be_tagged, is_among, are_numbers, fit_field, are_ids, names_of, names_of_members, are_names, has_value, is_above, are_values, is_enum, is_room, is_form, are_forms, are_variants, are_tagged}
use Rattle.someip_payload_codec.specs.Grammar.{is_member}

abbrev pub HasMembers : Forms → Type 0
HasMembers no_forms = ⊥
HasMembers (form_then f fs) = Unit {0}

abbrev mutual
  pub IsForm : Form → Type 0
  IsForm (array width most element) = IsForm element
  IsForm (fixed width n element) = (0 < n) × IsForm element
  IsForm («struct» width fs) = HasMembers fs × AreForms fs
  IsForm (union width type vs) = AreVariants vs
  IsForm (tagged width ms) = AreMembers ms
  IsForm (named n f) = IsForm f
  IsForm (enumerated f labels) = IsForm f
  IsForm (padded encoding n) = 0 < n
  IsForm bool = Unit {0}
  IsForm (unsigned order size) = Unit {0}
  IsForm (signed order size) = Unit {0}
  IsForm (float order p) = Unit {0}
  IsForm (string encoding width) = Unit {0}

  pub AreForms : Forms → Type 0
  AreForms no_forms = Unit {0}
  AreForms (form_then f fs) = IsForm f × AreForms fs

  pub AreVariants : Variants → Type 0
  AreVariants no_variants = Unit {0}
  AreVariants (variant n f vs) = (0 < n) × IsForm f × AreVariants vs

  pub AreMembers : Members → Type 0
  AreMembers no_members = Unit {0}
  AreMembers (member_then id optional f ms) = (id < 2 ^ 12) × (is_member id ms ≡ false) × (can_be_tagged f ≡ true) × IsForm f × AreMembers ms

or_right : (a b : Bool) → b ≡ true → (a || b) ≡ true
or_right true b e = refl
or_right false b e = e

or_left : (a b : Bool) → a ≡ true → (a || b) ≡ true
or_left true b e = refl
or_left false b e = absurd cc

-- a Data ID that stood earlier is none of a later member
not_later : (ms : Members) (earlier : List ℕ) (id : ℕ) → is_among id earlier ≡ true → are_ids earlier ms ≡ true → is_member id ms ≡ false
not_later no_members earlier id among e = refl
not_later (member_then n optional f ms) earlier id among e =
    let p = and_parts (ltb n 4096) (not (is_among n earlier) && are_ids (n ∷ earlier) ms) e in
    let q = and_parts (not (is_among n earlier)) (are_ids (n ∷ earlier) ms) p.1 in
    let other : eqb n id ≡ false = ne_eqb n id (λ same. let h : is_among n earlier ≡ true = rw same among in let g : not (is_among n earlier) ≡ true = q.0 in cc) in
    rw (other, not_later ms (n ∷ earlier) id (or_right (eqb id n) (is_among id earlier) among) q.1) refl

some_members : (fs : Forms) → has_members fs ≡ true → HasMembers fs
some_members no_forms e = absurd cc
some_members (form_then f fs) e = tt

-- only an integer has values with names
value_form : (f : Form) (z : ℤ) → has_value f z ≡ true → IsForm f
value_form (unsigned order size) z e = tt
value_form (signed order size) z e = tt
value_form (named n f) z e = absurd cc
value_form (enumerated f labels) z e = absurd cc
value_form bool z e = absurd cc
value_form (float order p) z e = absurd cc
value_form (string encoding width) z e = absurd cc
value_form (padded encoding n) z e = absurd cc
value_form (array width most element) z e = absurd cc
value_form (fixed width n element) z e = absurd cc
value_form («struct» width fs) z e = absurd cc
value_form (union width type vs) z e = absurd cc
value_form (tagged width ms) z e = absurd cc

enum_form : (f : Form) (labels : List (ℤ × List ℕ)) → is_enum f labels ≡ true → IsForm f
enum_form f [] e = absurd cc
enum_form f (v ∷ vs) e =
    let p = and_parts (ltb 0 (length (v ∷ vs))) (are_values f None (v ∷ vs) && are_names [] (map (λ v. v.1) (v ∷ vs))) e in
    let p' = and_parts (are_values f None (v ∷ vs)) (are_names [] (map (λ v. v.1) (v ∷ vs))) p.1 in
    let q = and_parts (has_value f v.0) (is_above None v.0 && are_values f (Some v.0) vs) p'.0 in
    value_form f v.0 q.0

room_some : (encoding : Encoding) (n : ℕ) → is_room encoding n ≡ true → 0 < n
room_some Utf8 n e = let p = and_parts (leb 4 n) (leb n (2 ^ 20)) e in let four : 4 ≤ n = leb-true 4 n p.0 in omega arith
room_some Utf16 n e = let p = and_parts (leb 4 n) (leb n (2 ^ 20) && eqb (n % 2) 0) e in let four : 4 ≤ n = leb-true 4 n p.0 in omega arith

mutual
  pub form_is : (f : Form) → is_form f ≡ true → IsForm f
  form_is bool e = tt
  form_is (named n f) e = form_is f e
  form_is (enumerated f labels) e = enum_form f labels e
  form_is (padded encoding n) e = room_some encoding n e
  form_is (unsigned order size) e = tt
  form_is (signed order size) e = tt
  form_is (float order p) e = tt
  form_is (string encoding width) e = tt
  form_is (array width most element) e = form_is element e
  form_is (fixed width n element) e =
      let p = and_parts (ltb 0 n) (not (is_fixed element) && is_form element) e in
      let q = and_parts (not (is_fixed element)) (is_form element) p.1 in
      (ltb-true 0 n p.0, form_is element q.1)
  form_is («struct» width fs) e =
      let p = and_parts (has_members fs) (are_forms fs && are_names [] (names_of fs)) e in
      let q = and_parts (are_forms fs) (are_names [] (names_of fs)) p.1 in
      (some_members fs p.0, forms_are fs q.0)
  form_is (union width type vs) e =
      let p = and_parts (has_variants vs) (are_numbers [] vs && (fit_field type vs && are_variants vs)) e in
      let q = and_parts (are_numbers [] vs) (fit_field type vs && are_variants vs) p.1 in
      let r = and_parts (fit_field type vs) (are_variants vs) q.1 in
      variants_are vs [] q.0 r.1
  form_is (tagged width ms) e =
      let p = and_parts (has_tagged_members ms) (are_ids [] ms && (are_tagged ms && are_names [] (names_of_members ms))) e in
      let q = and_parts (are_ids [] ms) (are_tagged ms && are_names [] (names_of_members ms)) p.1 in
      let r = and_parts (are_tagged ms) (are_names [] (names_of_members ms)) q.1 in
      members_are ms [] q.0 r.0

  pub forms_are : (fs : Forms) → are_forms fs ≡ true → AreForms fs
  forms_are no_forms e = tt
  forms_are (form_then f fs) e =
      let p = and_parts (is_form f) (are_forms fs) e in
      (form_is f p.0, forms_are fs p.1)

  pub variants_are : (vs : Variants) (earlier : List ℕ) → are_numbers earlier vs ≡ true → are_variants vs ≡ true → AreVariants vs
  variants_are no_variants earlier numbers e = tt
  variants_are (variant n f vs) earlier numbers e =
      let p = and_parts (is_form f) (are_variants vs) e in
      let q = and_parts (ltb 0 n) (not (is_among n earlier) && are_numbers (n ∷ earlier) vs) numbers in
      let r = and_parts (not (is_among n earlier)) (are_numbers (n ∷ earlier) vs) q.1 in
      (ltb-true 0 n q.0, form_is f p.0, variants_are vs (n ∷ earlier) r.1 p.1)

  pub members_are : (ms : Members) (earlier : List ℕ) → are_ids earlier ms ≡ true → are_tagged ms ≡ true → AreMembers ms
  members_are no_members earlier ids e = tt
  members_are (member_then id optional f ms) earlier ids e =
      let p = and_parts (can_be_tagged f) (is_form f && are_tagged ms) e in
      let p' = and_parts (is_form f) (are_tagged ms) p.1 in
      let q = and_parts (ltb id 4096) (not (is_among id earlier) && are_ids (id ∷ earlier) ms) ids in
      let r = and_parts (not (is_among id earlier)) (are_ids (id ∷ earlier) ms) q.1 in
      (ltb-true id 4096 q.0, not_later ms (id ∷ earlier) id (or_left (eqb id id) (is_among id earlier) (eq-eqb id id refl)) r.1, p.0, form_is f p'.0, members_are ms (id ∷ earlier) r.1 p'.1)
