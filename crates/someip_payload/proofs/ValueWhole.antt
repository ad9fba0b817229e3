-- What is read of a text is a value that has it: structures, unions and tagged structures, and the whole.
use Rattle.std.proofs.Common.{◌≡◌, ℕ, ◌+◌, inl, inr, Bool, true, false, cond, eqb, List, [], ◌∷◌, ◌++◌, codes, Option, Some, None, refl, sym, ap, subst, ◌∙◌, append_assoc, append-nil, arith, ne_eqb}
use Rattle.std.specs.List.{flat_map}
use Rattle.std.specs.Fmt.{decimal}
use Rattle.std.specs.Str.{bytes_eq}
use Rattle.std.proofs.lemmas.Slice.Eq.{bytes_eq-Decides}
use Rattle.someip_payload_values.specs.Check.{name_in}
use Rattle.someip_payload_values.specs.Data.{Form, bool, unsigned, signed, float, string, padded, array, fixed, «struct», union, tagged, named, enumerated, Forms, no_forms, form_then, Variants, no_variants, variant, Members, no_members, member_then, Data, truth, tuple, nothing, chosen, slotted, Items, no_items, item, Slots, no_slots}
use Rattle.someip_payload_values.specs.ValueText.{listed, behind_comma, listed_from, comma_before}
use Rattle.someip_payload.specs.ReadValues.{token, past_token, after, truth_of, number_of, unsigned_of, integer_of, comma_at, skip_name, slot_in, slot_then, chosen_in, union_in, value_in, members_in, variant_in, slots_in, whole_text, value_of_text}
use Rattle.someip_payload.specs.ValueReading.{truth_text, IsTextOfUnsigned, IsTextOfSigned, IsTextOfMember, IsTextOfValue, AreTextsOfMembers, IsTextOfVariant, AreTextsOfSlots}
use Rattle.someip_payload.proofs.ValueSteps.{none_some, some_is, pair_is, some_then, if_either, token_whole, after_is, Found, atom_found, number_is, skip_is}
use Rattle.someip_payload.proofs.ValueFound.{truth_found, unsigned_found, signed_found, enum_found, float_found, string_found, list_found}

-- ---- members with commas between them

comma_is : (i : ℕ) (text t : List ℕ) → comma_at i text ≡ Some t → text ≡ comma_before i ++ t
unfolding comma_at
comma_is i text t is = elim (if_either (eqb i 0) (Some text) (after 44 text) t is) [
  | inl first ↦ rw first.0 (some_is text t first.1)
  | inr later ↦ rw later.0 (after_is 44 text t later.1)
]

listed_next : (i : ℕ) (t : List ℕ) (ts : List (List ℕ)) → listed_from i (t ∷ ts) ≡ comma_before i ++ (t ++ flat_map behind_comma ts)
listed_next i t ts = by (eqb i 0)
  where
    by : (b : Bool) → cond b (t ++ flat_map behind_comma ts) (codes "," ++ t ++ flat_map behind_comma ts) ≡ cond b [] (codes ",") ++ (t ++ flat_map behind_comma ts)
    by true = refl
    by false = refl

listed_later : (i : ℕ) (ts : List (List ℕ)) → listed_from (i + 1) ts ≡ flat_map behind_comma ts
listed_later i ts = rw (ne_eqb (i + 1) 0 (λ e. omega (arith, e))) refl

joined : (i : ℕ) (text t own behind rest : List ℕ) (ts : List (List ℕ)) → text ≡ comma_before i ++ t → t ≡ own ++ behind → behind ≡ listed_from (i + 1) ts ++ rest → text ≡ listed_from i (own ∷ ts) ++ rest
joined i text t own behind rest ts is one others =
    let tail : List ℕ = flat_map behind_comma ts in
    let end : behind ≡ tail ++ rest = others ∙ ap (λ (x : List ℕ). x ++ rest) (listed_later i ts) in
    is ∙ ap (λ (x : List ℕ). comma_before i ++ x) (one ∙ ap (λ (x : List ℕ). own ++ x) end ∙ sym (append_assoc own tail rest)) ∙ sym (append_assoc (comma_before i) (own ++ tail) rest)
    ∙ ap (λ (x : List ℕ). x ++ rest) (sym (listed_next i own ts))

-- a text behind a member's name, if that stands there
behind_name : (names : List (List ℕ)) (IsText : List ℕ → Type 0) (t rest : List ℕ) → Found IsText (skip_name names t) rest → Found (IsTextOfMember names IsText) t rest
behind_name names IsText t rest own =
    let name = skip_is names t in
    (name.0 ++ own.0, (name.0, own.0, name.1, own.1, refl), name.2 ∙ ap (λ (x : List ℕ). name.0 ++ x) own.2 ∙ sym (append_assoc name.0 own.0 rest))

-- between brackets
bracketed : (text inner whole behind rest : List ℕ) (low high : ℕ) → text ≡ low ∷ inner → inner ≡ whole ++ behind → behind ≡ high ∷ rest → text ≡ (low ∷ (whole ++ high ∷ [])) ++ rest
bracketed text inner whole behind rest low high is parts end =
    is ∙ ap (λ (x : List ℕ). low ∷ x) (parts ∙ ap (λ (x : List ℕ). whole ++ x) end ∙ sym (append_assoc whole (high ∷ []) rest))

-- ---- values

MembersFound : ℕ → Forms → Items → List ℕ → List ℕ → Type 0
MembersFound i fs ds text rest = (ts : List (List ℕ)) × AreTextsOfMembers fs ds ts × (text ≡ listed_from i ts ++ rest)

SlotsFound : ℕ → Members → Slots → List ℕ → List ℕ → Type 0
SlotsFound i ms ss text rest = (ts : List (List ℕ)) × AreTextsOfSlots ms ss ts × (text ≡ listed_from i ts ++ rest)

none_left : (i : ℕ) (text : List ℕ) → text ≡ listed_from i [] ++ text
none_left i text = by (eqb i 0)
  where
    by : (b : Bool) → text ≡ cond b [] [] ++ text
    by true = refl
    by false = refl

mutual
  unfolding value_in union_in chosen_in slot_in MembersFound SlotsFound

  pub value_found : (f : Form) (text : List ℕ) (d : Data) (rest : List ℕ) → value_in f text ≡ Some (d, rest) → Found (IsTextOfValue f d) text rest
  value_found (named n f) text d rest is = value_found f text d rest is
  value_found (enumerated f ls) text d rest is = enum_found f ls text d rest is
  value_found bool text d rest is = atom_found truth_of (λ x t. (b : Bool) × (x ≡ truth b) × (t ≡ truth_text b)) truth_found text d rest is
  value_found (unsigned order size) text d rest is = atom_found (unsigned_of []) (IsTextOfUnsigned []) (unsigned_found []) text d rest is
  value_found (signed order size) text d rest is = atom_found (integer_of []) (IsTextOfSigned []) (signed_found []) text d rest is
  value_found (float order p) text d rest is = float_found p text d rest is
  value_found (string encoding width) text d rest is = string_found text d rest is
  value_found (padded encoding n) text d rest is = string_found text d rest is
  value_found (array width most element) text d rest is = list_found (value_in element) (IsTextOfValue element) (value_found element) text d rest is
  value_found (fixed width n element) text d rest is = list_found (value_in element) (IsTextOfValue element) (value_found element) text d rest is
  value_found («struct» width fs) text d rest is =
      let a = some_then (after 40 text) _ (d, rest) is in
      let b = some_then (members_in 0 fs a.0) _ (d, rest) a.2 in
      let c = some_then (after 41 b.0.1) _ (d, rest) b.2 in
      let same = pair_is (tuple b.0.0) d c.0 rest c.2 in
      let ms = members_found 0 fs a.0 b.0.0 b.0.1 b.1 in
      let end : b.0.1 ≡ 41 ∷ rest = after_is 41 b.0.1 c.0 c.1 ∙ ap (λ (x : List ℕ). 41 ∷ x) same.1 in
      (codes "(" ++ (listed ms.0 ++ codes ")"), (b.0.0, ms.0, sym same.0, ms.1, refl), bracketed text a.0 (listed ms.0) b.0.1 rest 40 41 (after_is 40 text a.0 a.1) ms.2 end)
  value_found (tagged width ms) text d rest is =
      let a = some_then (after 123 text) _ (d, rest) is in
      let b = some_then (slots_in 0 ms a.0) _ (d, rest) a.2 in
      let c = some_then (after 125 b.0.1) _ (d, rest) b.2 in
      let same = pair_is (slotted b.0.0) d c.0 rest c.2 in
      let ss = slots_found 0 ms a.0 b.0.0 b.0.1 b.1 in
      let end : b.0.1 ≡ 125 ∷ rest = after_is 125 b.0.1 c.0 c.1 ∙ ap (λ (x : List ℕ). 125 ∷ x) same.1 in
      (codes "{" ++ (listed ss.0 ++ codes "}"), (b.0.0, ss.0, sym same.0, ss.1, refl), bracketed text a.0 (listed ss.0) b.0.1 rest 123 125 (after_is 123 text a.0 a.1) ss.2 end)
  value_found (union width type vs) text d rest is = elim (if_either (bytes_eq (token text) (codes "none")) _ _ (d, rest) is) [
    | inl none ↦
        let same = pair_is nothing d (past_token text) rest none.1 in
        let word : token text ≡ codes "none" = (bytes_eq-Decides (token text) (codes "none")).0 none.0 in
        (codes "none", inl (sym same.0, refl), sym (token_whole text) ∙ ap (λ (x : List ℕ). x ++ past_token text) word ∙ ap (λ (x : List ℕ). codes "none" ++ x) same.1)
    | inr some ↦
        let n = some_then (number_of (token text)) _ (d, rest) some.1 in
        let digits_ = number_is (token text) n.0 n.1 in
        let v = variant_found vs n.0 (past_token text) d rest n.2 in
        let own : List ℕ = v.1 in (
          decimal n.0 ++ (codes ":" ++ own),
          inr (n.0, v.0, own, digits_.1, v.2, v.3, refl),
          sym (token_whole text) ∙ ap (λ (x : List ℕ). x ++ past_token text) digits_.0 ∙ ap (λ (x : List ℕ). decimal n.0 ++ x) v.4 ∙ sym (append_assoc (decimal n.0) (codes ":" ++ own) rest),
        )
  ]

  members_found : (i : ℕ) (fs : Forms) (text : List ℕ) (ds : Items) (rest : List ℕ) → members_in i fs text ≡ Some (ds, rest) → MembersFound i fs ds text rest
  members_found i no_forms text ds rest is =
      let same = pair_is no_items ds text rest is in
      ([], subst (λ (x : Items). AreTextsOfMembers no_forms x []) same.0 tt, none_left i text ∙ ap (λ (x : List ℕ). listed_from i [] ++ x) same.1)
  members_found i (form_then f fs) text ds rest is =
      let a = some_then (comma_at i text) _ (ds, rest) is in
      let b = some_then (value_in f (skip_name (name_in f) a.0)) _ (ds, rest) a.2 in
      let c = some_then (members_in (i + 1) fs b.0.1) _ (ds, rest) b.2 in
      let same = pair_is (item b.0.0 c.0.0) ds c.0.1 rest c.2 in
      let own = behind_name (name_in f) (IsTextOfValue f b.0.0) a.0 b.0.1 (value_found f (skip_name (name_in f) a.0) b.0.0 b.0.1 b.1) in
      let others = members_found (i + 1) fs b.0.1 c.0.0 c.0.1 c.1 in (
        own.0 ∷ others.0,
        subst (λ (x : Items). AreTextsOfMembers (form_then f fs) x (own.0 ∷ others.0)) same.0 (own.1, others.1),
        joined i text a.0 own.0 b.0.1 rest others.0 (comma_is i text a.0 a.1) own.2 (others.2 ∙ ap (λ (x : List ℕ). listed_from (i + 1) others.0 ++ x) same.1),
      )

  variant_found : (vs : Variants) (kind : ℕ) (text : List ℕ) (d : Data) (rest : List ℕ) → variant_in vs kind text ≡ Some (d, rest)
      → (value : Data) × (own : List ℕ) × (d ≡ chosen kind value) × IsTextOfVariant vs kind value own × (text ≡ (codes ":" ++ own) ++ rest)
  variant_found no_variants kind text d rest is = absurd (none_some (d, rest) is)
  variant_found (variant n f vs) kind text d rest is = elim (if_either (eqb n kind) _ _ (d, rest) is) [
    | inl here ↦
        let a = some_then (after 58 text) _ (d, rest) here.1 in
        let b = some_then (value_in f a.0) _ (d, rest) a.2 in
        let same = pair_is (chosen kind b.0.0) d b.0.1 rest b.2 in
        let own = value_found f a.0 b.0.0 b.0.1 b.1 in
        (b.0.0, own.0, sym same.0, rw here.0 own.1, after_is 58 text a.0 a.1 ∙ ap (λ (x : List ℕ). 58 ∷ x) (own.2 ∙ ap (λ (x : List ℕ). own.0 ++ x) same.1))
    | inr other ↦ let v = variant_found vs kind text d rest other.1 in (v.0, v.1, v.2, rw other.0 v.3, v.4)
  ]

  slots_found : (i : ℕ) (ms : Members) (text : List ℕ) (ss : Slots) (rest : List ℕ) → slots_in i ms text ≡ Some (ss, rest) → SlotsFound i ms ss text rest
  slots_found i no_members text ss rest is =
      let same = pair_is no_slots ss text rest is in
      ([], subst (λ (x : Slots). AreTextsOfSlots no_members x []) same.0 tt, none_left i text ∙ ap (λ (x : List ℕ). listed_from i [] ++ x) same.1)
  slots_found i (member_then id optional f ms) text ss rest is =
      let a = some_then (comma_at i text) _ (ss, rest) is in
      let at : List ℕ = skip_name (name_in f) a.0 in
      let b = some_then (slot_in (value_in f) at) _ (ss, rest) a.2 in
      let c = some_then (slots_in (i + 1) ms b.0.1) _ (ss, rest) b.2 in
      let same = pair_is (slot_then b.0.0 c.0.0) ss c.0.1 rest c.2 in
      let others = slots_found (i + 1) ms b.0.1 c.0.0 c.0.1 c.1 in
      let tail : b.0.1 ≡ listed_from (i + 1) others.0 ++ rest = others.2 ∙ ap (λ (x : List ℕ). listed_from (i + 1) others.0 ++ x) same.1 in
      elim (if_either (bytes_eq (token at) (codes "-")) _ _ b.0 b.1) [
        | inl dash ↦
            let gone = pair_is None b.0.0 (past_token at) b.0.1 dash.1 in
            let word : token at ≡ codes "-" = (bytes_eq-Decides (token at) (codes "-")).0 dash.0 in
            let own = behind_name (name_in f) (λ t. t ≡ codes "-") a.0 b.0.1 (codes "-", refl, sym (token_whole at) ∙ ap (λ (x : List ℕ). x ++ past_token at) word ∙ ap (λ (x : List ℕ). codes "-" ++ x) gone.1) in (
              own.0 ∷ others.0,
              subst (λ (x : Slots). AreTextsOfSlots (member_then id optional f ms) x (own.0 ∷ others.0)) (ap (λ (x : Option Data). slot_then x c.0.0) gone.0 ∙ same.0) (own.1, others.1),
              joined i text a.0 own.0 b.0.1 rest others.0 (comma_is i text a.0 a.1) own.2 tail,
            )
        | inr there ↦
            let v = some_then (value_in f at) _ b.0 there.1 in
            let kept = pair_is (Some v.0.0) b.0.0 v.0.1 b.0.1 v.2 in
            let read = value_found f at v.0.0 v.0.1 v.1 in
            let own = behind_name (name_in f) (IsTextOfValue f v.0.0) a.0 b.0.1 (read.0, read.1, read.2 ∙ ap (λ (x : List ℕ). read.0 ++ x) kept.1) in (
              own.0 ∷ others.0,
              subst (λ (x : Slots). AreTextsOfSlots (member_then id optional f ms) x (own.0 ∷ others.0)) (ap (λ (x : Option Data). slot_then x c.0.0) kept.0 ∙ same.0) (own.1, others.1),
              joined i text a.0 own.0 b.0.1 rest others.0 (comma_is i text a.0 a.1) own.2 tail,
            )
      ]

-- ---- the whole text

whole_is : (x : Data × List ℕ) (d : Data) → whole_text x ≡ Some d → (x.0 ≡ d) × (x.1 ≡ [])
whole_is (e, []) d is = (some_is e d is, refl)
whole_is (e, b ∷ bs) d is = absurd (none_some d is)

pub whole_found : (f : Form) (text : List ℕ) (d : Data) → value_of_text f text ≡ Some d → IsTextOfValue f d text
unfolding value_of_text
whole_found f text d is =
    let s = some_then (value_in f text) whole_text d is in
    let whole = whole_is s.0 d s.2 in
    let own = value_found f text s.0.0 s.0.1 s.1 in
    let same : text ≡ own.0 = own.2 ∙ ap (λ (x : List ℕ). own.0 ++ x) whole.1 ∙ append-nil own.0 in
    subst (λ (x : Data). IsTextOfValue f x text) whole.0 (subst (λ (t : List ℕ). IsTextOfValue f s.0.0 t) (sym same) own.1)
