-- Each text of a value is read as it: elements, members and the whole.
use Rattle.std.proofs.Common.{◌≡◌, ℕ, zero, suc, ◌+◌, ◌<◌, ◌≤◌, ◌^◌, ◌⊎◌, inl, inr, Bool, true, false, cond, eqb, List, [], ◌∷◌, ◌++◌, length, codes, Option, Some, None, refl, sym, ap, subst, ◌∙◌, append_assoc, append-nil, arith, ne_eqb}
use Rattle.std.specs.Prelude.{ℤ, Result, Ok, Err}
use Rattle.std.specs.Bool.{MatchBool}
use Rattle.std.specs.List.{flat_map}
use Rattle.std.specs.Fmt.{decimal}
use Rattle.std.specs.Str.{bytes_eq}
use Rattle.std.proofs.lemmas.Bool.Decides.{nat_tests}
use Rattle.std.proofs.lemmas.Fmt.{decimal_nonempty}
use Rattle.std.proofs.lemmas.List.{length-append}
use Rattle.someip_payload_values.specs.Check.{name_in}
use Rattle.someip_payload_values.specs.Data.{Form, bool, unsigned, signed, float, string, padded, array, fixed, «struct», union, tagged, named, enumerated, Forms, no_forms, form_then, Variants, no_variants, variant, Members, no_members, member_then, Data, truth, list, tuple, nothing, chosen, slotted, Items, no_items, item, Slots, no_slots, present, absent}
use Rattle.someip_payload_values.specs.declared.shape.Width.{Width}
use Rattle.someip_payload_values.specs.declared.value.Value.{Value}
use Rattle.someip_payload_values.specs.View.{data_of}
use Rattle.someip_payload.specs.declared.value_text_error.ValueTextError.{ValueTextError}
use Rattle.someip_payload.specs.declared.value_text_error.ValueTextError.TheVariants.{BadValue, OutOfMemory}
use Rattle.someip_payload_values.specs.ValueText.{listed, behind_comma, listed_from, comma_before}
use Rattle.someip_payload.specs.ReadValues.{Read, token, past_token, after, enum_in, elements_in, list_in, comma_at, skip_name, slot_in, slot_then, chosen_in, union_in, value_in, members_in, variant_in, slots_in, value_of_text, GivesValue}
use Rattle.someip_payload.specs.ValueReading.{IsTextOfEnum, AreTextsOfElements, IsNameOf, IsTextOfValue, AreTextsOfMembers, IsTextOfVariant, AreTextsOfSlots, begins_word, IsReadAsValue}
use Rattle.someip_payload.proofs.ValueSteps.{some_is, none_some}
use Rattle.someip_payload.proofs.ValueTokens.{number_of_decimal}
use Rattle.someip_payload.proofs.ValueAgain.{Ends, ends-byte, ends-nothing, plain_first, Again, token_again, past_token_again, truth_again, unsigned_again, signed_again, decimal_plain, decimal_first, skip_none, skip_own}
use Rattle.someip_payload.proofs.ValueFloatsAgain.{float_again}
use Rattle.someip_payload.proofs.ValueTextsAgain.{string_again}

enum_again : (f : Form) (ls : List (ℤ × List ℕ)) (d : Data) (t rest : List ℕ) → IsTextOfEnum f ls d t → Ends rest → Again (enum_in f ls) d t rest
unfolding enum_in
enum_again (unsigned order size) ls d t rest own ends = unsigned_again ls d t rest own ends
enum_again (signed order size) ls d t rest own ends = signed_again ls d t rest own ends
enum_again bool ls d t rest own ends = absurd own
enum_again (float order p) ls d t rest own ends = absurd own
enum_again (string encoding width) ls d t rest own ends = absurd own
enum_again (padded encoding n) ls d t rest own ends = absurd own
enum_again (array width most element) ls d t rest own ends = absurd own
enum_again (fixed width n element) ls d t rest own ends = absurd own
enum_again («struct» width fs) ls d t rest own ends = absurd own
enum_again (union width type vs) ls d t rest own ends = absurd own
enum_again (tagged width ms) ls d t rest own ends = absurd own
enum_again (named n f) ls d t rest own ends = absurd own
enum_again (enumerated f labels) ls d t rest own ends = absurd own

-- ---- elements

-- what stands behind an element or a member: a comma and others, or what stands after all
tail_ends : (ts : List (List ℕ)) (rest : List ℕ) → Ends rest → Ends (flat_map behind_comma ts ++ rest)
tail_ends [] rest ends = ends
tail_ends (t ∷ ts) rest ends = ends-byte 44 ((t ++ flat_map behind_comma ts) ++ rest) refl refl

commas : (ts : List (List ℕ)) (rest : List ℕ) → length ts ≤ length (flat_map behind_comma ts ++ rest)
commas [] rest = omega arith
commas (t ∷ ts) rest =
    let others = commas ts rest in
    let whole : length ((t ++ flat_map behind_comma ts) ++ rest) ≡ length t + length (flat_map behind_comma ts ++ rest) = ap length (append_assoc t (flat_map behind_comma ts) rest) ∙ length-append t (flat_map behind_comma ts ++ rest) in
    omega (arith, others, whole)

module _ (one : List ℕ → Read Data) (IsText : Data → List ℕ → Type 0) (each : (d : Data) (t rest : List ℕ) → IsText d t → Ends rest → Again one d t rest) where
  elements_again : (left : ℕ) (ds : Items) (t : List ℕ) (ts : List (List ℕ)) (rest : List ℕ) → length ts < left → AreTextsOfElements IsText ds (t ∷ ts) → elements_in one left (listed (t ∷ ts) ++ (93 ∷ rest)) ≡ Some (ds, rest)
  unfolding elements_in after
  elements_again zero ds t ts rest lt are = absurd (omega arith)
  elements_again (suc left) no_items t ts rest lt are = absurd are
  elements_again (suc left) (item d no_items) t [] rest lt are =
      let a = each d t (93 ∷ rest) are.0 (ends-byte 93 rest refl refl) in
      let parts : (t ++ []) ++ (93 ∷ rest) ≡ t ++ (93 ∷ rest) = ap (λ (x : List ℕ). x ++ (93 ∷ rest)) (append-nil t) in
      rw (parts, a.value) refl
  elements_again (suc left) (item d (item e ds)) t [] rest lt are = absurd are.1
  elements_again (suc left) (item d ds) t (u ∷ us) rest lt are =
      let behind : List ℕ = listed (u ∷ us) ++ (93 ∷ rest) in
      let a = each d t (44 ∷ behind) are.0 (ends-byte 44 behind refl refl) in
      let parts : (t ++ (44 ∷ listed (u ∷ us))) ++ (93 ∷ rest) ≡ t ++ (44 ∷ behind) = append_assoc t (44 ∷ listed (u ∷ us)) (93 ∷ rest) in
      rw (parts, a.value, elements_again left ds u us rest (omega (arith, lt)) are.1) refl

  pub list_again : (ds : Items) (ts : List (List ℕ)) (rest : List ℕ) → AreTextsOfElements IsText ds ts → Again (list_in one) (list ds) (codes "[" ++ (listed ts ++ codes "]")) rest
  unfolding list_in token past_token after
  list_again no_items [] rest are = record { value = refl; no_name = refl; no_dash = refl; no_bracket = refl }
  list_again (item d ds) [] rest are = absurd are
  list_again no_items (t ∷ ts) rest are = absurd are
  list_again (item d ds) (t ∷ ts) rest are =
      let whole : List ℕ = listed (t ∷ ts) in
      let behind : List ℕ = flat_map behind_comma ts ++ (93 ∷ rest) in
      let parts : (whole ++ codes "]") ++ rest ≡ whole ++ (93 ∷ rest) = append_assoc whole (codes "]") rest in
      let first : whole ++ (93 ∷ rest) ≡ t ++ behind = append_assoc t (flat_map behind_comma ts) (93 ∷ rest) in
      let a = each d t behind are.0 (tail_ends ts (93 ∷ rest) (ends-byte 93 rest refl refl)) in
      let none : after 93 (whole ++ (93 ∷ rest)) ≡ None = ap (after 93) first ∙ a.no_bracket in
      let long : length ts < length (whole ++ (93 ∷ rest)) = omega (arith, commas ts [], ap length (append-nil (flat_map behind_comma ts)), length-append whole (93 ∷ rest), length-append t (flat_map behind_comma ts)) in
      let read = elements_again (length (whole ++ (93 ∷ rest))) (item d ds) t ts rest long are in
      record { value = rw (parts, none, read) refl; no_name = refl; no_dash = refl; no_bracket = refl }

-- ---- members

comma_again : (i : ℕ) (text : List ℕ) → comma_at i (comma_before i ++ text) ≡ Some text
unfolding comma_at after
comma_again i text = by (eqb i 0)
  where
    by : (b : Bool) → cond b (Some (cond b [] (codes ",") ++ text)) (after 44 (cond b [] (codes ",") ++ text)) ≡ Some text
    by true = refl
    by false = refl

listed_parts : (i : ℕ) (t : List ℕ) (ts : List (List ℕ)) (rest : List ℕ) → listed_from i (t ∷ ts) ++ rest ≡ comma_before i ++ (t ++ (flat_map behind_comma ts ++ rest))
listed_parts i t ts rest = by (eqb i 0)
  where
    by : (b : Bool) → cond b (t ++ flat_map behind_comma ts) (codes "," ++ t ++ flat_map behind_comma ts) ++ rest ≡ cond b [] (codes ",") ++ (t ++ (flat_map behind_comma ts ++ rest))
    by true = append_assoc t (flat_map behind_comma ts) rest
    by false = ap (λ (x : List ℕ). 44 ∷ x) (append_assoc t (flat_map behind_comma ts) rest)

listed_later : (i : ℕ) (ts : List (List ℕ)) → listed_from (i + 1) ts ≡ flat_map behind_comma ts
listed_later i ts = rw (ne_eqb (i + 1) 0 (λ e. omega (arith, e))) refl

listed_none : (i : ℕ) (rest : List ℕ) → listed_from i [] ++ rest ≡ rest
listed_none i rest = by (eqb i 0)
  where
    by : (b : Bool) → cond b [] [] ++ rest ≡ rest
    by true = refl
    by false = refl

-- a member's name is skipped, where it stands there
skip_again : (names : List (List ℕ)) (name own behind : List ℕ) → IsNameOf names name → after 61 (past_token (own ++ behind)) ≡ None → skip_name names ((name ++ own) ++ behind) ≡ own ++ behind
unfolding skip_name
skip_again [] name own behind is none = ap (λ (x : List ℕ). (x ++ own) ++ behind) is
skip_again (n ∷ ns) name own behind is none = elim is [
  | inl bare ↦ ap (λ (x : List ℕ). skip_name (n ∷ ns) ((x ++ own) ++ behind)) bare ∙ skip_none (n ∷ ns) (own ++ behind) none
  | inr named_ ↦
      let parts : (name ++ own) ++ behind ≡ n ++ (61 ∷ (own ++ behind)) =
      ap (λ (x : List ℕ). (x ++ own) ++ behind) named_.1 ∙ append_assoc (n ++ codes "=") own behind ∙ append_assoc n (codes "=") (own ++ behind) in
      ap (skip_name (n ∷ ns)) parts ∙ skip_own n ns (own ++ behind) named_.0
]

no_none : (t : List ℕ) → begins_word t ≡ false → bytes_eq t (codes "none") ≡ false
no_none [] word = refl
no_none (b ∷ bs) word = let other : eqb b 110 ≡ false = grind (arith, nat_tests, word) in rw other refl

match_either : (b : Bool) (A B : Type 0) → MatchBool b A B → ((b ≡ true) × A) ⊎ ((b ≡ false) × B)
match_either true A B is = inl (refl, is)
match_either false A B is = inr (refl, is)

member_step : (i : ℕ) (text : List ℕ) (f : Form) (fs : Forms) (d : Data) (ds : Items) (t behind rest : List ℕ) → comma_at i text ≡ Some t → value_in f (skip_name (name_in f) t) ≡ Some (d, behind) → members_in (i + 1) fs behind ≡ Some (ds, rest)
    → members_in i (form_then f fs) text ≡ Some (item d ds, rest)
unfolding value_in
member_step i text f fs d ds t behind rest comma read others = rw (comma, read, others) refl

slot_step : (i : ℕ) (text : List ℕ) (id : ℕ) (optional : Bool) (f : Form) (ms : Members) (d : Option Data) (ss : Slots) (t behind rest : List ℕ) → comma_at i text ≡ Some t → slot_in (value_in f) (skip_name (name_in f) t) ≡ Some (d, behind) → slots_in (i + 1) ms behind ≡ Some (ss, rest)
    → slots_in i (member_then id optional f ms) text ≡ Some (slot_then d ss, rest)
unfolding value_in
slot_step i text id optional f ms d ss t behind rest comma read others = rw (comma, read, others) refl

dash_again : (one : List ℕ → Read Data) (behind : List ℕ) → Ends behind → slot_in one (codes "-" ++ behind) ≡ Some (None, behind)
unfolding slot_in
dash_again one behind ends = rw (token_again (codes "-") behind refl ends.0, past_token_again (codes "-") behind refl ends.1) refl

slot_again : (one : List ℕ → Read Data) (d : Data) (own behind : List ℕ) → Again one d own behind → slot_in one (own ++ behind) ≡ Some (Some d, behind)
unfolding slot_in
slot_again one d own behind a = rw (a.no_dash, a.value) refl

dash_no_name : (behind : List ℕ) → Ends behind → after 61 (past_token (codes "-" ++ behind)) ≡ None
dash_no_name behind ends = ap (after 61) (past_token_again (codes "-") behind refl ends.1) ∙ ends.2

none_again : (known : ℕ → List ℕ → Read Data) (rest : List ℕ) → Ends rest → Again (union_in known) nothing (codes "none") rest
unfolding union_in after
none_again known rest ends = record {
  value = rw (token_again (codes "none") rest refl ends.0, past_token_again (codes "none") rest refl ends.1) refl;
  no_name = rw (past_token_again (codes "none") rest refl ends.1) ends.2;
  no_dash = rw (token_again (codes "none") rest refl ends.0) refl;
  no_bracket = refl;
}

chosen_again : (known : ℕ → List ℕ → Read Data) (kind : ℕ) (d : Data) (own rest : List ℕ) → kind < 2 ^ 64 → known kind (58 ∷ (own ++ rest)) ≡ Some (chosen kind d, rest) → Again (union_in known) (chosen kind d) (decimal kind ++ (codes ":" ++ own)) rest
unfolding union_in
chosen_again known kind d own rest small read =
    let parts : (decimal kind ++ (codes ":" ++ own)) ++ rest ≡ decimal kind ++ (58 ∷ (own ++ rest)) = append_assoc (decimal kind) (codes ":" ++ own) rest in
    let plain = decimal_plain kind small in
    let colon = ends-byte 58 (own ++ rest) refl refl in
    let word : token (decimal kind ++ (58 ∷ (own ++ rest))) ≡ decimal kind = token_again (decimal kind) (58 ∷ (own ++ rest)) plain colon.0 in
    let past : past_token (decimal kind ++ (58 ∷ (own ++ rest))) ≡ 58 ∷ (own ++ rest) = past_token_again (decimal kind) (58 ∷ (own ++ rest)) plain colon.1 in
    let first = decimal_first kind small in
    let read_all : union_in known (decimal kind ++ (58 ∷ (own ++ rest))) ≡ Some (chosen kind d, rest) = rw (word, no_none (decimal kind) first.0, number_of_decimal kind small, past, read) refl in
    record {
      value = ap (union_in known) parts ∙ read_all;
      no_name = ap (λ (x : List ℕ). after 61 (past_token x)) parts ∙ ap (after 61) past ∙ colon.2;
      no_dash = ap (λ (x : List ℕ). bytes_eq (token x) (codes "-")) parts ∙ ap (λ (x : List ℕ). bytes_eq x (codes "-")) word ∙ first.2;
      no_bracket = ap (after 93) parts ∙ plain_first (decimal kind) (58 ∷ (own ++ rest)) plain (decimal_nonempty kind small);
    }

chosen_step : (one : List ℕ → Read Data) (kind : ℕ) (d : Data) (own rest : List ℕ) → one (own ++ rest) ≡ Some (d, rest) → chosen_in one kind (58 ∷ (own ++ rest)) ≡ Some (chosen kind d, rest)
unfolding chosen_in after
chosen_step one kind d own rest read = rw read refl

struct_again : (width : Option Width) (fs : Forms) (ds : Items) (ts : List (List ℕ)) (rest : List ℕ) → members_in 0 fs (listed ts ++ (41 ∷ rest)) ≡ Some (ds, 41 ∷ rest) → Again (value_in («struct» width fs)) (tuple ds) (codes "(" ++ (listed ts ++ codes ")")) rest
unfolding value_in after token past_token
struct_again width fs ds ts rest read =
    let parts : (listed ts ++ codes ")") ++ rest ≡ listed ts ++ (41 ∷ rest) = append_assoc (listed ts) (codes ")") rest in
    record { value = rw (parts, read) refl; no_name = refl; no_dash = refl; no_bracket = refl }

tagged_again : (width : Width) (ms : Members) (ss : Slots) (ts : List (List ℕ)) (rest : List ℕ) → slots_in 0 ms (listed ts ++ (125 ∷ rest)) ≡ Some (ss, 125 ∷ rest) → Again (value_in (tagged width ms)) (slotted ss) (codes "{" ++ (listed ts ++ codes "}")) rest
unfolding value_in after token past_token
tagged_again width ms ss ts rest read =
    let parts : (listed ts ++ codes "}") ++ rest ≡ listed ts ++ (125 ∷ rest) = append_assoc (listed ts) (codes "}") rest in
    record { value = rw (parts, read) refl; no_name = refl; no_dash = refl; no_bracket = refl }

-- ---- values

mutual
  unfolding value_in

  pub value_again : (f : Form) (d : Data) (t rest : List ℕ) → IsTextOfValue f d t → Ends rest → Again (value_in f) d t rest
  value_again (named n f) d t rest own ends = let a = value_again f d t rest own ends in record { value = a.value; no_name = a.no_name; no_dash = a.no_dash; no_bracket = a.no_bracket }
  value_again (enumerated f ls) d t rest own ends = let a = enum_again f ls d t rest own ends in record { value = a.value; no_name = a.no_name; no_dash = a.no_dash; no_bracket = a.no_bracket }
  value_again bool d t rest own ends =
      let a = truth_again own.0 rest ends in
      subst (λ (x : Data). Again (value_in bool) x t rest) (sym own.1) (subst (λ (x : List ℕ). Again (value_in bool) (truth own.0) x rest) (sym own.2) (record { value = a.value; no_name = a.no_name; no_dash = a.no_dash; no_bracket = a.no_bracket }))
  value_again (unsigned order size) d t rest own ends = let a = unsigned_again [] d t rest own ends in record { value = a.value; no_name = a.no_name; no_dash = a.no_dash; no_bracket = a.no_bracket }
  value_again (signed order size) d t rest own ends = let a = signed_again [] d t rest own ends in record { value = a.value; no_name = a.no_name; no_dash = a.no_dash; no_bracket = a.no_bracket }
  value_again (float order p) d t rest own ends = let a = float_again p d t rest own ends in record { value = a.value; no_name = a.no_name; no_dash = a.no_dash; no_bracket = a.no_bracket }
  value_again (string encoding width) d t rest own ends = let a = string_again d t rest own ends in record { value = a.value; no_name = a.no_name; no_dash = a.no_dash; no_bracket = a.no_bracket }
  value_again (padded encoding n) d t rest own ends = let a = string_again d t rest own ends in record { value = a.value; no_name = a.no_name; no_dash = a.no_dash; no_bracket = a.no_bracket }
  value_again (array width most element) d t rest own ends =
      let a = list_again (value_in element) (IsTextOfValue element) (value_again element) own.0 own.1 rest own.3 in
      subst (λ (x : Data). Again (value_in (array width most element)) x t rest) (sym own.2) (subst (λ (x : List ℕ). Again (value_in (array width most element)) (list own.0) x rest) (sym own.4) (record { value = a.value; no_name = a.no_name; no_dash = a.no_dash; no_bracket = a.no_bracket }))
  value_again (fixed width n element) d t rest own ends =
      let a = list_again (value_in element) (IsTextOfValue element) (value_again element) own.0 own.1 rest own.3 in
      subst (λ (x : Data). Again (value_in (fixed width n element)) x t rest) (sym own.2) (subst (λ (x : List ℕ). Again (value_in (fixed width n element)) (list own.0) x rest) (sym own.4) (record { value = a.value; no_name = a.no_name; no_dash = a.no_dash; no_bracket = a.no_bracket }))
  value_again («struct» width fs) d t rest own ends =
      subst (λ (x : Data). Again (value_in («struct» width fs)) x t rest) (sym own.2) (subst (λ (x : List ℕ). Again (value_in («struct» width fs)) (tuple own.0) x rest) (sym own.4)
      (struct_again width fs own.0 own.1 rest (members_again 0 fs own.0 own.1 (41 ∷ rest) own.3 (ends-byte 41 rest refl refl))))
  value_again (union width type vs) d t rest own ends = elim own [
    | inl none ↦
        let a = none_again (variant_in vs) rest ends in
        subst (λ (x : Data). Again (value_in (union width type vs)) x t rest) (sym none.0) (subst (λ (x : List ℕ). Again (value_in (union width type vs)) nothing x rest) (sym none.1) (record { value = a.value; no_name = a.no_name; no_dash = a.no_dash; no_bracket = a.no_bracket }))
    | inr some ↦
        let a = chosen_again (variant_in vs) some.0 some.1 some.2 rest some.3 (variant_again vs some.0 some.1 some.2 rest some.5 ends) in
        subst (λ (x : Data). Again (value_in (union width type vs)) x t rest) (sym some.4) (subst (λ (x : List ℕ). Again (value_in (union width type vs)) (chosen some.0 some.1) x rest) (sym some.6) (record { value = a.value; no_name = a.no_name; no_dash = a.no_dash; no_bracket = a.no_bracket }))
  ]
  value_again (tagged width ms) d t rest own ends =
      subst (λ (x : Data). Again (value_in (tagged width ms)) x t rest) (sym own.2) (subst (λ (x : List ℕ). Again (value_in (tagged width ms)) (slotted own.0) x rest) (sym own.4)
      (tagged_again width ms own.0 own.1 rest (slots_again 0 ms own.0 own.1 (125 ∷ rest) own.3 (ends-byte 125 rest refl refl))))

  pub members_again : (i : ℕ) (fs : Forms) (ds : Items) (ts : List (List ℕ)) (rest : List ℕ) → AreTextsOfMembers fs ds ts → Ends rest → members_in i fs (listed_from i ts ++ rest) ≡ Some (ds, rest)
  members_again i no_forms no_items [] rest are ends = ap (λ (x : List ℕ). Some (no_items, x)) (listed_none i rest)
  members_again i no_forms no_items (t ∷ ts) rest are ends = absurd are
  members_again i no_forms (item d ds) ts rest are ends = absurd are
  members_again i (form_then f fs) no_items ts rest are ends = absurd are
  members_again i (form_then f fs) (item d ds) [] rest are ends = absurd are
  members_again i (form_then f fs) (item d ds) (t ∷ ts) rest are ends =
      let own = are.0 in
      let behind : List ℕ = flat_map behind_comma ts ++ rest in
      let a = value_again f d own.1 behind own.3 (tail_ends ts rest ends) in
      let read : value_in f (skip_name (name_in f) (t ++ behind)) ≡ Some (d, behind) = ap (λ (x : List ℕ). value_in f (skip_name (name_in f) (x ++ behind))) own.4 ∙ ap (value_in f) (skip_again (name_in f) own.0 own.1 behind own.2 a.no_name) ∙ a.value in
      let others : members_in (i + 1) fs behind ≡ Some (ds, rest) = ap (λ (x : List ℕ). members_in (i + 1) fs (x ++ rest)) (sym (listed_later i ts)) ∙ members_again (i + 1) fs ds ts rest are.1 ends in
      ap (members_in i (form_then f fs)) (listed_parts i t ts rest) ∙ member_step i (comma_before i ++ (t ++ behind)) f fs d ds (t ++ behind) behind rest (comma_again i (t ++ behind)) read others

  pub variant_again : (vs : Variants) (kind : ℕ) (d : Data) (own rest : List ℕ) → IsTextOfVariant vs kind d own → Ends rest → variant_in vs kind (58 ∷ (own ++ rest)) ≡ Some (chosen kind d, rest)
  variant_again no_variants kind d own rest is ends = absurd is
  variant_again (variant n f vs) kind d own rest is ends = elim (match_either (eqb n kind) _ _ is) [
    | inl here ↦ rw here.0 (chosen_step (value_in f) kind d own rest (value_again f d own rest here.1 ends).value)
    | inr other ↦ rw other.0 (variant_again vs kind d own rest other.1 ends)
  ]

  pub slots_again : (i : ℕ) (ms : Members) (ss : Slots) (ts : List (List ℕ)) (rest : List ℕ) → AreTextsOfSlots ms ss ts → Ends rest → slots_in i ms (listed_from i ts ++ rest) ≡ Some (ss, rest)
  slots_again i no_members no_slots [] rest are ends = ap (λ (x : List ℕ). Some (no_slots, x)) (listed_none i rest)
  slots_again i no_members no_slots (t ∷ ts) rest are ends = absurd are
  slots_again i no_members (present d ss) ts rest are ends = absurd are
  slots_again i no_members (absent ss) ts rest are ends = absurd are
  slots_again i (member_then id optional f ms) no_slots ts rest are ends = absurd are
  slots_again i (member_then id optional f ms) (present d ss) [] rest are ends = absurd are
  slots_again i (member_then id optional f ms) (absent ss) [] rest are ends = absurd are
  slots_again i (member_then id optional f ms) (present d ss) (t ∷ ts) rest are ends =
      let own = are.0 in
      let behind : List ℕ = flat_map behind_comma ts ++ rest in
      let a = value_again f d own.1 behind own.3 (tail_ends ts rest ends) in
      let read : slot_in (value_in f) (skip_name (name_in f) (t ++ behind)) ≡ Some (Some d, behind) =
      ap (λ (x : List ℕ). slot_in (value_in f) (skip_name (name_in f) (x ++ behind))) own.4 ∙ ap (slot_in (value_in f)) (skip_again (name_in f) own.0 own.1 behind own.2 a.no_name) ∙ slot_again (value_in f) d own.1 behind a in
      let others : slots_in (i + 1) ms behind ≡ Some (ss, rest) = ap (λ (x : List ℕ). slots_in (i + 1) ms (x ++ rest)) (sym (listed_later i ts)) ∙ slots_again (i + 1) ms ss ts rest are.1 ends in
      ap (slots_in i (member_then id optional f ms)) (listed_parts i t ts rest) ∙ slot_step i (comma_before i ++ (t ++ behind)) id optional f ms (Some d) ss (t ++ behind) behind rest (comma_again i (t ++ behind)) read others
  slots_again i (member_then id optional f ms) (absent ss) (t ∷ ts) rest are ends =
      let own = are.0 in
      let behind : List ℕ = flat_map behind_comma ts ++ rest in
      let stops = tail_ends ts rest ends in
      let bare : own.1 ++ behind ≡ codes "-" ++ behind = ap (λ (x : List ℕ). x ++ behind) own.3 in
      let no_name : after 61 (past_token (own.1 ++ behind)) ≡ None = ap (λ (x : List ℕ). after 61 (past_token x)) bare ∙ dash_no_name behind stops in
      let read : slot_in (value_in f) (skip_name (name_in f) (t ++ behind)) ≡ Some (None, behind) =
      ap (λ (x : List ℕ). slot_in (value_in f) (skip_name (name_in f) (x ++ behind))) own.4 ∙ ap (slot_in (value_in f)) (skip_again (name_in f) own.0 own.1 behind own.2 no_name) ∙ ap (slot_in (value_in f)) bare ∙ dash_again (value_in f) behind stops in
      let others : slots_in (i + 1) ms behind ≡ Some (ss, rest) = ap (λ (x : List ℕ). slots_in (i + 1) ms (x ++ rest)) (sym (listed_later i ts)) ∙ slots_again (i + 1) ms ss ts rest are.1 ends in
      ap (slots_in i (member_then id optional f ms)) (listed_parts i t ts rest) ∙ slot_step i (comma_before i ++ (t ++ behind)) id optional f ms None ss (t ++ behind) behind rest (comma_again i (t ++ behind)) read others

-- ---- the whole text

pub whole_again : (f : Form) (d : Data) (text : List ℕ) → IsTextOfValue f d text → value_of_text f text ≡ Some d
unfolding value_of_text
whole_again f d text own =
    let read : value_in f text ≡ Some (d, []) = ap (value_in f) (sym (append-nil text)) ∙ (value_again f d text [] own ends-nothing).value in
    rw read refl

only_one : (d : Data) (read : Option Data) (r : Result Value ValueTextError) → read ≡ Some d → GivesValue data_of r read → IsReadAsValue d r
only_one d read (Ok value) is given = some_is (data_of value) d (sym given ∙ is)
only_one d read (Err OutOfMemory) is given = tt
only_one d read (Err (BadValue place)) is given = absurd (none_some d (sym given ∙ is))

-- what was read is each value that has the text
pub read_only : (f : Form) (text : List ℕ) (r : Result Value ValueTextError) → GivesValue data_of r (value_of_text f text) → (d : Data) → IsTextOfValue f d text → IsReadAsValue d r
read_only f text r given d own = only_one d (value_of_text f text) r (whole_again f d text own) given
