-- Writing one after the other, as the loops do.
use Rattle.std.proofs.Common.{◌≡◌, ℕ, ◌+◌, ◌<◌, ◌≤◌, List, [], ◌∷◌, ◌++◌, length, drop, get_or, Option, Some, None, Result, Ok, Err, refl, sym, ap, ◌∙◌, append_assoc, arith}
use Rattle.std.proofs.lemmas.Bool.{eq-eqb, ne_eqb}
use Rattle.someip_payload_values.specs.declared.error.PayloadError.{PayloadError}
use Rattle.someip_payload_values.specs.declared.error.PayloadError.TheVariants.{UnknownVariant}
use Rattle.std.proofs.lemmas.List.{drop_more, drop_all, append-nil}
use Rattle.someip_payload_values.specs.declared.shape.Shape.{Shape}
use Rattle.someip_payload_values.specs.declared.shape.Member.{Member}
use Rattle.someip_payload_values.specs.declared.value.Value.{Value}
use Rattle.someip_payload_values.specs.declared.shape.Width.{Width}
use Rattle.someip_payload_values.specs.Data.{Data, tagged, slotted, count}
use Rattle.someip_payload_values.specs.View.{form, forms, all_variants, all_members, one_member, data_of, data_of_all, slot_of, slots_of}
use Rattle.someip_payload_values.specs.Steps.{◌>>=◌, Fails}
use Rattle.someip_payload_values.specs.Writing.{count_forms, count_members, count_slots, text_of, body_text, each_text, chosen_text, members_text, variant_text, slots_text, member_text}
use Rattle.someip_payload_values.proofs.Shapes.{all_variants-drop}
use Rattle.someip_payload_values.proofs.StepLemmas.{fails_too}

pub count_of_all : (vs : List Value) → count (data_of_all vs) ≡ length vs
count_of_all [] = refl
count_of_all (v ∷ vs) = omega (arith, count_of_all vs)

pub count_of_forms : (ss : List Shape) → count_forms (forms ss) ≡ length ss
count_of_forms [] = refl
count_of_forms (s ∷ ss) = omega (arith, count_of_forms ss)

pub count_of_slots : (vs : List (Option Value)) → count_slots (slots_of vs) ≡ length vs
count_of_slots [] = refl
count_of_slots (None ∷ vs) = omega (arith, count_of_slots vs)
count_of_slots (Some v ∷ vs) = omega (arith, count_of_slots vs)

pub count_of_members : (ms : List Member) → count_members (all_members ms) ≡ length ms
count_of_members [] = refl
count_of_members (m ∷ ms) = omega (arith, count_of_members ms)

-- the text so far, and then others
abbrev pub text_after : List ℕ → Result (List ℕ) PayloadError → Result (List ℕ) PayloadError
text_after front read = read >>= λ others. Ok (front ++ others)

regroup : (front first : List ℕ) (read : Result (List ℕ) PayloadError) → text_after front (read >>= λ others. Ok (first ++ others)) ≡ text_after (front ++ first) read
regroup front first (Ok others) = ap (λ (x : List ℕ). Ok x) (sym (append_assoc front first others))
regroup front first (Err f) = refl

abbrev pub Writer : Type 0
Writer = Data → Result (List ℕ) PayloadError

pub each_go_on : (one : Writer) (front : List ℕ) (vs : List Value) (i : ℕ) (v : Value) (first : List ℕ) (total : Result (List ℕ) PayloadError) → i < length vs → v ≡ get_or vs i v → one (data_of v) ≡ Ok first
    → text_after front (each_text one (data_of_all (drop i vs))) ≡ total → text_after (front ++ first) (each_text one (data_of_all (drop (i + 1) vs))) ≡ total
unfolding each_text
each_go_on one front vs i v first total lt at h so_far =
    let step : text_after front (each_text one (data_of_all (drop i vs))) ≡ text_after (front ++ first) (each_text one (data_of_all (drop (i + 1) vs))) = rw (drop_more vs i v lt, ← at, h) (regroup front first (each_text one (data_of_all (drop (i + 1) vs)))) in
    sym step ∙ so_far

pub each_fail : (e : PayloadError) (one : Writer) (front : List ℕ) (vs : List Value) (i : ℕ) (v : Value) (total : Result (List ℕ) PayloadError) → i < length vs → v ≡ get_or vs i v → Fails e (one (data_of v))
    → text_after front (each_text one (data_of_all (drop i vs))) ≡ total → Fails e total
unfolding each_text
each_fail e one front vs i v total lt at h so_far =
    fails_too e (one (data_of v)) total
    (λ bad. let step : text_after front (each_text one (data_of_all (drop i vs))) ≡ Err e = rw (drop_more vs i v lt, ← at, bad) refl in sym so_far ∙ step) h

pub each_done : (one : Writer) (front : List ℕ) (vs : List Value) (i : ℕ) (total : Result (List ℕ) PayloadError) → length vs ≤ i
    → text_after front (each_text one (data_of_all (drop i vs))) ≡ total → total ≡ Ok front
unfolding each_text
each_done one front vs i total le so_far =
    let step : text_after front (each_text one (data_of_all (drop i vs))) ≡ Ok front = rw (drop_all i vs le, append-nil front) refl in
    sym so_far ∙ step

pub members_go_on : (front : List ℕ) (ss : List Shape) (vs : List Value) (i : ℕ) (s : Shape) (v : Value) (first : List ℕ) (total : Result (List ℕ) PayloadError) → i < length ss → i < length vs → s ≡ get_or ss i s → v ≡ get_or vs i v → text_of (form s) (data_of v) ≡ Ok first
    → text_after front (members_text (forms (drop i ss)) (data_of_all (drop i vs))) ≡ total → text_after (front ++ first) (members_text (forms (drop (i + 1) ss)) (data_of_all (drop (i + 1) vs))) ≡ total
unfolding members_text
members_go_on front ss vs i s v first total in_shapes in_values s_at v_at h so_far =
    let step : text_after front (members_text (forms (drop i ss)) (data_of_all (drop i vs))) ≡ text_after (front ++ first) (members_text (forms (drop (i + 1) ss)) (data_of_all (drop (i + 1) vs))) =
    rw (drop_more ss i s in_shapes, drop_more vs i v in_values, ← s_at, ← v_at, h) (regroup front first (members_text (forms (drop (i + 1) ss)) (data_of_all (drop (i + 1) vs)))) in
    sym step ∙ so_far

pub members_fail : (e : PayloadError) (front : List ℕ) (ss : List Shape) (vs : List Value) (i : ℕ) (s : Shape) (v : Value) (total : Result (List ℕ) PayloadError) → i < length ss → i < length vs → s ≡ get_or ss i s → v ≡ get_or vs i v → Fails e (text_of (form s) (data_of v))
    → text_after front (members_text (forms (drop i ss)) (data_of_all (drop i vs))) ≡ total → Fails e total
unfolding members_text
members_fail e front ss vs i s v total in_shapes in_values s_at v_at h so_far =
    fails_too e (text_of (form s) (data_of v)) total
    (λ bad. let step : text_after front (members_text (forms (drop i ss)) (data_of_all (drop i vs))) ≡ Err e = rw (drop_more ss i s in_shapes, drop_more vs i v in_values, ← s_at, ← v_at, bad) refl in sym so_far ∙ step) h

pub members_done : (front : List ℕ) (ss : List Shape) (vs : List Value) (i : ℕ) (total : Result (List ℕ) PayloadError) → length ss ≤ i
    → text_after front (members_text (forms (drop i ss)) (data_of_all (drop i vs))) ≡ total → total ≡ Ok front
unfolding members_text
members_done front ss vs i total le so_far =
    let step : text_after front (members_text (forms (drop i ss)) (data_of_all (drop i vs))) ≡ Ok front = rw (drop_all i ss le, append-nil front) refl in
    sym so_far ∙ step

-- ---- the variant of a number

module _ (width type : Width) (kind : ℕ) (d : Data) (vs : List (ℕ × Shape)) (i : ℕ) where
  pub variant_hit : (v : ℕ × Shape) (total : Result (List ℕ) PayloadError) → i < length vs → v ≡ get_or vs i v → v.0 ≡ kind
      → variant_text width type (all_variants (drop i vs)) kind d ≡ total → total ≡ chosen_text width type kind (text_of (form v.1) d)
  unfolding variant_text
  variant_hit v total lt at same so_far =
      let step : variant_text width type (all_variants (drop i vs)) kind d ≡ chosen_text width type kind (text_of (form v.1) d) = rw (all_variants-drop vs i v lt, ← at, eq-eqb v.0 kind same) refl in
      sym so_far ∙ step

  pub variant_miss : (v : ℕ × Shape) (total : Result (List ℕ) PayloadError) → i < length vs → v ≡ get_or vs i v → (v.0 ≡ kind → ⊥)
      → variant_text width type (all_variants (drop i vs)) kind d ≡ total → variant_text width type (all_variants (drop (i + 1) vs)) kind d ≡ total
  unfolding variant_text
  variant_miss v total lt at other so_far =
      let step : variant_text width type (all_variants (drop i vs)) kind d ≡ variant_text width type (all_variants (drop (i + 1) vs)) kind d = rw (all_variants-drop vs i v lt, ← at, ne_eqb v.0 kind other) refl in
      sym step ∙ so_far

  pub variant_none : (total : Result (List ℕ) PayloadError) → length vs ≤ i
      → variant_text width type (all_variants (drop i vs)) kind d ≡ total → total ≡ Err (UnknownVariant 0)
  unfolding variant_text
  variant_none total le so_far =
      let step : variant_text width type (all_variants (drop i vs)) kind d ≡ Err (UnknownVariant 0) = rw (drop_all i vs le) refl in
      sym so_far ∙ step

-- ---- the items of members

slots_first : (m : Member) (ms : List Member) (s : Option Value) (ss : List (Option Value))
    → slots_text (all_members (m ∷ ms)) (slots_of (s ∷ ss)) ≡ (member_text (one_member m) (slot_of s) >>= λ first. slots_text (all_members ms) (slots_of ss) >>= λ others. Ok (first ++ others))
unfolding slots_text
slots_first m ms None ss = refl
slots_first m ms (Some v) ss = refl

module _ (front : List ℕ) (ms : List Member) (ss : List (Option Value)) (i : ℕ) (total : Result (List ℕ) PayloadError) where
  pub slots_go_on : (m : Member) (s : Option Value) (first : List ℕ) → i < length ms → i < length ss → m ≡ get_or ms i m → s ≡ get_or ss i s → member_text (one_member m) (slot_of s) ≡ Ok first
      → text_after front (slots_text (all_members (drop i ms)) (slots_of (drop i ss))) ≡ total → text_after (front ++ first) (slots_text (all_members (drop (i + 1) ms)) (slots_of (drop (i + 1) ss))) ≡ total
  slots_go_on m s first in_members in_slots m_at s_at h so_far =
      let step : text_after front (slots_text (all_members (drop i ms)) (slots_of (drop i ss))) ≡ text_after (front ++ first) (slots_text (all_members (drop (i + 1) ms)) (slots_of (drop (i + 1) ss))) =
      rw (drop_more ms i m in_members, drop_more ss i s in_slots, ← m_at, ← s_at, slots_first m (drop (i + 1) ms) s (drop (i + 1) ss), h) (regroup front first (slots_text (all_members (drop (i + 1) ms)) (slots_of (drop (i + 1) ss)))) in
      sym step ∙ so_far

  pub slots_fail : (e : PayloadError) (m : Member) (s : Option Value) → i < length ms → i < length ss → m ≡ get_or ms i m → s ≡ get_or ss i s → Fails e (member_text (one_member m) (slot_of s))
      → text_after front (slots_text (all_members (drop i ms)) (slots_of (drop i ss))) ≡ total → Fails e total
  slots_fail e m s in_members in_slots m_at s_at h so_far =
      fails_too e (member_text (one_member m) (slot_of s)) total
      (λ bad. let step : text_after front (slots_text (all_members (drop i ms)) (slots_of (drop i ss))) ≡ Err e = rw (drop_more ms i m in_members, drop_more ss i s in_slots, ← m_at, ← s_at, slots_first m (drop (i + 1) ms) s (drop (i + 1) ss), bad) refl in sym so_far ∙ step) h

  pub slots_done : length ms ≤ i → text_after front (slots_text (all_members (drop i ms)) (slots_of (drop i ss))) ≡ total → total ≡ Ok front
  unfolding slots_text
  slots_done le so_far =
      let step : text_after front (slots_text (all_members (drop i ms)) (slots_of (drop i ss))) ≡ Ok front = rw (drop_all i ms le, append-nil front) refl in
      sym so_far ∙ step

pub tagged_is : (width : Width) (ms : List Member) (ss : List (Option Value)) → length ss ≡ length ms
    → text_of (tagged width (all_members ms)) (slotted (slots_of ss)) ≡ (slots_text (all_members ms) (slots_of ss) >>= body_text width)
unfolding text_of
tagged_is width ms ss lens = rw (count_of_slots ss, count_of_members ms, eq-eqb (length ss) (length ms) lens) refl
