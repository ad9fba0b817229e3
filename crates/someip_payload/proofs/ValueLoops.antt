-- Reading one after the other, as the loops that read values do.
use Rattle.std.proofs.Common.{◌≡◌, ℕ, suc, ◌-◌, ◌+◌, ◌≤◌, ◌<◌, List, [], ◌∷◌, ◌++◌, length, drop, get_or, Option, Some, None, refl, sym, ap, subst, ◌∙◌, arith}
use Rattle.std.proofs.lemmas.Bool.{eq-eqb, ne_eqb}
use Rattle.std.proofs.lemmas.List.{drop_all, length-drop}
use Rattle.someip_payload_values.specs.declared.shape.Shape.{Shape}
use Rattle.someip_payload_values.specs.declared.shape.Member.{Member, out-Member}
use Rattle.someip_payload_values.specs.Check.{name_in}
use Rattle.someip_payload_values.specs.Data.{Data, Items, no_items, item, Members, Slots, no_slots}
use Rattle.someip_payload_values.specs.View.{form, forms, all_variants, all_members, as_items, as_slots}
use Rattle.someip_payload_values.proofs.Shapes.{forms-drop, all_variants-drop, all_members-drop}
use Rattle.someip_payload.specs.declared.value_text_error.ValueTextError.{ValueTextError}
use Rattle.someip_payload.specs.declared.value_text_error.ValueTextError.TheVariants.{BadValue, OutOfMemory}
use Rattle.someip_payload.specs.ReadValues.{FailsValue, Read, ◌>>=◌, after, comma_at, skip_name, slot_in, slot_then, elements_in, members_in, chosen_in, variant_in, slots_in, value_in}

abbrev pub Reader : Type 0
Reader = List ℕ → Read Data

-- the data so far, and then others
abbrev pub before : List Data → Items → Items
before [] others = others
before (d ∷ ds) others = item d (before ds others)

pub before-none : (ds : List Data) → before ds no_items ≡ as_items ds
before-none [] = refl
before-none (d ∷ ds) = ap (item d) (before-none ds)

pub before-push : (ds : List Data) (d : Data) (others : Items) → before (ds ++ d ∷ []) others ≡ before ds (item d others)
before-push [] d others = refl
before-push (x ∷ ds) d others = ap (item x) (before-push ds d others)

abbrev pub items_after : List Data → Read Items → Read Items
items_after front read = read >>= λ others. Some (before front others.0, others.1)

regroup : (front : List Data) (d : Data) (read : Read Items) → items_after front (read >>= λ others. Some (item d others.0, others.1)) ≡ items_after (front ++ d ∷ []) read
regroup front d (Some others) = ap (λ (x : Items). Some (x, others.1)) (sym (before-push front d others.0))
regroup front d None = refl

-- ---- elements of an array

module _ (one : Reader) (front : List Data) (count k : ℕ) (text : List ℕ) (total : Read Items) (lt : k < count) (so_far : items_after front (elements_in one (count - k) text) ≡ total) where
  is_next : count - k ≡ suc (count - (k + 1))
  is_next = omega (arith, lt)

  -- an element and a comma
  pub elements_go_on : (d : Data) (behind more : List ℕ) → one text ≡ Some (d, behind) → after 93 behind ≡ None → after 44 behind ≡ Some more
      → items_after (front ++ d ∷ []) (elements_in one (count - (k + 1)) more) ≡ total
  unfolding elements_in
  elements_go_on d behind more read none comma =
      let step : items_after front (elements_in one (suc (count - (k + 1))) text) ≡ items_after (front ++ d ∷ []) (elements_in one (count - (k + 1)) more) = rw (read, none, comma) (regroup front d (elements_in one (count - (k + 1)) more)) in
      sym step ∙ ap (λ n. items_after front (elements_in one n text)) (sym is_next) ∙ so_far

  -- the last one, and the bracket
  pub elements_end : (d : Data) (behind rest : List ℕ) → one text ≡ Some (d, behind) → after 93 behind ≡ Some rest → total ≡ Some (as_items (front ++ d ∷ []), rest)
  unfolding elements_in
  elements_end d behind rest read bracket =
      let step : items_after front (elements_in one (suc (count - (k + 1))) text) ≡ Some (before front (item d no_items), rest) = rw (read, bracket) refl in
      let whole : before front (item d no_items) ≡ as_items (front ++ d ∷ []) = sym (before-push front d no_items) ∙ before-none (front ++ d ∷ []) in
      sym so_far ∙ ap (λ n. items_after front (elements_in one n text)) is_next ∙ step ∙ ap (λ (x : Items). Some (x, rest)) whole

  -- neither stands there
  pub elements_cut : (d : Data) (behind : List ℕ) → one text ≡ Some (d, behind) → after 93 behind ≡ None → after 44 behind ≡ None → total ≡ None
  unfolding elements_in
  elements_cut d behind read none comma =
      let step : items_after front (elements_in one (suc (count - (k + 1))) text) ≡ None = rw (read, none, comma) refl in
      sym so_far ∙ ap (λ n. items_after front (elements_in one n text)) is_next ∙ step

  pub elements_fail : one text ≡ None → total ≡ None
  unfolding elements_in
  elements_fail bad =
      let step : items_after front (elements_in one (suc (count - (k + 1))) text) ≡ None = rw bad refl in
      sym so_far ∙ ap (λ n. items_after front (elements_in one n text)) is_next ∙ step

-- no more are read than the text has bytes
pub elements_done : (one : Reader) (front : List Data) (count k : ℕ) (text : List ℕ) (total : Read Items) → count ≤ k → items_after front (elements_in one (count - k) text) ≡ total → total ≡ None
unfolding elements_in
elements_done one front count k text total le so_far =
    let none : count - k ≡ 0 = omega (arith, le) in
    sym so_far ∙ ap (λ n. items_after front (elements_in one n text)) none

-- ---- members

no_member : (ss : List Shape) (i : ℕ) (text : List ℕ) → 0 < length ss → comma_at i text ≡ None → members_in i (forms ss) text ≡ None
unfolding members_in
no_member [] i text some comma = absurd (omega arith)
no_member (s ∷ ss) i text some comma = rw comma refl

module _ (front : List Data) (ss : List Shape) (i : ℕ) (text : List ℕ) (total : Read Items) (so_far : items_after front (members_in i (forms (drop i ss)) text) ≡ total) where
  pub members_go_on : (s : Shape) (t : List ℕ) (d : Data) (behind : List ℕ) → i < length ss → s ≡ get_or ss i s → comma_at i text ≡ Some t → value_in (form s) (skip_name (name_in (form s)) t) ≡ Some (d, behind)
      → items_after (front ++ d ∷ []) (members_in (i + 1) (forms (drop (i + 1) ss)) behind) ≡ total
  unfolding members_in
  members_go_on s t d behind lt at comma read =
      let step : items_after front (members_in i (forms (drop i ss)) text) ≡ items_after (front ++ d ∷ []) (members_in (i + 1) (forms (drop (i + 1) ss)) behind) =
      rw (forms-drop ss i s lt, ← at, comma, read) (regroup front d (members_in (i + 1) (forms (drop (i + 1) ss)) behind)) in
      sym step ∙ so_far

  pub members_fail : (s : Shape) (t : List ℕ) → i < length ss → s ≡ get_or ss i s → comma_at i text ≡ Some t → value_in (form s) (skip_name (name_in (form s)) t) ≡ None → total ≡ None
  unfolding members_in
  members_fail s t lt at comma bad =
      let step : items_after front (members_in i (forms (drop i ss)) text) ≡ None = rw (forms-drop ss i s lt, ← at, comma, bad) refl in
      sym so_far ∙ step

  pub members_cut : i < length ss → comma_at i text ≡ None → total ≡ None
  members_cut lt comma = let some : 0 < length (drop i ss) = omega (arith, lt, length-drop i ss) in sym so_far ∙ ap (items_after front) (no_member (drop i ss) i text some comma)

  pub members_done : length ss ≤ i → total ≡ Some (as_items front, text)
  unfolding members_in
  members_done le =
      let step : items_after front (members_in i (forms (drop i ss)) text) ≡ Some (as_items front, text) = rw (drop_all i ss le, before-none front) refl in
      sym so_far ∙ step

-- ---- members of a tagged structure

no_slot : (ms : List Member) (i : ℕ) (text : List ℕ) → 0 < length ms → comma_at i text ≡ None → slots_in i (all_members ms) text ≡ None
unfolding slots_in
no_slot [] i text some comma = absurd (omega arith)
no_slot (m ∷ ms) i text some comma = subst (λ (l : Members). slots_in i l text ≡ None) (sym (all_members-drop (m ∷ ms) 0 m some)) (rw comma refl)

abbrev pub slots_before : List (Option Data) → Slots → Slots
slots_before [] others = others
slots_before (d ∷ ds) others = slot_then d (slots_before ds others)

as_slots-more : (d : Option Data) (ds : List (Option Data)) → slot_then d (as_slots ds) ≡ as_slots (d ∷ ds)
as_slots-more (Some d) ds = refl
as_slots-more None ds = refl

pub slots_before-none : (ds : List (Option Data)) → slots_before ds no_slots ≡ as_slots ds
slots_before-none [] = refl
slots_before-none (d ∷ ds) = ap (slot_then d) (slots_before-none ds) ∙ as_slots-more d ds

pub slots_before-push : (ds : List (Option Data)) (d : Option Data) (others : Slots) → slots_before (ds ++ d ∷ []) others ≡ slots_before ds (slot_then d others)
slots_before-push [] d others = refl
slots_before-push (x ∷ ds) d others = ap (slot_then x) (slots_before-push ds d others)

abbrev pub slots_after : List (Option Data) → Read Slots → Read Slots
slots_after front read = read >>= λ others. Some (slots_before front others.0, others.1)

slots_regroup : (front : List (Option Data)) (d : Option Data) (read : Read Slots) → slots_after front (read >>= λ others. Some (slot_then d others.0, others.1)) ≡ slots_after (front ++ d ∷ []) read
slots_regroup front d (Some others) = ap (λ (x : Slots). Some (x, others.1)) (sym (slots_before-push front d others.0))
slots_regroup front d None = refl

module _ (front : List (Option Data)) (ms : List Member) (i : ℕ) (text : List ℕ) (total : Read Slots) (so_far : slots_after front (slots_in i (all_members (drop i ms)) text) ≡ total) where
  pub slots_go_on : (m : Member) (t : List ℕ) (d : Option Data) (behind : List ℕ) → i < length ms → comma_at i text ≡ Some t
      → slot_in (value_in (form (out-Member (get_or ms i m)).shape)) (skip_name (name_in (form (out-Member (get_or ms i m)).shape)) t) ≡ Some (d, behind)
      → slots_after (front ++ d ∷ []) (slots_in (i + 1) (all_members (drop (i + 1) ms)) behind) ≡ total
  unfolding slots_in
  slots_go_on m t d behind lt comma read =
      let step : slots_after front (slots_in i (all_members (drop i ms)) text) ≡ slots_after (front ++ d ∷ []) (slots_in (i + 1) (all_members (drop (i + 1) ms)) behind) =
      rw (all_members-drop ms i m lt, comma, read) (slots_regroup front d (slots_in (i + 1) (all_members (drop (i + 1) ms)) behind)) in
      sym step ∙ so_far

  pub slots_fail : (m : Member) (t : List ℕ) → i < length ms → comma_at i text ≡ Some t → slot_in (value_in (form (out-Member (get_or ms i m)).shape)) (skip_name (name_in (form (out-Member (get_or ms i m)).shape)) t) ≡ None → total ≡ None
  unfolding slots_in
  slots_fail m t lt comma bad =
      let step : slots_after front (slots_in i (all_members (drop i ms)) text) ≡ None = rw (all_members-drop ms i m lt, comma, bad) refl in
      sym so_far ∙ step

  pub slots_cut : i < length ms → comma_at i text ≡ None → total ≡ None
  slots_cut lt comma = let some : 0 < length (drop i ms) = omega (arith, lt, length-drop i ms) in sym so_far ∙ ap (slots_after front) (no_slot (drop i ms) i text some comma)

  pub slots_done : length ms ≤ i → total ≡ Some (as_slots front, text)
  unfolding slots_in
  slots_done le =
      let step : slots_after front (slots_in i (all_members (drop i ms)) text) ≡ Some (as_slots front, text) = rw (drop_all i ms le, slots_before-none front) refl in
      sym so_far ∙ step

-- ---- the variant of a number

module _ (kind : ℕ) (text : List ℕ) (vs : List (ℕ × Shape)) (i : ℕ) where
  pub variant_hit : (v : ℕ × Shape) (total : Read Data) → i < length vs → v ≡ get_or vs i v → v.0 ≡ kind → variant_in (all_variants (drop i vs)) kind text ≡ total → total ≡ chosen_in (value_in (form v.1)) kind text
  unfolding variant_in
  variant_hit v total lt at same so_far =
      let step : variant_in (all_variants (drop i vs)) kind text ≡ chosen_in (value_in (form v.1)) kind text = rw (all_variants-drop vs i v lt, ← at, eq-eqb v.0 kind same) refl in
      sym so_far ∙ step

  pub variant_miss : (v : ℕ × Shape) (total : Read Data) → i < length vs → v ≡ get_or vs i v → (v.0 ≡ kind → ⊥) → variant_in (all_variants (drop i vs)) kind text ≡ total → variant_in (all_variants (drop (i + 1) vs)) kind text ≡ total
  unfolding variant_in
  variant_miss v total lt at other so_far =
      let step : variant_in (all_variants (drop i vs)) kind text ≡ variant_in (all_variants (drop (i + 1) vs)) kind text = rw (all_variants-drop vs i v lt, ← at, ne_eqb v.0 kind other) refl in
      sym step ∙ so_far

  pub variant_none : (total : Read Data) → length vs ≤ i → variant_in (all_variants (drop i vs)) kind text ≡ total → total ≡ None
  unfolding variant_in
  variant_none total le so_far =
      let step : variant_in (all_variants (drop i vs)) kind text ≡ None = rw (drop_all i vs le) refl in
      sym so_far ∙ step

-- where one part is not read, the whole is not
pub fails_also : {Y W : Type 0} (e : ValueTextError) (read : Option Y) (total : Option W) → (read ≡ None → total ≡ None) → FailsValue e read → FailsValue e total
fails_also (BadValue place) read total then given = then given
fails_also OutOfMemory read total then given = tt
