-- The fault that reading gives is the first.
use Rattle.std.proofs.Common.{◌≡◌, ◌⊎◌, inl, inr, ℕ, zero, suc, ◌+◌, ◌<◌, ◌≤◌, eqb, Bool, true, false, cond, ltb, List, [], ◌++◌, length, take, Result, Ok, Err, Some, None, refl, sym, ap, subst, ◌∙◌, append_assoc, arith}
use Rattle.std.proofs.lemmas.Bool.{ltb-true, eqb-true, eqb-false}
use Rattle.std.proofs.lemmas.List.{length-append, take_at}
use Rattle.someip_payload_values.specs.declared.error.PayloadError.TheVariants.{TooMany, UnknownVariant, LengthMismatch}
use Rattle.someip_payload_values.specs.declared.number.Size.TheVariants.{S8}
use Rattle.someip_payload_values.specs.declared.shape.Width.{Width}
use Rattle.someip_payload_values.specs.declared.tag.Tag.{Tag}
use Rattle.someip_payload_values.specs.Floats.{bits_size}
use Rattle.someip_payload_values.specs.Data.{Form, bool, unsigned, signed, float, string, padded, array, fixed, «struct», union, tagged, named, enumerated, Forms, no_forms, form_then, Variants, no_variants, variant, Members, no_members, member_then, Data, truth, uint, int, real, phrase, list, tuple, nothing, chosen, slotted, Items, no_items, item, Slots, no_slots, present, absent}
use Rattle.someip_payload_codec.specs.View.{View}
use Rattle.someip_payload_values.specs.declared.error.PayloadError.{PayloadError}
use Rattle.someip_payload_values.specs.Steps.{◌>>=◌}
use Rattle.someip_payload_values.specs.Numbers.{size_of, field_len, number, is_odd}
use Rattle.someip_payload_values.specs.Tags.{own_width}
use Rattle.someip_payload_codec.specs.Grammar.{Reads}
use Rattle.someip_payload_codec.specs.Reading.{short_at, skip, signed_of, front_at, ordered_at, number_at, padded_at, window_at, text_at, items_at, fixed_at, union_at, chosen_at, tagged_at, item_at, all_absent, required_at, data_by, data_at, members_at, variant_at, slots_at}
use Rattle.someip_payload_codec.specs.Faults.{FaultInText, FaultInItems, FaultInFixed, FaultInNumber, HasHead, FaultInUnion, FaultBy, FaultIn, FaultInMembers, FaultInVariant, FaultInItem, FaultInTagged, FaultBehindTag}
use Rattle.someip_payload_values.proofs.StepLemmas.{err_is, bind_err, only_first}
use Rattle.someip_payload_codec.proofs.parts.Parts.{IsBytes, same_view, Takes, wide, front_took, took_bytes, took_then, number_took, window_took}
use Rattle.someip_payload_codec.proofs.parts.Forms.{IsForm, AreForms, AreVariants, AreMembers}
use Rattle.someip_payload_codec.proofs.parts.PartFaults.{guard_err, chosen_err, picks_failed, front_failed, ordered_failed, number_failed, window_failed, in_body, left_is, left_after}
use Rattle.someip_payload_codec.proofs.whole.Sound.{IsSound, data_took, slots_took}
use Rattle.someip_payload_codec.proofs.tagged.TaggedSound.{item_took}
use Rattle.someip_payload_codec.proofs.tagged.TaggedFirst.{skipped_failed, present_failed, absent_failed, item_failed, tagged_failed, both_first}
use Rattle.someip_payload_codec.proofs.texts.TextLemmas.{text_failed}
use Rattle.someip_payload_codec.proofs.texts.PaddedTexts.{padded_failed}

-- the same with one element before
items_later : (one : View → Result (Data × View) PayloadError) (P : Data → List ℕ → Type 0) (In : View → Type 0) (max : ℕ) (w : View) (d : Data) (v : View) (e : PayloadError)
    → Takes (P d) w v → FaultInItems P In max e v → FaultInItems P In (suc max) e w
items_later one P In max w d v e t (ds, text, rest, parts, each, some, which) =
    let all : w.bytes ≡ (t.text ++ text) ++ rest = t.took.bytes ∙ ap (λ (x : List ℕ). t.text ++ x) parts ∙ sym (append_assoc t.text text rest) in
    let place : v.place + length text ≡ w.place + length (t.text ++ text) = omega (arith, t.took.place, length-append t.text text) in
    let left : skip (length text) v ≡ skip (length (t.text ++ text)) w = left_after t.took text rest parts in (
      item d ds,
      t.text ++ text,
      rest,
      all,
      (t.text, text, refl, t.holds, each),
      some,
      elim which [
        | inl (full, at) ↦ inl (omega arith, at ∙ ap TooMany place)
        | inr (few, in_it) ↦ inr (omega arith, subst In left in_it)
      ],
    )

items_failed : (one : View → Result (Data × View) PayloadError) (P : Data → List ℕ → Type 0) (In : View → Type 0) (e : PayloadError) → IsSound one P → ((w : View) → IsBytes w.bytes → one w ≡ Err e → In w)
    → (max : ℕ) (w : View) → IsBytes w.bytes → items_at one max w ≡ Err e → FaultInItems P In max e w
unfolding items_at
items_failed one P In e sound inside zero w fits h =
    let g = guard_err (ltb 0 (length w.bytes)) (TooMany w.place) e no_items h in
    (no_items, [], w.bytes, refl, refl, ltb-true _ _ g.0, inl (refl, sym g.1 ∙ ap TooMany (omega arith)))
items_failed one P In e sound inside (suc max) w fits h =
    let c = chosen_err (ltb 0 (length w.bytes)) (one w >>= λ first. items_at one max first.1 >>= λ others. Ok (item first.0 others)) no_items e h in
    elim (bind_err (one w) (λ first. items_at one max first.1 >>= λ others. Ok (item first.0 others)) e c.1) [
      | inl first ↦
          let same : w ≡ skip 0 w = same_view w (skip 0 w) refl (omega arith) refl in
          (no_items, [], w.bytes, refl, refl, ltb-true _ _ c.0, inr (omega arith, subst In same (inside w fits first)))
      | inr (x, was, then) ↦
          let t = sound.takes w x.1 x.0 fits was in
          items_later one P In max w x.0 x.1 e t (items_failed one P In e sound inside max x.1 (took_bytes fits t.took).1 (only_first (items_at one max x.1) (λ others. item x.0 others) e then))
    ]

-- the same with one element before
fixed_later : (P : Data → List ℕ → Type 0) (In : View → Type 0) (n : ℕ) (w : View) (d : Data) (v : View)
    → Takes (P d) w v → FaultInFixed P In n v → FaultInFixed P In (suc n) w
fixed_later P In n w d v t (ds, text, rest, parts, each, few, in_it) =
    let all : w.bytes ≡ (t.text ++ text) ++ rest = t.took.bytes ∙ ap (λ (x : List ℕ). t.text ++ x) parts ∙ sym (append_assoc t.text text rest) in
    let left : skip (length text) v ≡ skip (length (t.text ++ text)) w = left_after t.took text rest parts in
    (item d ds, t.text ++ text, rest, all, (t.text, text, refl, t.holds, each), omega arith, subst In left in_it)

fixed_failed : (one : View → Result (Data × View) PayloadError) (P : Data → List ℕ → Type 0) (In : View → Type 0) (e : PayloadError) → IsSound one P → ((w : View) → IsBytes w.bytes → one w ≡ Err e → In w)
    → (n : ℕ) (w : View) → IsBytes w.bytes → fixed_at one n w ≡ Err e → FaultInFixed P In n w
unfolding fixed_at
fixed_failed one P In e sound inside zero w fits h = absurd cc
fixed_failed one P In e sound inside (suc n) w fits h =
    elim (bind_err (one w) (λ first. fixed_at one n first.1 >>= λ others. Ok (item first.0 others.0, others.1)) e h) [
      | inl first ↦
          let same : w ≡ skip 0 w = same_view w (skip 0 w) refl (omega arith) refl in
          (no_items, [], w.bytes, refl, refl, omega arith, subst In same (inside w fits first))
      | inr (x, was, then) ↦
          let t = sound.takes w x.1 x.0 fits was in
          let g : Items × View → Items × View = λ others. (item x.0 others.0, others.1) in
          fixed_later P In n w x.0 x.1 t (fixed_failed one P In e sound inside n x.1 (took_bytes fits t.took).1 (only_first (fixed_at one n x.1) g e then))
    ]

-- ---- unions

chosen_failed : (one : View → Result (Data × View) PayloadError) (In : View → Type 0) (e : PayloadError) → ((b : View) → IsBytes b.bytes → one b ≡ Err e → In b) → (kind len : ℕ) (w u : View) → IsBytes u.bytes
    → chosen_at one kind len w u ≡ Err e
    → ((length u.bytes < len) × (e ≡ short_at w)) ⊎ ((len ≤ length u.bytes) × In (record { is_body = true; place = u.place; bytes = take len u.bytes }))
unfolding chosen_at
chosen_failed one In e inside kind len w u fits h =
    elim (bind_err (window_at len w u) (λ body. one body.0 >>= λ x. Ok (chosen kind x.0, body.1)) e h) [
      | inl first ↦ inl (window_failed len w u e first)
      | inr (x, was, then) ↦
          let t = window_took len w u x.0 x.1 fits was in
          let g : Data × View → Data × View = λ y. (chosen kind y.0, x.1) in
          let front : take len u.bytes ≡ x.0.bytes = ap (take len) t.took.bytes ∙ take_at x.0.bytes x.1.bytes len t.len in
          let body : x.0 ≡ record { is_body = true; place = u.place; bytes = take len u.bytes } = t.is_body ∙ ap (λ (b : List ℕ). let y : View = record { is_body = true; place = u.place; bytes = b } in y) (sym front) in
          inr (omega (arith, t.len, ap length t.took.bytes ∙ length-append x.0.bytes x.1.bytes), subst In body (inside x.0 t.bytes (only_first (one x.0) g e then)))
    ]

union_which : (width type : Width) (known : ℕ → ℕ → ℕ → View → Result (Data × View) PayloadError) (In : ℕ → ℕ → View → Type 0) (kind len place : ℕ) (w v : View) (e : PayloadError) → HasHead width type len kind w v
    → (known kind len place v ≡ Err e → In kind len v) → (t z : Bool) → eqb kind 0 ≡ t → eqb len 0 ≡ z
    → cond t (cond z (Ok (nothing, v)) (Err (LengthMismatch w.place))) (known kind len place v) ≡ Err e → FaultInUnion width type In w e
union_which width type known In kind len place w v e head inside true true k l h = absurd cc
union_which width type known In kind len place w v e head inside true false k l h =
    let some : len ≡ 0 → ⊥ = eqb-false _ _ l in
    let same : LengthMismatch w.place ≡ e = err_is {A = Data × View} (LengthMismatch w.place) e h in
    inr (inr (len, kind, v, head, inl (eqb-true _ _ k, omega arith, sym same)))
union_which width type known In kind len place w v e head inside false z k l h =
    let some : kind ≡ 0 → ⊥ = eqb-false _ _ k in
    inr (inr (len, kind, v, head, inr (omega arith, inside h)))

union_failed : (width type : Width) (known : ℕ → ℕ → ℕ → View → Result (Data × View) PayloadError) (In : ℕ → ℕ → View → Type 0) (w : View) (e : PayloadError) → IsBytes w.bytes
    → ((kind len place : ℕ) (u : View) → IsBytes u.bytes → place ≡ w.place + field_len width → known kind len place u ≡ Err e → In kind len u)
    → union_at width type known w ≡ Err e → FaultInUnion width type In w e
unfolding union_at
union_failed width type known In w e fits inside h =
    let second = λ (len : ℕ) (m : View) (kind : ℕ × View). cond (eqb kind.0 0) (cond (eqb len 0) (Ok (nothing, kind.1)) (Err (LengthMismatch w.place))) (known kind.0 len m.place kind.1) in
    elim (bind_err (number_at (size_of width) w) (λ len. number_at (size_of type) len.1 >>= second len.0 len.1) e h) [
      | inl first ↦ inl (number_failed (size_of width) w e first)
      | inr (len, was, then) ↦
          let l = number_took (size_of width) w len.1 len.0 fits was in
          let after = (took_bytes fits l.0).1 in
          let wide_len : length (number (size_of width) len.0) ≡ field_len width = (wide (size_of width)).len len.0 in
          let here : len.1 ≡ skip (field_len width) w = subst (λ (n : ℕ). len.1 ≡ skip n w) wide_len (left_is l.0) in
          elim (bind_err (number_at (size_of type) len.1) (second len.0 len.1) e then) [
            | inl bad ↦
                let long : field_len width ≤ length w.bytes = omega (arith, wide_len, ap length l.0.bytes ∙ length-append (number (size_of width) len.0) len.1.bytes) in
                inr (inl (long, subst (λ (x : View). FaultInNumber (field_len type) x e) here (number_failed (size_of type) len.1 e bad)))
            | inr (kind, was2, then2) ↦
                let k = number_took (size_of type) len.1 kind.1 kind.0 after was2 in
                let rest = (took_bytes after k.0).1 in
                let both = took_then l.0 k.0 in
                let parts : w.bytes ≡ number (size_of width) len.0 ++ (number (size_of type) kind.0 ++ kind.1.bytes) = l.0.bytes ∙ ap (λ (x : List ℕ). number (size_of width) len.0 ++ x) k.0.bytes in
                let both_len : length (number (size_of width) len.0 ++ number (size_of type) kind.0) ≡ field_len width + field_len type = omega (arith, wide_len, length-append (number (size_of width) len.0) (number (size_of type) kind.0), (wide (size_of type)).len kind.0) in
                let head : HasHead width type len.0 kind.0 w kind.1 = (l.1, k.1, parts, subst (λ (n : ℕ). kind.1 ≡ skip n w) both_len (left_is both)) in
                union_which width type known In kind.0 len.0 len.1.place w kind.1 e head (inside kind.0 len.0 len.1.place kind.1 rest (subst (λ (n : ℕ). len.1.place ≡ w.place + n) wide_len l.0.place)) (eqb kind.0 0) (eqb len.0 0) refl refl then2
          ]
    ]

mutual
  unfolding data_by members_at variant_at slots_at FaultBy FaultInMembers FaultInVariant FaultBehindTag

  pub data_failed : (width : Width) (f : Form) (w : View) (e : PayloadError) → IsForm f → IsBytes w.bytes → data_by width f w ≡ Err e → FaultBy width f e w
  data_failed width bool w e form fits h =
      elim (bind_err (number_at S8 w) (λ n. Ok (truth (is_odd n.0), n.1)) e h) [ inl first ↦ number_failed S8 w e first | inr (x, was, then) ↦ absurd cc ]
  data_failed width (named n f) w e form fits h = data_failed width f w e form fits h
  data_failed width (enumerated f labels) w e form fits h = data_failed width f w e form fits h
  data_failed width (padded encoding n) w e form fits h =
      elim (bind_err (front_at n w) (λ front. padded_at encoding w.place front.0 >>= λ s. Ok (phrase s, front.1)) e h) [
        | inl first ↦ inl (front_failed n w e first)
        | inr (x, was, then) ↦
            let t = front_took n w x.1 x.0 was in
            let g : List ℕ → Data × View = λ s. (phrase s, x.1) in
            inr (x.0, x.1.bytes, t.0.bytes, t.1, padded_failed encoding w.place x.0 e (took_bytes fits t.0).0 (only_first (padded_at encoding w.place x.0) g e then))
      ]
  data_failed width (unsigned order size) w e form fits h =
      elim (bind_err (ordered_at order size w) (λ n. Ok (uint n.0, n.1)) e h) [ inl first ↦ ordered_failed order size w e first | inr (x, was, then) ↦ absurd cc ]
  data_failed width (float order p) w e form fits h =
      elim (bind_err (ordered_at order (bits_size p) w) (λ n. Ok (real p n.0, n.1)) e h) [ inl first ↦ ordered_failed order (bits_size p) w e first | inr (x, was, then) ↦ absurd cc ]
  data_failed width (signed order size) w e form fits h =
      elim (bind_err (ordered_at order size w) (λ n. Ok (int (signed_of size n.0), n.1)) e h) [ inl first ↦ ordered_failed order size w e first | inr (x, was, then) ↦ absurd cc ]
  data_failed width (string encoding own) w e form fits h =
      in_body width (FaultInText encoding w.place e) w e (λ body. text_at encoding w.place body.0.bytes >>= λ s. Ok (phrase s, body.1)) fits
      (λ b v bytes then. let g : List ℕ → Data × View = λ s. (phrase s, v) in
      text_failed encoding w.place b e bytes (only_first (text_at encoding w.place b.bytes) g e then)) h
  data_failed width (array own max element) w e form fits h =
      in_body width (FaultInItems (Reads element) (FaultIn element e) max e) w e (λ body. items_at (data_at element) max body.0 >>= λ items. Ok (list items, body.1)) fits
      (λ b v bytes then. let g : Items → Data × View = λ items. (list items, v) in
      items_failed (data_at element) (Reads element) (FaultIn element e) e (record { takes = λ x y d. data_took (own_width element) element x y d form }) (λ u us bad. data_failed (own_width element) element u e form us bad) max b bytes (only_first (items_at (data_at element) max b) g e then)) h
  data_failed width (fixed (Some own) n element) w e form fits h =
      in_body width (FaultInFixed (Reads element) (FaultIn element e) n) w e (λ body. fixed_at (data_at element) n body.0 >>= λ items. Ok (list items.0, body.1)) fits
      (λ b v bytes then. let g : Items × View → Data × View = λ items. (list items.0, v) in
      fixed_failed (data_at element) (Reads element) (FaultIn element e) e (record { takes = λ x y d. data_took (own_width element) element x y d form.1 }) (λ u us bad. data_failed (own_width element) element u e form.1 us bad) n b bytes (only_first (fixed_at (data_at element) n b) g e then)) h
  data_failed width (fixed None n element) w e form fits h =
      elim (bind_err (fixed_at (data_at element) n w) (λ items. Ok (list items.0, items.1)) e h) [
        | inl first ↦ fixed_failed (data_at element) (Reads element) (FaultIn element e) e (record { takes = λ x y d. data_took (own_width element) element x y d form.1 }) (λ u us bad. data_failed (own_width element) element u e form.1 us bad) n w fits first
        | inr (x, was, then) ↦ absurd cc
      ]
  data_failed width («struct» None fs) w e form fits h =
      elim (bind_err (members_at fs w) (λ members. Ok (tuple members.0, members.1)) e h) [ inl first ↦ members_failed fs w e form.1 fits first | inr (x, was, then) ↦ absurd cc ]
  data_failed width («struct» (Some own) fs) w e form fits h =
      in_body width (FaultInMembers fs e) w e (λ body. members_at fs body.0 >>= λ members. Ok (tuple members.0, body.1)) fits
      (λ b v bytes then. let g : Items × View → Data × View = λ members. (tuple members.0, v) in
      members_failed fs b e form.1 bytes (only_first (members_at fs b) g e then)) h
  data_failed width (union own type vs) w e form fits h =
      union_failed width type (λ kind len place u. variant_at vs kind len place w u) (λ kind len v. FaultInVariant vs (w.place + field_len width) e kind len w v) w e fits
      (λ kind len place u us at bad. subst (λ (n : ℕ). FaultInVariant vs n e kind len w u) at (variant_failed vs kind len place w u e form us bad)) h
  data_failed width (tagged own ms) w e form fits h =
      let takes = λ (ss ss' : Slots) (tag : Tag) (place : ℕ) (u x : View) (bytes : IsBytes u.bytes) (was : slots_at ms ss tag place u ≡ Ok (ss', x)). slots_took ms ss ss' tag place u x form bytes was in
      let inside = λ (ss : Slots) (tag : Tag) (place : ℕ) (u : View) (bytes : IsBytes u.bytes) (bad : slots_at ms ss tag place u ≡ Err e). slots_failed ms ss tag place u e form bytes bad in
      let In : Slots → View → Type 0 = λ ss v. FaultInItem (λ t id u. FaultBehindTag ms ss t id v.place e u) v e in
      in_body width (FaultInTagged ms In w.place e) w e
      (λ body. tagged_at (item_at ms) (length body.0.bytes) (all_absent ms) body.0 >>= λ ss. required_at ms w.place ss >>= λ whole. Ok (slotted whole, body.1)) fits
      (λ b v bytes then. tagged_failed (item_at ms) ms (item_took (slots_at ms) ms takes) In e (item_failed (slots_at ms) (λ ss t id place u. FaultBehindTag ms ss t id place e u) e inside) w.place b bytes
      (both_first (tagged_at (item_at ms) (length b.bytes) (all_absent ms) b) (required_at ms w.place) (λ whole. (slotted whole, v)) e then)) h

  pub members_failed : (fs : Forms) (w : View) (e : PayloadError) → AreForms fs → IsBytes w.bytes → members_at fs w ≡ Err e → FaultInMembers fs e w
  members_failed no_forms w e form fits h = absurd cc
  members_failed (form_then f fs) w e form fits h =
      elim (bind_err (data_at f w) (λ first. members_at fs first.1 >>= λ others. Ok (item first.0 others.0, others.1)) e h) [
        | inl first ↦ inl (data_failed (own_width f) f w e form.0 fits first)
        | inr (x, was, then) ↦
            let t = data_took (own_width f) f w x.1 x.0 form.0 fits was in
            inr (
              x.0,
              t.text,
              x.1.bytes,
              t.took.bytes,
              t.holds,
              (let g : Items × View → Items × View = λ others. (item x.0 others.0, others.1) in
                  subst (FaultInMembers fs e) (left_is t.took) (members_failed fs x.1 e form.1 (took_bytes fits t.took).1 (only_first (members_at fs x.1) g e then))),
            )
      ]

  pub variant_failed : (vs : Variants) (kind len place : ℕ) (w u : View) (e : PayloadError) → AreVariants vs → IsBytes u.bytes → variant_at vs kind len place w u ≡ Err e → FaultInVariant vs place e kind len w u
  variant_failed no_variants kind len place w u e form fits h = sym (err_is {A = Data × View} (UnknownVariant place) e h)
  variant_failed (variant n f vs) kind len place w u e form fits h =
      picks_failed (eqb n kind)
      (((length u.bytes < len) × (e ≡ short_at w)) ⊎ ((len ≤ length u.bytes) × FaultIn f e (record { is_body = true; place = u.place; bytes = take len u.bytes })))
      (FaultInVariant vs place e kind len w u) (chosen_at (data_at f) kind len w u) (variant_at vs kind len place w u) e
      (λ here. chosen_failed (data_at f) (FaultIn f e) e (λ b bs bad. data_failed (own_width f) f b e form.1 bs bad) kind len w u fits here)
      (λ later. variant_failed vs kind len place w u e form.2 fits later) h

  pub slots_failed : (ms : Members) (ss : Slots) (tag : Tag) (place : ℕ) (w : View) (e : PayloadError) → AreMembers ms → IsBytes w.bytes → slots_at ms ss tag place w ≡ Err e → FaultBehindTag ms ss tag.wire_type tag.id place e w
  slots_failed no_members ss tag place w e are fits h = skipped_failed tag.wire_type ss w e fits h
  slots_failed (member_then id optional f ms) no_slots tag place w e are fits h = skipped_failed tag.wire_type no_slots w e fits h
  slots_failed (member_then id optional f ms) (present d ss) tag place w e are fits h =
      present_failed (eqb id tag.id) (FaultBehindTag ms ss tag.wire_type tag.id place e w) d place (slots_at ms ss tag place w) e (λ bad. slots_failed ms ss tag place w e are.4 fits bad) h
  slots_failed (member_then id optional f ms) (absent ss) tag place w e are fits h =
      absent_failed (eqb id tag.id) (FaultBehindTag ms ss tag.wire_type tag.id place e w) (λ width. FaultBy width f e w) (λ width u. data_by width f u) f ss tag place w (slots_at ms ss tag place w) e
      (λ bad. slots_failed ms ss tag place w e are.4 fits bad) (λ width bad. data_failed width f w e are.3 fits bad) h
