-- The place of a fault lies in the payload, or at its end.
use Rattle.std.proofs.Common.{◌≡◌, ◌⊎◌, inl, inr, ℕ, ◌+◌, ◌≤◌, Bool, true, false, cond, eqb, ltb, List, ◌++◌, length, drop, length-append, Result, Ok, Err, Some, None, refl, sym, ap, ◌∙◌, subst, arith}
use Rattle.std.proofs.lemmas.List.{length-take, length-drop}
use Rattle.std.specs.Int.{byte_len}
use Rattle.someip_payload_values.specs.declared.error.PayloadError.{PayloadError}
use Rattle.someip_payload_values.specs.declared.error.PayloadError.TheVariants.{Truncated, LengthMismatch, TooDeep, BadShape}
use Rattle.someip_payload_values.specs.declared.error.PayloadError.TheVariants as errors
use Rattle.someip_payload_values.specs.declared.number.Size.{Size}
use Rattle.someip_payload_values.specs.declared.number.Size.TheVariants.{S8, S16, S32, S64}
use Rattle.someip_payload_values.specs.declared.shape.Width.{Width}
use Rattle.someip_payload_values.specs.declared.tag.WireType.{WireType}
use Rattle.someip_payload_values.specs.declared.tag.WireType.TheVariants.{Basic, OwnLength, Length}
use Rattle.someip_payload_values.specs.Check.{checked, depth, is_form}
use Rattle.someip_payload_values.specs.Data.{Form, bool, unsigned, signed, float, string, padded, array, fixed, «struct», union, tagged, named, enumerated, Forms, no_forms, form_then, Variants, no_variants, variant, Members, member_then, Slots, present, absent}
use Rattle.someip_payload_values.specs.Names.{fault_place}
use Rattle.someip_payload_values.specs.Numbers.{width_of, size_of, field_len, number, framed}
use Rattle.someip_payload_values.specs.Tags.{items_bytes, tag_number, own_width, has_wire_type, width_in}
use Rattle.someip_payload_codec.specs.View.{View}
use Rattle.someip_payload_codec.specs.Grammar.{Picks}
use Rattle.someip_payload_codec.specs.Reading.{short_at, skip}
use Rattle.someip_payload_codec.specs.Faults.{body_view, HasBody, HasHead, HasTag, FaultBy, FaultIn, FaultInMembers, FaultInVariant, FaultInSkipped, FaultBehindTag, IsFirstFault, whole}

-- a fault that is one at a place up to n is so
placed : (n : ℕ) (e f : PayloadError) → e ≡ f → fault_place f ≤ n → fault_place e ≤ n
placed n e f same h = subst (λ (x : PayloadError). fault_place x ≤ n) (sym same) h

end_place : (b : Bool) (k : ℕ) → fault_place (cond b (LengthMismatch k) (Truncated k)) ≡ k
end_place true k = refl
end_place false k = refl

short_place : (n : ℕ) (w : View) (e : PayloadError) → e ≡ short_at w → w.place ≤ n → fault_place e ≤ n
short_place n w e same le = placed n e (short_at w) same (omega (arith, end_place w.is_body w.place))

number_length : (size : Size) (n : ℕ) → length (number size n) ≡ byte_len (width_of size)
number_length S8 n = refl
number_length S16 n = refl
number_length S32 n = refl
number_length S64 n = refl

-- what ends by n: a body, what stands after some bytes, and what stands after the head of a union or after a tag
body_ends : (n : ℕ) (width : Width) (w : View) (body : List ℕ) → HasBody width w body → w.place + length w.bytes ≤ n → w.place + field_len width + length body ≤ n
body_ends n width w body (fits, rest, is) le =
    omega (arith, ap length is, length-append (framed width body) rest, length-append (number (size_of width) (length body)) body, number_length (size_of width) (length body))

skip_ends : (n : ℕ) (w : View) (text rest : List ℕ) → w.bytes ≡ text ++ rest → w.place + length w.bytes ≤ n → w.place + length text + length (drop (length text) w.bytes) ≤ n
skip_ends n w text rest is le = omega (arith, ap length is, length-append text rest, length-drop (length text) w.bytes)

head_ends : (n : ℕ) (width type : Width) (len kind : ℕ) (w v : View) → HasHead width type len kind w v → w.place + length w.bytes ≤ n → (w.place + field_len width ≤ n) × (v.place + length v.bytes ≤ n)
head_ends n width type len kind w v (fits, small, is, same) le =
    let place : v.place ≡ w.place + (field_len width + field_len type) = ap (λ (x : View). x.place) same in
    let long = ap length is ∙ length-append (number (size_of width) len) (number (size_of type) kind ++ v.bytes) in
    let rest = length-append (number (size_of type) kind) v.bytes in
    let field = number_length (size_of width) len in
    let kinds = number_length (size_of type) kind in
    (omega arith, omega arith)

tag_ends : (n : ℕ) (reserved : Bool) (t : WireType) (id : ℕ) (w v : View) → HasTag reserved t id w v → w.place + length w.bytes ≤ n → v.place + length v.bytes ≤ n
tag_ends n reserved t id w v (small, is, same) le =
    let place : v.place ≡ w.place + 2 = ap (λ (x : View). x.place) same in
    omega (arith, ap length is, length-append (number S16 (tag_number reserved t id)) v.bytes, number_length S16 (tag_number reserved t id))

picks : (t : Bool) (A B C : Type 0) → (A → C) → (B → C) → Picks t A B → C
picks true A B C first next h = first h
picks false A B C first next h = next h

in_skipped : (n : ℕ) (t : WireType) (e : PayloadError) (w : View) → FaultInSkipped t e w → w.place ≤ n → fault_place e ≤ n
in_skipped n (Basic size) e w h le = short_place n w e h.1 le
in_skipped n OwnLength e w (inl (none, same)) le = short_place n w e same le
in_skipped n OwnLength e w (inr (body, has, never)) le = absurd never
in_skipped n (Length width) e w (inl (none, same)) le = short_place n w e same le
in_skipped n (Length width) e w (inr (body, has, never)) le = absurd never

mutual
  unfolding FaultBy FaultInMembers FaultInVariant FaultBehindTag

  in_form : (n : ℕ) (width : Width) (f : Form) (e : PayloadError) (w : View) → FaultBy width f e w → w.place + length w.bytes ≤ n → fault_place e ≤ n
  in_form n width (named name f) e w h le = in_form n width f e w h le
  in_form n width (enumerated f labels) e w h le = in_form n width f e w h le
  in_form n width (padded encoding count) e w (inl h) le = short_place n w e h.1 (omega arith)
  in_form n width (padded encoding count) e w (inr (front, rest, parts, len, inl (open_end, same))) le = placed n e _ same (omega arith)
  in_form n width (padded encoding count) e w (inr (front, rest, parts, len, inr (ended, bad, same))) le = placed n e _ same (omega arith)
  in_form n width bool e w h le = short_place n w e h.1 (omega arith)
  in_form n width (unsigned order size) e w h le = short_place n w e h.1 (omega arith)
  in_form n width (signed order size) e w h le = short_place n w e h.1 (omega arith)
  in_form n width (float order precision) e w h le = short_place n w e h.1 (omega arith)
  in_form n width (string encoding own) e w (inl (none, same)) le = short_place n w e same (omega arith)
  in_form n width (string encoding own) e w (inr (body, has, inl (open_end, same))) le = placed n e _ same (omega arith)
  in_form n width (string encoding own) e w (inr (body, has, inr (ended, bad, same))) le = placed n e _ same (omega arith)
  in_form n width (array own most element) e w (inl (none, same)) le = short_place n w e same (omega arith)
  in_form n width (array own most element) e w (inr (body, has, (ds, text, rest, parts, each, some, inl (full, same)))) le =
      let end = body_ends n width w body has le in placed n e _ same (omega (arith, ap length parts, length-append text rest))
  in_form n width (array own most element) e w (inr (body, has, (ds, text, rest, parts, each, some, inr (few, in_it)))) le =
      in_form n (own_width element) element e _ in_it (skip_ends n (body_view width w body) text rest parts (body_ends n width w body has le))
  in_form n width (fixed (Some own) count element) e w (inl (none, same)) le = short_place n w e same (omega arith)
  in_form n width (fixed (Some own) count element) e w (inr (body, has, (ds, text, rest, parts, each, few, in_it))) le =
      in_form n (own_width element) element e _ in_it (skip_ends n (body_view width w body) text rest parts (body_ends n width w body has le))
  in_form n width (fixed None count element) e w (ds, text, rest, parts, each, few, in_it) le = in_form n (own_width element) element e _ in_it (skip_ends n w text rest parts le)
  in_form n width («struct» None fs) e w h le = in_members n fs e w h le
  in_form n width («struct» (Some own) fs) e w (inl (none, same)) le = short_place n w e same (omega arith)
  in_form n width («struct» (Some own) fs) e w (inr (body, has, in_it)) le = in_members n fs e _ in_it (body_ends n width w body has le)
  in_form n width (union own type vs) e w (inl h) le = short_place n w e h.1 (omega arith)
  in_form n width (union own type vs) e w (inr (inl (long, h))) le = short_place n (skip (field_len width) w) e h.1 (omega arith)
  in_form n width (union own type vs) e w (inr (inr (len, kind, v, head, inl (zero, some, same)))) le = placed n e _ same (omega arith)
  in_form n width (union own type vs) e w (inr (inr (len, kind, v, head, inr (some, in_it)))) le =
      let ends = head_ends n width type len kind w v head le in in_variant n vs (w.place + field_len width) e kind len w v in_it ends.0 (omega arith) ends.1
  in_form n width (tagged own ms) e w (inl (none, same)) le = short_place n w e same (omega arith)
  in_form n width (tagged own ms) e w (inr (body, has, (items, ss, rest, parts, reads, others, inl (empty, missing, same)))) le = placed n e _ same (omega arith)
  in_form n width (tagged own ms) e w (inr (body, has, (items, ss, rest, parts, reads, others, inr (some, inl h)))) le =
      let end = skip_ends n (body_view width w body) (items_bytes items) rest parts (body_ends n width w body has le) in
      short_place n (skip (length (items_bytes items)) (body_view width w body)) e h.1 (omega arith)
  in_form n width (tagged own ms) e w (inr (body, has, (items, ss, rest, parts, reads, others, inr (some, inr (reserved, t, id, v, tag, in_it))))) le =
      let end = skip_ends n (body_view width w body) (items_bytes items) rest parts (body_ends n width w body has le) in
      behind_tag n ms ss t id (skip (length (items_bytes items)) (body_view width w body)).place e v in_it (omega arith)
      (tag_ends n reserved t id (skip (length (items_bytes items)) (body_view width w body)) v tag end)

  in_members : (n : ℕ) (fs : Forms) (e : PayloadError) (w : View) → FaultInMembers fs e w → w.place + length w.bytes ≤ n → fault_place e ≤ n
  in_members n no_forms e w h le = absurd h
  in_members n (form_then f fs) e w (inl h) le = in_form n (own_width f) f e w h le
  in_members n (form_then f fs) e w (inr (d, text, rest, parts, here, later)) le = in_members n fs e _ later (skip_ends n w text rest parts le)

  in_variant : (n : ℕ) (vs : Variants) (place : ℕ) (e : PayloadError) (kind len : ℕ) (w v : View) → FaultInVariant vs place e kind len w v → place ≤ n → w.place ≤ n → v.place + length v.bytes ≤ n → fault_place e ≤ n
  in_variant n no_variants place e kind len w v same at before le = placed n e _ same at
  in_variant n (variant number f vs) place e kind len w v h at before le =
      picks (eqb number kind) _ _ (fault_place e ≤ n)
      (λ here. elim here [ inl (few, same) ↦ short_place n w e same before | inr (long, in_it) ↦ in_form n (own_width f) f e _ in_it (omega (arith, length-take len v.bytes)) ])
      (λ later. in_variant n vs place e kind len w v later at before le) h

  -- the tag stands at the place, and v after it
  behind_tag : (n : ℕ) (ms : Members) (ss : Slots) (t : WireType) (id place : ℕ) (e : PayloadError) (v : View) → FaultBehindTag ms ss t id place e v → place ≤ n → v.place + length v.bytes ≤ n → fault_place e ≤ n
  behind_tag n (member_then number optional f ms) (present d ss) t id place e v h at le =
      picks (eqb number id) _ _ (fault_place e ≤ n) (λ same. placed n e _ same at) (λ later. behind_tag n ms ss t id place e v later at le) h
  behind_tag n (member_then number optional f ms) (absent ss) t id place e v h at le =
      picks (eqb number id) _ _ (fault_place e ≤ n)
      (λ here. picks (has_wire_type f t) _ _ (fault_place e ≤ n) (λ in_it. in_form n (width_in t f) f e v in_it le) (λ same. placed n e _ same at) here)
      (λ later. behind_tag n ms ss t id place e v later at le) h
  behind_tag n _ ss t id place e v h at le = in_skipped n t e v h (omega arith)

-- the fault of a shape has the place 0
refused_place : (f : Form) (e : PayloadError) → checked f ≡ Err e → fault_place e ≡ 0
unfolding checked
refused_place f e h = by (ltb 16 (depth f)) (is_form f) h
  where
    by : (deep sound : Bool) → (let refusal : Result (Unit {0}) PayloadError = cond deep (Err (TooDeep 0)) (cond sound (Ok tt) (Err (BadShape 0))) in refusal ≡ Err e) → fault_place e ≡ 0
    by true sound h = let same : TooDeep 0 ≡ e = cc in sym (ap fault_place same)
    by false true h = absurd cc
    by false false h = let same : BadShape 0 ≡ e = cc in sym (ap fault_place same)

at_first : (f : Form) (bytes : List ℕ) (e : PayloadError) → (checked f ≡ Err e) ⊎ FaultIn f e (whole bytes) → fault_place e ≤ length bytes
at_first f bytes e (inl h) = omega (arith, refused_place f e h)
at_first f bytes e (inr h) = in_form (length bytes) (own_width f) f e (whole bytes) h (omega arith)

pub fault_within : (f : Form) (bytes : List ℕ) (e : PayloadError) → IsFirstFault f bytes e → fault_place e ≤ length bytes
fault_within f bytes (errors.Truncated p) h = at_first f bytes _ h
fault_within f bytes (errors.BadText p) h = at_first f bytes _ h
fault_within f bytes (errors.NoTerminator p) h = at_first f bytes _ h
fault_within f bytes (errors.UnknownVariant p) h = at_first f bytes _ h
fault_within f bytes (errors.LengthMismatch p) h = at_first f bytes _ h
fault_within f bytes (errors.TooMany p) h = at_first f bytes _ h
fault_within f bytes (errors.TooDeep p) h = at_first f bytes _ h
fault_within f bytes (errors.NotOfShape p) h = at_first f bytes _ h
fault_within f bytes (errors.TooLong p) h = at_first f bytes _ h
fault_within f bytes (errors.BadShape p) h = at_first f bytes _ h
fault_within f bytes (errors.DuplicateMember p) h = at_first f bytes _ h
fault_within f bytes (errors.WrongWireType p) h = at_first f bytes _ h
fault_within f bytes (errors.MissingMember p) h = at_first f bytes _ h
fault_within f bytes errors.OutOfMemory h = omega arith
