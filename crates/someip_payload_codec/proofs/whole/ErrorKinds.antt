-- Which errors reading may have.
use Rattle.std.proofs.Common.{◌≡◌, ◌⊎◌, inl, inr, ℕ, ◌+◌, Bool, true, false, cond, eqb, List, length, Result, Ok, Err, Some, None, sym, subst}
use Rattle.std.specs.Prelude.{IfErr}
use Rattle.someip_payload_values.specs.declared.error.PayloadError.{PayloadError}
use Rattle.someip_payload_values.specs.declared.error.PayloadError.TheVariants.{Truncated, LengthMismatch}
use Rattle.someip_payload_values.specs.declared.shape.Width.{Width}
use Rattle.someip_payload_values.specs.declared.tag.WireType.{WireType}
use Rattle.someip_payload_values.specs.declared.tag.WireType.TheVariants.{Basic, OwnLength, Length}
use Rattle.someip_payload_values.specs.Data.{Form, bool, unsigned, signed, float, string, padded, array, fixed, «struct», union, tagged, named, enumerated, Forms, no_forms, form_then, Variants, no_variants, variant, Members, member_then, Slots, present, absent}
use Rattle.someip_payload_codec.specs.View.{View}
use Rattle.someip_payload_values.specs.Steps.{Gives}
use Rattle.someip_payload_values.specs.Check.{checked}
use Rattle.someip_payload_values.specs.Numbers.{field_len}
use Rattle.someip_payload_codec.specs.Grammar.{Picks}
use Rattle.someip_payload_codec.specs.Reading.{short_at, skip, decoded}
use Rattle.someip_payload_values.specs.Tags.{items_bytes, own_width, has_wire_type, width_in}
use Rattle.someip_payload_codec.specs.Faults.{body_view, FaultBy, FaultIn, FaultInMembers, FaultInVariant, FaultInSkipped, FaultBehindTag, IsReadingFault, whole}
use Rattle.someip_payload_values.specs.declared.value.Value.{Value}
use Rattle.someip_payload_values.specs.View.{data_of}
use Rattle.someip_payload_codec.proofs.parts.Parts.{IsBytes}
use Rattle.someip_payload_codec.proofs.whole.Whole.{decoded_failed}
use Rattle.someip_payload_values.proofs.ErrorKinds.{checked_one, by_fails}

end_kind : (b : Bool) (k : ℕ) → IsReadingFault (cond b (LengthMismatch k) (Truncated k))
end_kind true k = tt
end_kind false k = tt

short_kind : (w : View) (e : PayloadError) → e ≡ short_at w → IsReadingFault e
short_kind w e same = subst IsReadingFault (sym same) (end_kind w.is_body w.place)

picks_kind : (t : Bool) (A B C : Type 0) → (A → C) → (B → C) → Picks t A B → C
picks_kind true A B C first next h = first h
picks_kind false A B C first next h = next h

-- an item that is skipped passes its window
skipped_kind : (t : WireType) (e : PayloadError) (w : View) → FaultInSkipped t e w → IsReadingFault e
skipped_kind (Basic size) e w h = short_kind w e h.1
skipped_kind OwnLength e w (inl (none, same)) = short_kind w e same
skipped_kind OwnLength e w (inr (body, has, never)) = absurd never
skipped_kind (Length width) e w (inl (none, same)) = short_kind w e same
skipped_kind (Length width) e w (inr (body, has, never)) = absurd never

mutual
  unfolding FaultBy FaultInMembers FaultInVariant FaultBehindTag

  fault_kind : (width : Width) (f : Form) (e : PayloadError) (w : View) → FaultBy width f e w → IsReadingFault e
  fault_kind width (named n f) e w h = fault_kind width f e w h
  fault_kind width (enumerated f labels) e w h = fault_kind width f e w h
  fault_kind width (padded encoding n) e w (inl h) = short_kind w e h.1
  fault_kind width (padded encoding n) e w (inr (front, rest, parts, len, inl (open_end, same))) = subst IsReadingFault (sym same) tt
  fault_kind width (padded encoding n) e w (inr (front, rest, parts, len, inr (ended, bad, same))) = subst IsReadingFault (sym same) tt
  fault_kind width bool e w h = short_kind w e h.1
  fault_kind width (unsigned order size) e w h = short_kind w e h.1
  fault_kind width (signed order size) e w h = short_kind w e h.1
  fault_kind width (float order p) e w h = short_kind w e h.1
  fault_kind width (string encoding own) e w (inl (none, same)) = short_kind w e same
  fault_kind width (string encoding own) e w (inr (body, has, inl (open_end, same))) = subst IsReadingFault (sym same) tt
  fault_kind width (string encoding own) e w (inr (body, has, inr (ended, bad, same))) = subst IsReadingFault (sym same) tt
  fault_kind width (array own max element) e w (inl (none, same)) = short_kind w e same
  fault_kind width (array own max element) e w (inr (body, has, (ds, text, rest, parts, each, some, inl (full, same)))) = subst IsReadingFault (sym same) tt
  fault_kind width (array own max element) e w (inr (body, has, (ds, text, rest, parts, each, some, inr (few, in_it)))) = fault_kind (own_width element) element e _ in_it
  fault_kind width (fixed (Some own) n element) e w (inl (none, same)) = short_kind w e same
  fault_kind width (fixed (Some own) n element) e w (inr (body, has, (ds, text, rest, parts, each, few, in_it))) = fault_kind (own_width element) element e _ in_it
  fault_kind width (fixed None n element) e w (ds, text, rest, parts, each, few, in_it) = fault_kind (own_width element) element e _ in_it
  fault_kind width («struct» None fs) e w h = members_kind fs e w h
  fault_kind width («struct» (Some own) fs) e w (inl (none, same)) = short_kind w e same
  fault_kind width («struct» (Some own) fs) e w (inr (body, has, in_it)) = members_kind fs e _ in_it
  fault_kind width (union own type vs) e w (inl h) = short_kind w e h.1
  fault_kind width (union own type vs) e w (inr (inl (long, h))) = short_kind (skip (field_len width) w) e h.1
  fault_kind width (union own type vs) e w (inr (inr (len, kind, v, head, inl (zero, some, same)))) = subst IsReadingFault (sym same) tt
  fault_kind width (union own type vs) e w (inr (inr (len, kind, v, head, inr (some, in_it)))) = variant_kind vs (w.place + field_len width) e kind len w v in_it
  fault_kind width (tagged own ms) e w (inl (none, same)) = short_kind w e same
  fault_kind width (tagged own ms) e w (inr (body, has, (items, ss, rest, parts, reads, others, inl (empty, missing, same)))) = subst IsReadingFault (sym same) tt
  fault_kind width (tagged own ms) e w (inr (body, has, (items, ss, rest, parts, reads, others, inr (some, inl h)))) = short_kind (skip (length (items_bytes items)) (body_view width w body)) e h.1
  fault_kind width (tagged own ms) e w (inr (body, has, (items, ss, rest, parts, reads, others, inr (some, inr (reserved, t, id, v, tag, in_it))))) =
      slots_kind ms ss t id (skip (length (items_bytes items)) (body_view width w body)).place e v in_it

  members_kind : (fs : Forms) (e : PayloadError) (w : View) → FaultInMembers fs e w → IsReadingFault e
  members_kind no_forms e w h = absurd h
  members_kind (form_then f fs) e w (inl h) = fault_kind (own_width f) f e w h
  members_kind (form_then f fs) e w (inr (d, text, rest, parts, here, later)) = members_kind fs e _ later

  variant_kind : (vs : Variants) (place : ℕ) (e : PayloadError) (kind len : ℕ) (w v : View) → FaultInVariant vs place e kind len w v → IsReadingFault e
  variant_kind no_variants place e kind len w v same = subst IsReadingFault (sym same) tt
  variant_kind (variant n f vs) place e kind len w v h =
      picks_kind (eqb n kind) _ _ (IsReadingFault e)
      (λ here. elim here [ inl (few, same) ↦ short_kind w e same | inr (long, in_it) ↦ fault_kind (own_width f) f e _ in_it ])
      (λ later. variant_kind vs place e kind len w v later) h

  slots_kind : (ms : Members) (ss : Slots) (t : WireType) (id place : ℕ) (e : PayloadError) (v : View) → FaultBehindTag ms ss t id place e v → IsReadingFault e
  slots_kind (member_then n optional f ms) (present d ss) t id place e v h =
      picks_kind (eqb n id) _ _ (IsReadingFault e) (λ same. subst IsReadingFault (sym same) tt) (λ later. slots_kind ms ss t id place e v later) h
  slots_kind (member_then n optional f ms) (absent ss) t id place e v h =
      picks_kind (eqb n id) _ _ (IsReadingFault e)
      (λ here. picks_kind (has_wire_type f t) _ _ (IsReadingFault e) (λ in_it. fault_kind (width_in t f) f e v in_it) (λ same. subst IsReadingFault (sym same) tt) here)
      (λ later. slots_kind ms ss t id place e v later) h
  slots_kind _ ss t id place e v h = skipped_kind t e v h

reading_kind : (f : Form) (bytes : List ℕ) (e : PayloadError) → (checked f ≡ Err e) ⊎ FaultIn f e (whole bytes) → IsReadingFault e
reading_kind f bytes e (inl h) = elim (checked_one f e h) [ inl same ↦ subst IsReadingFault same tt | inr same ↦ subst IsReadingFault same tt ]
reading_kind f bytes e (inr h) = fault_kind (own_width f) f e _ h

pub reading_faults : (f : Form) (bytes : List ℕ) (r : Result (Value × ℕ) PayloadError) → IsBytes bytes → Gives (λ x. (data_of x.0, x.1)) r (decoded f bytes) → IfErr r IsReadingFault
reading_faults f bytes (Ok x) fits given = tt
reading_faults f bytes (Err e) fits given = by_fails IsReadingFault e (decoded f bytes) tt (λ h. reading_kind f bytes e (decoded_failed f bytes e fits h)) given
