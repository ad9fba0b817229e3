-- Which errors the check of a shape and writing may have.
use Rattle.std.proofs.Common.{◌≡◌, ◌⊎◌, inl, inr, ℕ, ◌-◌, ◌&&◌, not, replicate, Bool, true, false, cond, ltb, eqb, List, [], ◌++◌, length, Result, Ok, Err, Some, None, refl, subst}
use Rattle.std.specs.Prelude.{ℤ, IfErr}
use Rattle.std.specs.Int.{cast_unsigned}
use Rattle.std.specs.Str.{is_utf8}
use Rattle.someip_payload_values.specs.declared.error.PayloadError.{PayloadError}
use Rattle.someip_payload_values.specs.declared.error.PayloadError.TheVariants as errors
use Rattle.someip_payload_values.specs.declared.error.PayloadError.TheVariants.{Truncated, BadText, NoTerminator, UnknownVariant, LengthMismatch, TooMany, TooDeep, NotOfShape, TooLong, BadShape, DuplicateMember, WrongWireType, MissingMember}
use Rattle.someip_payload_values.specs.declared.number.Order.{Order}
use Rattle.someip_payload_values.specs.declared.number.Size.{Size}
use Rattle.someip_payload_values.specs.declared.shape.Width.{Width}
use Rattle.someip_payload_values.specs.Data.{Form, bool, unsigned, signed, float, string, padded, array, fixed, «struct», union, tagged, named, enumerated, Forms, form_then, Variants, no_variants, variant, Members, member_then, Data, truth, uint, int, real, phrase, list, tuple, nothing, chosen, slotted, Items, no_items, item, Slots, present, absent, count}
use Rattle.someip_payload_values.specs.declared.number.Size.TheVariants.{S32, S64}
use Rattle.someip_payload_values.specs.Floats.{Precision, single, double}
use Rattle.someip_payload_values.specs.Steps.{◌>>=◌, Fails}
use Rattle.someip_payload_values.specs.Check.{depth, is_form, checked}
use Rattle.someip_payload_values.specs.Numbers.{width_of, limit_of, size_of, is_signed, number_in, framed, typed}
use Rattle.someip_payload_values.specs.Tags.{item_bytes, wire_type_of}
use Rattle.someip_payload_values.specs.Writing.{count_forms, number_text, signed_text, body_text, text_body, each_text, array_text, fixed_text, framed_text, has_zero, padded_text, typed_text, chosen_text, real_text, item_text, absent_text, count_members, count_slots, text_of, members_text, variant_text, slots_text, encoded, Appends, IsRefusal}
use Rattle.someip_payload_values.proofs.StepLemmas.{bind_err, passed_err, kept_err}

-- ---- shapes

pub checked_one : (f : Form) (e : PayloadError) → checked f ≡ Err e → (TooDeep 0 ≡ e) ⊎ (BadShape 0 ≡ e)
unfolding checked
checked_one f e h =
    elim (kept_err (ltb 16 (depth f)) (cond (is_form f) (Ok tt) (Err (BadShape 0))) (TooDeep 0) e h) [
      | inl (deep, same) ↦ inl same
      | inr (flat, then) ↦ elim (passed_err (is_form f) (Ok tt) (BadShape 0) e then) [ inl (bad, same) ↦ inr same | inr (good, never) ↦ absurd cc ]
    ]

-- what holds of a fault holds of what a call returns
pub by_fails : {Y : Type 0} (P : PayloadError → Type 0) (e : PayloadError) (r : Result Y PayloadError) → P errors.OutOfMemory → (r ≡ Err e → P e) → Fails e r → P e
by_fails P errors.OutOfMemory r none then h = none
by_fails P (errors.Truncated k) r none then h = then h
by_fails P (errors.BadText k) r none then h = then h
by_fails P (errors.NoTerminator k) r none then h = then h
by_fails P (errors.UnknownVariant k) r none then h = then h
by_fails P (errors.LengthMismatch k) r none then h = then h
by_fails P (errors.TooMany k) r none then h = then h
by_fails P (errors.TooDeep k) r none then h = then h
by_fails P (errors.NotOfShape k) r none then h = then h
by_fails P (errors.TooLong k) r none then h = then h
by_fails P (errors.BadShape k) r none then h = then h
by_fails P (errors.DuplicateMember k) r none then h = then h
by_fails P (errors.WrongWireType k) r none then h = then h
by_fails P (errors.MissingMember k) r none then h = then h

-- ---- writing

number_kind : (order : Order) (size : Size) (n : ℕ) (e : PayloadError) → number_text order size n ≡ Err e → IsRefusal e
unfolding number_text
number_kind order size n e h =
    elim (passed_err (ltb n (limit_of size)) (Ok (number_in order size n)) (NotOfShape 0) e h) [ inl (big, same) ↦ subst IsRefusal same refl | inr (good, never) ↦ absurd cc ]

signed_kind : (order : Order) (size : Size) (z : ℤ) (e : PayloadError) → signed_text order size z ≡ Err e → IsRefusal e
unfolding signed_text
signed_kind order size z e h =
    elim (passed_err (is_signed size z) (Ok (number_in order size (cast_unsigned (width_of size) z))) (NotOfShape 0) e h) [ inl (big, same) ↦ subst IsRefusal same refl | inr (good, never) ↦ absurd cc ]

body_kind : (width : Width) (body : List ℕ) (e : PayloadError) → body_text width body ≡ Err e → IsRefusal e
unfolding body_text
body_kind width body e h =
    elim (passed_err (ltb (length body) (limit_of (size_of width))) (Ok (framed width body)) (TooLong 0) e h) [ inl (big, same) ↦ subst IsRefusal same refl | inr (good, never) ↦ absurd cc ]

-- a body that was refused, or is too long
then_body : (width : Width) (r : Result (List ℕ) PayloadError) (e : PayloadError) → (r ≡ Err e → IsRefusal e) → (r >>= body_text width) ≡ Err e → IsRefusal e
then_body width r e first h = elim (bind_err r (body_text width) e h) [ inl bad ↦ first bad | inr (body, was, then) ↦ body_kind width body e then ]

chosen_kind : (width type : Width) (kind : ℕ) (r : Result (List ℕ) PayloadError) (e : PayloadError) → (r ≡ Err e → IsRefusal e) → chosen_text width type kind r ≡ Err e → IsRefusal e
unfolding chosen_text typed_text
chosen_kind width type kind r e first h =
    elim (bind_err r (typed_text width type kind) e h) [
      | inl bad ↦ first bad
      | inr (body, was, then) ↦ elim (passed_err (ltb (length body) (limit_of (size_of width))) (Ok (typed width type kind body)) (TooLong 0) e then) [ inl (big, same) ↦ subst IsRefusal same refl | inr (good, never) ↦ absurd cc ]
    ]

each_kind : (one : Data → Result (List ℕ) PayloadError) (e : PayloadError) → ((d : Data) → one d ≡ Err e → IsRefusal e) → (ds : Items) → each_text one ds ≡ Err e → IsRefusal e
unfolding each_text
each_kind one e first no_items h = absurd cc
each_kind one e first (item d ds) h =
    elim (bind_err (one d) (λ a. each_text one ds >>= λ others. Ok (a ++ others)) e h) [
      | inl bad ↦ first d bad
      | inr (a, was, then) ↦ elim (bind_err (each_text one ds) (λ others. Ok (a ++ others)) e then) [ inl bad ↦ each_kind one e first ds bad | inr (others, good, never) ↦ absurd cc ]
    ]

choice_kind : (t : Bool) (r s : Result (List ℕ) PayloadError) (e : PayloadError) → (r ≡ Err e → IsRefusal e) → (s ≡ Err e → IsRefusal e) → cond t r s ≡ Err e → IsRefusal e
choice_kind true r s e first next h = first h
choice_kind false r s e first next h = next h

refused : (d e : PayloadError) → IsRefusal d → (let r : Result (List ℕ) PayloadError = Err d in r) ≡ Err e → IsRefusal e
refused d e is h = let same : d ≡ e = cc in subst IsRefusal same is

real_kind : (order : Order) (p own : Precision) (bits : ℕ) (e : PayloadError) → real_text order p own bits ≡ Err e → IsRefusal e
unfolding real_text
real_kind order single single bits e h = number_kind order S32 bits e h
real_kind order double double bits e h = number_kind order S64 bits e h
real_kind order single double bits e h = refused (NotOfShape 0) e refl h
real_kind order double single bits e h = refused (NotOfShape 0) e refl h

mutual
  unfolding text_of members_text variant_text slots_text array_text fixed_text framed_text padded_text item_text absent_text

  text_kind : (f : Form) (d : Data) (e : PayloadError) → text_of f d ≡ Err e → IsRefusal e
  text_kind (named n f) d e h = text_kind f d e h
  text_kind (enumerated f labels) d e h = text_kind f d e h
  text_kind bool (truth b) e h = absurd cc
  text_kind (unsigned order size) (uint n) e h = number_kind order size n e h
  text_kind (signed order size) (int z) e h = signed_kind order size z e h
  text_kind (float order p) (real own bits) e h = real_kind order p own bits e h
  text_kind (padded encoding n) (phrase s) e h =
      choice_kind (is_utf8 s && not (has_zero s)) (padded_text n (text_body encoding s)) (Err (NotOfShape 0)) e
      (λ k. choice_kind (ltb n (length (text_body encoding s))) (Err (TooLong 0)) (Ok (text_body encoding s ++ replicate (n - length (text_body encoding s)) 0)) e (refused (TooLong 0) e refl) (λ never. absurd cc) k) (refused (NotOfShape 0) e refl) h
  text_kind (string encoding width) (phrase s) e h =
      choice_kind (is_utf8 s) (body_text width (text_body encoding s)) (Err (NotOfShape 0)) e (body_kind width (text_body encoding s) e) (refused (NotOfShape 0) e refl) h
  text_kind (array width max element) (list ds) e h =
      choice_kind (ltb max (count ds)) (Err (TooMany 0)) (each_text (text_of element) ds >>= body_text width) e (refused (TooMany 0) e refl)
      (λ k. then_body width (each_text (text_of element) ds) e (λ bad. each_kind (text_of element) e (λ d x. text_kind element d e x) ds bad) k) h
  text_kind (fixed None n element) (list ds) e h =
      choice_kind (eqb (count ds) n) (each_text (text_of element) ds) (Err (NotOfShape 0)) e
      (λ bad. each_kind (text_of element) e (λ d x. text_kind element d e x) ds bad) (refused (NotOfShape 0) e refl) h
  text_kind (fixed (Some width) n element) (list ds) e h =
      choice_kind (eqb (count ds) n) (each_text (text_of element) ds >>= body_text width) (Err (NotOfShape 0)) e
      (λ k. then_body width (each_text (text_of element) ds) e (λ bad. each_kind (text_of element) e (λ d x. text_kind element d e x) ds bad) k) (refused (NotOfShape 0) e refl) h
  text_kind («struct» None fs) (tuple ds) e h =
      choice_kind (eqb (count ds) (count_forms fs)) (members_text fs ds) (Err (NotOfShape 0)) e (λ bad. members_refused fs ds e bad) (refused (NotOfShape 0) e refl) h
  text_kind («struct» (Some width) fs) (tuple ds) e h =
      choice_kind (eqb (count ds) (count_forms fs)) (members_text fs ds >>= body_text width) (Err (NotOfShape 0)) e
      (λ k. then_body width (members_text fs ds) e (λ bad. members_refused fs ds e bad) k) (refused (NotOfShape 0) e refl) h
  text_kind (union width type vs) nothing e h = absurd cc
  text_kind (union width type vs) (chosen kind d) e h =
      choice_kind (ltb kind (limit_of (size_of type))) (variant_text width type vs kind d) (Err (UnknownVariant 0)) e (λ k. variant_refused width type vs kind d e k) (refused (UnknownVariant 0) e refl) h
  text_kind (tagged width ms) (slotted ss) e h =
      choice_kind (eqb (count_slots ss) (count_members ms)) (slots_text ms ss >>= body_text width) (Err (NotOfShape 0)) e
      (λ k. then_body width (slots_text ms ss) e (λ bad. slots_refused ms ss e bad) k) (refused (NotOfShape 0) e refl) h
  text_kind _ d e h = refused (NotOfShape 0) e refl h

  members_refused : (fs : Forms) (ds : Items) (e : PayloadError) → members_text fs ds ≡ Err e → IsRefusal e
  members_refused (form_then f fs) (item d ds) e h =
      elim (bind_err (text_of f d) (λ a. members_text fs ds >>= λ others. Ok (a ++ others)) e h) [
        | inl bad ↦ text_kind f d e bad
        | inr (a, was, then) ↦ elim (bind_err (members_text fs ds) (λ others. Ok (a ++ others)) e then) [ inl bad ↦ members_refused fs ds e bad | inr (others, good, never) ↦ absurd cc ]
      ]
  members_refused _ ds e h = absurd cc

  variant_refused : (width type : Width) (vs : Variants) (kind : ℕ) (d : Data) (e : PayloadError) → variant_text width type vs kind d ≡ Err e → IsRefusal e
  variant_refused width type no_variants kind d e h = refused (UnknownVariant 0) e refl h
  variant_refused width type (variant n f vs) kind d e h =
      choice_kind (eqb n kind) (chosen_text width type kind (text_of f d)) (variant_text width type vs kind d) e
      (λ k. chosen_kind width type kind (text_of f d) e (λ bad. text_kind f d e bad) k) (λ k. variant_refused width type vs kind d e k) h

  slots_refused : (ms : Members) (ss : Slots) (e : PayloadError) → slots_text ms ss ≡ Err e → IsRefusal e
  slots_refused (member_then id optional f ms) (present d ss) e h =
      elim (bind_err (item_text f id (text_of f d)) (λ a. slots_text ms ss >>= λ others. Ok (a ++ others)) e h) [
        | inl bad ↦ elim (bind_err (text_of f d) (λ bytes. Ok (item_bytes (record { reserved = false; wire_type = wire_type_of f; id = id; bytes = bytes }))) e bad) [ inl first ↦ text_kind f d e first | inr (x, good, never) ↦ absurd cc ]
        | inr (a, was, then) ↦ elim (bind_err (slots_text ms ss) (λ others. Ok (a ++ others)) e then) [ inl bad ↦ slots_refused ms ss e bad | inr (others, good, never) ↦ absurd cc ]
      ]
  slots_refused (member_then id optional f ms) (absent ss) e h =
      elim (bind_err (absent_text optional) (λ a. slots_text ms ss >>= λ others. Ok (a ++ others)) e h) [
        | inl bad ↦ choice_kind optional (Ok []) (Err (NotOfShape 0)) e (λ never. absurd cc) (refused (NotOfShape 0) e refl) bad
        | inr (a, was, then) ↦ elim (bind_err (slots_text ms ss) (λ others. Ok (a ++ others)) e then) [ inl bad ↦ slots_refused ms ss e bad | inr (others, good, never) ↦ absurd cc ]
      ]
  slots_refused _ ss e h = absurd cc

writing_kind : (f : Form) (d : Data) (e : PayloadError) → encoded f d ≡ Err e → IsRefusal e
unfolding encoded
writing_kind f d e h =
    elim (bind_err (checked f) (λ _. text_of f d) e h) [
      | inl first ↦ elim (checked_one f e first) [ inl same ↦ subst IsRefusal same refl | inr same ↦ subst IsRefusal same refl ]
      | inr (x, was, then) ↦ text_kind f d e then
    ]

pub refusals : (f : Form) (d : Data) (old new : List ℕ) (r : Result (Unit {0}) PayloadError) → Appends old new r (encoded f d) → IfErr r IsRefusal
refusals f d old new (Ok x) given = tt
refusals f d old new (Err e) given = by_fails IsRefusal e (encoded f d) tt (writing_kind f d e) given.0
