-- What bytes are read as is a value of the form in its kind.
use Rattle.std.proofs.Common.{◌≡◌, ℕ, ◌<◌, ◌^◌, inl, inr, Bool, true, false, eqb, List, Some, None, refl, sym, ap, arith}
use Rattle.std.specs.Prelude.{ℤ, pos, negsuc}
use Rattle.std.specs.Bool.{MatchBool}
use Rattle.std.specs.Int.RustNames.{FitsSigned}
use Rattle.std.specs.Str.{is_utf8}
use Rattle.std.proofs.lemmas.Str.{is_utf8-from_IsUtf8}
use Rattle.someip_payload_values.specs.declared.shape.Encoding.{Encoding}
use Rattle.someip_payload_values.specs.declared.shape.Encoding.TheVariants.{Utf8, Utf16}
use Rattle.someip_payload_values.specs.declared.number.Size.{Size}
use Rattle.someip_payload_values.specs.declared.number.Size.TheVariants.{S8, S16, S32, S64}
use Rattle.someip_payload_values.specs.declared.shape.Width.{Width}
use Rattle.someip_payload_values.specs.Data.{Form, bool, unsigned, signed, float, string, padded, array, fixed, «struct», union, tagged, named, enumerated, Forms, no_forms, form_then, Variants, no_variants, variant, Members, no_members, member_then, Data, truth, uint, int, real, phrase, list, tuple, nothing, chosen, slotted, Items, no_items, item, Slots, no_slots, present, absent}
use Rattle.someip_payload_values.specs.Numbers.{width_of, limit_of, size_of}
use Rattle.someip_payload_values.specs.Tags.{TaggedItem, own_width, width_in}
use Rattle.someip_payload_codec.specs.Grammar.{Each, Picks, ReadsBy, ReadsMembers, ReadsVariant, ReadsItems}
use Rattle.someip_payload_codec.specs.Texts.{SpellsText, SpellsPadded}
use Rattle.someip_payload.specs.ValueReading.{IsLong, AreOfForm, IsOfForm, AreMembers, IsOfVariant, AreSlots}

-- ---- numbers and texts

long_number : (size : Size) (n : ℕ) → n < limit_of size → n < 2 ^ 64
long_number S8 n small = omega (arith, small)
long_number S16 n small = omega (arith, small)
long_number S32 n small = omega (arith, small)
long_number S64 n small = small

long_signed : (size : Size) (z : ℤ) → FitsSigned (width_of size) z → IsLong z
long_signed S8 (pos n) fits = omega (arith, fits.sfits)
long_signed S16 (pos n) fits = omega (arith, fits.sfits)
long_signed S32 (pos n) fits = omega (arith, fits.sfits)
long_signed S64 (pos n) fits = fits.sfits
long_signed S8 (negsuc n) fits = omega (arith, fits.sfits)
long_signed S16 (negsuc n) fits = omega (arith, fits.sfits)
long_signed S32 (negsuc n) fits = omega (arith, fits.sfits)
long_signed S64 (negsuc n) fits = fits.sfits

long_kind : (width : Width) (n : ℕ) → n < limit_of (size_of width) → n < 2 ^ 64
long_kind width n small = long_number (size_of width) n small

text_spelled : (encoding : Encoding) (s body : List ℕ) → SpellsText encoding s body → is_utf8 s ≡ true
text_spelled Utf8 s body own = is_utf8-from_IsUtf8 s own.0
text_spelled Utf16 s body own = is_utf8-from_IsUtf8 s (own.1, (own.3, sym own.4))

padded_spelled : (encoding : Encoding) (s body : List ℕ) → SpellsPadded encoding s body → is_utf8 s ≡ true
padded_spelled Utf8 s body own = is_utf8-from_IsUtf8 s own.0
padded_spelled Utf16 s body own = is_utf8-from_IsUtf8 s (own.1, (own.3, sym own.5))

-- ---- values

picked : (b : Bool) (P Q A B : Type 0) → (P → A) → (Q → B) → Picks b P Q → MatchBool b A B
picked true P Q A B one other own = one own
picked false P Q A B one other own = other own

each_of : (P : Data → List ℕ → Type 0) (IsOf : Data → Type 0) → ((d : Data) (bytes : List ℕ) → P d bytes → IsOf d) → (ds : Items) (bytes : List ℕ) → Each P ds bytes → AreOfForm IsOf ds
each_of P IsOf one no_items bytes are = tt
each_of P IsOf one (item d ds) bytes (first, others, is, own, later) = (one d first own, each_of P IsOf one ds others later)

mutual
  unfolding ReadsBy ReadsMembers ReadsVariant ReadsItems

  pub of_form : (width : Width) (f : Form) (d : Data) (bytes : List ℕ) → ReadsBy width f d bytes → IsOfForm f d
  of_form width (named n f) d bytes own = of_form width f d bytes own
  of_form width (enumerated f labels) d bytes own = of_form width f d bytes own
  of_form width bool (truth b) bytes own = (b, refl)
  of_form width (unsigned order size) (uint n) bytes (small, is) = (n, refl, long_number size n small)
  of_form width (signed order size) (int z) bytes (fits, is) = (z, refl, long_signed size z fits)
  of_form width (float order p) (real q bits) bytes (same, small, is) = (bits, ap (λ x. real x bits) (sym same), small)
  of_form width (string encoding w) (phrase s) bytes (body, short, is, text) = (s, refl, text_spelled encoding s body text)
  of_form width (padded encoding n) (phrase s) bytes (full, text) = (s, refl, padded_spelled encoding s bytes text)
  of_form width (array w most element) (list ds) bytes (few, (body, short, is, each)) =
      (ds, refl, each_of (ReadsBy (own_width element) element) (IsOfForm element) (of_form (own_width element) element) ds body each)
  of_form width (fixed None n element) (list ds) bytes (full, each) =
      (ds, refl, each_of (ReadsBy (own_width element) element) (IsOfForm element) (of_form (own_width element) element) ds bytes each)
  of_form width (fixed (Some w) n element) (list ds) bytes (full, (body, short, is, (front, more, parts, each))) =
      (ds, refl, each_of (ReadsBy (own_width element) element) (IsOfForm element) (of_form (own_width element) element) ds front each)
  of_form width («struct» None fs) (tuple ds) bytes own = (ds, refl, of_members fs ds bytes own)
  of_form width («struct» (Some w) fs) (tuple ds) bytes (body, short, is, (front, more, parts, own)) = (ds, refl, of_members fs ds front own)
  of_form width (union w type vs) nothing bytes own = inl refl
  of_form width (union w type vs) (chosen kind d) bytes (some, below, (body, short, is, (front, more, parts, own))) =
      inr (kind, d, refl, long_kind type kind below, of_variant vs kind d front own)
  of_form width (tagged w ms) (slotted ss) bytes ((body, short, is, (items, all, own, skips)), required) = (ss, refl, of_slots ms ss items own)
  of_form width _ _ bytes own = absurd own

  of_members : (fs : Forms) (ds : Items) (bytes : List ℕ) → ReadsMembers fs ds bytes → AreMembers fs ds
  of_members no_forms no_items bytes own = tt
  of_members (form_then f fs) (item d ds) bytes (first, others, is, own, later) = (of_form (own_width f) f d first own, of_members fs ds others later)
  of_members _ _ bytes own = absurd own

  of_variant : (vs : Variants) (kind : ℕ) (d : Data) (bytes : List ℕ) → ReadsVariant vs kind d bytes → IsOfVariant vs kind d
  of_variant no_variants kind d bytes own = absurd own
  of_variant (variant n f vs) kind d bytes own = picked (eqb n kind) (ReadsBy (own_width f) f d bytes) (ReadsVariant vs kind d bytes) (IsOfForm f d) (IsOfVariant vs kind d) (of_form (own_width f) f d bytes) (of_variant vs kind d bytes) own

  of_slots : (ms : Members) (ss : Slots) (items : List TaggedItem) → ReadsItems ms ss items → AreSlots ms ss
  of_slots no_members no_slots items own = tt
  of_slots (member_then id optional f ms) (present d ss) items (i, only, known, own, later) = (of_form (width_in i.wire_type f) f d i.bytes own, of_slots ms ss items later)
  of_slots (member_then id optional f ms) (absent ss) items (gone, later) = of_slots ms ss items later
  of_slots _ _ items own = absurd own
