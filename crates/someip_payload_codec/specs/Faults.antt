-- The first fault from left to right: what stands before it is read, and at it nothing can be.
use Rattle.std.specs.Prelude.{◌≡◌, ◌⊎◌, ℕ, ◌+◌, ◌<◌, ◌≤◌, ◌^◌, ◌==◌, Bool, List, [], ◌++◌, length, take, Some, None, true, false, Err}
use Rattle.std.specs.Int.{byte_len}
use Rattle.someip_payload_values.specs.declared.error.PayloadError.{PayloadError}
use Rattle.someip_payload_values.specs.declared.error.PayloadError.TheVariants as errors
use Rattle.someip_payload_values.specs.declared.error.PayloadError.TheVariants.{BadText, NoTerminator, UnknownVariant, LengthMismatch, TooMany, DuplicateMember, WrongWireType, MissingMember}
use Rattle.someip_payload_values.specs.declared.number.Size.{Size}
use Rattle.someip_payload_values.specs.declared.number.Size.TheVariants.{S16}
use Rattle.someip_payload_values.specs.declared.shape.Width.{Width}
use Rattle.someip_payload_values.specs.declared.shape.Width.TheVariants.{W32}
use Rattle.someip_payload_values.specs.declared.shape.Encoding.{Encoding}
use Rattle.someip_payload_values.specs.declared.tag.WireType.{WireType}
use Rattle.someip_payload_values.specs.declared.tag.WireType.TheVariants.{Basic, OwnLength, Length}
use Rattle.someip_payload_values.specs.Check.{checked}
use Rattle.someip_payload_values.specs.Data.{Form, bool, unsigned, signed, float, string, padded, array, fixed, «struct», union, tagged, named, enumerated, Forms, no_forms, form_then, Variants, no_variants, variant, Members, member_then, Data, Items, Slots, present, absent, count}
use Rattle.someip_payload_codec.specs.View.{View}
use Rattle.someip_payload_values.specs.Floats.{bits_size}
use Rattle.someip_payload_values.specs.Numbers.{width_of, limit_of, size_of, field_len, number, framed}
use Rattle.someip_payload_values.specs.Tags.{TaggedItem, items_bytes, tag_number, own_width, has_wire_type, width_in}
use Rattle.someip_payload_codec.specs.Grammar.{Picks, Each, Reads, SkipsOthers, ReadsItems, has_required}
use Rattle.someip_payload_codec.specs.Texts.{SpellsText, IsTerminated, SpellsPadded, HasTerminator}
use Rattle.someip_payload_codec.specs.Reading.{short_at, skip}

-- the window of a body that stands after a length field at w
abbrev pub body_view : Width → View → List ℕ → View
body_view width w body = record { is_body = true; place = w.place + field_len width; bytes = body }

-- a length field and its whole body are next
abbrev pub HasBody : Width → View → List ℕ → Type 0
HasBody width w body = (length body < limit_of (size_of width)) × (rest : List ℕ) × (w.bytes ≡ framed width body ++ rest)

-- the body is at fault: there is none, or something in it is
abbrev pub FaultInBody : Width → (View → Type 0) → View → PayloadError → Type 0
FaultInBody width In w e =
    (((body : List ℕ) → HasBody width w body → ⊥) × (e ≡ short_at w))
    ⊎ ((body : List ℕ) × HasBody width w body × In (body_view width w body))

-- a body has no terminator, or it has one and spells no text
abbrev pub FaultInText : Encoding → ℕ → PayloadError → View → Type 0
FaultInText encoding place e b =
    ((IsTerminated encoding b.bytes → ⊥) × (e ≡ NoTerminator place))
    ⊎ (IsTerminated encoding b.bytes × ((s : List ℕ) → SpellsText encoding s b.bytes → ⊥) × (e ≡ BadText place))

-- some elements are read, and after them stands one too many, or one that is at fault
abbrev pub FaultInItems : (Data → List ℕ → Type 0) → (View → Type 0) → ℕ → PayloadError → View → Type 0
FaultInItems P In most e w =
    (ds : Items) × (text rest : List ℕ) × (w.bytes ≡ text ++ rest) × Each P ds text × (0 < length rest)
    × (((count ds ≡ most) × (e ≡ TooMany (w.place + length text))) ⊎ ((count ds < most) × In (skip (length text) w)))

-- some of the elements are read, and after them stands one that is at fault
abbrev pub FaultInFixed : (Data → List ℕ → Type 0) → (View → Type 0) → ℕ → View → Type 0
FaultInFixed P In n w =
    (ds : Items) × (text rest : List ℕ) × (w.bytes ≡ text ++ rest) × Each P ds text × (count ds < n) × In (skip (length text) w)

-- so many bytes pass the window, which is `Truncated` of the outermost one and `LengthMismatch` of a body
abbrev pub FaultInNumber : ℕ → View → PayloadError → Type 0
FaultInNumber len w e = (length w.bytes < len) × (e ≡ short_at w)

-- a number of that size is at fault
abbrev pub FaultInSize : Size → View → PayloadError → Type 0
FaultInSize size w e = FaultInNumber (byte_len (width_of size)) w e

-- the front of so many bytes has no terminator, or it has one and spells no text
abbrev pub FaultInPadded : Encoding → ℕ → PayloadError → View → Type 0
FaultInPadded encoding n e w =
    FaultInNumber n w e
    ⊎ ((front : List ℕ) × (rest : List ℕ) × (w.bytes ≡ front ++ rest) × (length front ≡ n)
    × (((HasTerminator encoding front → ⊥) × (e ≡ NoTerminator w.place))
    ⊎ (HasTerminator encoding front × ((s : List ℕ) → SpellsPadded encoding s front → ⊥) × (e ≡ BadText w.place))))

-- a union's length and its type number, of these widths, are next
abbrev pub HasHead : Width → Width → ℕ → ℕ → View → View → Type 0
HasHead width type len kind w v = (len < limit_of (size_of width)) × (kind < limit_of (size_of type)) × (w.bytes ≡ number (size_of width) len ++ (number (size_of type) kind ++ v.bytes)) × (v ≡ skip (field_len width + field_len type) w)

-- the length or the type number of a union passes the window, none has a length, or the variant is at fault
abbrev pub FaultInUnion : Width → Width → (ℕ → ℕ → View → Type 0) → View → PayloadError → Type 0
FaultInUnion width type In w e =
    FaultInSize (size_of width) w e
    ⊎ ((field_len width ≤ length w.bytes) × FaultInNumber (field_len type) (skip (field_len width) w) e)
    ⊎ ((len kind : ℕ) × (v : View) × HasHead width type len kind w v × (((kind ≡ 0) × (0 < len) × (e ≡ LengthMismatch w.place)) ⊎ ((0 < kind) × In kind len v)))

-- an item's tag is next
abbrev pub HasTag : Bool → WireType → ℕ → View → View → Type 0
HasTag reserved t id w v = (id < 2 ^ 12) × (w.bytes ≡ number S16 (tag_number reserved t id) ++ v.bytes) × (v ≡ skip 2 w)

-- the bytes after the tag of an item that is skipped pass the window
abbrev pub FaultInSkipped : WireType → PayloadError → View → Type 0
FaultInSkipped (Basic size) e w = FaultInSize size w e
FaultInSkipped OwnLength e w = FaultInBody W32 (λ body. ⊥) w e
FaultInSkipped (Length width) e w = FaultInBody width (λ body. ⊥) w e

-- the tag of an item passes the window, or there is one, and the item is at fault
abbrev pub FaultInItem : (WireType → ℕ → View → Type 0) → View → PayloadError → Type 0
FaultInItem In w e =
    FaultInNumber 2 w e
    ⊎ ((reserved : Bool) × (t : WireType) × (id : ℕ) × (v : View) × HasTag reserved t id w v × In t id v)

-- some items are read, and the next one is at fault; or all are, and a member is missing
abbrev pub FaultInTagged : Members → (Slots → View → Type 0) → ℕ → PayloadError → View → Type 0
FaultInTagged ms In place e b =
    (items : List TaggedItem) × (ss : Slots) × (rest : List ℕ) × (b.bytes ≡ items_bytes items ++ rest) × ReadsItems ms ss items × SkipsOthers ms items
    × (((rest ≡ []) × (has_required ms ss ≡ false) × (e ≡ MissingMember place)) ⊎ ((0 < length rest) × In ss (skip (length (items_bytes items)) b)))

unfoldable mutual
  -- with a length field of that width, where the form has one
  pub FaultBy : Width → Form → PayloadError → View → Type 0
  FaultBy width (named n f) e w = FaultBy width f e w
  FaultBy width (enumerated f labels) e w = FaultBy width f e w
  FaultBy width bool e w = FaultInNumber 1 w e
  FaultBy width (unsigned order size) e w = FaultInSize size w e
  FaultBy width (signed order size) e w = FaultInSize size w e
  FaultBy width (float order p) e w = FaultInSize (bits_size p) w e
  FaultBy width (padded encoding n) e w = FaultInPadded encoding n e w
  FaultBy width (string encoding own) e w = FaultInBody width (FaultInText encoding w.place e) w e
  FaultBy width (array own most element) e w = FaultInBody width (FaultInItems (Reads element) (FaultBy (own_width element) element e) most e) w e
  FaultBy width (fixed None n element) e w = FaultInFixed (Reads element) (FaultBy (own_width element) element e) n w
  FaultBy width (fixed (Some own) n element) e w = FaultInBody width (FaultInFixed (Reads element) (FaultBy (own_width element) element e) n) w e
  FaultBy width («struct» None fs) e w = FaultInMembers fs e w
  FaultBy width («struct» (Some own) fs) e w = FaultInBody width (FaultInMembers fs e) w e
  FaultBy width (union own type vs) e w = FaultInUnion width type (λ kind len v. FaultInVariant vs (w.place + field_len width) e kind len w v) w e
  FaultBy width (tagged own ms) e w =
      FaultInBody width (FaultInTagged ms (λ ss v. FaultInItem (λ t id u. FaultBehindTag ms ss t id v.place e u) v e) w.place e) w e

  -- the first member is at fault, or it is read and a later one is
  pub FaultInMembers : Forms → PayloadError → View → Type 0
  FaultInMembers no_forms e w = ⊥
  FaultInMembers (form_then f fs) e w =
      FaultBy (own_width f) f e w ⊎ ((d : Data) × (text rest : List ℕ) × (w.bytes ≡ text ++ rest) × Reads f d text × FaultInMembers fs e (skip (length text) w))

  -- no variant has the number, which stands at the place, or the body after it, at v, passes the window or is at fault
  pub FaultInVariant : Variants → ℕ → PayloadError → ℕ → ℕ → View → View → Type 0
  FaultInVariant no_variants place e kind len w v = e ≡ UnknownVariant place
  FaultInVariant (variant n f vs) place e kind len w v =
      Picks (n == kind)
      (((length v.bytes < len) × (e ≡ short_at w)) ⊎ ((len ≤ length v.bytes) × FaultBy (own_width f) f e (record { is_body = true; place = v.place; bytes = take len v.bytes })))
      (FaultInVariant vs place e kind len w v)

  -- the item with this wire type and Data ID, whose tag stands at the place and v after it, is at fault:
  -- its member was there before, has another wire type or is at fault, or it is skipped and does not fit
  pub FaultBehindTag : Members → Slots → WireType → ℕ → ℕ → PayloadError → View → Type 0
  FaultBehindTag (member_then n optional f ms) (present d ss) t id place e v = Picks (n == id) (e ≡ DuplicateMember place) (FaultBehindTag ms ss t id place e v)
  FaultBehindTag (member_then n optional f ms) (absent ss) t id place e v =
      Picks (n == id) (Picks (has_wire_type f t) (FaultBy (width_in t f) f e v) (e ≡ WrongWireType place)) (FaultBehindTag ms ss t id place e v)
  FaultBehindTag _ ss t id place e v = FaultInSkipped t e v

-- the first fault of reading a value of the form
abbrev pub FaultIn : Form → PayloadError → View → Type 0
FaultIn f = FaultBy (own_width f) f

-- the outermost window
abbrev pub whole : List ℕ → View
whole bytes = record { is_body = false; place = 0; bytes = bytes }

-- the fault of a whole input, unless memory ran out
abbrev pub IsFirstFault : Form → List ℕ → PayloadError → Type 0
IsFirstFault f bytes errors.OutOfMemory = Unit {0}
IsFirstFault f bytes e = (checked f ≡ Err e) ⊎ FaultIn f e (whole bytes)

-- a fault that reading may have: the others are of values alone
abbrev pub IsReadingFault : PayloadError → Type 0
IsReadingFault (errors.NotOfShape place) = ⊥
IsReadingFault (errors.TooLong place) = ⊥
IsReadingFault e = Unit {0}
