use Rattle.std.proofs.Common.{rules, ℕ, Bool as Bit, List, IsTrue, drop, ◌≡◌, ◌+◌, ◌-◌, ◌<◌, ◌≤◌, ◌^◌, false, ◌++◌, ◌∷◌, length, slice_range, codes, string_bytes, Global, refl, sym, ap, ◌∙◌, arith}
use Rattle.std.specs.Option.{option_map}
use Rattle.std.proofs.lemmas.Bool.{false≢true}
use Rattle.std.proofs.lemmas.List.{length-append}
use Rattle.someip_payload_values.specs.declared.shape.Shape.{Bool}
use Rattle.someip_payload_values.specs.Data.{bool, named}
use Rattle.someip_payload_values.specs.Check.{depth}
use Rattle.someip_payload_values.specs.View.{form, all_variants}
use Rattle.someip_payload.specs.ShapeText.{tagged_member_text, name_text, with_name, repeated_text, width_text, widths_text, bool_text, float_text}
use Rattle.someip_payload.specs.Words.{float_word, float_form, word_text}
use Rattle.someip_payload.proofs.Converse.{NoSign, by_word, by_reference, float_is, plain, word_there, not_read, passed_on, memory_of}
use Rattle.someip_payload.proofs.Places.{behind_piece}
use Rattle.someip_payload.proofs.ConverseParts.{inner, array_is, fixed_is, struct_is, union_is, tagged_is, stops_repeated, stops_bracket, stops_end, no_digit_comma, after_width, after_widths, after_open, after_count, after_comma, length-repeated, after_bracket, within_more, float_depth, union_depth}
use Rattle.someip_payload.proofs.MemberTexts.{tagged_parts, depth-with_name, with_colon, without_colon, byte_and_rest}
use Rattle.someip_payload_values.proofs.Shapes.{form-Bool, form-Array, form-Struct, form-Tagged, some_depth}
use Rattle.someip_payload.proofs.ShapePieces.{plain_shape, behind_word, array_shape, fixed_shape, struct_shape, union_shape, tagged_shape, repeated_piece, named_shape, plain_member, tagged_shape_found, tagged_depth, one_member-made}
use Rattle.someip_payload.proofs.TaggedMembers.{tagged_there, tagged_first, number_read, after_number, after_mark, member_piece, variant_piece}
use Rattle.someip_payload.proofs.Members.{members, variants, tagged_members}
use Rattle.someip_payload.proofs.OneAfterOther.{none_read, not_one, one_more, all_found, all_within, all_only, no_bracket}
use Rattle.someip_payload.proofs.shape_text.+shape.Goals as goal

-- ---- what was read is the text of a shape

pub shape_at-returns-in-Bool-clause-found : goal.shape_at-returns-in-Bool-clause-found
shape_at-returns-in-Bool-clause-found t c = plain_shape Bool bool _ _ form-Bool bool_text (c.in_ok-word.ensures.found ∙ ap word_text c.in-Bool.is)

pub shape_at-returns-in-Integer-clause-found : goal.shape_at-returns-in-Integer-clause-found
shape_at-returns-in-Integer-clause-found t c = behind_word c.args.names.now c.integer_at.result _ _ _ _ _ c.in-Integer.is c.in_ok-word.ensures.end.0 c.in_ok-word.ensures.found c.integer_at.ensures.end (c.integer_at.ensures.found c.args.names.now)

pub shape_at-returns-in-Float-clause-found : goal.shape_at-returns-in-Float-clause-found
shape_at-returns-in-Float-clause-found t c =
    let x = c.in-Float.float in
    plain_shape c.float_shape.result (float_form x) (float_word x) _ c.float_shape.ensures (float_text (float_form x) (float_word x) (float_is x)) (c.in_ok-word.ensures.found ∙ ap word_text c.in-Float.is)

pub shape_at-returns-in-Text-clause-found : goal.shape_at-returns-in-Text-clause-found
shape_at-returns-in-Text-clause-found t c = behind_word c.args.names.now c.string_at.result _ _ _ _ _ c.in-Text.is c.in_ok-word.ensures.end.0 c.in_ok-word.ensures.found c.string_at.ensures.end (c.string_at.ensures.found c.args.names.now)

pub shape_at-returns-in-FixedText-clause-found : goal.shape_at-returns-in-FixedText-clause-found
shape_at-returns-in-FixedText-clause-found t c = behind_word c.args.names.now c.padded_at.result _ _ _ _ _ c.in-FixedText.is c.in_ok-word.ensures.end.0 c.in_ok-word.ensures.found c.padded_at.ensures.end (c.padded_at.ensures.found c.args.names.now)

pub shape_at-returns-in-Array-clause-found : goal.shape_at-returns-in-Array-clause-found
shape_at-returns-in-Array-clause-found t c = behind_word c.args.names.now c.array_at.result _ _ _ _ _ c.in-Array.is c.in_ok-word.ensures.end.0 c.in_ok-word.ensures.found c.array_at.ensures.end c.array_at.ensures.found

pub shape_at-returns-in-Fixed-clause-found : goal.shape_at-returns-in-Fixed-clause-found
shape_at-returns-in-Fixed-clause-found t c = behind_word c.args.names.now c.fixed_at.result _ _ _ _ _ c.in-Fixed.is c.in_ok-word.ensures.end.0 c.in_ok-word.ensures.found c.fixed_at.ensures.end c.fixed_at.ensures.found

pub shape_at-returns-in-Struct-clause-found : goal.shape_at-returns-in-Struct-clause-found
shape_at-returns-in-Struct-clause-found t c = behind_word c.args.names.now c.struct_at.result _ _ _ _ _ c.in-Struct.is c.in_ok-word.ensures.end.0 c.in_ok-word.ensures.found c.struct_at.ensures.end c.struct_at.ensures.found

pub shape_at-returns-in-Union-clause-found : goal.shape_at-returns-in-Union-clause-found
shape_at-returns-in-Union-clause-found t c = behind_word c.args.names.now c.union_at.result _ _ _ _ _ c.in-Union.is c.in_ok-word.ensures.end.0 c.in_ok-word.ensures.found c.union_at.ensures.end c.union_at.ensures.found

pub shape_at-returns-in-Tagged-clause-found : goal.shape_at-returns-in-Tagged-clause-found
shape_at-returns-in-Tagged-clause-found t c = behind_word c.args.names.now c.tagged_at.result _ _ _ _ _ c.in-Tagged.is c.in_ok-word.ensures.end.0 c.in_ok-word.ensures.found c.tagged_at.ensures.end c.tagged_at.ensures.found

pub array_at-returns-clause-found : goal.array_at-returns-clause-found
array_at-returns-clause-found t c =
    let whole = c.in_ok-max.ensures.found in
    array_shape c.in_ok-width.width _ _ _ _ whole.0 _ _ _ c.in_ok-width.ensures.end.0 c.in_ok-max.ensures.end.0 c.or_32.ensures c.in_ok-width.ensures.found whole.1 whole.2 whole.3

pub fixed_at-returns-clause-found : goal.fixed_at-returns-clause-found
fixed_at-returns-clause-found t c =
    let whole = c.in_ok-count.ensures.found in
    fixed_shape c.in_ok-width.width _ _ _ _ whole.0 _ _ _ c.in_ok-width.ensures.end.0 c.in_ok-count.ensures.end.0 c.fixed_shape.ensures c.in_ok-width.ensures.found whole.1 whole.2 whole.3

pub repeated_at-returns-clause-found : goal.repeated_at-returns-clause-found
repeated_at-returns-clause-found t c =
    let from : c.in_ok-from.from ≡ c.args.at + 1 = c.in_ok-from.ensures.end.0 in
    let comma : c.in_ok-from.from < c.in_ok-number.comma = c.in_ok-number.ensures.end.0 in
    let first : c.in_ok-first.first ≡ c.in_ok-number.comma + 1 = c.in_ok-first.ensures.end.0 in
    let last : c.in_ok-first.first ≤ c.in_ok-element.last = omega (arith, c.in_ok-element.ensures.end.0) in
    let end : c.in_ok-end.end ≡ c.in_ok-element.last + 1 = c.in_ok-end.ensures.end.0 in (
      slice_range c.args.text.now c.in_ok-first.first c.in_ok-element.last,
      rw c.in_ok-new.ensures.ok c.in_ok-element.ensures.found,
      repeated_piece _ _ _ _ _ _ _ _ (omega arith) (omega arith) (omega arith) last (omega arith)
          c.in_ok-from.ensures.found c.in_ok-number.ensures.found c.in_ok-first.ensures.found c.in_ok-end.ensures.found,
      c.in_ok-number.ensures.fits,
    )

pub struct_at-returns-clause-found : goal.struct_at-returns-clause-found
struct_at-returns-clause-found t c =
    let whole = c.in_ok-members.ensures.found in
    let first : c.in_ok-first.first ≡ c.in_ok-width.from + 1 = c.in_ok-first.ensures.end.0 in
    struct_shape c.in_ok-width.width _ _ whole.0 _ _ _ _ c.in_ok-width.ensures.end.0 (omega arith) c.in_ok-members.ensures.end.0
    c.in_ok-width.ensures.found c.in_ok-first.ensures.found whole.1 whole.2

pub union_at-returns-clause-found : goal.union_at-returns-clause-found
union_at-returns-clause-found t c =
    let whole = c.in_ok-variants.ensures.found in
    let first : c.in_ok-first.first ≡ c.in_ok-widths.from + 1 = c.in_ok-first.ensures.end.0 in
    union_shape c.in_ok-widths.widths _ _ _ whole.0 _ _ _ _ c.in_ok-widths.ensures.end.0 (omega arith) c.in_ok-variants.ensures.end.0 c.union_shape.ensures
    c.in_ok-widths.ensures.found c.in_ok-first.ensures.found whole.1 whole.2

pub tagged_at-returns-clause-found : goal.tagged_at-returns-clause-found
tagged_at-returns-clause-found t c =
    let whole = c.in_ok-members.ensures.found in
    let first : c.in_ok-first.first ≡ c.in_ok-width.from + 1 = c.in_ok-first.ensures.end.0 in
    tagged_shape c.in_ok-width.width _ _ _ whole.0 _ _ _ _ c.in_ok-width.ensures.end.0 (omega arith) c.in_ok-members.ensures.end.0 c.or_32.ensures
    c.in_ok-width.ensures.found c.in_ok-first.ensures.found whole.1 whole.2

pub variant_at-returns-clause-found : goal.variant_at-returns-clause-found
variant_at-returns-clause-found t c =
    let first : c.in_ok-first.first ≡ c.in_ok-number.colon + 1 = c.in_ok-first.ensures.end.0 in
    let number : c.args.at < c.in_ok-number.colon = c.in_ok-number.ensures.end.0 in
    let behind : c.in_ok-first.first ≤ c.in_ok-shape.end = omega (arith, c.in_ok-shape.ensures.end.0) in
    let piece = variant_piece c.args.text.now c.in_ok-number.number c.args.at c.in_ok-number.colon c.in_ok-first.first c.in_ok-shape.end (omega arith) (omega arith) behind c.in_ok-number.ensures.found c.in_ok-first.ensures.found in
    (slice_range c.args.text.now c.in_ok-first.first c.in_ok-shape.end, c.in_ok-number.ensures.fits, c.in_ok-shape.ensures.found, piece)

pub tagged_member_at-returns-clause-found : goal.tagged_member_at-returns-clause-found
tagged_member_at-returns-clause-found t c =
    let first : c.in_ok-first.first ≡ c.mark_at-is_optional.result.1 + 1 = c.in_ok-first.ensures.end.0 in
    let number : c.in_ok-name.from < c.in_ok-number.behind = c.in_ok-number.ensures.end.0 in
    let mark : c.in_ok-number.behind ≤ c.mark_at-is_optional.result.1 = c.mark_at-is_optional.ensures.end.0 in
    let behind : c.in_ok-first.first ≤ c.in_ok-shape.end = omega (arith, c.in_ok-shape.ensures.end.0) in
    let piece = member_piece c.args.text.now c.in_ok-number.number c.mark_at-is_optional.result.0 c.in_ok-name.from c.in_ok-number.behind c.mark_at-is_optional.result.1 c.in_ok-first.first c.in_ok-shape.end
    (omega arith) mark (omega arith) behind c.in_ok-number.ensures.found c.mark_at-is_optional.ensures.found c.in_ok-first.ensures.found in
    tagged_shape_found c.in_ok-number.number c.mark_at-is_optional.result.0 c.in_ok-named.named (option_map string_bytes c.in_ok-name.name) (form c.in_ok-shape.shape) c.args.text.now
    (slice_range c.args.text.now c.in_ok-first.first c.in_ok-shape.end) c.args.at c.in_ok-name.from c.in_ok-shape.end c.in_ok-name.ensures.end.0 (omega arith) c.in_ok-named.ensures.named
    c.in_ok-name.ensures.found.0 c.in_ok-name.ensures.found.1 c.in_ok-number.ensures.fits c.in_ok-shape.ensures.found piece

pub named_at-returns-clause-found : goal.named_at-returns-clause-found
named_at-returns-clause-found t c =
    let first : c.in_ok-name.first ≡ c.args.name_end + 1 = c.in_ok-name.ensures.end.0 in
    let behind : c.in_ok-name.first ≤ c.in_ok-shape.end = omega (arith, c.in_ok-shape.ensures.end.0) in
    named_shape (string_bytes c.in_ok-name.name) (form c.in_ok-shape.shape) _ c.args.text.now c.args.at c.args.name_end c.in_ok-name.first c.in_ok-shape.end
    (omega (arith, c.requires.place.0)) (omega arith) behind c.in_ok-with_name.ensures.named c.in_ok-name.ensures.found c.requires.name c.in_ok-name.ensures.colon c.in_ok-shape.ensures.found

pub members_at-returns-else-has_byte-clause-found : goal.members_at-returns-else-has_byte-clause-found
members_at-returns-else-has_byte-clause-found t c =
    all_found (members c.args.names.now) c.loop-items.invariant c.in_ok-item.item c.in_ok-item.end _ (search rules) c.in_ok-end.end c.in_ok-item.ensures.end.0 c.in_ok-item.ensures.found c.in_ok-end.ensures.end.0 c.in_ok-end.ensures.found

pub variants_at-returns-else-has_byte-clause-found : goal.variants_at-returns-else-has_byte-clause-found
variants_at-returns-else-has_byte-clause-found t c =
    all_found (variants c.args.names.now) c.loop-items.invariant c.in_ok-item.item c.in_ok-item.end _ (search rules) c.in_ok-end.end c.in_ok-item.ensures.end.0 c.in_ok-item.ensures.found c.in_ok-end.ensures.end.0 c.in_ok-end.ensures.found

pub tagged_members_at-returns-else-has_byte-clause-found : goal.tagged_members_at-returns-else-has_byte-clause-found
tagged_members_at-returns-else-has_byte-clause-found t c =
    all_found (tagged_members c.args.names.now) c.loop-items.invariant c.in_ok-item.item c.in_ok-item.end _ (search rules) c.in_ok-end.end c.in_ok-item.ensures.end.0 c.in_ok-item.ensures.found c.in_ok-end.ensures.end.0 c.in_ok-end.ensures.found

-- ---- how deep it lies

pub shape_at-returns-in-Integer-clause-within : goal.shape_at-returns-in-Integer-clause-within
shape_at-returns-in-Integer-clause-within t c = within_more c.integer_at.result 1 c.args.left (omega (arith, c.if-left-eq0.false)) c.integer_at.ensures.within

pub shape_at-returns-in-Float-clause-within : goal.shape_at-returns-in-Float-clause-within
shape_at-returns-in-Float-clause-within t c =
    let one : depth (form c.float_shape.result) ≡ 1 = ap depth c.float_shape.ensures ∙ float_depth c.in-Float.float in
    omega (arith, one, c.if-left-eq0.false)

pub shape_at-returns-in-Text-clause-within : goal.shape_at-returns-in-Text-clause-within
shape_at-returns-in-Text-clause-within t c = within_more c.string_at.result 1 c.args.left (omega (arith, c.if-left-eq0.false)) c.string_at.ensures.within

pub shape_at-returns-in-FixedText-clause-within : goal.shape_at-returns-in-FixedText-clause-within
shape_at-returns-in-FixedText-clause-within t c = within_more c.padded_at.result 1 c.args.left (omega (arith, c.if-left-eq0.false)) c.padded_at.ensures.within

pub shape_at-returns-in-Array-clause-within : goal.shape_at-returns-in-Array-clause-within
shape_at-returns-in-Array-clause-within t c = within_more c.array_at.result (c.args.left - 1 + 1) c.args.left (omega (arith, c.if-left-eq0.false)) c.array_at.ensures.within

pub shape_at-returns-in-Fixed-clause-within : goal.shape_at-returns-in-Fixed-clause-within
shape_at-returns-in-Fixed-clause-within t c = within_more c.fixed_at.result (c.args.left - 1 + 1) c.args.left (omega (arith, c.if-left-eq0.false)) c.fixed_at.ensures.within

pub shape_at-returns-in-Struct-clause-within : goal.shape_at-returns-in-Struct-clause-within
shape_at-returns-in-Struct-clause-within t c = within_more c.struct_at.result (c.args.left - 1 + 1) c.args.left (omega (arith, c.if-left-eq0.false)) c.struct_at.ensures.within

pub shape_at-returns-in-Union-clause-within : goal.shape_at-returns-in-Union-clause-within
shape_at-returns-in-Union-clause-within t c = within_more c.union_at.result (c.args.left - 1 + 1) c.args.left (omega (arith, c.if-left-eq0.false)) c.union_at.ensures.within

pub shape_at-returns-in-Tagged-clause-within : goal.shape_at-returns-in-Tagged-clause-within
shape_at-returns-in-Tagged-clause-within t c = within_more c.tagged_at.result (c.args.left - 1 + 1) c.args.left (omega (arith, c.if-left-eq0.false)) c.tagged_at.ensures.within

pub array_at-returns-clause-within : goal.array_at-returns-clause-within
array_at-returns-clause-within t c = rw (form-Array c.or_32.result c.in_ok-max.max c.in_ok-max.element) (omega (arith, c.in_ok-max.ensures.within))

pub fixed_at-returns-clause-within : goal.fixed_at-returns-clause-within
fixed_at-returns-clause-within t c = rw c.fixed_shape.ensures (omega (arith, c.in_ok-count.ensures.within))

pub struct_at-returns-clause-within : goal.struct_at-returns-clause-within
struct_at-returns-clause-within t c = rw (form-Struct c.in_ok-width.width c.in_ok-members.members) (omega (arith, c.in_ok-members.ensures.within))

pub union_at-returns-clause-within : goal.union_at-returns-clause-within
union_at-returns-clause-within t c =
    rw c.union_shape.ensures (omega (arith, union_depth c.in_ok-widths.widths (all_variants c.in_ok-variants.variants.items), c.in_ok-variants.ensures.within))

pub tagged_member_at-returns-clause-within : goal.tagged_member_at-returns-clause-within
tagged_member_at-returns-clause-within t c =
    tagged_depth c.in_ok-number.number c.mark_at-is_optional.result.0 c.in_ok-named.named (option_map string_bytes c.in_ok-name.name) (form c.in_ok-shape.shape) c.args.left c.in_ok-named.ensures.named c.in_ok-shape.ensures.within

pub tagged_at-returns-clause-within : goal.tagged_at-returns-clause-within
tagged_at-returns-clause-within t c = rw (form-Tagged c.or_32.result c.in_ok-members.members) (omega (arith, c.in_ok-members.ensures.within))

pub repeated_at-returns-clause-within : goal.repeated_at-returns-clause-within
repeated_at-returns-clause-within t c = rw c.in_ok-new.ensures.ok c.in_ok-element.ensures.within

pub members_at-returns-else-has_byte-clause-within : goal.members_at-returns-else-has_byte-clause-within
members_at-returns-else-has_byte-clause-within t c = all_within (members c.args.names.now) c.loop-items.invariant c.in_ok-item.item c.in_ok-item.end _ (search rules) c.in_ok-item.ensures.within

pub variants_at-returns-else-has_byte-clause-within : goal.variants_at-returns-else-has_byte-clause-within
variants_at-returns-else-has_byte-clause-within t c = all_within (variants c.args.names.now) c.loop-items.invariant c.in_ok-item.item c.in_ok-item.end _ (search rules) c.in_ok-item.ensures.within

pub tagged_members_at-returns-else-has_byte-clause-within : goal.tagged_members_at-returns-else-has_byte-clause-within
tagged_members_at-returns-else-has_byte-clause-within t c = all_within (tagged_members c.args.names.now) c.loop-items.invariant c.in_ok-item.item c.in_ok-item.end _ (search rules) c.in_ok-item.ensures.within

-- ---- each text of a shape is read

no_sign : (text : List ℕ) (at : ℕ) (there : Bit) → there ≡ false → ((rest : List ℕ) → drop at text ≡ 64 ∷ rest → IsTrue there) → NoSign text at
no_sign text at there none only tail sign = false≢true (sym none ∙ only tail sign)

pub shape_at-returns-then-has_byte-clause-only : goal.shape_at-returns-then-has_byte-clause-only
shape_at-returns-then-has_byte-clause-only t c =
    let sign = c.has_byte.ensures.there c.if-has_byte.true in
    by_reference c.args.names.now c.args.text.now (drop (c.args.at + 1) c.args.text.now) c.args.at c.args.left c.reference_at.result (byte_and_rest c.args.text.now c.args.at 64 sign.0 sign.1) c.reference_at.ensures.only

pub shape_at-returns-then-left-eq0-clause-only : goal.shape_at-returns-then-left-eq0-clause-only
shape_at-returns-then-left-eq0-clause-only t c = λ f front rest is is_text deep stops. absurd (omega (arith, deep, some_depth f, c.if-left-eq0.true))

pub shape_at-returns-in_err-word-clause-only : goal.shape_at-returns-in_err-word-clause-only
shape_at-returns-in_err-word-clause-only t c = λ f front rest is is_text deep stops.
    let there = word_there c.args.names.now c.args.text.now front rest c.args.at f (no_sign c.args.text.now c.args.at _ c.if-has_byte.false c.has_byte.ensures.only) is is_text stops in
    let bad = c.in_err-word.ensures.only there.0 there.1 there.2 there.3 in
    absurd (not_read _ _ bad)

pub shape_at-returns-in-Bool-clause-only : goal.shape_at-returns-in-Bool-clause-only
shape_at-returns-in-Bool-clause-only t c = plain c.args.names.now _ _ _ _ _ _ Bool bool (no_sign c.args.text.now c.args.at _ c.if-has_byte.false c.has_byte.ensures.only) c.in-Bool.is form-Bool (λ f back behind. behind) c.in_ok-word.ensures.only

pub shape_at-returns-in-Integer-clause-only : goal.shape_at-returns-in-Integer-clause-only
shape_at-returns-in-Integer-clause-only t c = by_word c.args.names.now _ _ _ _ _ _ _ (no_sign c.args.text.now c.args.at _ c.if-has_byte.false c.has_byte.ensures.only) c.in-Integer.is c.in_ok-word.ensures.only (λ f back rest there behind deep stops. c.integer_at.ensures.only f back rest there behind stops)

pub shape_at-returns-in-Float-clause-only : goal.shape_at-returns-in-Float-clause-only
shape_at-returns-in-Float-clause-only t c =
    plain c.args.names.now _ _ _ _ _ _ c.float_shape.result (float_form c.in-Float.float) (no_sign c.args.text.now c.args.at _ c.if-has_byte.false c.has_byte.ensures.only) c.in-Float.is c.float_shape.ensures (λ f back behind. behind) c.in_ok-word.ensures.only

pub shape_at-returns-in-Text-clause-only : goal.shape_at-returns-in-Text-clause-only
shape_at-returns-in-Text-clause-only t c = by_word c.args.names.now _ _ _ _ _ _ _ (no_sign c.args.text.now c.args.at _ c.if-has_byte.false c.has_byte.ensures.only) c.in-Text.is c.in_ok-word.ensures.only (λ f back rest there behind deep stops. c.string_at.ensures.only f back rest there behind stops)

pub shape_at-returns-in-FixedText-clause-only : goal.shape_at-returns-in-FixedText-clause-only
shape_at-returns-in-FixedText-clause-only t c = by_word c.args.names.now _ _ _ _ _ _ _ (no_sign c.args.text.now c.args.at _ c.if-has_byte.false c.has_byte.ensures.only) c.in-FixedText.is c.in_ok-word.ensures.only (λ f back rest there behind deep stops. c.padded_at.ensures.only f back rest there behind)

pub shape_at-returns-in-Array-clause-only : goal.shape_at-returns-in-Array-clause-only
shape_at-returns-in-Array-clause-only t c = inner c.args.names.now _ _ _ _ _ _ c.array_at.result (no_sign c.args.text.now c.args.at _ c.if-has_byte.false c.has_byte.ensures.only) c.in-Array.is c.in_ok-word.ensures.only c.array_at.ensures.only

pub shape_at-returns-in-Fixed-clause-only : goal.shape_at-returns-in-Fixed-clause-only
shape_at-returns-in-Fixed-clause-only t c = inner c.args.names.now _ _ _ _ _ _ c.fixed_at.result (no_sign c.args.text.now c.args.at _ c.if-has_byte.false c.has_byte.ensures.only) c.in-Fixed.is c.in_ok-word.ensures.only c.fixed_at.ensures.only

pub shape_at-returns-in-Struct-clause-only : goal.shape_at-returns-in-Struct-clause-only
shape_at-returns-in-Struct-clause-only t c = inner c.args.names.now _ _ _ _ _ _ c.struct_at.result (no_sign c.args.text.now c.args.at _ c.if-has_byte.false c.has_byte.ensures.only) c.in-Struct.is c.in_ok-word.ensures.only c.struct_at.ensures.only

pub shape_at-returns-in-Union-clause-only : goal.shape_at-returns-in-Union-clause-only
shape_at-returns-in-Union-clause-only t c = inner c.args.names.now _ _ _ _ _ _ c.union_at.result (no_sign c.args.text.now c.args.at _ c.if-has_byte.false c.has_byte.ensures.only) c.in-Union.is c.in_ok-word.ensures.only c.union_at.ensures.only

pub shape_at-returns-in-Tagged-clause-only : goal.shape_at-returns-in-Tagged-clause-only
shape_at-returns-in-Tagged-clause-only t c = inner c.args.names.now _ _ _ _ _ _ c.tagged_at.result (no_sign c.args.text.now c.args.at _ c.if-has_byte.false c.has_byte.ensures.only) c.in-Tagged.is c.in_ok-word.ensures.only c.tagged_at.ensures.only

pub array_at-returns-in_err-max-clause-only : goal.array_at-returns-in_err-max-clause-only
array_at-returns-in_err-max-clause-only t c = λ f back rest is behind deep.
    let here = after_width c.args.text.now back rest _ _ _ _ behind.0 is behind.7 (stops_repeated behind.1 behind.3 rest) c.in_ok-width.ensures.only in
    let inner : depth behind.2 ≤ c.args.left = omega (arith, deep, ap depth behind.6) in
    rw (passed_on _ _ c.from_residual-in_err-max.ensures.1) (c.in_err-max.ensures.only behind.1 behind.2 behind.3 rest here.2 behind.4 behind.5 inner)

pub array_at-returns-clause-only : goal.array_at-returns-clause-only
array_at-returns-clause-only t c = λ f back rest is behind deep.
    let here = after_width c.args.text.now back rest _ _ _ _ behind.0 is behind.7 (stops_repeated behind.1 behind.3 rest) c.in_ok-width.ensures.only in
    let inner : depth behind.2 ≤ c.args.left = omega (arith, deep, ap depth behind.6) in
    let repeated = c.in_ok-max.ensures.only behind.1 behind.2 behind.3 rest here.2 behind.4 behind.5 inner in (
      array_is c.in_ok-width.width behind.0 _ _ behind.1 c.in_ok-max.element f behind.2 c.or_32.ensures here.0 repeated.0 repeated.1 behind.6,
      omega (arith, repeated.2, here.1, ap length behind.7, length-append (width_text behind.0) (repeated_text behind.1 behind.3)),
    )

pub fixed_at-returns-in_err-count-clause-only : goal.fixed_at-returns-in_err-count-clause-only
fixed_at-returns-in_err-count-clause-only t c = λ f back rest is behind deep.
    let here = after_width c.args.text.now back rest _ _ _ _ behind.0 is behind.7 (stops_repeated behind.1 behind.3 rest) c.in_ok-width.ensures.only in
    let inner : depth behind.2 ≤ c.args.left = omega (arith, deep, ap depth behind.6) in
    rw (passed_on _ _ c.from_residual-in_err-count.ensures.1) (c.in_err-count.ensures.only behind.1 behind.2 behind.3 rest here.2 behind.4 behind.5 inner)

pub fixed_at-returns-clause-only : goal.fixed_at-returns-clause-only
fixed_at-returns-clause-only t c = λ f back rest is behind deep.
    let here = after_width c.args.text.now back rest _ _ _ _ behind.0 is behind.7 (stops_repeated behind.1 behind.3 rest) c.in_ok-width.ensures.only in
    let inner : depth behind.2 ≤ c.args.left = omega (arith, deep, ap depth behind.6) in
    let repeated = c.in_ok-count.ensures.only behind.1 behind.2 behind.3 rest here.2 behind.4 behind.5 inner in (
      c.fixed_shape.ensures ∙ fixed_is c.in_ok-width.width behind.0 _ behind.1 f _ behind.2 here.0 repeated.0 repeated.1 behind.6,
      omega (arith, repeated.2, here.1, ap length behind.7, length-append (width_text behind.0) (repeated_text behind.1 behind.3)),
    )

pub repeated_at-returns-in_err-number-clause-only : goal.repeated_at-returns-in_err-number-clause-only
repeated_at-returns-in_err-number-clause-only t c = λ n f element rest is small is_text deep.
    let here = after_open c.args.text.now element rest n c.args.at c.in_ok-from.from is c.in_ok-from.ensures.end.0 in
    absurd (not_read _ _ (c.in_err-number.ensures.only n 44 _ here small no_digit_comma))

pub repeated_at-returns-in_err-first-clause-only : goal.repeated_at-returns-in_err-first-clause-only
repeated_at-returns-in_err-first-clause-only t c = λ n f element rest is small is_text deep.
    let here = after_count c.args.text.now element rest n c.args.at c.in_ok-from.from _ c.in_ok-number.comma is c.in_ok-from.ensures.end.0 small c.in_ok-number.ensures.only in
    absurd (not_read _ _ (c.in_err-first.ensures.only _ here.2))

pub repeated_at-returns-in_err-element-clause-only : goal.repeated_at-returns-in_err-element-clause-only
repeated_at-returns-in_err-element-clause-only t c = λ n f element rest is small is_text deep.
    let here = after_count c.args.text.now element rest n c.args.at c.in_ok-from.from _ c.in_ok-number.comma is c.in_ok-from.ensures.end.0 small c.in_ok-number.ensures.only in
    let inside = after_comma c.args.text.now element rest c.in_ok-number.comma c.in_ok-first.first here.2 c.in_ok-first.ensures.end.0 in
    rw (passed_on _ _ c.from_residual-in_err-element.ensures.1) (c.in_err-element.ensures.only f element (codes ">" ++ rest) inside is_text deep (stops_end rest))

pub repeated_at-returns-in_err-end-clause-only : goal.repeated_at-returns-in_err-end-clause-only
repeated_at-returns-in_err-end-clause-only t c = λ n f element rest is small is_text deep.
    let here = after_count c.args.text.now element rest n c.args.at c.in_ok-from.from _ c.in_ok-number.comma is c.in_ok-from.ensures.end.0 small c.in_ok-number.ensures.only in
    let inside = after_comma c.args.text.now element rest c.in_ok-number.comma c.in_ok-first.first here.2 c.in_ok-first.ensures.end.0 in
    let read = c.in_ok-element.ensures.only f element (codes ">" ++ rest) inside is_text deep (stops_end rest) in
    absurd (not_read _ _ (c.in_err-end.ensures.only rest (behind_piece c.args.text.now element _ c.in_ok-first.first c.in_ok-element.last inside read.1)))

pub repeated_at-returns-clause-only : goal.repeated_at-returns-clause-only
repeated_at-returns-clause-only t c = λ n f element rest is small is_text deep.
    let here = after_count c.args.text.now element rest n c.args.at c.in_ok-from.from _ c.in_ok-number.comma is c.in_ok-from.ensures.end.0 small c.in_ok-number.ensures.only in
    let inside = after_comma c.args.text.now element rest c.in_ok-number.comma c.in_ok-first.first here.2 c.in_ok-first.ensures.end.0 in
    let read = c.in_ok-element.ensures.only f element (codes ">" ++ rest) inside is_text deep (stops_end rest) in (
      here.0,
      rw c.in_ok-new.ensures.ok read.0,
      omega (arith, c.in_ok-from.ensures.end.0, here.1, c.in_ok-first.ensures.end.0, read.1, c.in_ok-end.ensures.end.0, length-repeated n element),
    )

pub struct_at-returns-in_err-first-clause-only : goal.struct_at-returns-in_err-first-clause-only
struct_at-returns-in_err-first-clause-only t c = λ f back rest is behind deep.
    let here = after_width c.args.text.now back rest _ _ _ _ behind.0 is behind.5 (stops_bracket (behind.2 ++ codes ")") rest) c.in_ok-width.ensures.only in
    absurd (not_read _ _ (c.in_err-first.ensures.only _ here.2))

pub tagged_at-returns-in_err-first-clause-only : goal.tagged_at-returns-in_err-first-clause-only
tagged_at-returns-in_err-first-clause-only t c = λ f back rest is behind deep.
    let here = after_width c.args.text.now back rest _ _ _ _ behind.0 is behind.5 (stops_bracket (behind.2 ++ codes ")") rest) c.in_ok-width.ensures.only in
    absurd (not_read _ _ (c.in_err-first.ensures.only _ here.2))

pub struct_at-returns-in_err-members-clause-only : goal.struct_at-returns-in_err-members-clause-only
struct_at-returns-in_err-members-clause-only t c = λ f back rest is behind deep.
    let here = after_width c.args.text.now back rest _ _ _ _ behind.0 is behind.5 (stops_bracket (behind.2 ++ codes ")") rest) c.in_ok-width.ensures.only in
    let inside = after_bracket c.args.text.now behind.2 rest c.in_ok-width.from c.in_ok-first.first here.2 c.in_ok-first.ensures.end.0 in
    rw (passed_on _ _ c.from_residual-in_err-members.ensures.1) (c.in_err-members.ensures.only behind.1 behind.2 rest inside behind.3 (omega (arith, deep, ap depth behind.4)))

pub tagged_at-returns-in_err-members-clause-only : goal.tagged_at-returns-in_err-members-clause-only
tagged_at-returns-in_err-members-clause-only t c = λ f back rest is behind deep.
    let here = after_width c.args.text.now back rest _ _ _ _ behind.0 is behind.5 (stops_bracket (behind.2 ++ codes ")") rest) c.in_ok-width.ensures.only in
    let inside = after_bracket c.args.text.now behind.2 rest c.in_ok-width.from c.in_ok-first.first here.2 c.in_ok-first.ensures.end.0 in
    rw (passed_on _ _ c.from_residual-in_err-members.ensures.1) (c.in_err-members.ensures.only behind.1 behind.2 rest inside behind.3 (omega (arith, deep, ap depth behind.4)))

pub union_at-returns-in_err-first-clause-only : goal.union_at-returns-in_err-first-clause-only
union_at-returns-in_err-first-clause-only t c = λ f back rest is behind deep.
    let here = after_widths c.args.text.now back rest _ _ _ _ behind.0 is behind.5 (stops_bracket (behind.2 ++ codes ")") rest) c.in_ok-widths.ensures.only in
    absurd (not_read _ _ (c.in_err-first.ensures.only _ here.2))

pub union_at-returns-in_err-variants-clause-only : goal.union_at-returns-in_err-variants-clause-only
union_at-returns-in_err-variants-clause-only t c = λ f back rest is behind deep.
    let here = after_widths c.args.text.now back rest _ _ _ _ behind.0 is behind.5 (stops_bracket (behind.2 ++ codes ")") rest) c.in_ok-widths.ensures.only in
    let inside = after_bracket c.args.text.now behind.2 rest c.in_ok-widths.from c.in_ok-first.first here.2 c.in_ok-first.ensures.end.0 in
    rw (passed_on _ _ c.from_residual-in_err-variants.ensures.1) (c.in_err-variants.ensures.only behind.1 behind.2 rest inside behind.3 (omega (arith, deep, ap depth behind.4, union_depth behind.0 behind.1)))

pub struct_at-returns-clause-only : goal.struct_at-returns-clause-only
struct_at-returns-clause-only t c = λ f back rest is behind deep.
    let here = after_width c.args.text.now back rest _ _ _ _ behind.0 is behind.5 (stops_bracket (behind.2 ++ codes ")") rest) c.in_ok-width.ensures.only in
    let inside = after_bracket c.args.text.now behind.2 rest c.in_ok-width.from c.in_ok-first.first here.2 c.in_ok-first.ensures.end.0 in
    let read = c.in_ok-members.ensures.only behind.1 behind.2 rest inside behind.3 (omega (arith, deep, ap depth behind.4)) in (
      struct_is c.in_ok-width.width behind.0 c.in_ok-members.members f behind.1 here.0 read.0 behind.4,
      omega (arith, read.1, here.1, c.in_ok-first.ensures.end.0, ap length behind.5, length-append (width_text behind.0) (40 ∷ (behind.2 ++ codes ")")), length-append behind.2 (codes ")")),
    )

pub tagged_at-returns-clause-only : goal.tagged_at-returns-clause-only
tagged_at-returns-clause-only t c = λ f back rest is behind deep.
    let here = after_width c.args.text.now back rest _ _ _ _ behind.0 is behind.5 (stops_bracket (behind.2 ++ codes ")") rest) c.in_ok-width.ensures.only in
    let inside = after_bracket c.args.text.now behind.2 rest c.in_ok-width.from c.in_ok-first.first here.2 c.in_ok-first.ensures.end.0 in
    let read = c.in_ok-members.ensures.only behind.1 behind.2 rest inside behind.3 (omega (arith, deep, ap depth behind.4)) in (
      tagged_is c.in_ok-width.width behind.0 _ c.in_ok-members.members f behind.1 c.or_32.ensures here.0 read.0 behind.4,
      omega (arith, read.1, here.1, c.in_ok-first.ensures.end.0, ap length behind.5, length-append (width_text behind.0) (40 ∷ (behind.2 ++ codes ")")), length-append behind.2 (codes ")")),
    )

pub union_at-returns-clause-only : goal.union_at-returns-clause-only
union_at-returns-clause-only t c = λ f back rest is behind deep.
    let here = after_widths c.args.text.now back rest _ _ _ _ behind.0 is behind.5 (stops_bracket (behind.2 ++ codes ")") rest) c.in_ok-widths.ensures.only in
    let inside = after_bracket c.args.text.now behind.2 rest c.in_ok-widths.from c.in_ok-first.first here.2 c.in_ok-first.ensures.end.0 in
    let read = c.in_ok-variants.ensures.only behind.1 behind.2 rest inside behind.3 (omega (arith, deep, ap depth behind.4, union_depth behind.0 behind.1)) in (
      c.union_shape.ensures ∙ union_is c.in_ok-widths.widths behind.0 f _ behind.1 here.0 read.0 behind.4,
      omega (arith, read.1, here.1, c.in_ok-first.ensures.end.0, ap length behind.5, length-append (widths_text behind.0) (40 ∷ (behind.2 ++ codes ")")), length-append behind.2 (codes ")")),
    )

pub variant_at-returns-in_err-number-clause-only : goal.variant_at-returns-in_err-number-clause-only
variant_at-returns-in_err-number-clause-only t c = λ v front rest is own deep stops.
    absurd (not_read _ _ (number_read c.args.text.now front rest own.0 c.args.at v.number (2 ^ 32) false is own.3 own.1 _ c.in_err-number.ensures.only))

pub variant_at-returns-in_err-first-clause-only : goal.variant_at-returns-in_err-first-clause-only
variant_at-returns-in_err-first-clause-only t c = λ v front rest is own deep stops.
    let here = after_number c.args.text.now front rest own.0 c.args.at v.number (2 ^ 32) false is own.3 own.1 _ c.in_ok-number.colon c.in_ok-number.ensures.only in
    absurd (not_read _ _ (c.in_err-first.ensures.only _ here.1))

pub variant_at-returns-in_err-shape-clause-only : goal.variant_at-returns-in_err-shape-clause-only
variant_at-returns-in_err-shape-clause-only t c = λ v front rest is own deep stops.
    let here = after_number c.args.text.now front rest own.0 c.args.at v.number (2 ^ 32) false is own.3 own.1 _ c.in_ok-number.colon c.in_ok-number.ensures.only in
    let inside = behind_piece c.args.text.now (codes ":") (own.0 ++ rest) c.in_ok-number.colon c.in_ok-first.first here.1 c.in_ok-first.ensures.end.0 in
    rw (passed_on _ _ c.from_residual-in_err-shape.ensures.1) (c.in_err-shape.ensures.only v.form own.0 rest inside own.2 deep stops)

pub variant_at-returns-clause-only : goal.variant_at-returns-clause-only
variant_at-returns-clause-only t c = λ v front rest is own deep stops.
    let here = after_number c.args.text.now front rest own.0 c.args.at v.number (2 ^ 32) false is own.3 own.1 _ c.in_ok-number.colon c.in_ok-number.ensures.only in
    let inside = behind_piece c.args.text.now (codes ":") (own.0 ++ rest) c.in_ok-number.colon c.in_ok-first.first here.1 c.in_ok-first.ensures.end.0 in
    let read = c.in_ok-shape.ensures.only v.form own.0 rest inside own.2 deep stops in
    (λ i. record { number = here.0 i; form = read.0 i }, omega (arith, read.1, c.in_ok-first.ensures.end.0, here.2))

pub tagged_member_at-returns-in_err-name-clause-only : goal.tagged_member_at-returns-in_err-name-clause-only
tagged_member_at-returns-in_err-name-clause-only t c = λ m front rest is is_member deep stops.
    let own = tagged_parts c.args.names.now m.id m.optional m.form front is_member in
    let there = tagged_there c.args.text.now front rest own.0 m.id m.optional own.2 c.args.at is own.7 in
    let memory = memory_of (option_map (string_bytes {Z = Global})) own.0 (c.args.at + length (name_text own.0)) c.in_err-name.field-0.0
    (c.in_err-name.ensures.only own.0 (tagged_member_text m.id m.optional own.2 ++ rest) there own.3 (tagged_first m.id m.optional own.2 rest own.4)) in
    rw (passed_on _ _ c.from_residual.ensures.1, memory) tt

pub tagged_member_at-returns-in_err-number-clause-only : goal.tagged_member_at-returns-in_err-number-clause-only
tagged_member_at-returns-in_err-number-clause-only t c = λ m front rest is is_member deep stops.
    let own = tagged_parts c.args.names.now m.id m.optional m.form front is_member in
    let there = tagged_there c.args.text.now front rest own.0 m.id m.optional own.2 c.args.at is own.7 in
    let name = c.in_ok-name.ensures.only own.0 (tagged_member_text m.id m.optional own.2 ++ rest) there own.3 (tagged_first m.id m.optional own.2 rest own.4) in
    let from = behind_piece c.args.text.now (name_text own.0) (tagged_member_text m.id m.optional own.2 ++ rest) c.args.at c.in_ok-name.from there name.1 in
    absurd (not_read _ _ (number_read c.args.text.now (tagged_member_text m.id m.optional own.2) rest own.2 c.in_ok-name.from m.id (2 ^ 12) m.optional from refl own.4 _ c.in_err-number.ensures.only))

pub tagged_member_at-returns-in_err-first-clause-only : goal.tagged_member_at-returns-in_err-first-clause-only
tagged_member_at-returns-in_err-first-clause-only t c = λ m front rest is is_member deep stops.
    let own = tagged_parts c.args.names.now m.id m.optional m.form front is_member in
    let there = tagged_there c.args.text.now front rest own.0 m.id m.optional own.2 c.args.at is own.7 in
    let name = c.in_ok-name.ensures.only own.0 (tagged_member_text m.id m.optional own.2 ++ rest) there own.3 (tagged_first m.id m.optional own.2 rest own.4) in
    let from = behind_piece c.args.text.now (name_text own.0) (tagged_member_text m.id m.optional own.2 ++ rest) c.args.at c.in_ok-name.from there name.1 in
    let here = after_number c.args.text.now (tagged_member_text m.id m.optional own.2) rest own.2 c.in_ok-name.from m.id (2 ^ 12) m.optional from refl own.4 _ c.in_ok-number.behind c.in_ok-number.ensures.only in
    let mark = after_mark c.args.text.now (own.2 ++ rest) c.in_ok-number.behind c.mark_at-is_optional.result m.optional here.1 c.mark_at-is_optional.ensures.only in
    absurd (not_read _ _ (c.in_err-first.ensures.only _ mark.2))

pub tagged_member_at-returns-in_err-shape-clause-only : goal.tagged_member_at-returns-in_err-shape-clause-only
tagged_member_at-returns-in_err-shape-clause-only t c = λ m front rest is is_member deep stops.
    let own = tagged_parts c.args.names.now m.id m.optional m.form front is_member in
    let there = tagged_there c.args.text.now front rest own.0 m.id m.optional own.2 c.args.at is own.7 in
    let name = c.in_ok-name.ensures.only own.0 (tagged_member_text m.id m.optional own.2 ++ rest) there own.3 (tagged_first m.id m.optional own.2 rest own.4) in
    let from = behind_piece c.args.text.now (name_text own.0) (tagged_member_text m.id m.optional own.2 ++ rest) c.args.at c.in_ok-name.from there name.1 in
    let here = after_number c.args.text.now (tagged_member_text m.id m.optional own.2) rest own.2 c.in_ok-name.from m.id (2 ^ 12) m.optional from refl own.4 _ c.in_ok-number.behind c.in_ok-number.ensures.only in
    let mark = after_mark c.args.text.now (own.2 ++ rest) c.in_ok-number.behind c.mark_at-is_optional.result m.optional here.1 c.mark_at-is_optional.ensures.only in
    let inside = behind_piece c.args.text.now (codes ":") (own.2 ++ rest) c.mark_at-is_optional.result.1 c.in_ok-first.first mark.2 c.in_ok-first.ensures.end.0 in
    let less : depth own.1 ≤ c.args.left = omega (arith, deep, ap depth own.6, depth-with_name own.0 own.1) in
    let memory = memory_of form own.1 (c.in_ok-first.first + length own.2) c.in_err-shape.field-0.0 (c.in_err-shape.ensures.only own.1 own.2 rest inside own.5 less stops) in
    rw (passed_on _ _ c.from_residual-in_err-shape.ensures.1, memory) tt

pub tagged_member_at-returns-in_err-named-clause-only : goal.tagged_member_at-returns-in_err-named-clause-only
tagged_member_at-returns-in_err-named-clause-only t c = λ m front rest is is_member deep stops.
    rw (passed_on _ _ c.from_residual-in_err-named.ensures.1, c.in_err-named.ensures.memory) tt

pub tagged_member_at-returns-clause-only : goal.tagged_member_at-returns-clause-only
tagged_member_at-returns-clause-only t c = λ m front rest is is_member deep stops.
    let own = tagged_parts c.args.names.now m.id m.optional m.form front is_member in
    let there = tagged_there c.args.text.now front rest own.0 m.id m.optional own.2 c.args.at is own.7 in
    let name = c.in_ok-name.ensures.only own.0 (tagged_member_text m.id m.optional own.2 ++ rest) there own.3 (tagged_first m.id m.optional own.2 rest own.4) in
    let from = behind_piece c.args.text.now (name_text own.0) (tagged_member_text m.id m.optional own.2 ++ rest) c.args.at c.in_ok-name.from there name.1 in
    let here = after_number c.args.text.now (tagged_member_text m.id m.optional own.2) rest own.2 c.in_ok-name.from m.id (2 ^ 12) m.optional from refl own.4 _ c.in_ok-number.behind c.in_ok-number.ensures.only in
    let mark = after_mark c.args.text.now (own.2 ++ rest) c.in_ok-number.behind c.mark_at-is_optional.result m.optional here.1 c.mark_at-is_optional.ensures.only in
    let inside = behind_piece c.args.text.now (codes ":") (own.2 ++ rest) c.mark_at-is_optional.result.1 c.in_ok-first.first mark.2 c.in_ok-first.ensures.end.0 in
    let less : depth own.1 ≤ c.args.left = omega (arith, deep, ap depth own.6, depth-with_name own.0 own.1) in
    let read = c.in_ok-shape.ensures.only own.1 own.2 rest inside own.5 less stops in
    let whole : form c.in_ok-named.named ≡ m.form = c.in_ok-named.ensures.named ∙ (λ i. with_name (name.0 i) (read.0 i)) ∙ sym own.6 in (
      one_member-made c.in_ok-number.number c.mark_at-is_optional.result.0 c.in_ok-named.named ∙ (λ i. record { id = here.0 i; optional = mark.0 i; form = whole i }),
      omega (arith, read.1, mark.1, c.in_ok-first.ensures.end.0, here.2, name.1, ap length own.7, length-append (name_text own.0) (tagged_member_text m.id m.optional own.2)),
    )

-- ---- a member of a structure, perhaps with a name

pub named_at-returns-in_err-name-clause-only : goal.named_at-returns-in_err-name-clause-only
named_at-returns-in_err-name-clause-only t c = λ f front rest is is_text deep stops.
    let memory = memory_of (string_bytes {Z = Global}) (slice_range c.args.text.now c.args.at c.args.name_end) (c.args.name_end + 1) c.in_err-name.field-0.0 (c.in_err-name.ensures.only (front ++ rest) is) in
    rw (passed_on _ _ c.from_residual.ensures.1, memory) tt

pub named_at-returns-in_err-shape-clause-only : goal.named_at-returns-in_err-shape-clause-only
named_at-returns-in_err-shape-clause-only t c = λ f front rest is is_text deep stops.
    let name = c.in_ok-name.ensures.only (front ++ rest) is in
    let inside = behind_piece c.args.text.now (codes ":") (front ++ rest) c.args.name_end c.in_ok-name.first is name.1 in
    let memory = memory_of form f (c.in_ok-name.first + length front) c.in_err-shape.field-0.0 (c.in_err-shape.ensures.only f front rest inside is_text deep stops) in
    rw (passed_on _ _ c.from_residual-in_err-shape.ensures.1, memory) tt

pub named_at-returns-in_err-with_name-clause-only : goal.named_at-returns-in_err-with_name-clause-only
named_at-returns-in_err-with_name-clause-only t c = λ f front rest is is_text deep stops.
    rw (passed_on _ _ c.from_residual-in_err-with_name.ensures.1, c.in_err-with_name.ensures.memory) tt

pub named_at-returns-clause-only : goal.named_at-returns-clause-only
named_at-returns-clause-only t c = λ f front rest is is_text deep stops.
    let name = c.in_ok-name.ensures.only (front ++ rest) is in
    let inside = behind_piece c.args.text.now (codes ":") (front ++ rest) c.args.name_end c.in_ok-name.first is name.1 in
    let read = c.in_ok-shape.ensures.only f front rest inside is_text deep stops in
    (c.in_ok-with_name.ensures.named ∙ (λ i. named (name.0 i) (read.0 i)), omega (arith, read.1, name.1))

pub member_at-returns-clause-found : goal.member_at-returns-clause-found
member_at-returns-clause-found t c = rw c.reach.ensures (plain_member c.args.names.now c.shape_at.result c.args.text.now c.args.at c.name_end-name.result c.shape_at.ensures.found)

pub member_at-returns-then-left-eq0-clause-only : goal.member_at-returns-then-left-eq0-clause-only
member_at-returns-then-left-eq0-clause-only t c = λ f front rest is is_member deep stops. absurd (omega (arith, deep, some_depth f, c.if-left-eq0.true))

pub member_at-returns-then-has_name-clause-only : goal.member_at-returns-then-has_name-clause-only
member_at-returns-then-has_name-clause-only t c =
    let there = c.has_name.ensures.there c.if-has_name.true in
    with_colon c.args.names.now c.args.text.now c.args.at c.name_end-name.result c.name_end-name.ensures.only c.name_end-name.ensures.none c.args.left c.named_at.result _ (byte_and_rest c.args.text.now c.name_end-name.result 58 there.1 there.2) c.named_at.ensures.only

pub member_at-returns-clause-only : goal.member_at-returns-clause-only
member_at-returns-clause-only t c =
    rw c.reach.ensures (without_colon c.args.names.now c.args.text.now c.args.at c.name_end-name.result c.name_end-name.ensures.only c.name_end-name.ensures.none c.args.left c.shape_at.result (λ tail lt colon. absurd (false≢true (sym c.if-has_name.false ∙ c.has_name.ensures.only tail lt colon))) c.shape_at.ensures.only)

-- ---- items, one after the other

pub members_at-loop-items-init : goal.members_at-loop-items-init
members_at-loop-items-init t c = none_read (members c.args.names.now) c.args.text.now c.args.at c.args.left c.new-items.result.items c.requires c.new-items.ensures.items

pub variants_at-loop-items-init : goal.variants_at-loop-items-init
variants_at-loop-items-init t c = none_read (variants c.args.names.now) c.args.text.now c.args.at c.args.left c.new-items.result.items c.requires c.new-items.ensures.items

pub tagged_members_at-loop-items-init : goal.tagged_members_at-loop-items-init
tagged_members_at-loop-items-init t c = none_read (tagged_members c.args.names.now) c.args.text.now c.args.at c.args.left c.new-items.result.items c.requires c.new-items.ensures.items

pub members_at-loop-items-preserved : goal.members_at-loop-items-preserved
members_at-loop-items-preserved t c =
    one_more (members c.args.names.now) c.loop-items.invariant c.in_ok-item.item c.in_ok-item.end _ (search rules)
    c.in_ok-item.ensures.end.0 (c.if-has_byte.ensures.there refl) c.in_ok-item.ensures.found c.in_ok-item.ensures.only c.in_ok-item.ensures.within

pub variants_at-loop-items-preserved : goal.variants_at-loop-items-preserved
variants_at-loop-items-preserved t c =
    one_more (variants c.args.names.now) c.loop-items.invariant c.in_ok-item.item c.in_ok-item.end _ (search rules)
    c.in_ok-item.ensures.end.0 (c.if-has_byte.ensures.there refl) c.in_ok-item.ensures.found c.in_ok-item.ensures.only c.in_ok-item.ensures.within

pub tagged_members_at-loop-items-preserved : goal.tagged_members_at-loop-items-preserved
tagged_members_at-loop-items-preserved t c =
    one_more (tagged_members c.args.names.now) c.loop-items.invariant c.in_ok-item.item c.in_ok-item.end _ (search rules)
    c.in_ok-item.ensures.end.0 (c.if-has_byte.ensures.there refl) c.in_ok-item.ensures.found c.in_ok-item.ensures.only c.in_ok-item.ensures.within

pub members_at-returns-in_err-item-clause-only : goal.members_at-returns-in_err-item-clause-only
members_at-returns-in_err-item-clause-only t c = not_one (members c.args.names.now) c.loop-items.invariant _ _ (passed_on _ _ c.from_residual.ensures.1) c.in_err-item.ensures.only

pub variants_at-returns-in_err-item-clause-only : goal.variants_at-returns-in_err-item-clause-only
variants_at-returns-in_err-item-clause-only t c = not_one (variants c.args.names.now) c.loop-items.invariant _ _ (passed_on _ _ c.from_residual.ensures.1) c.in_err-item.ensures.only

pub tagged_members_at-returns-in_err-item-clause-only : goal.tagged_members_at-returns-in_err-item-clause-only
tagged_members_at-returns-in_err-item-clause-only t c = not_one (tagged_members c.args.names.now) c.loop-items.invariant _ _ (passed_on _ _ c.from_residual.ensures.1) c.in_err-item.ensures.only

pub members_at-returns-in_err-end-clause-only : goal.members_at-returns-in_err-end-clause-only
members_at-returns-in_err-end-clause-only t c =
    no_bracket (members c.args.names.now) c.loop-items.invariant c.in_ok-item.item c.in_ok-item.end _ refl c.in_ok-item.ensures.only c.if-has_byte.ensures.only _ _ c.in_err-end.ensures.only

pub variants_at-returns-in_err-end-clause-only : goal.variants_at-returns-in_err-end-clause-only
variants_at-returns-in_err-end-clause-only t c =
    no_bracket (variants c.args.names.now) c.loop-items.invariant c.in_ok-item.item c.in_ok-item.end _ refl c.in_ok-item.ensures.only c.if-has_byte.ensures.only _ _ c.in_err-end.ensures.only

pub tagged_members_at-returns-in_err-end-clause-only : goal.tagged_members_at-returns-in_err-end-clause-only
tagged_members_at-returns-in_err-end-clause-only t c =
    no_bracket (tagged_members c.args.names.now) c.loop-items.invariant c.in_ok-item.item c.in_ok-item.end _ refl c.in_ok-item.ensures.only c.if-has_byte.ensures.only _ _ c.in_err-end.ensures.only

pub members_at-returns-else-has_byte-clause-only : goal.members_at-returns-else-has_byte-clause-only
members_at-returns-else-has_byte-clause-only t c =
    all_only (members c.args.names.now) c.loop-items.invariant c.in_ok-item.item c.in_ok-item.end _ (search rules) c.in_ok-item.ensures.only c.if-has_byte.ensures.only c.push.new.self c.in_ok-end.end refl c.in_ok-end.ensures.end.0

pub variants_at-returns-else-has_byte-clause-only : goal.variants_at-returns-else-has_byte-clause-only
variants_at-returns-else-has_byte-clause-only t c =
    all_only (variants c.args.names.now) c.loop-items.invariant c.in_ok-item.item c.in_ok-item.end _ (search rules) c.in_ok-item.ensures.only c.if-has_byte.ensures.only c.push.new.self c.in_ok-end.end refl c.in_ok-end.ensures.end.0

pub tagged_members_at-returns-else-has_byte-clause-only : goal.tagged_members_at-returns-else-has_byte-clause-only
tagged_members_at-returns-else-has_byte-clause-only t c =
    all_only (tagged_members c.args.names.now) c.loop-items.invariant c.in_ok-item.item c.in_ok-item.end _ (search rules) c.in_ok-item.ensures.only c.if-has_byte.ensures.only c.push.new.self c.in_ok-end.end refl c.in_ok-end.ensures.end.0
