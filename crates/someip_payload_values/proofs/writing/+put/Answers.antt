use Rattle.std.proofs.Common.{rules, ◌≡◌, None, Some, true, string_bytes, refl, ap, ◌++◌, ◌∙◌, append_assoc, arith}
use Rattle.std.proofs.lemmas.Result.{err_from_is_err_and}
use Rattle.std.specs.Str.{is_utf8}
use Rattle.std.proofs.lemmas.Str.{IsUtf8-string_bytes, is_utf8-from_IsUtf8}
use Rattle.someip_payload_values.specs.Data.{u8, u16, u32, u64, i8, i16, i32, i64, unsigned, signed, float, padded, array, fixed, «struct», union, tagged, string, uint, int, real, phrase, list, tuple, slotted}
use Rattle.someip_payload_values.specs.declared.shape.Width.TheVariants.{W32}
use Rattle.someip_payload_values.specs.declared.number.Order.TheVariants.{Big, Little}
use Rattle.someip_payload_values.specs.declared.number.Size.TheVariants.{S16, S32, S64}
use Rattle.someip_payload_values.specs.Floats.{single, double}
use Rattle.someip_payload_values.specs.View.{form, forms, all_variants, all_members, data_of, data_of_all, data_of_choice, slots_of}
use Rattle.someip_payload_values.proofs.Shapes.{form-U8, form-U16, form-U32, form-U64, form-I8, form-I16, form-I32, form-I64, form-U16Le, form-U32Le, form-U64Le, form-I16Le, form-I32Le, form-I64Le, form-F32, form-F64, form-F32Le, form-F64Le, form-Text, form-FixedText, form-FramedFixed, form-SizedUnion, form-Array, form-Fixed, form-Struct, form-Union, form-Tagged, data_of-Uint, data_of-Int, data_of-F32, data_of-F64, data_of-Text, data_of-List, data_of-Struct, data_of-Union, data_of-Tagged}
use Rattle.someip_payload_values.specs.Writing.{text_of, real_text, body_text, slots_text}
use Rattle.someip_payload_values.specs.Steps.{◌>>=◌}
use Rattle.someip_payload_values.proofs.StepLemmas.{fails_too}
use Rattle.someip_payload_values.proofs.Writes.{each_go_on, each_fail, each_done, members_go_on, members_fail, members_done, variant_hit, variant_miss, variant_none, slots_go_on, slots_fail, slots_done, tagged_is}
use Rattle.someip_payload_values.proofs.writing.+put.Goals as goal

pub put_each-returns-in_err-put : goal.put_each-returns-in_err-put
put_each-returns-in_err-put t c =
    let p = err_from_is_err_and c.from_residual.result c.from_residual.ensures.1 in
    let (added, is, so_far) = c.loop-value.invariant in
    rw (p.1, p.2) (each_fail c.in_err-put.field-0.0 (text_of (form c.args.element.now)) added c.args.values.now c.loop-value.value-index c.value-item.result _ c.loop-value-test.true c.value-item.is c.in_err-put.ensures so_far)

pub put_each-loop-value-preserved : goal.put_each-loop-value-preserved
put_each-loop-value-preserved t c =
    let (added, is, so_far) = c.loop-value.invariant in
    let (first, text, new) = c.in_ok-put.ensures in
    (added ++ first, new ∙ rw is (append_assoc c.args.out.now.items added first), each_go_on (text_of (form c.args.element.now)) added c.args.values.now c.loop-value.value-index c.value-item.result first _ c.loop-value-test.true c.value-item.is text so_far)

pub put_each-returns : goal.put_each-returns
put_each-returns t c =
    let (added, is, so_far) = c.loop-value.invariant in
    (added, each_done (text_of (form c.args.element.now)) added c.args.values.now c.loop-value.value-index _ c.loop-value-test.false so_far, is)

pub put_members-returns-in_err-put : goal.put_members-returns-in_err-put
put_members-returns-in_err-put t c =
    let p = err_from_is_err_and c.from_residual.result c.from_residual.ensures.1 in
    let (added, is, so_far) = c.loop-i.invariant in
    rw (p.1, p.2) (members_fail c.in_err-put.field-0.0 added c.args.shapes.now c.args.values.now c.loop-i.i c.index-shapes-i.result c.index-values-i.result _ c.loop-i-test.true (omega arith) c.index-shapes-i.is c.index-values-i.is c.in_err-put.ensures so_far)

pub put_members-loop-i-preserved : goal.put_members-loop-i-preserved
put_members-loop-i-preserved t c =
    let (added, is, so_far) = c.loop-i.invariant in
    let (first, text, new) = c.in_ok-put.ensures in
    (added ++ first, new ∙ rw is (append_assoc c.args.out.now.items added first), members_go_on added c.args.shapes.now c.args.values.now c.loop-i.i c.index-shapes-i.result c.index-values-i.result first _ c.loop-i-test.true (omega arith) c.index-shapes-i.is c.index-values-i.is text so_far)

pub put_members-returns : goal.put_members-returns
put_members-returns t c =
    let (added, is, so_far) = c.loop-i.invariant in
    (added, members_done added c.args.shapes.now c.args.values.now c.loop-i.i _ c.loop-i-test.false so_far, is)

pub put_variant-returns-then-variant-kind : goal.put_variant-returns-then-variant-kind
put_variant-returns-then-variant-kind t c =
    let (same_out, so_far) = c.loop-variant.invariant in
    let e = variant_hit c.args.width c.args.field c.args.kind (data_of c.args.value.now) c.args.variants.now c.loop-variant.variant-index c.variant-item.result _ c.loop-variant-test.true c.variant-item.is c.if-variant-kind.true so_far in
    rw (e, ← same_out) c.put_chosen.ensures

pub put_variant-loop-variant-preserved : goal.put_variant-loop-variant-preserved
put_variant-loop-variant-preserved t c =
    let (same_out, so_far) = c.loop-variant.invariant in
    (same_out, variant_miss c.args.width c.args.field c.args.kind (data_of c.args.value.now) c.args.variants.now c.loop-variant.variant-index c.variant-item.result _ c.loop-variant-test.true c.variant-item.is c.if-variant-kind.false so_far)

pub put_variant-returns : goal.put_variant-returns
put_variant-returns t c =
    let (same_out, so_far) = c.loop-variant.invariant in
    variant_none c.args.width c.args.field c.args.kind (data_of c.args.value.now) c.args.variants.now c.loop-variant.variant-index _ c.loop-variant-test.false so_far

pub put-returns-in-Text-Text : goal.put-returns-in-Text-Text
unfolding text_of
put-returns-in-Text-Text t c =
    let x = c.in-Text-Text in
    let f : form c.args.shape.now ≡ string x.encoding x.width = ap form x.is-0 ∙ form-Text x.encoding x.width in
    let d : data_of c.args.value.now ≡ phrase (string_bytes x.text) = ap data_of x.is-1 ∙ data_of-Text x.text in
    let is : is_utf8 (string_bytes x.text) ≡ true = is_utf8-from_IsUtf8 (string_bytes x.text) (IsUtf8-string_bytes x.text) in
    rw (f, d, is) (search rules)

pub put-returns-in-Union-Union : goal.put-returns-in-Union-Union
put-returns-in-Union-Union t c =
    let x = c.in-Union-Union in
    let f : form c.args.shape.now ≡ union W32 W32 (all_variants x.variants.items) = ap form x.is-0 ∙ form-Union x.variants in
    let d : data_of c.args.value.now ≡ data_of_choice x.choice = ap data_of x.is-1 ∙ data_of-Union x.choice in
    rw (f, d) (search rules)

pub put-returns-in-Tagged-Tagged : goal.put-returns-in-Tagged-Tagged
put-returns-in-Tagged-Tagged t c =
    let x = c.in-Tagged-Tagged in
    let f : form c.args.shape.now ≡ tagged x.width (all_members x.members.items) = ap form x.is-0 ∙ form-Tagged x.width x.members in
    let d : data_of c.args.value.now ≡ slotted (slots_of x.slots.items) = ap data_of x.is-1 ∙ data_of-Tagged x.slots in
    rw (f, d) (search rules)

pub put_slots-returns-in_err-put_slot : goal.put_slots-returns-in_err-put_slot
put_slots-returns-in_err-put_slot t c =
    let p = err_from_is_err_and c.from_residual.result c.from_residual.ensures.1 in
    let (added, is, so_far) = c.loop-i.invariant in
    rw (p.1, p.2) (slots_fail added c.args.members.now c.args.slots.now c.loop-i.i _ c.in_err-put_slot.field-0.0 c.index-members-i.result c.index-slots-i.result c.loop-i-test.true (omega arith) c.index-members-i.is c.index-slots-i.is c.in_err-put_slot.ensures so_far)

pub put_slots-loop-i-preserved : goal.put_slots-loop-i-preserved
put_slots-loop-i-preserved t c =
    let (added, is, so_far) = c.loop-i.invariant in
    let (first, text, new) = c.in_ok-put_slot.ensures in
    (added ++ first, new ∙ rw is (append_assoc c.args.out.now.items added first), slots_go_on added c.args.members.now c.args.slots.now c.loop-i.i _ c.index-members-i.result c.index-slots-i.result first c.loop-i-test.true (omega arith) c.index-members-i.is c.index-slots-i.is text so_far)

pub put_slots-returns : goal.put_slots-returns
put_slots-returns t c =
    let (added, is, so_far) = c.loop-i.invariant in
    (added, slots_done added c.args.members.now c.args.slots.now c.loop-i.i _ c.loop-i-test.false so_far, is)

pub put_tagged-returns-in_err-put_slots : goal.put_tagged-returns-in_err-put_slots
put_tagged-returns-in_err-put_slots t c =
    let p = err_from_is_err_and c.from_residual.result c.from_residual.ensures.1 in
    let text = slots_text (all_members c.args.members.now) (slots_of c.args.slots.now) in
    rw (p.1, p.2, tagged_is c.args.width c.args.members.now c.args.slots.now (omega arith))
    (fails_too c.in_err-put_slots.field-0.0 text (text >>= body_text c.args.width) (λ bad. rw bad refl) c.in_err-put_slots.ensures)

pub put-returns-in-U8-Uint : goal.put-returns-in-U8-Uint
unfolding text_of
put-returns-in-U8-Uint t c =
    let x = c.in-U8-Uint in
    let f : form c.args.shape.now ≡ u8 = ap form x.is-0 ∙ form-U8 in
    let d : data_of c.args.value.now ≡ uint x.n = ap data_of x.is-1 ∙ data_of-Uint x.n in
    rw (f, d) c.put_unsigned.ensures

pub put-returns-in-U16-Uint : goal.put-returns-in-U16-Uint
unfolding text_of
put-returns-in-U16-Uint t c =
    let x = c.in-U16-Uint in
    let f : form c.args.shape.now ≡ u16 = ap form x.is-0 ∙ form-U16 in
    let d : data_of c.args.value.now ≡ uint x.n = ap data_of x.is-1 ∙ data_of-Uint x.n in
    rw (f, d) c.put_unsigned-in-U16-Uint.ensures

pub put-returns-in-U32-Uint : goal.put-returns-in-U32-Uint
unfolding text_of
put-returns-in-U32-Uint t c =
    let x = c.in-U32-Uint in
    let f : form c.args.shape.now ≡ u32 = ap form x.is-0 ∙ form-U32 in
    let d : data_of c.args.value.now ≡ uint x.n = ap data_of x.is-1 ∙ data_of-Uint x.n in
    rw (f, d) c.put_unsigned-in-U32-Uint.ensures

pub put-returns-in-U64-Uint : goal.put-returns-in-U64-Uint
unfolding text_of
put-returns-in-U64-Uint t c =
    let x = c.in-U64-Uint in
    let f : form c.args.shape.now ≡ u64 = ap form x.is-0 ∙ form-U64 in
    let d : data_of c.args.value.now ≡ uint x.n = ap data_of x.is-1 ∙ data_of-Uint x.n in
    rw (f, d) c.put_unsigned-in-U64-Uint.ensures

pub put-returns-in-I8-Int : goal.put-returns-in-I8-Int
unfolding text_of
put-returns-in-I8-Int t c =
    let x = c.in-I8-Int in
    let f : form c.args.shape.now ≡ i8 = ap form x.is-0 ∙ form-I8 in
    let d : data_of c.args.value.now ≡ int x.z = ap data_of x.is-1 ∙ data_of-Int x.z in
    rw (f, d) (search rules)

pub put-returns-in-I16-Int : goal.put-returns-in-I16-Int
unfolding text_of
put-returns-in-I16-Int t c =
    let x = c.in-I16-Int in
    let f : form c.args.shape.now ≡ i16 = ap form x.is-0 ∙ form-I16 in
    let d : data_of c.args.value.now ≡ int x.z = ap data_of x.is-1 ∙ data_of-Int x.z in
    rw (f, d) (search rules)

pub put-returns-in-I32-Int : goal.put-returns-in-I32-Int
unfolding text_of
put-returns-in-I32-Int t c =
    let x = c.in-I32-Int in
    let f : form c.args.shape.now ≡ i32 = ap form x.is-0 ∙ form-I32 in
    let d : data_of c.args.value.now ≡ int x.z = ap data_of x.is-1 ∙ data_of-Int x.z in
    rw (f, d) (search rules)

pub put-returns-in-I64-Int : goal.put-returns-in-I64-Int
unfolding text_of
put-returns-in-I64-Int t c =
    let x = c.in-I64-Int in
    let f : form c.args.shape.now ≡ i64 = ap form x.is-0 ∙ form-I64 in
    let d : data_of c.args.value.now ≡ int x.z = ap data_of x.is-1 ∙ data_of-Int x.z in
    rw (f, d) (search rules)

pub put-returns-in-Array-List : goal.put-returns-in-Array-List
unfolding text_of
put-returns-in-Array-List t c =
    let x = c.in-Array-List in
    let f : form c.args.shape.now ≡ array x.width x.max (form x.element.value) = ap form x.is-0 ∙ form-Array x.width x.max x.element in
    let d : data_of c.args.value.now ≡ list (data_of_all x.values.items) = ap data_of x.is-1 ∙ data_of-List x.values in
    rw (f, d) (search rules)

pub put-returns-in-Fixed-List : goal.put-returns-in-Fixed-List
unfolding text_of
put-returns-in-Fixed-List t c =
    let x = c.in-Fixed-List in
    let f : form c.args.shape.now ≡ fixed None x.count (form x.element.value) = ap form x.is-0 ∙ form-Fixed x.count x.element in
    let d : data_of c.args.value.now ≡ list (data_of_all x.values.items) = ap data_of x.is-1 ∙ data_of-List x.values in
    rw (f, d) (search rules)

pub put-returns-in-Struct-Struct : goal.put-returns-in-Struct-Struct
unfolding text_of
put-returns-in-Struct-Struct t c =
    let x = c.in-Struct-Struct in
    let f : form c.args.shape.now ≡ «struct» x.width (forms x.shapes.items) = ap form x.is-0 ∙ form-Struct x.width x.shapes in
    let d : data_of c.args.value.now ≡ tuple (data_of_all x.values.items) = ap data_of x.is-1 ∙ data_of-Struct x.values in
    rw (f, d) (search rules)

pub put-returns-in-U16Le-Uint : goal.put-returns-in-U16Le-Uint
unfolding text_of
put-returns-in-U16Le-Uint t c =
    let x = c.in-U16Le-Uint in
    let f : form c.args.shape.now ≡ unsigned Little S16 = ap form x.is-0 ∙ form-U16Le in
    let d : data_of c.args.value.now ≡ uint x.n = ap data_of x.is-1 ∙ data_of-Uint x.n in
    rw (f, d) (search rules)

pub put-returns-in-U32Le-Uint : goal.put-returns-in-U32Le-Uint
unfolding text_of
put-returns-in-U32Le-Uint t c =
    let x = c.in-U32Le-Uint in
    let f : form c.args.shape.now ≡ unsigned Little S32 = ap form x.is-0 ∙ form-U32Le in
    let d : data_of c.args.value.now ≡ uint x.n = ap data_of x.is-1 ∙ data_of-Uint x.n in
    rw (f, d) (search rules)

pub put-returns-in-U64Le-Uint : goal.put-returns-in-U64Le-Uint
unfolding text_of
put-returns-in-U64Le-Uint t c =
    let x = c.in-U64Le-Uint in
    let f : form c.args.shape.now ≡ unsigned Little S64 = ap form x.is-0 ∙ form-U64Le in
    let d : data_of c.args.value.now ≡ uint x.n = ap data_of x.is-1 ∙ data_of-Uint x.n in
    rw (f, d) (search rules)

pub put-returns-in-I16Le-Int : goal.put-returns-in-I16Le-Int
unfolding text_of
put-returns-in-I16Le-Int t c =
    let x = c.in-I16Le-Int in
    let f : form c.args.shape.now ≡ signed Little S16 = ap form x.is-0 ∙ form-I16Le in
    let d : data_of c.args.value.now ≡ int x.z = ap data_of x.is-1 ∙ data_of-Int x.z in
    rw (f, d) (search rules)

pub put-returns-in-I32Le-Int : goal.put-returns-in-I32Le-Int
unfolding text_of
put-returns-in-I32Le-Int t c =
    let x = c.in-I32Le-Int in
    let f : form c.args.shape.now ≡ signed Little S32 = ap form x.is-0 ∙ form-I32Le in
    let d : data_of c.args.value.now ≡ int x.z = ap data_of x.is-1 ∙ data_of-Int x.z in
    rw (f, d) (search rules)

pub put-returns-in-I64Le-Int : goal.put-returns-in-I64Le-Int
unfolding text_of
put-returns-in-I64Le-Int t c =
    let x = c.in-I64Le-Int in
    let f : form c.args.shape.now ≡ signed Little S64 = ap form x.is-0 ∙ form-I64Le in
    let d : data_of c.args.value.now ≡ int x.z = ap data_of x.is-1 ∙ data_of-Int x.z in
    rw (f, d) (search rules)

pub put-returns-in-FixedText-Text : goal.put-returns-in-FixedText-Text
unfolding text_of
put-returns-in-FixedText-Text t c =
    let x = c.in-FixedText-Text in
    let f : form c.args.shape.now ≡ padded x.encoding x.len = ap form x.is-0 ∙ form-FixedText x.encoding x.len in
    let d : data_of c.args.value.now ≡ phrase (string_bytes x.text) = ap data_of x.is-1 ∙ data_of-Text x.text in
    let is : is_utf8 (string_bytes x.text) ≡ true = is_utf8-from_IsUtf8 (string_bytes x.text) (IsUtf8-string_bytes x.text) in
    rw (f, d, is) (search rules)

pub put-returns-in-FramedFixed-List : goal.put-returns-in-FramedFixed-List
unfolding text_of
put-returns-in-FramedFixed-List t c =
    let x = c.in-FramedFixed-List in
    let f : form c.args.shape.now ≡ fixed (Some x.width) x.count (form x.element.value) = ap form x.is-0 ∙ form-FramedFixed x.width x.count x.element in
    let d : data_of c.args.value.now ≡ list (data_of_all x.values.items) = ap data_of x.is-1 ∙ data_of-List x.values in
    rw (f, d) (search rules)

pub put-returns-in-SizedUnion-Union : goal.put-returns-in-SizedUnion-Union
put-returns-in-SizedUnion-Union t c =
    let x = c.in-SizedUnion-Union in
    let f : form c.args.shape.now ≡ union x.width x.field (all_variants x.variants.items) = ap form x.is-0 ∙ form-SizedUnion x.width x.field x.variants in
    let d : data_of c.args.value.now ≡ data_of_choice x.choice = ap data_of x.is-1 ∙ data_of-Union x.choice in
    rw (f, d) (search rules)

pub put-returns-in-F32-F32 : goal.put-returns-in-F32-F32
unfolding text_of real_text
put-returns-in-F32-F32 t c =
    let x = c.in-F32-F32 in
    let f : form c.args.shape.now ≡ float Big single = ap form x.is-0 ∙ form-F32 in
    let d : data_of c.args.value.now ≡ real single x.bits = ap data_of x.is-1 ∙ data_of-F32 x.bits in
    rw (f, d) (search rules)

pub put-returns-in-F64-F64 : goal.put-returns-in-F64-F64
unfolding text_of real_text
put-returns-in-F64-F64 t c =
    let x = c.in-F64-F64 in
    let f : form c.args.shape.now ≡ float Big double = ap form x.is-0 ∙ form-F64 in
    let d : data_of c.args.value.now ≡ real double x.bits = ap data_of x.is-1 ∙ data_of-F64 x.bits in
    rw (f, d) (search rules)

pub put-returns-in-F32Le-F32 : goal.put-returns-in-F32Le-F32
unfolding text_of real_text
put-returns-in-F32Le-F32 t c =
    let x = c.in-F32Le-F32 in
    let f : form c.args.shape.now ≡ float Little single = ap form x.is-0 ∙ form-F32Le in
    let d : data_of c.args.value.now ≡ real single x.bits = ap data_of x.is-1 ∙ data_of-F32 x.bits in
    rw (f, d) (search rules)

pub put-returns-in-F64Le-F64 : goal.put-returns-in-F64Le-F64
unfolding text_of real_text
put-returns-in-F64Le-F64 t c =
    let x = c.in-F64Le-F64 in
    let f : form c.args.shape.now ≡ float Little double = ap form x.is-0 ∙ form-F64Le in
    let d : data_of c.args.value.now ≡ real double x.bits = ap data_of x.is-1 ∙ data_of-F64 x.bits in
    rw (f, d) (search rules)
