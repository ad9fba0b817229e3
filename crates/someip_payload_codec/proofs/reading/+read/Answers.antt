use Rattle.std.proofs.Common.{None, Some, string_bytes, is_some, true, false, sym, refl, ◌≡◌, ◌<◌, ◌++◌, ◌∷◌, [], ◌∙◌, ap, length, map, rules, arith}
use Rattle.std.proofs.lemmas.Result.{err_from_is_err_and}
use Rattle.std.proofs.lemmas.List.{map_push, length-map, with_items_is}
use Rattle.someip_payload_values.specs.Data.{bool, u8, u16, u32, u64, i8, i16, i32, i64, unsigned, signed, float, padded, named, enumerated, string, array, fixed, union, tagged}
use Rattle.someip_payload_values.specs.declared.shape.Width.TheVariants.{W32}
use Rattle.someip_payload_values.specs.declared.number.Order.TheVariants.{Big, Little}
use Rattle.someip_payload_values.specs.declared.number.Size.TheVariants.{S16, S32, S64}
use Rattle.someip_payload_values.specs.Floats.{single, double}
use Rattle.someip_payload_values.specs.View.{form, labels_of, all_variants, all_members, data_of, slots_of}
use Rattle.someip_payload_codec.specs.View.{seen}
use Rattle.someip_payload_codec.specs.Reading.{data_at, data_by, items_at, chosen_at, item_by, item_at}
use Rattle.someip_payload_values.proofs.Shapes.{form-Bool, form-U8, form-U16, form-U32, form-U64, form-I8, form-I16, form-I32, form-I64, form-U16Le, form-U32Le, form-U64Le, form-I16Le, form-I32Le, form-I64Le, form-F32, form-F64, form-F32Le, form-F64Le, form-FixedText, form-FramedFixed, form-SizedUnion, form-Named, form-Enum, form-Text, form-Array, form-Fixed, form-Union, form-Tagged, data_of-Some}
use Rattle.someip_payload_codec.proofs.parts.Loops.{items_go_on, items_fail, items_too_many, items_done, fixed_more, fixed_bad, fixed_end, members_go_on, members_fail, members_done, variant_hit, variant_miss, variant_none}
use Rattle.someip_payload_values.specs.declared.shape.Shape.{the_lemmas}
use Rattle.someip_payload_codec.proofs.tagged.TaggedLoops.{none_read, found_in, skip_fills, slots_duplicate, slots_fault, slots_value, tagged_go_on, tagged_fail, tagged_done}
use Rattle.someip_payload_codec.proofs.parts.Shorter.{item_shorter}
use Rattle.someip_payload_codec.proofs.reading.+read.Goals as goal

pub items-returns-then-left-eq0 : goal.items-returns-then-left-eq0
items-returns-then-left-eq0 t c =
    let some : 0 < length c.loop-window.window.bytes.now = search rules in
    items_too_many (data_at (form c.args.element.now)) (map data_of c.loop-window.values.items) c.loop-window.left (seen c.loop-window.window) _ some c.if-left-eq0.true c.loop-window.invariant

pub items-returns-in_err-value : goal.items-returns-in_err-value
items-returns-in_err-value t c =
    let some : 0 < length c.loop-window.window.bytes.now = search rules in
    let p = err_from_is_err_and c.from_residual.result c.from_residual.ensures.1 in
    rw (p.1, p.2) (items_fail c.in_err-value.field-0.0 (data_at (form c.args.element.now)) (map data_of c.loop-window.values.items) c.loop-window.left (seen c.loop-window.window) (items_at (data_at (form c.args.element.now)) c.args.max (seen c.args.window)) some (omega arith) c.in_err-value.ensures c.loop-window.invariant)

pub items-loop-window-preserved : goal.items-loop-window-preserved
items-loop-window-preserved t c =
    let some : 0 < length c.loop-window.window.bytes.now = search rules in
    let e : map data_of c.push.new.self.items ≡ map data_of c.loop-window.values.items ++ data_of c.in_ok-value.value ∷ [] = rw c.in_ok-push.ensures.items (map_push data_of c.loop-window.values.items c.in_ok-value.value) in
    rw e (items_go_on (data_at (form c.args.element.now)) (map data_of c.loop-window.values.items) c.loop-window.left (seen c.loop-window.window) (data_of c.in_ok-value.value) (seen c.in_ok-value.rest) _ some (omega arith) c.in_ok-value.ensures c.loop-window.invariant)

pub items-returns : goal.items-returns
items-returns t c =
    let none : length c.loop-window.window.bytes.now ≡ 0 = search rules in
    items_done (data_at (form c.args.element.now)) (map data_of c.loop-window.values.items) c.loop-window.left (seen c.loop-window.window) _ none c.loop-window.invariant

pub members-returns-in_err-value : goal.members-returns-in_err-value
members-returns-in_err-value t c =
    let p = err_from_is_err_and c.from_residual-in_err-value.result c.from_residual-in_err-value.ensures.1 in
    rw (p.1, p.2) (members_fail c.in_err-value.field-0.0 (map data_of c.loop-shape.values.items) c.args.shapes.now c.loop-shape.shape-index c.shape-item.result (seen c.loop-shape.window) _ c.loop-shape-test.true c.shape-item.is c.in_err-value.ensures c.loop-shape.invariant)

pub members-loop-shape-preserved : goal.members-loop-shape-preserved
members-loop-shape-preserved t c =
    let e : map data_of c.push.new.self.items ≡ map data_of c.loop-shape.values.items ++ data_of c.in_ok-value.value ∷ [] = rw c.in_ok-push.ensures.items (map_push data_of c.loop-shape.values.items c.in_ok-value.value) in
    rw e (members_go_on (map data_of c.loop-shape.values.items) c.args.shapes.now c.loop-shape.shape-index c.shape-item.result (seen c.loop-shape.window) (data_of c.in_ok-value.value) (seen c.in_ok-value.rest) _ c.loop-shape-test.true c.shape-item.is c.in_ok-value.ensures c.loop-shape.invariant)

pub members-returns : goal.members-returns
members-returns t c = members_done (map data_of c.loop-shape.values.items) c.args.shapes.now c.loop-shape.shape-index (seen c.loop-shape.window) _ c.loop-shape-test.false c.loop-shape.invariant

pub value_by-returns-in-Union : goal.value_by-returns-in-Union
unfolding data_by
value_by-returns-in-Union t c =
    let e : form c.args.shape.now ≡ union W32 W32 (all_variants c.in-Union.variants.items) = ap form c.in-Union.is ∙ form-Union c.in-Union.variants in
    rw (e, ← c.deref-in-Union.ensures.value) c.union.ensures

pub chosen-returns : goal.chosen-returns
unfolding chosen_at
chosen-returns t c =
    let e = data_of-Some c.args.kind c.in_ok-value-2.value in
    rw (e, c.in_ok-value-2.ensures.ok, c.in_ok-body.ensures, c.in_ok-value.ensures) refl

pub fixed-returns-in_err-value : goal.fixed-returns-in_err-value
fixed-returns-in_err-value t c =
    let p = err_from_is_err_and c.from_residual.result c.from_residual.ensures.1 in
    rw (p.1, p.2) (fixed_bad c.in_err-value.field-0.0 (data_at (form c.args.element.now)) (map data_of c.loop.values.items) c.args.count c.loop.counter (seen c.loop.window) _ (omega arith) c.in_err-value.ensures c.loop.invariant)

pub fixed-loop-preserved : goal.fixed-loop-preserved
fixed-loop-preserved t c =
    let e : map data_of c.push.new.self.items ≡ map data_of c.loop.values.items ++ data_of c.in_ok-value.value ∷ [] = rw c.in_ok-push.ensures.items (map_push data_of c.loop.values.items c.in_ok-value.value) in
    rw e (fixed_more (data_at (form c.args.element.now)) (map data_of c.loop.values.items) c.args.count c.loop.counter (seen c.loop.window) (data_of c.in_ok-value.value) (seen c.in_ok-value.rest) _ (omega arith) c.in_ok-value.ensures c.loop.invariant)

pub fixed-returns : goal.fixed-returns
fixed-returns t c = fixed_end (data_at (form c.args.element.now)) (map data_of c.loop.values.items) c.args.count c.loop.counter (seen c.loop.window) _ (omega arith) c.loop.invariant

pub variant-returns-then-from-kind : goal.variant-returns-then-from-kind
variant-returns-then-from-kind t c =
    let same : c.variant-item.result.0 ≡ c.args.kind = search rules in
    let e = variant_hit c.args.kind c.args.len c.args.place (seen c.args.start) (seen c.args.rest) c.args.variants.now c.loop-variant.variant-index c.variant-item.result _ c.loop-variant-test.true c.variant-item.is same c.loop-variant.invariant in
    rw (e, ← same) c.chosen.ensures

pub variant-returns : goal.variant-returns
variant-returns t c = variant_none c.args.kind c.args.len c.args.place (seen c.args.start) (seen c.args.rest) c.args.variants.now c.loop-variant.variant-index _ c.loop-variant-test.false c.loop-variant.invariant

pub variant-loop-variant-preserved : goal.variant-loop-variant-preserved
variant-loop-variant-preserved t c =
    let other = λ (same : c.variant-item.result.0 ≡ c.args.kind). c.if-from-kind.false (c.from.ensures ∙ same) in
    variant_miss c.args.kind c.args.len c.args.place (seen c.args.start) (seen c.args.rest) c.args.variants.now c.loop-variant.variant-index c.variant-item.result _ c.loop-variant-test.true c.variant-item.is other c.loop-variant.invariant

pub tagged_items-loop-window-init : goal.tagged_items-loop-window-init
tagged_items-loop-window-init t c =
    (length c.args.window.bytes.now, omega arith, rw (c.in_ok-slots.ensures, none_read c.args.members.now) refl, rw c.in_ok-slots.ensures (length-map c.args.members.now (λ _. None)))

pub tagged_items-loop-window-smaller : goal.tagged_items-loop-window-smaller
tagged_items-loop-window-smaller t c =
    let one = rw c.deref_mut.ensures.value at c.in_ok-window.ensures.exact in
    item_shorter (all_members c.args.members.now) (slots_of c.loop-window.slots.items) (slots_of c.tagged_item.new.slots) (seen c.loop-window.window) (seen c.in_ok-window.window) one

pub tagged_items-returns-in_err-window-clause-exact : goal.tagged_items-returns-in_err-window-clause-exact
tagged_items-returns-in_err-window-clause-exact t c =
    let some : 0 < length c.loop-window.window.bytes.now = search rules in
    let p = err_from_is_err_and c.from_residual-in_err-window.result c.from_residual-in_err-window.ensures.1 in
    let one = rw c.deref_mut.ensures.value at c.in_err-window.ensures.exact in
    let (left, le, so_far, lens) = c.loop-window.invariant in
    rw (p.1, p.2) (tagged_fail c.in_err-window.field-0.0 (item_at (all_members c.args.members.now)) left (slots_of c.loop-window.slots.items) (seen c.loop-window.window) _ some le one so_far)

pub tagged_items-loop-window-preserved : goal.tagged_items-loop-window-preserved
tagged_items-loop-window-preserved t c =
    let some : 0 < length c.loop-window.window.bytes.now = search rules in
    let one = rw c.deref_mut.ensures.value at c.in_ok-window.ensures.exact in
    let (left, le, so_far, lens) = c.loop-window.invariant in
    let shorter = item_shorter (all_members c.args.members.now) (slots_of c.loop-window.slots.items) (slots_of c.tagged_item.new.slots) (seen c.loop-window.window) (seen c.in_ok-window.window) one in
    let (fewer, enough, next) = tagged_go_on (item_at (all_members c.args.members.now)) left (slots_of c.loop-window.slots.items) (slots_of c.tagged_item.new.slots) (seen c.loop-window.window) (seen c.in_ok-window.window) _ some le one shorter so_far in
    let same = with_items_is c.loop-window.slots c.tagged_item.new.slots (c.in_ok-window.ensures.len ∙ c.deref_mut.ensures.len) in
    (fewer, enough, rw same next, rw same (c.in_ok-window.ensures.len ∙ ap length c.deref_mut.ensures.value ∙ lens))

pub tagged_items-returns-clause-exact : goal.tagged_items-returns-clause-exact
tagged_items-returns-clause-exact t c =
    let none : length c.loop-window.window.bytes.now ≡ 0 = search rules in
    let (left, le, so_far, lens) = c.loop-window.invariant in
    tagged_done (item_at (all_members c.args.members.now)) left (slots_of c.loop-window.slots.items) (seen c.loop-window.window) _ none so_far

pub tagged_item-returns-in_default-clause-exact : goal.tagged_item-returns-in_default-clause-exact
unfolding item_by
tagged_item-returns-in_default-clause-exact t c =
    rw c.in_ok-tag.ensures
    (skip_fills (all_members c.args.members.now) c.args.indexes.now c.args.slots.now c.in_ok-tag.tag c.args.window.place (seen c.in_ok-tag.rest) c.skipped.result c.requires.indexes c.in_default.ensures.value c.skipped.ensures)

pub tagged_item-offset_bounds-members-index : goal.tagged_item-offset_bounds-members-index
tagged_item-offset_bounds-members-index t c =
    let lt : c.in-Some.field-0.now < length c.args.members.now = found_in c.args.members.now c.args.indexes.now c.in_ok-tag.tag.id c.in-Some.field-0.now c.requires.indexes c.in-Some.ensures.value in
    search rules

pub tagged_item-bounds-members-index : goal.tagged_item-bounds-members-index
tagged_item-bounds-members-index t c = omega (arith, c.requires.lens, found_in c.args.members.now c.args.indexes.now c.in_ok-tag.tag.id c.in-Some.field-0.now c.requires.indexes c.in-Some.ensures.value)

pub tagged_item-offset_bounds-slots-index : goal.tagged_item-offset_bounds-slots-index
tagged_item-offset_bounds-slots-index t c =
    let lt : c.in-Some.field-0.now < length c.args.members.now = found_in c.args.members.now c.args.indexes.now c.in_ok-tag.tag.id c.in-Some.field-0.now c.requires.indexes c.in-Some.ensures.value in
    search rules

pub tagged_item-bounds-slots-index : goal.tagged_item-bounds-slots-index
tagged_item-bounds-slots-index t c = omega (arith, c.requires.lens, found_in c.args.members.now c.args.indexes.now c.in_ok-tag.tag.id c.in-Some.field-0.now c.requires.indexes c.in-Some.ensures.value)

pub tagged_item-offset_bounds-slots-index-2 : goal.tagged_item-offset_bounds-slots-index-2
tagged_item-offset_bounds-slots-index-2 t c =
    let lt : c.in-Some.field-0.now < length c.args.members.now = found_in c.args.members.now c.args.indexes.now c.in_ok-tag.tag.id c.in-Some.field-0.now c.requires.indexes c.in-Some.ensures.value in
    search rules

pub tagged_item-bounds-slots-index-2 : goal.tagged_item-bounds-slots-index-2
tagged_item-bounds-slots-index-2 t c = omega (arith, c.requires.lens, found_in c.args.members.now c.args.indexes.now c.in_ok-tag.tag.id c.in-Some.field-0.now c.requires.indexes c.in-Some.ensures.value)

pub tagged_item-tagged_member-requires : goal.tagged_item-tagged_member-requires
tagged_item-tagged_member-requires t c =
    let lt : c.in-Some.field-0.now < length c.args.members.now = found_in c.args.members.now c.args.indexes.now c.in_ok-tag.tag.id c.in-Some.field-0.now c.requires.indexes c.in-Some.ensures.value in
    search (arith, the_lemmas, lt, c.decreases, c.index-members-index.is)

pub tagged_item-returns-then-is_some-clause-exact : goal.tagged_item-returns-then-is_some-clause-exact
unfolding item_by
tagged_item-returns-then-is_some-clause-exact t c =
    let some : is_some c.index-slots-index.result ≡ true = ap is_some c.index-slots-index.is ∙ sym c.if-is_some.ensures in
    rw c.in_ok-tag.ensures
    (slots_duplicate c.in_ok-tag.tag c.args.window.place (seen c.in_ok-tag.rest) c.args.members.now c.args.indexes.now c.args.slots.now c.in-Some.field-0.now c.index-members-index.result c.index-slots-index.result
    c.requires.indexes c.in-Some.ensures.value c.requires.lens c.index-members-index.is c.index-slots-index.is
    some)

pub tagged_item-returns-in_err-value-clause-exact : goal.tagged_item-returns-in_err-value-clause-exact
unfolding item_by
tagged_item-returns-in_err-value-clause-exact t c =
    let p = err_from_is_err_and c.from_residual-in_err-value.result c.from_residual-in_err-value.ensures.1 in
    let none : is_some c.index-slots-index.result ≡ false = ap is_some c.index-slots-index.is ∙ sym c.if-is_some.ensures in
    rw (p.1, p.2, c.in_ok-tag.ensures)
    (slots_fault c.in_ok-tag.tag c.args.window.place (seen c.in_ok-tag.rest) c.args.members.now c.args.indexes.now c.args.slots.now c.in-Some.field-0.now c.index-members-index.result c.index-slots-index.result
    c.requires.indexes c.in-Some.ensures.value c.requires.lens c.index-members-index.is c.index-slots-index.is
    c.in_err-value.field-0.0 none c.in_err-value.ensures)

pub tagged_item-returns-clause-exact : goal.tagged_item-returns-clause-exact
unfolding item_by
tagged_item-returns-clause-exact t c =
    let none : is_some c.index-slots-index.result ≡ false = ap is_some c.index-slots-index.is ∙ sym c.if-is_some.ensures in
    rw c.in_ok-tag.ensures
    (slots_value c.in_ok-tag.tag c.args.window.place (seen c.in_ok-tag.rest) c.args.members.now c.args.indexes.now c.args.slots.now c.in-Some.field-0.now c.index-members-index.result c.index-slots-index.result
    c.requires.indexes c.in-Some.ensures.value c.requires.lens c.index-members-index.is c.index-slots-index.is
    c.in_ok-value.value (seen c.in_ok-value.rest) none c.in_ok-value.ensures)

pub value_by-returns-in-Bool : goal.value_by-returns-in-Bool
unfolding data_by
value_by-returns-in-Bool t c =
    let f : form c.args.shape.now ≡ bool = ap form c.in-Bool.is ∙ form-Bool in
    rw f c.truth.ensures

pub value_by-returns-in-U8 : goal.value_by-returns-in-U8
unfolding data_by
value_by-returns-in-U8 t c =
    let f : form c.args.shape.now ≡ u8 = ap form c.in-U8.is ∙ form-U8 in
    rw f c.unsigned.ensures

pub value_by-returns-in-U16 : goal.value_by-returns-in-U16
unfolding data_by
value_by-returns-in-U16 t c =
    let f : form c.args.shape.now ≡ u16 = ap form c.in-U16.is ∙ form-U16 in
    rw f c.unsigned-in-U16.ensures

pub value_by-returns-in-U32 : goal.value_by-returns-in-U32
unfolding data_by
value_by-returns-in-U32 t c =
    let f : form c.args.shape.now ≡ u32 = ap form c.in-U32.is ∙ form-U32 in
    rw f c.unsigned-in-U32.ensures

pub value_by-returns-in-U64 : goal.value_by-returns-in-U64
unfolding data_by
value_by-returns-in-U64 t c =
    let f : form c.args.shape.now ≡ u64 = ap form c.in-U64.is ∙ form-U64 in
    rw f c.unsigned-in-U64.ensures

pub value_by-returns-in-I8 : goal.value_by-returns-in-I8
unfolding data_by
value_by-returns-in-I8 t c =
    let f : form c.args.shape.now ≡ i8 = ap form c.in-I8.is ∙ form-I8 in
    rw f c.signed.ensures

pub value_by-returns-in-I16 : goal.value_by-returns-in-I16
unfolding data_by
value_by-returns-in-I16 t c =
    let f : form c.args.shape.now ≡ i16 = ap form c.in-I16.is ∙ form-I16 in
    rw f c.signed-in-I16.ensures

pub value_by-returns-in-I32 : goal.value_by-returns-in-I32
unfolding data_by
value_by-returns-in-I32 t c =
    let f : form c.args.shape.now ≡ i32 = ap form c.in-I32.is ∙ form-I32 in
    rw f c.signed-in-I32.ensures

pub value_by-returns-in-I64 : goal.value_by-returns-in-I64
unfolding data_by
value_by-returns-in-I64 t c =
    let f : form c.args.shape.now ≡ i64 = ap form c.in-I64.is ∙ form-I64 in
    rw f c.signed-in-I64.ensures

pub value_by-returns-in-Text : goal.value_by-returns-in-Text
unfolding data_by
value_by-returns-in-Text t c =
    let x = c.in-Text in
    let f : form c.args.shape.now ≡ string x.encoding x.field-1 = ap form x.is ∙ form-Text x.encoding x.field-1 in
    rw f c.string.ensures

pub value_by-returns-in-Array : goal.value_by-returns-in-Array
unfolding data_by
value_by-returns-in-Array t c =
    let x = c.in-Array in
    let f : form c.args.shape.now ≡ array x.field-0 x.max (form x.element.value) = ap form x.is ∙ form-Array x.field-0 x.max x.element in
    rw f (search rules)

pub value_by-returns-in-Fixed : goal.value_by-returns-in-Fixed
unfolding data_by
value_by-returns-in-Fixed t c =
    let x = c.in-Fixed in
    let f : form c.args.shape.now ≡ fixed None x.count (form x.element.value) = ap form x.is ∙ form-Fixed x.count x.element in
    rw f (search rules)

pub value_by-returns-in-Tagged : goal.value_by-returns-in-Tagged
unfolding data_by
value_by-returns-in-Tagged t c =
    let x = c.in-Tagged in
    let f : form c.args.shape.now ≡ tagged x.field-0 (all_members x.members.items) = ap form x.is ∙ form-Tagged x.field-0 x.members in
    rw f (search rules)

pub value_by-returns-in-U16Le : goal.value_by-returns-in-U16Le
unfolding data_by
value_by-returns-in-U16Le t c =
    let f : form c.args.shape.now ≡ unsigned Little S16 = ap form c.in-U16Le.is ∙ form-U16Le in
    rw f (search rules)

pub value_by-returns-in-U32Le : goal.value_by-returns-in-U32Le
unfolding data_by
value_by-returns-in-U32Le t c =
    let f : form c.args.shape.now ≡ unsigned Little S32 = ap form c.in-U32Le.is ∙ form-U32Le in
    rw f (search rules)

pub value_by-returns-in-U64Le : goal.value_by-returns-in-U64Le
unfolding data_by
value_by-returns-in-U64Le t c =
    let f : form c.args.shape.now ≡ unsigned Little S64 = ap form c.in-U64Le.is ∙ form-U64Le in
    rw f (search rules)

pub value_by-returns-in-I16Le : goal.value_by-returns-in-I16Le
unfolding data_by
value_by-returns-in-I16Le t c =
    let f : form c.args.shape.now ≡ signed Little S16 = ap form c.in-I16Le.is ∙ form-I16Le in
    rw f (search rules)

pub value_by-returns-in-I32Le : goal.value_by-returns-in-I32Le
unfolding data_by
value_by-returns-in-I32Le t c =
    let f : form c.args.shape.now ≡ signed Little S32 = ap form c.in-I32Le.is ∙ form-I32Le in
    rw f (search rules)

pub value_by-returns-in-I64Le : goal.value_by-returns-in-I64Le
unfolding data_by
value_by-returns-in-I64Le t c =
    let f : form c.args.shape.now ≡ signed Little S64 = ap form c.in-I64Le.is ∙ form-I64Le in
    rw f (search rules)

pub value_by-returns-in-FixedText : goal.value_by-returns-in-FixedText
unfolding data_by
value_by-returns-in-FixedText t c =
    let x = c.in-FixedText in
    let f : form c.args.shape.now ≡ padded x.encoding x.len = ap form x.is ∙ form-FixedText x.encoding x.len in
    rw f (search rules)

pub value_by-returns-in-FramedFixed : goal.value_by-returns-in-FramedFixed
unfolding data_by
value_by-returns-in-FramedFixed t c =
    let x = c.in-FramedFixed in
    let f : form c.args.shape.now ≡ fixed (Some x.field-0) x.count (form x.element.value) = ap form x.is ∙ form-FramedFixed x.field-0 x.count x.element in
    rw f (search rules)

pub value_by-returns-in-SizedUnion : goal.value_by-returns-in-SizedUnion
unfolding data_by
value_by-returns-in-SizedUnion t c =
    let x = c.in-SizedUnion in
    let f : form c.args.shape.now ≡ union x.field-0 x.field (all_variants x.variants.items) = ap form x.is ∙ form-SizedUnion x.field-0 x.field x.variants in
    rw (f, ← c.deref-in-SizedUnion.ensures.value) c.union-in-SizedUnion.ensures

pub value_by-returns-in-Named : goal.value_by-returns-in-Named
unfolding data_by
value_by-returns-in-Named t c =
    let x = c.in-Named in
    let f : form c.args.shape.now ≡ named (string_bytes x.field-0) (form x.shape.value) = ap form x.is ∙ form-Named x.field-0 x.shape in
    rw f (search rules)

pub value_by-returns-in-Enum : goal.value_by-returns-in-Enum
unfolding data_by
value_by-returns-in-Enum t c =
    let x = c.in-Enum in
    let f : form c.args.shape.now ≡ enumerated (form x.shape.value) (labels_of x.field-1.items) = ap form x.is ∙ form-Enum x.shape x.field-1 in
    rw f (search rules)

pub value_by-returns-in-F32 : goal.value_by-returns-in-F32
unfolding data_by
value_by-returns-in-F32 t c =
    let f : form c.args.shape.now ≡ float Big single = ap form c.in-F32.is ∙ form-F32 in
    rw f (search rules)

pub value_by-returns-in-F64 : goal.value_by-returns-in-F64
unfolding data_by
value_by-returns-in-F64 t c =
    let f : form c.args.shape.now ≡ float Big double = ap form c.in-F64.is ∙ form-F64 in
    rw f (search rules)

pub value_by-returns-in-F32Le : goal.value_by-returns-in-F32Le
unfolding data_by
value_by-returns-in-F32Le t c =
    let f : form c.args.shape.now ≡ float Little single = ap form c.in-F32Le.is ∙ form-F32Le in
    rw f (search rules)

pub value_by-returns-in-F64Le : goal.value_by-returns-in-F64Le
unfolding data_by
value_by-returns-in-F64Le t c =
    let f : form c.args.shape.now ≡ float Little double = ap form c.in-F64Le.is ∙ form-F64Le in
    rw f (search rules)
