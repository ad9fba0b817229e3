use Rattle.std.proofs.Common.{rules, ◌≡◌, ◌<◌, length, map, true, sym, ◌∙◌, ap}
use Rattle.someip_payload_values.specs.declared.shape.Width.TheVariants.{W32}
use Rattle.std.proofs.Common.{None, Some, string_bytes}
use Rattle.someip_payload_values.specs.View.{form, forms, labels_of, all_variants, all_members}
use Rattle.someip_payload_values.specs.Check.{has_members, are_forms, names_of}
use Rattle.someip_payload_values.specs.Data.{named, enumerated, padded, array, fixed, «struct», union, tagged}
use Rattle.someip_payload_values.proofs.Shapes.{form-Array, form-Fixed, form-Struct, form-Tagged, form-Union, form-FramedFixed, form-SizedUnion, form-FixedText, form-Named, form-Enum, has_some_members}
use Rattle.someip_payload_values.proofs.check.+sound.Goals as goal

pub is_sound-returns-in-Union : goal.is_sound-returns-in-Union
is_sound-returns-in-Union t c =
    let e : form c.args.shape.now ≡ union W32 W32 (all_variants c.in-Union.variants.items) = ap form c.in-Union.is ∙ form-Union c.in-Union.variants in
    rw e (search rules)

pub are_sound_members-returns : goal.are_sound_members-returns
are_sound_members-returns t c =
    let some : 0 < length c.args.shapes.now = search rules in
    let h : has_members (forms c.args.shapes.now) ≡ true = has_some_members c.args.shapes.now some in
    let sound : are_forms (forms c.args.shapes.now) ≡ true = sym c.in_ok-are_sound.ensures ∙ c.if-not-branch.false in
    let names : map (λ n. n.now) c.deref.result.now ≡ names_of (forms c.args.shapes.now) = ap (map (λ n. n.now)) c.deref.ensures.value ∙ c.in_ok-names.ensures in
    rw (h, sound, ← names) c.are_names.ensures

pub is_sound-returns-in-Array : goal.is_sound-returns-in-Array
is_sound-returns-in-Array t c =
    let x = c.in-Array in
    let e : form c.args.shape.now ≡ array x.field-0 x.field-1 (form x.element.value) = ap form x.is ∙ form-Array x.field-0 x.field-1 x.element in
    rw e (search rules)

pub is_sound-returns-in-Fixed : goal.is_sound-returns-in-Fixed
is_sound-returns-in-Fixed t c =
    let x = c.in-Fixed in
    let e : form c.args.shape.now ≡ fixed None x.count (form x.element.value) = ap form x.is ∙ form-Fixed x.count x.element in
    rw e (search rules)

pub is_sound-returns-in-Struct : goal.is_sound-returns-in-Struct
is_sound-returns-in-Struct t c =
    let x = c.in-Struct in
    let e : form c.args.shape.now ≡ «struct» x.field-0 (forms x.shapes.items) = ap form x.is ∙ form-Struct x.field-0 x.shapes in
    rw e (search rules)

pub is_sound-returns-in-Tagged : goal.is_sound-returns-in-Tagged
is_sound-returns-in-Tagged t c =
    let x = c.in-Tagged in
    let e : form c.args.shape.now ≡ tagged x.field-0 (all_members x.members.items) = ap form x.is ∙ form-Tagged x.field-0 x.members in
    rw e (search rules)

pub is_sound-returns-in-FramedFixed : goal.is_sound-returns-in-FramedFixed
is_sound-returns-in-FramedFixed t c =
    let x = c.in-FramedFixed in
    let e : form c.args.shape.now ≡ fixed (Some x.field-0) x.count (form x.element.value) = ap form x.is ∙ form-FramedFixed x.field-0 x.count x.element in
    rw e (search rules)

pub is_sound-returns-in-SizedUnion : goal.is_sound-returns-in-SizedUnion
is_sound-returns-in-SizedUnion t c =
    let x = c.in-SizedUnion in
    let e : form c.args.shape.now ≡ union x.field-0 x.field (all_variants x.variants.items) = ap form x.is ∙ form-SizedUnion x.field-0 x.field x.variants in
    rw e (search rules)

pub is_sound-returns-in-FixedText : goal.is_sound-returns-in-FixedText
is_sound-returns-in-FixedText t c =
    let x = c.in-FixedText in
    let e : form c.args.shape.now ≡ padded x.encoding x.len = ap form x.is ∙ form-FixedText x.encoding x.len in
    rw e (search rules)

pub is_sound-returns-in-Named : goal.is_sound-returns-in-Named
is_sound-returns-in-Named t c =
    let x = c.in-Named in
    let e : form c.args.shape.now ≡ named (string_bytes x.field-0) (form x.shape.value) = ap form x.is ∙ form-Named x.field-0 x.shape in
    rw e (search rules)

pub is_sound-returns-in-Enum : goal.is_sound-returns-in-Enum
is_sound-returns-in-Enum t c =
    let x = c.in-Enum in
    let e : form c.args.shape.now ≡ enumerated (form x.shape.value) (labels_of x.labels.items) = ap form x.is ∙ form-Enum x.shape x.labels in
    rw e (search rules)
