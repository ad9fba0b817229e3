use Rattle.std.proofs.Common.{rules, arith, ◌≡◌, ◌∙◌, ap}
use Rattle.std.proofs.lemmas.Bool.Decides.{nat_tests}
use Rattle.someip_payload_values.specs.declared.shape.Width.TheVariants.{W32}
use Rattle.std.proofs.Common.{None, Some, string_bytes}
use Rattle.someip_payload_values.specs.View.{form, forms, labels_of, all_variants, all_members}
use Rattle.someip_payload_values.specs.Data.{named, enumerated, array, fixed, «struct», union, tagged}
use Rattle.someip_payload_values.proofs.Shapes.{form-Array, form-Fixed, form-Struct, form-Tagged, form-Union, form-FramedFixed, form-SizedUnion, form-Named, form-Enum, some_depth}
use Rattle.someip_payload_values.proofs.check.+within.Goals as goal

pub is_within-returns-in-Union : goal.is_within-returns-in-Union
is_within-returns-in-Union t c =
    let e : form c.args.shape.now ≡ union W32 W32 (all_variants c.in-Union.variants.items) = ap form c.in-Union.is ∙ form-Union c.in-Union.variants in
    rw e (search rules)

pub is_within-returns-in-Array : goal.is_within-returns-in-Array
is_within-returns-in-Array t c =
    let x = c.in-Array in
    let e : form c.args.shape.now ≡ array x.field-0 x.field-1 (form x.element.value) = ap form x.is ∙ form-Array x.field-0 x.field-1 x.element in
    rw e (search rules)

pub is_within-returns-in-Fixed : goal.is_within-returns-in-Fixed
is_within-returns-in-Fixed t c =
    let x = c.in-Fixed in
    let e : form c.args.shape.now ≡ fixed None x.field-0 (form x.element.value) = ap form x.is ∙ form-Fixed x.field-0 x.element in
    rw e (search rules)

pub is_within-returns-in-Struct : goal.is_within-returns-in-Struct
is_within-returns-in-Struct t c =
    let x = c.in-Struct in
    let e : form c.args.shape.now ≡ «struct» x.field-0 (forms x.shapes.items) = ap form x.is ∙ form-Struct x.field-0 x.shapes in
    rw e (search rules)

pub is_within-returns-in-Tagged : goal.is_within-returns-in-Tagged
is_within-returns-in-Tagged t c =
    let x = c.in-Tagged in
    let e : form c.args.shape.now ≡ tagged x.field-0 (all_members x.members.items) = ap form x.is ∙ form-Tagged x.field-0 x.members in
    rw e (search rules)

pub is_within-returns-then-limit-eq0 : goal.is_within-returns-then-limit-eq0
is_within-returns-then-limit-eq0 t c =
    let zero : c.args.limit ≡ 0 = search rules in
    let some = some_depth (form c.args.shape.now) in
    grind (arith, nat_tests, zero, some)

pub is_within-returns-in-FramedFixed : goal.is_within-returns-in-FramedFixed
is_within-returns-in-FramedFixed t c =
    let x = c.in-FramedFixed in
    let e : form c.args.shape.now ≡ fixed (Some x.field-0) x.field-1 (form x.element.value) = ap form x.is ∙ form-FramedFixed x.field-0 x.field-1 x.element in
    rw e (search rules)

pub is_within-returns-in-SizedUnion : goal.is_within-returns-in-SizedUnion
is_within-returns-in-SizedUnion t c =
    let x = c.in-SizedUnion in
    let e : form c.args.shape.now ≡ union x.field-0 x.field-1 (all_variants x.variants.items) = ap form x.is ∙ form-SizedUnion x.field-0 x.field-1 x.variants in
    rw e (search rules)

pub is_within-returns-in-Named : goal.is_within-returns-in-Named
is_within-returns-in-Named t c =
    let x = c.in-Named in
    let e : form c.args.shape.now ≡ named (string_bytes x.field-0) (form x.shape.value) = ap form x.is ∙ form-Named x.field-0 x.shape in
    rw e (search rules)

pub is_within-returns-in-Enum : goal.is_within-returns-in-Enum
is_within-returns-in-Enum t c =
    let x = c.in-Enum in
    let e : form c.args.shape.now ≡ enumerated (form x.shape.value) (labels_of x.field-1.items) = ap form x.is ∙ form-Enum x.shape x.field-1 in
    rw e (search rules)
