use Rattle.std.proofs.Common.{rules, ◌≡◌, ◌∙◌, ap}
use Rattle.someip_payload_values.specs.declared.shape.Width.TheVariants.{W32}
use Rattle.someip_payload_values.specs.Data.{union}
use Rattle.someip_payload_values.specs.View.{form, all_variants}
use Rattle.someip_payload_values.proofs.Shapes.{form-Union, form-SizedUnion}
use Rattle.someip_payload.proofs.shape_sizes.+depth.Goals as goal

pub depth_of-returns-in-Union : goal.depth_of-returns-in-Union
depth_of-returns-in-Union t c =
    let e : form c.args.shape.now ≡ union W32 W32 (all_variants c.in-Union.variants.items) = ap form c.in-Union.is ∙ form-Union c.in-Union.variants in
    rw e (search rules)

pub depth_of-returns-in-SizedUnion : goal.depth_of-returns-in-SizedUnion
depth_of-returns-in-SizedUnion t c =
    let x = c.in-SizedUnion in
    let e : form c.args.shape.now ≡ union x.field-0 x.field-1 (all_variants x.variants.items) = ap form x.is ∙ form-SizedUnion x.field-0 x.field-1 x.variants in
    rw e (search rules)
