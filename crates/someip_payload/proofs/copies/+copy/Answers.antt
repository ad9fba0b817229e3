use Rattle.std.proofs.Common.{◌∙◌, ap, sym}
use Rattle.someip_payload_values.specs.declared.shape.Width.TheVariants.{W32}
use Rattle.someip_payload_values.specs.Data.{union}
use Rattle.someip_payload_values.specs.View.{form, all_variants}
use Rattle.someip_payload_values.proofs.Shapes.{form-Union, form-SizedUnion}
use Rattle.someip_payload.proofs.copies.+copy.Goals as goal

pub copy_shape-returns-in_ok-copy_variants-in-Union : goal.copy_shape-returns-in_ok-copy_variants-in-Union
copy_shape-returns-in_ok-copy_variants-in-Union t c =
    let copy = c.in_ok-copy_variants-in-Union in
    form-Union copy.field-0 ∙ ap (union W32 W32) (copy.ensures ∙ ap all_variants c.deref-in-Union.ensures.value) ∙ sym (ap form c.in-Union.is ∙ form-Union c.in-Union.variants)

pub copy_shape-returns-in_ok-copy_variants-in-SizedUnion : goal.copy_shape-returns-in_ok-copy_variants-in-SizedUnion
copy_shape-returns-in_ok-copy_variants-in-SizedUnion t c =
    let copy = c.in_ok-copy_variants-in-SizedUnion in
    let own = c.in-SizedUnion in
    form-SizedUnion own.width own.type_width copy.field-0 ∙ ap (union own.width own.type_width) (copy.ensures ∙ ap all_variants c.deref-in-SizedUnion.ensures.value)
    ∙ sym (ap form own.is ∙ form-SizedUnion own.width own.type_width own.variants)
