use Rattle.std.proofs.Common.{[], codes}
use Rattle.std.proofs.lemmas.Result.{IfOk-weaker}
use Rattle.someipctl_io.specs.declared.form.Form.TheVariants.{Json}
use Rattle.someipctl_io.specs.ToldLines.{field, field_text, number, text}
use Rattle.someipctl_show.proofs.about_types.ValueFieldLemmas.{two-fields}
use Rattle.someipctl_show.proofs.types.value_fields.put_fault_fields.Goals as goal

pub returns : goal.returns
returns c =
    IfOk-weaker c.put_number_field.result _ _
    (λ v is. two-fields c.args.out.items c.in_ok-out.out.items v.items (field_text Json (field [] (codes "fault") (text c.args.name.now))) (field_text Json (field [] (codes "at") (number c.args.place))) c.in_ok-out.ensures is)
    c.put_number_field.ensures
