use Rattle.std.proofs.Common.{List, ℕ, ◌++◌, [], codes, ap, sym, ◌∙◌, rules}
use Rattle.std.proofs.lemmas.Result.{IfOk-weaker}
use Rattle.someipctl_io.specs.declared.form.Form.TheVariants.{Json}
use Rattle.someipctl_io.specs.ToldLines.{field, field_text, number}
use Rattle.someipctl_show.proofs.about_types.ValueFieldLemmas.{two-fields, used-some}
use Rattle.someipctl_show.proofs.types.value_fields.put_used_fields.Goals as goal

pub returns : goal.returns
returns c =
    IfOk-weaker c.put_number_field-2.result _ _
    (λ v is.
    two-fields c.args.out.items c.in_ok-out.out.items v.items (field_text Json (field [] (codes "used") (number c.args.used))) (field_text Json (field [] (codes "of") (number c.args.all))) c.in_ok-out.ensures is
    ∙ ap (λ (t : List ℕ). c.args.out.items ++ t) (sym (used-some c.args.used c.args.all (search rules))))
    c.put_number_field-2.ensures
