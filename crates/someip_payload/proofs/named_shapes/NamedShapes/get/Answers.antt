use Rattle.std.proofs.Common.{sym, ap, ◌∙◌}
use Rattle.std.specs.Option.{option_map}
use Rattle.someip_payload_values.specs.View.{form}
use Rattle.someip_payload.specs.Named.{NamedForms, form_named}
use Rattle.someip_payload.proofs.NamedLookups.{form_named-view, form-lent}
use Rattle.someip_payload.proofs.named_shapes.NamedShapes.get.Goals as goal

pub returns : goal.returns
returns c =
    form-lent c.get.result ∙ ap (option_map form) c.get.ensures.value ∙ sym (form_named-view c.self.inside.shapes c.args.name.now)
    ∙ ap (λ (v : NamedForms). form_named v c.args.name.now) c.self.view_is
