use Rattle.std.proofs.Common.{◌≡◌, ◌∙◌, ap, refl, subst}
use Rattle.std.proofs.Output.{has_written_of_eq}
use Rattle.someip_payload_values.specs.Data.{Form, bool}
use Rattle.someip_payload_values.specs.View.{data_of}
use Rattle.someip_payload_values.specs.ToldText.{SaysData, has_float}
use Rattle.someip_payload_values.specs.ValueText.{data_text}
use Rattle.someip_payload_values.proofs.Shapes.{form-Bool}
use Rattle.someip_payload_values.proofs.ToldTexts.{one_text, unless_float}
use Rattle.someip_payload_values.proofs.value_text.ValueDisplay.fmt.Goals as goal

pub returns-clause-writes : goal.returns-clause-writes
returns-clause-writes g c = unless_float (has_float (data_of c.args.self.now)) (data_text bool (data_of c.args.self.now)) _ (λ none plain done.
    let x = c.write_value.ensures plain done in
    let says = subst (λ (f : Form). SaysData f (data_of c.args.self.now) x.0) form-Bool x.1 in
    has_written_of_eq _ _ _ _ _ (one_text bool (data_of c.args.self.now) x.0 none says) x.2)
