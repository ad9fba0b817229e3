use Rattle.std.proofs.Common.{rules, ◌≡◌, None, sym, ◌∙◌}
use Rattle.someip_payload_values.specs.View.{form}
use Rattle.someip_payload.specs.ReadValues.{value_of_text}
use Rattle.someip_payload.proofs.ValueEach.{whole_again}
use Rattle.someip_payload.proofs.ValueSteps.{none_some}
use Rattle.someip_payload.proofs.value_reading.read_value.Goals as goal

pub returns-in-Err-BadValue-clause-only : goal.returns-in-Err-BadValue-clause-only
returns-in-Err-BadValue-clause-only c =
    let is : value_of_text (form c.args.shape.now) c.args.text.now ≡ None = search rules in
    λ d own. none_some d (sym is ∙ whole_again (form c.args.shape.now) d c.args.text.now own)
