use Rattle.someip_payload_values.specs.Tags.{own_width}
use Rattle.someip_payload.proofs.ValueLawForms.{of_form}
use Rattle.someip_payload.proofs.ValueLawWhole.{printed_said}
use Rattle.someip_payload.proofs.laws.printed_values_read_back.Goals as goal

pub returns-clause-text : goal.returns-clause-text
returns-clause-text c = printed_said

pub returns-clause-decoded : goal.returns-clause-decoded
returns-clause-decoded c = λ f d bytes own. of_form (own_width f) f d bytes own

pub returns-clause-encoded : goal.returns-clause-encoded
returns-clause-encoded c = λ f d bytes is. of_form (own_width f) f d bytes (c.what_is_written_is_spelled_so.ensures f d bytes is).1
