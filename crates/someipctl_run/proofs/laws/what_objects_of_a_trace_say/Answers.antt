use Rattle.std.proofs.Common.{refl}
use Rattle.std.specs.Fmt.{digits}
use Rattle.hex.specs.Hex.{encode_with}
use Rattle.json.specs.Print.{escape_byte}
use Rattle.someipctl_run.proofs.laws.what_objects_of_a_trace_say.Goals as goal

pub returns-clause-sent : goal.returns-clause-sent
unfolding escape_byte encode_with digits
returns-clause-sent c = refl

pub returns-clause-request : goal.returns-clause-request
unfolding escape_byte encode_with digits
returns-clause-request c = refl

pub returns-clause-clean : goal.returns-clause-clean
unfolding escape_byte encode_with digits
returns-clause-clean c = refl

pub returns-clause-broken : goal.returns-clause-broken
unfolding escape_byte encode_with digits
returns-clause-broken c = λ step_lines. refl
