use Rattle.std.proofs.Common.{refl}
use Rattle.std.specs.Fmt.{digits}
use Rattle.hex.specs.Hex.{encode_with}
use Rattle.json.specs.Print.{escape_byte}
use Rattle.someipctl_io.proofs.laws.what_objects_say.Goals as goal

pub returns-clause-message : goal.returns-clause-message
unfolding escape_byte encode_with digits
returns-clause-message c = refl

pub returns-clause-entry : goal.returns-clause-entry
unfolding escape_byte encode_with digits
returns-clause-entry c = refl

pub returns-clause-fault : goal.returns-clause-fault
unfolding escape_byte encode_with digits
returns-clause-fault c = refl

pub returns-clause-value : goal.returns-clause-value
unfolding escape_byte encode_with digits
returns-clause-value c = refl

pub returns-clause-nameless : goal.returns-clause-nameless
unfolding escape_byte encode_with digits
returns-clause-nameless c = refl

pub returns-clause-number : goal.returns-clause-number
unfolding escape_byte encode_with digits
returns-clause-number c = refl
