use Rattle.std.proofs.Common.{refl}
use Rattle.std.specs.Fmt.{digits}
use Rattle.json.specs.Print.{escape_byte}
use Rattle.someipctl_recordings.proofs.laws.what_objects_of_recordings_say.Goals as goal

pub returns-clause-all : goal.returns-clause-all
unfolding escape_byte digits
returns-clause-all c = refl

pub returns-clause-frame : goal.returns-clause-frame
unfolding escape_byte digits
returns-clause-frame c = refl
