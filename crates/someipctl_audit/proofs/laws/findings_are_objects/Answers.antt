use Rattle.std.proofs.Common.{refl}
use Rattle.std.specs.Fmt.{digits}
use Rattle.hex.specs.Hex.{encode_with}
use Rattle.json.specs.Print.{escape_byte}
use Rattle.someipctl_audit.proofs.laws.findings_are_objects.Goals as goal

pub returns : goal.returns
unfolding digits encode_with escape_byte
returns c = record { found = refl; frame = refl; allowed = refl; late = refl; malformed = refl; bad_run = refl; no_endpoint = refl; error = refl; interface = refl; not_offered = refl; wide = refl; overtaken = refl; unasked_ack = refl; full = refl; missing = refl; lost = refl; subscribe = refl }
