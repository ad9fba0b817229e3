use Rattle.someip_wire.proofs.MessageLemmas.{begins_spelled}
use Rattle.someip_wire.proofs.laws.a_spelling_is_what_bytes_begin_with.Goals as goal

pub returns : goal.returns
returns c = begins_spelled
