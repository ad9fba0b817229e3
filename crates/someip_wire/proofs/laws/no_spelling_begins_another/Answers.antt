use Rattle.someip_wire.proofs.MessageLemmas.{prefix_same}
use Rattle.someip_wire.proofs.laws.no_spelling_begins_another.Goals as goal

pub returns : goal.returns
returns c = prefix_same
