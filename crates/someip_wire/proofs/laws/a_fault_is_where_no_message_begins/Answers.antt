use Rattle.std.proofs.Common.{◌+◌}
use Rattle.someip_wire.proofs.MessageLemmas.{none_is_whole, begins_whole, begins_none}
use Rattle.someip_wire.specs.Faults.{length_field}
use Rattle.someip_wire.specs.Reading.{message_in}
use Rattle.someip_wire.proofs.laws.a_fault_is_where_no_message_begins.Goals as goal

pub returns : goal.returns
returns c = λ place bytes fits. (
  λ none. (message_in bytes, length_field bytes + 8, begins_whole bytes fits (none_is_whole place bytes none)),
  λ begins. begins_none place begins.0 begins.1 bytes begins.2,
)
