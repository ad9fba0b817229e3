use Rattle.std.proofs.Common.{◌≡◌, None, replicate}
use Rattle.someip_payload_codec.proofs.members.empty_slots.Given as goal

abbrev pub invariant-loop : goal.invariant-loop
invariant-loop l = l.slots.items ≡ replicate l.counter None
