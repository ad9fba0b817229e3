use Rattle.std.proofs.Common.{◌≡◌, drop}
use Rattle.someip_payload_values.specs.View.{all_members, slots_of}
use Rattle.someip_payload_codec.specs.Grammar.{has_required}
use Rattle.someip_payload_codec.proofs.members.have_required.Given as goal

abbrev pub invariant-loop-i : goal.invariant-loop-i
invariant-loop-i l = has_required (all_members (drop l.i l.members)) (slots_of (drop l.i l.slots)) ≡ has_required (all_members l.members) (slots_of l.slots)
