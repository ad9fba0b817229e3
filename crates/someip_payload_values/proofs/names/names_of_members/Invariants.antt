use Rattle.std.proofs.Common.{◌≡◌, ◌++◌, map, drop}
use Rattle.someip_payload_values.specs.View.{all_members}
use Rattle.someip_payload_values.specs.Check.{names_of_members}
use Rattle.someip_payload_values.proofs.names.names_of_members.Given as goal

abbrev pub invariant-loop-member : goal.invariant-loop-member
invariant-loop-member l = map (λ n. n.now) l.names.items ++ names_of_members (all_members (drop l.member-index l.members)) ≡ names_of_members (all_members l.members)
