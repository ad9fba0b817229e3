use Rattle.someip_payload_codec.proofs.tagged.TaggedLoops.{HasIndexesFrom}
use Rattle.someip_payload_codec.proofs.members.indexes_of.Given as goal

abbrev pub invariant-loop-i : goal.invariant-loop-i
invariant-loop-i l = HasIndexesFrom l.i l.members l.indexes
