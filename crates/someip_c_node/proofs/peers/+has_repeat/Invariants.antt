use Rattle.std.proofs.Common.{length}
use Rattle.someip_c_node.proofs.peers.+has_repeat.Given as goal

abbrev pub decreases-has_repeat : goal.decreases-has_repeat
decreases-has_repeat l = length l.peers.now
