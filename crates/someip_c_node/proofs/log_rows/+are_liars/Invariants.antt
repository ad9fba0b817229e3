use Rattle.std.proofs.Common.{length}
use Rattle.someip_c_node.proofs.log_rows.+are_liars.Given as goal

-- each call has one node fewer
abbrev pub decreases-are_liars : goal.decreases-are_liars
decreases-are_liars l = length l.nodes.now
