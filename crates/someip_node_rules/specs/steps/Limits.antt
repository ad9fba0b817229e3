-- How much of what came a node holds at most.
use Rattle.std.specs.Prelude.{◌≤◌}
use Rattle.std.specs.FinMap as finite
use Rattle.someip_node_rules.specs.histories.Tables.{Tables}

-- there are no more peers than the node is set up for, and at most 1024 calls and 1024 requests wait for their answers
pub record HoldsWithinLimits (t : Tables) : Type 0 where
  pub peers : finite.len t.peers ≤ t.config.common.peers
  pub calls : finite.len t.client.pending ≤ 1024
  pub requests : finite.len t.server.requests ≤ 1024
