use Rattle.std.proofs.Common.{ap, ◌∙◌}
use Rattle.std.specs.FinMap as finite
use Rattle.someip_tables.specs.Endpoints.{address_cmp}
use Rattle.someip_tables.specs.EndpointOrder.{addresses_total, exact_addresses}
use Rattle.someip_tables.specs.Tables.{map_of}
use Rattle.someip_tables.proofs.Trees.{map_of-insert}
use Rattle.sd_session.specs.Sessions.{following}
use Rattle.someip_node_engine.proofs.announcing.next_stamp.Goals as goal

pub returns-clause-counts : goal.returns-clause-counts
returns-clause-counts c =
    map_of-insert addresses_total exact_addresses c.args.unicast.now.entries c.insert.new.self.entries c.args.peer _ c.in_ok-insert.ensures.updates.0
    ∙ ap (finite.insert (map_of address_cmp c.args.unicast.now.entries) c.args.peer) (c.next-session.ensures.counts ∙ ap following c.counter_for-counter.ensures)
