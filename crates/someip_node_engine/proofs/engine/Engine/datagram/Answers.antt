use Rattle.std.proofs.Common.{rules, ◌≡◌, false, Some}
use Rattle.std.specs.Net.Socket.{v4_ip}
use Rattle.someip_wire.specs.Reading.{items_of}
use Rattle.someip_node_engine.specs.Arrivals.{reached_from, reached_item_plan}
use Rattle.someip_node_rules.specs.rules.Handling.{same_address, target_of}
use Rattle.someip_node_rules.specs.rules.Plans.{each, plain, run}
use Rattle.someip_node_engine.specs.Working.{working}
use Rattle.someip_node_engine.proofs.ReachedLemmas.{target_reached}
use Rattle.someip_node_engine.proofs.engine.Engine.datagram.Goals as goal

pub returns-clause-work : goal.returns-clause-work
returns-clause-work g c =
    let reached : reached_from c.args.from c.args.to (target_of c.args.self.now.config c.args.to) ≡ Some c.in-Some.reached = cc in
    let not_own : same_address (v4_ip c.args.from) c.args.self.now.config.address ≡ false = search rules in
    let all : working c.loop-item.self c.loop-item.giving
    ≡ run plain (each (reached_item_plan c.in-Some.reached) (items_of c.args.bytes.now)) (working c.args.self.now c.args.giving.now) = search rules in
    rw (not_own, target_reached c.args.from c.args.to (target_of c.args.self.now.config c.args.to) c.in-Some.reached c.args.bytes.now reached) all
