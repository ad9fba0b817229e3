use Rattle.std.proofs.Common.{◌≡◌}
use Rattle.someip_node_rules.specs.rules.Plans.{each, plain, run}
use Rattle.someip_node_engine.specs.Arrivals.{reached_item_plan}
use Rattle.someip_node_engine.specs.Working.{working}
use Rattle.someip_node_engine.proofs.engine.Engine.datagram.Given as goal

-- what the items that are left bring about now is what all bring about
abbrev pub invariant-loop-item : goal.invariant-loop-item
invariant-loop-item g l =
    record {
      same :
          run plain (each (reached_item_plan l.reached) l.item-iterator) (working l.self l.giving)
          ≡ run plain (each (reached_item_plan l.reached) l.initial.item-iterator) (working l.fn.self l.fn.giving);
      config : l.self.config ≡ l.fn.self.config;
    }
