use Rattle.std.proofs.Common.{◌≡◌, map, drop}
use Rattle.sd_wire.specs.contents.Values.{view_read}
use Rattle.someip_node_rules.specs.rules.Handling.{entry_plan}
use Rattle.someip_node_rules.specs.rules.Plans.{each, plain, run}
use Rattle.someip_node_engine.specs.Working.{working}
use Rattle.someip_node_engine.proofs.engine.Engine.entries.Given as goal

-- what the entries that are left bring about now is what all bring about
abbrev pub invariant-loop-entry : goal.invariant-loop-entry
invariant-loop-entry g l =
    record {
      same :
          run plain (each (entry_plan l.peer) (map view_read (drop l.entry-index l.entries))) (working l.self l.giving)
          ≡ run plain (each (entry_plan l.peer) (map view_read l.entries)) (working l.fn.self l.fn.giving);
      config : l.self.config ≡ l.fn.self.config;
    }
