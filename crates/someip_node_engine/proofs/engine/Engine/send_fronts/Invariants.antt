use Rattle.std.proofs.Common.{◌≡◌, length, map, drop}
use Rattle.sd_wire.specs.fronts.Fronts.{fronts_of}
use Rattle.sd_wire.specs.contents.Values.{view_entry}
use Rattle.someip_node_engine.specs.FrontSizes.{AreWithin}
use Rattle.someip_node_rules.specs.rules.Plans.{each, plain, run}
use Rattle.someip_node_rules.specs.forms.Receivers.{message_plan_to}
use Rattle.someip_node_engine.specs.Working.{working}
use Rattle.someip_node_engine.proofs.engine.Engine.send_fronts.Given as goal

-- what the fronts that are left bring about now is what all bring about
abbrev pub invariant-loop-length : goal.invariant-loop-length
invariant-loop-length g l =
    record {
      same :
          run plain (each (message_plan_to l.receiver) (fronts_of (drop l.length-index l.lengths) (map view_entry l.rest))) (working l.self l.giving)
          ≡ run plain (each (message_plan_to l.receiver) (fronts_of l.lengths (map view_entry l.entries))) (working l.fn.self l.fn.giving);
      within : AreWithin (drop l.length-index l.lengths) (length l.rest);
      config : l.self.config ≡ l.fn.self.config;
    }
