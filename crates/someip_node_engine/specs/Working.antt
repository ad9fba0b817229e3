-- The tables of a node and what it gives so far, as work.
use Rattle.std.specs.Prelude.{List, [], ◌∷◌, ◌++◌, map}
use Rattle.sd_wire.specs.contents.Values.{view_entry}
use Rattle.someip_node_engine.specs.declared.outputs.Giving.{Giving}
use Rattle.someip_node_rules.specs.declared.output.Output.{Output}
use Rattle.someip_node_rules.specs.rules.Plans.{Work, work}
use Rattle.someip_node_rules.specs.histories.Tables.{Tables}

abbrev pub working : Tables → Giving → Work Tables
working tables giving = work tables giving.outputs.items (map view_entry giving.replies.items)

-- work, and then one more output
abbrev pub told_after : Output → Work Tables → Work Tables
told_after output w = record w { outputs = w.outputs ++ output ∷ [] }

-- work, and then more outputs
abbrev pub told_all : List Output → Work Tables → Work Tables
told_all outputs w = record w { outputs = w.outputs ++ outputs }
