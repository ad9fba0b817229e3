-- What a node's tables do with an input.
use Rattle.std.specs.Prelude.{◌≡◌, Option, None, Some, Result, Ok, Err, IsSome}
use Rattle.someip_node_rules.specs.declared.error.NodeError.{NodeError}
use Rattle.someip_node_rules.specs.declared.error.NodeError.TheVariants.{OutOfMemory}
use Rattle.someip_node_engine.specs.declared.outputs.Giving.{Giving}
use Rattle.someip_node_rules.specs.rules.Inputs.{Input, plan_of, refusal_of}
use Rattle.someip_node_rules.specs.rules.Plans.{plain, run}
use Rattle.someip_node_rules.specs.histories.Tables.{Tables}
use Rattle.someip_node_engine.specs.Working.{working}

-- the error of an input: why it is refused, and else only memory that ran out
abbrev pub or_no_memory : Option NodeError → NodeError
or_no_memory None = OutOfMemory
or_no_memory (Some refusal) = refusal

-- the tables took an input that is not refused as its plan says, or they refused it and are as they were, or memory ran
-- out
abbrev pub Handled : Input → Tables → Giving → Result (Unit {0}) NodeError → Tables → Giving → Type 0
Handled input old before (Ok _) new after =
    (refusal_of input old ≡ None) × (working new after ≡ run plain (plan_of input) (working old before))
Handled input old before (Err error) new after =
    (error ≡ or_no_memory (refusal_of input old)) × (IsSome (refusal_of input old) → new ≡ old)
