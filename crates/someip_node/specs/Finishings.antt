-- How a call of a node ends, by how its tables took the input.
use Rattle.std.specs.Prelude.{Bool, true, false, Result, Ok, Err}
use Rattle.std.specs.Global.{Vec}
use Rattle.someip_node_rules.specs.declared.error.NodeError.{NodeError}
use Rattle.someip_node_rules.specs.declared.error.NodeError.TheVariants.{OutOfMemory}
use Rattle.someip_node_engine.specs.declared.outputs.Giving.{Giving}
use Rattle.someip_node_rules.specs.declared.output.Output.{Output}

-- memory ran out
abbrev pub is_fatal : Result (Unit {0}) NodeError → Bool
is_fatal (Err OutOfMemory) = true
is_fatal _ = false

-- what is given, unless there was an error
abbrev pub given_or_error : Result (Unit {0}) NodeError → Giving → Result (Vec Output) NodeError
given_or_error (Ok _) giving = Ok giving.outputs
given_or_error (Err error) giving = Err error
