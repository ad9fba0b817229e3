-- The trace of a schedule and the verdict on it, as functions of setup and steps.
use Rattle.std.specs.Prelude.{List, map, Result}
use Rattle.someip_node_rules.specs.declared.config.Config.{Config}
use Rattle.someip_world_schedule.specs.declared.step.Step.{Step}
use Rattle.someip_world_setup.specs.declared.setup_node.SetupNode.{SetupNode}
use Rattle.someip_world_rules.specs.declared.error.RunError.{RunError}
use Rattle.someip_world_rules.specs.declared.line.Line.{Line}
use Rattle.someip_world_rules.specs.declared.reuse.Reuse.{Reuse}
use Rattle.someip_world_rules.specs.Runs.{run_of}
use Rattle.someip_world_verdict.specs.Judging.{judged}

-- the configurations of some nodes
abbrev pub own_configs : List SetupNode → List Config
own_configs nodes = map (λ node. node.config) nodes

-- the trace of a schedule over the nodes of a setup, or its first bad step
abbrev pub trace_of : List SetupNode → List Step → Result (List Line) RunError
trace_of nodes steps = run_of nodes (own_configs nodes) steps

-- the verdict on a schedule whose trace has these lines: whether it reuses the keys of its exchanges cleanly
abbrev pub verdict_of : List SetupNode → List Step → List Line → Reuse
verdict_of nodes steps lines = judged nodes steps lines
