use Rattle.std.proofs.Common.{◌≡◌, ◌++◌, map}
use Rattle.someip_node_rules.specs.declared.output.Output.TheVariants.{TimedOut}
use Rattle.someip_node_engine.proofs.ticking.tell_timed_out.Given as goal

-- the calls that were told, and those that are left, are all
abbrev pub invariant-loop-call : goal.invariant-loop-call
invariant-loop-call l =
    l.outputs.items ++ map (λ call. TimedOut call.message call.session) l.call-iterator ≡ l.fn.outputs.items ++ map (λ call. TimedOut call.message call.session) l.calls.keys
