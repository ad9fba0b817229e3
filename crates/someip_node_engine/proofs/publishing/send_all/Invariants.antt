use Rattle.std.proofs.Common.{◌≡◌, ◌++◌}
use Rattle.std.specs.List.{flat_map}
use Rattle.someip_wire.specs.View.{view}
use Rattle.someip_node_rules.specs.forms.Outputs.{datagrams_of}
use Rattle.someip_node_engine.proofs.publishing.send_all.Given as goal

-- the datagrams so far, and those to the endpoints that are left, are all
abbrev pub invariant-loop-to : goal.invariant-loop-to
invariant-loop-to l =
    l.outputs.items ++ flat_map (λ to. datagrams_of l.publication.from to (view l.publication.message)) l.to-iterator
    ≡ l.fn.outputs.items ++ flat_map (λ to. datagrams_of l.publication.from to (view l.publication.message)) l.endpoints.keys
