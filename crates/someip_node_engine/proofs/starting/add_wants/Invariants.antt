use Rattle.std.proofs.Common.{◌≡◌}
use Rattle.sd_core.specs.Keys.{instance_cmp}
use Rattle.someip_node_engine.proofs.StartLemmas.{want_entry, over}
use Rattle.someip_node_engine.proofs.starting.add_wants.Given as goal

-- with those that are left the map has all
abbrev pub invariant-loop-instance : goal.invariant-loop-instance
invariant-loop-instance l = over instance_cmp want_entry l.instance-iterator.iter l.seeker.wanted ≡ over instance_cmp want_entry l.wants.entries l.fn.seeker.wanted
