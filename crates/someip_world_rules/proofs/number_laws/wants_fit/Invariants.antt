use Rattle.std.specs.List.{AllByRecursion}
use Rattle.someip_node_laws.specs.Fitting.{FitsWant}
use Rattle.someip_world_rules.proofs.number_laws.wants_fit.Given as goal

-- all fit where those that are left do
abbrev pub invariant-loop-instance : goal.invariant-loop-instance
invariant-loop-instance l = AllByRecursion FitsWant l.instance-iterator → AllByRecursion FitsWant l.wants.entries
