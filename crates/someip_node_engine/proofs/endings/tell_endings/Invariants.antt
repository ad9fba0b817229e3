use Rattle.std.proofs.Common.{◌≡◌, ◌++◌, drop}
use Rattle.std.specs.List.Sorted.{IsStrictlySortedBy}
use Rattle.sd_core.specs.Eventgroups.{eventgroup_cmp}
use Rattle.someip_node_rules.specs.rules.Outcomes.{endings}
use Rattle.someip_node_rules.specs.forms.Setups.{wanted_instances}
use Rattle.someip_node_engine.proofs.endings.tell_endings.Given as goal

-- what was told, and what is left to be told, is all
abbrev pub invariant-loop-instance : goal.invariant-loop-instance
invariant-loop-instance l =
    record {
      told :
          l.outputs.items ++ endings (wanted_instances l.config) (drop l.instance-index l.gone) l.rest ≡ l.fn.outputs.items ++ endings (wanted_instances l.config) l.gone l.eventgroups;
      rise : IsStrictlySortedBy eventgroup_cmp l.rest;
    }
