use Rattle.sd_core.specs.Keys.{instance_cmp}
use Rattle.someip_world_setup_keys.specs.Values.{want_view}
use Rattle.someip_world_setup_keys.specs.Made.{wanted_view, keyed_want}
use Rattle.someip_world_setup_keys.proofs.MakingLemmas.{HasEntries}
use Rattle.someip_world_setup_keys.proofs.configs.want_map.Given as goal

abbrev pub invariant-loop-want : goal.invariant-loop-want
invariant-loop-want l = HasEntries instance_cmp wanted_view (λ x. keyed_want (want_view x)) l.map.entries l.want-index l.wants
