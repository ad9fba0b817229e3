-- The instances that a node is set up to offer, by their ports.
use Rattle.std.specs.Prelude.{ℕ, ◌==◌, Bool, List, filter, length}
use Rattle.std.specs.Ordering.{eq_by_cmp, nat_cmp}
use Rattle.std.specs.Net.Socket.{v4_port}
use Rattle.sd_core.specs.declared.keys.InstanceId.{InstanceId}
use Rattle.someip_node_rules.specs.declared.config.OfferedService.{OfferedService}

-- those that have a port
abbrev pub at_port : ℕ → List (InstanceId × OfferedService) → List (InstanceId × OfferedService)
at_port port offers = filter (λ offer. eq_by_cmp nat_cmp port (v4_port offer.1.rules.endpoint)) offers

-- one of them is the only one that has its port
abbrev pub is_alone : List (InstanceId × OfferedService) → OfferedService → Bool
is_alone offers service = length (at_port (v4_port service.rules.endpoint) offers) == 1
