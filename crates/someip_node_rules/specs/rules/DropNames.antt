-- The names of drops and refusals, as a trace tells them.
use Rattle.std.specs.Prelude.{ℕ, List, codes}
use Rattle.sd_wire.specs.decoding.Faults as sd
use Rattle.someip_reassembly.specs.Names as tp
use Rattle.someip_wire.specs.Faults as wire
use Rattle.someip_rpc.specs.Names.{drop_cause_name, request_fault_name, rpc_error_name}
use Rattle.someip_node_rules.specs.declared.drops.DropReason.{DropReason}
use Rattle.someip_node_rules.specs.declared.drops.DropReason.TheVariants as drops
use Rattle.someip_node_rules.specs.declared.error.NodeError.{NodeError}
use Rattle.someip_node_rules.specs.declared.error.NodeError.TheVariants as errors

-- why something that came is dropped
abbrev pub drop_name : DropReason → List ℕ
drop_name drops.Own = codes "Own"
drop_name drops.NoPort = codes "NoPort"
drop_name drops.NotSd = codes "NotSd"
drop_name drops.PeersFull = codes "PeersFull"
drop_name drops.BadRun = codes "BadRun"
drop_name drops.NoEndpoint = codes "NoEndpoint"
drop_name drops.OtherPeer = codes "OtherPeer"
drop_name drops.NotPending = codes "NotPending"
drop_name drops.NotSubscribed = codes "NotSubscribed"
drop_name (drops.Answer cause) = drop_cause_name cause
drop_name (drops.Request fault) = request_fault_name fault
drop_name (drops.Wire fault) = wire.fault_name fault
drop_name (drops.Sd fault) = sd.fault_name fault
drop_name (drops.Tp fault) = tp.error_name fault

-- why a call of a node is refused
abbrev pub node_error_name : NodeError → List ℕ
node_error_name errors.BadConfig = codes "BadConfig"
node_error_name errors.BadDelay = codes "BadDelay"
node_error_name errors.ClockPast = codes "ClockPast"
node_error_name errors.NotWanted = codes "NotWanted"
node_error_name errors.Failed = codes "Failed"
node_error_name errors.OutOfMemory = codes "OutOfMemory"
node_error_name (errors.Rpc refusal) = rpc_error_name refusal
