-- The refusals of the cores, as those of a node.
use Rattle.std.specs.Prelude.{Option}
use Rattle.std.specs.Option.{option_map}
use Rattle.someip_rpc.specs.declared.error.RpcError.{RpcError}
use Rattle.someip_rpc.specs.declared.error.RpcError.TheVariants as core
use Rattle.someip_node_rules.specs.declared.error.NodeError.{NodeError}
use Rattle.someip_node_rules.specs.declared.error.NodeError.TheVariants.{OutOfMemory, Rpc}

abbrev pub rpc_error : RpcError → NodeError
rpc_error core.OutOfMemory = OutOfMemory
rpc_error core.NotOffered = Rpc core.NotOffered
rpc_error core.Busy = Rpc core.Busy
rpc_error core.TooLong = Rpc core.TooLong
rpc_error core.UnknownToken = Rpc core.UnknownToken
rpc_error core.NotPending = Rpc core.NotPending
rpc_error core.BadErrorCode = Rpc core.BadErrorCode
rpc_error core.UnknownEvent = Rpc core.UnknownEvent
rpc_error core.NotSubscribed = Rpc core.NotSubscribed

-- a refusal of a call, an answer or a publication, as the node tells it
abbrev pub as_node_error : Option RpcError → Option NodeError
as_node_error = option_map Rpc
