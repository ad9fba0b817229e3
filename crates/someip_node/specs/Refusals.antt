-- What a call of a node that was started can be refused as.
use Rattle.std.specs.Prelude.{Bool, true, false}
use Rattle.someip_rpc.specs.declared.error.RpcError.{RpcError}
use Rattle.someip_rpc.specs.declared.error.RpcError.TheVariants.{NotPending, OutOfMemory}
use Rattle.someip_node_rules.specs.declared.error.NodeError.{NodeError}
use Rattle.someip_node_rules.specs.declared.error.NodeError.TheVariants.{BadConfig, BadDelay, Rpc}

-- a refusal of a call, an answer or a publication. That memory ran out a node tells as its own error, and no call waits
-- to be named
abbrev pub is_rpc_refusal : RpcError → Bool
is_rpc_refusal NotPending = false
is_rpc_refusal OutOfMemory = false
is_rpc_refusal _ = true

-- a refusal of a node that was started: configuration and delay are judged at its starts alone
abbrev pub is_call_refusal : NodeError → Bool
is_call_refusal BadConfig = false
is_call_refusal BadDelay = false
is_call_refusal (Rpc refusal) = is_rpc_refusal refusal
is_call_refusal _ = true
