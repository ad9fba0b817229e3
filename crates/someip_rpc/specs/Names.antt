-- The names of refusals and faults, as a trace tells them.
use Rattle.std.specs.Prelude.{ℕ, List, codes}
use Rattle.someip_rpc.specs.declared.error.DropCause.{DropCause}
use Rattle.someip_rpc.specs.declared.error.DropCause.TheVariants as causes
use Rattle.someip_rpc.specs.declared.error.RpcError.{RpcError}
use Rattle.someip_rpc.specs.declared.error.RpcError.TheVariants as errors
use Rattle.someip_rpc.specs.declared.request.RequestFault.{RequestFault}
use Rattle.someip_rpc.specs.declared.request.RequestFault.TheVariants as faults

-- why a call is refused
abbrev pub rpc_error_name : RpcError → List ℕ
rpc_error_name errors.NotOffered = codes "NotOffered"
rpc_error_name errors.Busy = codes "Busy"
rpc_error_name errors.TooLong = codes "TooLong"
rpc_error_name errors.UnknownToken = codes "UnknownToken"
rpc_error_name errors.NotPending = codes "NotPending"
rpc_error_name errors.BadErrorCode = codes "BadErrorCode"
rpc_error_name errors.UnknownEvent = codes "UnknownEvent"
rpc_error_name errors.NotSubscribed = codes "NotSubscribed"
rpc_error_name errors.OutOfMemory = codes "OutOfMemory"

-- why an answer is dropped
abbrev pub drop_cause_name : DropCause → List ℕ
drop_cause_name causes.NotPending = codes "NotPending"
drop_cause_name causes.WrongType = codes "WrongType"

-- why an instance does not take a message
abbrev pub request_fault_name : RequestFault → List ℕ
request_fault_name faults.UnknownService = codes "UnknownService"
request_fault_name faults.WrongInterface = codes "WrongInterface"
request_fault_name faults.UnknownMethod = codes "UnknownMethod"
request_fault_name faults.WrongType = codes "WrongType"
request_fault_name faults.NotReady = codes "NotReady"
