-- The numbers of reasons.
use Rattle.std.specs.Prelude.{ℕ}
use Rattle.sd_core.specs.declared.error.Cause.{Cause}
use Rattle.sd_core.specs.declared.error.Cause.TheVariants as cause
use Rattle.someip_rpc.specs.declared.error.DropCause.{DropCause}
use Rattle.someip_rpc.specs.declared.error.DropCause.TheVariants as answer
use Rattle.someip_rpc.specs.declared.request.RequestFault.{RequestFault}
use Rattle.someip_rpc.specs.declared.request.RequestFault.TheVariants as request
use Rattle.someip_wire.specs.declared.error.WireError.{WireError}
use Rattle.someip_wire.specs.declared.error.WireError.TheVariants as wire
use Rattle.sd_wire.specs.declared.error.SdError.{SdError}
use Rattle.sd_wire.specs.declared.error.SdError.TheVariants as sd
use Rattle.someip_reassembly.specs.declared.error.TpError.{TpError}
use Rattle.someip_reassembly.specs.declared.error.TpError.TheVariants as tp
use Rattle.someip_node_rules.specs.declared.drops.DropReason.{DropReason}
use Rattle.someip_node_rules.specs.declared.drops.DropReason.TheVariants as drops

-- why a subscription is refused
abbrev pub cause_number : Cause → ℕ
cause_number cause.NotOffered = 1
cause_number cause.WrongMajor = 2
cause_number cause.UnknownEventgroup = 3
cause_number cause.NoEndpoint = 4
cause_number cause.Full = 5

-- why an answer is dropped
abbrev pub answer_number : DropCause → ℕ
answer_number answer.NotPending = 1
answer_number answer.WrongType = 2

-- a fault of a request
abbrev pub request_number : RequestFault → ℕ
request_number request.UnknownService = 1
request_number request.WrongInterface = 2
request_number request.UnknownMethod = 3
request_number request.WrongType = 4
request_number request.NotReady = 5

-- a fault of a message's bytes
abbrev pub wire_number : WireError → ℕ
wire_number (wire.Truncated place) = 1
wire_number (wire.LengthTooSmall place) = 2
wire_number (wire.WrongProtocolVersion place) = 3
wire_number (wire.UnknownMessageType place) = 4

-- a fault of a Service Discovery message: too many options is a fault of writing alone, and has no number
abbrev pub sd_number : SdError → ℕ
sd_number (sd.Truncated place) = 1
sd_number (sd.EntriesLength place) = 2
sd_number (sd.UnknownEntryType place) = 3
sd_number (sd.OptionLength place) = 4
sd_number (sd.TooManyOptions place) = 0
sd_number (sd.TrailingBytes place) = 6
sd_number sd.OutOfMemory = 7

-- a fault of a segment
abbrev pub tp_number : TpError → ℕ
tp_number tp.Unaligned = 1
tp_number tp.TooLong = 2
tp_number tp.Conflict = 3
tp_number tp.NoSlot = 4
tp_number tp.OutOfMemory = 5
tp_number tp.NoHeader = 6

-- why something that came is dropped
abbrev pub drop_number : DropReason → ℕ
drop_number drops.Own = 1
drop_number drops.NoPort = 2
drop_number drops.NotSd = 3
drop_number drops.PeersFull = 4
drop_number drops.BadRun = 5
drop_number drops.NoEndpoint = 6
drop_number drops.OtherPeer = 7
drop_number drops.NotPending = 8
drop_number drops.NotSubscribed = 9
drop_number (drops.Answer fault) = 10
drop_number (drops.Request fault) = 11
drop_number (drops.Wire fault) = 12
drop_number (drops.Sd fault) = 13
drop_number (drops.Tp fault) = 14

-- which of its own faults it was: 0 where it has none
abbrev pub detail_of : DropReason → ℕ
detail_of (drops.Answer fault) = answer_number fault
detail_of (drops.Request fault) = request_number fault
detail_of (drops.Wire fault) = wire_number fault
detail_of (drops.Sd fault) = sd_number fault
detail_of (drops.Tp fault) = tp_number fault
detail_of reason = 0
