use Rattle.std.proofs.Common.{◌≡◌, ◌≢◌, ℕ, Option, refl}
use Rattle.someip_wire.specs.declared.header.MessageType.{MessageType}
use Rattle.someip_wire.specs.declared.header.MessageType.TheVariants as kinds
use Rattle.someip_rpc.specs.declared.request.Arrived.{Arrived}
use Rattle.someip_rpc.specs.declared.request.Arrived.TheVariants as arrived
use Rattle.someip_rpc.specs.declared.request.Asked.{Asked}
use Rattle.someip_rpc.specs.declared.request.RequestFault.{RequestFault}
use Rattle.someip_rpc.specs.declared.request.RequestFault.TheVariants.{WrongType}
use Rattle.someip_rpc.specs.Requests.{BecomesOf}
use Rattle.someip_rpc.proofs.laws.what_is_no_request_is_dropped.Goals as goal

dropped : (kind : MessageType) (request : Asked) (next : ℕ) (fault : Option RequestFault) (becomes : Arrived)
    → kind ≢ kinds.Request → kind ≢ kinds.RequestNoReturn → BecomesOf request next kind fault becomes → becomes ≡ arrived.Dropped WrongType
dropped kinds.Request request next fault becomes other further is = absurd (other refl)
dropped kinds.RequestNoReturn request next fault becomes other further is = absurd (further refl)
dropped kinds.Notification request next fault becomes other further is = is
dropped kinds.Response request next fault becomes other further is = is
dropped kinds.Error request next fault becomes other further is = is
dropped kinds.TpRequest request next fault becomes other further is = is
dropped kinds.TpRequestNoReturn request next fault becomes other further is = is
dropped kinds.TpNotification request next fault becomes other further is = is
dropped kinds.TpResponse request next fault becomes other further is = is
dropped kinds.TpError request next fault becomes other further is = is

pub returns : goal.returns
returns c = dropped
