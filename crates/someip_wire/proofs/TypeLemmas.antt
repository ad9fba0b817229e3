-- What setting and clearing the TP flag makes of a type.
use Rattle.std.proofs.Common.{◌≡◌, true, false, refl}
use Rattle.someip_wire.specs.declared.header.MessageType.{MessageType}
use Rattle.someip_wire.specs.declared.header.MessageType.TheVariants.{Request, RequestNoReturn, Notification, Response, Error, TpRequest, TpRequestNoReturn, TpNotification, TpResponse, TpError}
use Rattle.someip_wire.specs.Discovery.{is_notification}
use Rattle.someip_wire.specs.Kinds.{has_tp_flag, with_tp_flag, without_tp_flag}

-- a type with the TP flag has it
pub flag_set : (kind : MessageType) → has_tp_flag (with_tp_flag kind) ≡ true
flag_set Request = refl
flag_set RequestNoReturn = refl
flag_set Notification = refl
flag_set Response = refl
flag_set Error = refl
flag_set TpRequest = refl
flag_set TpRequestNoReturn = refl
flag_set TpNotification = refl
flag_set TpResponse = refl
flag_set TpError = refl

-- and is not that of an event
pub flagged_is_no_event : (kind : MessageType) → is_notification (with_tp_flag kind) ≡ false
flagged_is_no_event Request = refl
flagged_is_no_event RequestNoReturn = refl
flagged_is_no_event Notification = refl
flagged_is_no_event Response = refl
flagged_is_no_event Error = refl
flagged_is_no_event TpRequest = refl
flagged_is_no_event TpRequestNoReturn = refl
flagged_is_no_event TpNotification = refl
flagged_is_no_event TpResponse = refl
flagged_is_no_event TpError = refl

-- a type without the flag is that of the whole message
pub whole_already : (kind : MessageType) → has_tp_flag kind ≡ false → without_tp_flag kind ≡ kind
whole_already Request none = refl
whole_already RequestNoReturn none = refl
whole_already Notification none = refl
whole_already Response none = refl
whole_already Error none = refl
whole_already TpRequest none = absurd cc
whole_already TpRequestNoReturn none = absurd cc
whole_already TpNotification none = absurd cc
whole_already TpResponse none = absurd cc
whole_already TpError none = absurd cc

-- and so it is where the flag is set and cleared again
pub flag_cleared_again : (kind : MessageType) → has_tp_flag kind ≡ false → without_tp_flag (with_tp_flag kind) ≡ kind
flag_cleared_again Request none = refl
flag_cleared_again RequestNoReturn none = refl
flag_cleared_again Notification none = refl
flag_cleared_again Response none = refl
flag_cleared_again Error none = refl
flag_cleared_again TpRequest none = absurd cc
flag_cleared_again TpRequestNoReturn none = absurd cc
flag_cleared_again TpNotification none = absurd cc
flag_cleared_again TpResponse none = absurd cc
flag_cleared_again TpError none = absurd cc
