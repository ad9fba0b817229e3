-- The message types and their numbers (SOME/IP Protocol, "Message Type").
use Rattle.std.specs.Prelude.{ℕ, Bool, true, false, List, [], ◌∷◌, Option, ◌==◌, find}
use Rattle.someip_wire.specs.declared.header.MessageType.{MessageType}
use Rattle.someip_wire.specs.declared.header.MessageType.TheVariants.{Request, RequestNoReturn, Notification, Response, Error, TpRequest, TpRequestNoReturn, TpNotification, TpResponse, TpError}

-- the number of a type
abbrev pub kind_byte : MessageType → ℕ
kind_byte Request = 0x00
kind_byte RequestNoReturn = 0x01
kind_byte Notification = 0x02
kind_byte Response = 0x80
kind_byte Error = 0x81
kind_byte TpRequest = 0x20
kind_byte TpRequestNoReturn = 0x21
kind_byte TpNotification = 0x22
kind_byte TpResponse = 0xa0
kind_byte TpError = 0xa1

-- all types
abbrev pub all_kinds : List MessageType
all_kinds = Request ∷ RequestNoReturn ∷ Notification ∷ Response ∷ Error ∷ TpRequest ∷ TpRequestNoReturn ∷ TpNotification ∷ TpResponse ∷ TpError ∷ []

-- the type with a number, if there is one
abbrev pub kind_of : ℕ → Option MessageType
kind_of b = find (λ kind. kind_byte kind == b) all_kinds

-- a type has the TP flag, hex 20: the message is a segment
abbrev pub has_tp_flag : MessageType → Bool
has_tp_flag Request = false
has_tp_flag RequestNoReturn = false
has_tp_flag Notification = false
has_tp_flag Response = false
has_tp_flag Error = false
has_tp_flag TpRequest = true
has_tp_flag TpRequestNoReturn = true
has_tp_flag TpNotification = true
has_tp_flag TpResponse = true
has_tp_flag TpError = true

-- the same type with the TP flag set
abbrev pub with_tp_flag : MessageType → MessageType
with_tp_flag Request = TpRequest
with_tp_flag RequestNoReturn = TpRequestNoReturn
with_tp_flag Notification = TpNotification
with_tp_flag Response = TpResponse
with_tp_flag Error = TpError
with_tp_flag TpRequest = TpRequest
with_tp_flag TpRequestNoReturn = TpRequestNoReturn
with_tp_flag TpNotification = TpNotification
with_tp_flag TpResponse = TpResponse
with_tp_flag TpError = TpError

-- the same type with the TP flag cleared: that of the whole message
abbrev pub without_tp_flag : MessageType → MessageType
without_tp_flag Request = Request
without_tp_flag RequestNoReturn = RequestNoReturn
without_tp_flag Notification = Notification
without_tp_flag Response = Response
without_tp_flag Error = Error
without_tp_flag TpRequest = Request
without_tp_flag TpRequestNoReturn = RequestNoReturn
without_tp_flag TpNotification = Notification
without_tp_flag TpResponse = Response
without_tp_flag TpError = Error
