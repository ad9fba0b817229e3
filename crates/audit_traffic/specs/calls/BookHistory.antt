-- A book of calls, by the messages that it saw.
use Rattle.std.specs.Prelude.{◌≡◌, ◌≤◌, ℕ, Bool, true, ◌⊎◌, List, Some}
use Rattle.std.specs.FinMap as finite
use Rattle.someip_tables.specs.hashed.Rooms.{may_hold}
use Rattle.someip_wire.specs.declared.header.MessageType.{MessageType}
use Rattle.someip_wire.specs.declared.header.MessageType.TheVariants.{Request}
use Rattle.audit_traffic.specs.declared.calls.call.AuditedCall.{AuditedCall}
use Rattle.audit_traffic.specs.declared.calls.known.Known.TheVariants.{Open, Overdue}
use Rattle.audit_traffic.specs.declared.calls.known.OpenCall.{OpenCall}
use Rattle.audit_traffic.specs.calls.CallBooks.{Book}
use Rattle.audit_traffic.specs.calls.CallHistory.{known_of}
use Rattle.audit_traffic.specs.calls.KnownCalls.{known_at}
use Rattle.audit_traffic.specs.calls.Tapped.{Tapped, call_asked}

-- there is room for what a message opens: only a REQUEST asks for any
abbrev pub finds_room_by : MessageType → Tapped → Book → Bool
finds_room_by Request message book = may_hold book.rules.limit book.calls (call_asked message)
finds_room_by _ message book = true

abbrev pub finds_room : Tapped → Book → Bool
finds_room message book = finds_room_by message.header.kind message book

-- a book stands for messages, the newest first, at a moment: from then on it knows of each call what they say; a call that is
-- open in the book is open by the messages; and one that is open by the messages is open in the book, or was told
pub record StandsFor (latest : ℕ) (book : Book) (past : List Tapped) : Type 0 where
  pub knows : (call : AuditedCall) (now : ℕ) → latest ≤ now → known_at now (finite.get book.calls call) ≡ known_at now (known_of call past)
  pub is_open : (call : AuditedCall) (open_call : OpenCall) → finite.get book.calls call ≡ Some (Open open_call) → known_of call past ≡ Some (Open open_call)
  pub is_told : (call : AuditedCall) (open_call : OpenCall) → known_of call past ≡ Some (Open open_call)
      → (finite.get book.calls call ≡ Some (Open open_call)) ⊎ (finite.get book.calls call ≡ Some (Overdue open_call.since))
