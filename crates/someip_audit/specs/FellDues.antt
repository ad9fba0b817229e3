-- What falls due between datagrams, over all books.
use Rattle.std.specs.Prelude.{◌≡◌, ◌≤◌, ℕ, nat_le, max, false, if◌then◌else◌, Option, None, Some}
use Rattle.std.specs.declared.cmp.Ordering.{Ordering}
use Rattle.std.specs.declared.cmp.Ordering.TheVariants.{Equal}
use Rattle.std.specs.Ordering.{nat_cmp, ordering_then}
use Rattle.std.specs.FinMap as finite
use Rattle.audit_traffic.specs.declared.calls.finding.Unanswered.{Unanswered}
use Rattle.audit_traffic.specs.calls.AuditedCalls.{call_cmp}
use Rattle.audit_traffic.specs.calls.CallBooks as calls
use Rattle.audit_traffic.specs.calls.Overdue.{IsOpenCall, calls_after_due}
use Rattle.audit_traffic.specs.segments.MessageKeys.{message_cmp, message_key}
use Rattle.audit_traffic.specs.segments.SegmentBooks as segments
use Rattle.audit_traffic.specs.cycles.CycleTables as cycles
use Rattle.audit_traffic.specs.events.FlowKeys.{flow_cmp}
use Rattle.audit_traffic.specs.gaps.MissingKeys.{missing_cmp}
use Rattle.audit_traffic.specs.sequence.Sequences as events
use Rattle.std.specs.declared.net.socket_addr.SocketAddrV4.{SocketAddrV4}
use Rattle.someip_tables.specs.declared.lasting.Lasting.{Lasting}
use Rattle.someip_tables.specs.Deadlines.{has_passed}
use Rattle.audit_sd.specs.declared.subscriptions.key.SubscriptionKey.{SubscriptionKey}
use Rattle.audit_sd.specs.receivers.ReceiverTables.{Subscriptions}
use Rattle.audit_sd.specs.offers.OfferKeys.{offer_cmp}
use Rattle.audit_sd.specs.offers.OfferRules.{passes_at}
use Rattle.audit_sd.specs.offers.OfferTables as offers
use Rattle.audit_sd.specs.subscriptions.SubscriptionKeys.{subscription_cmp}
use Rattle.audit_sd.specs.subscriptions.SubscribeTables as subscriptions
use Rattle.someip_audit.specs.declared.fell_due.FellDue.{FellDue}
use Rattle.someip_audit.specs.declared.fell_due.FellDue.TheVariants as due
use Rattle.someip_audit.specs.BooksHeld.{Held}

-- the moment at which it falls due
abbrev pub deadline : FellDue → ℕ
deadline (due.Unanswered told) = told.until
deadline (due.Missing told) = told.until
deadline (due.Expired told) = told.at
deadline (due.SubscribeUnanswered told) = told.at
deadline (due.EventLost told) = told.at
deadline (due.Silent told) = told.at

-- the place of its book among the books
abbrev pub book_of : FellDue → ℕ
book_of (due.Unanswered told) = 0
book_of (due.Missing told) = 1
book_of (due.Expired told) = 2
book_of (due.SubscribeUnanswered told) = 3
book_of (due.EventLost told) = 4
book_of (due.Silent told) = 5

-- by key, of what is of one book
abbrev pub key_cmp : FellDue → FellDue → Ordering
key_cmp (due.Unanswered a) (due.Unanswered b) = call_cmp a.call b.call
key_cmp (due.Missing a) (due.Missing b) = message_cmp (message_key a.key) (message_key b.key)
key_cmp (due.Expired a) (due.Expired b) = offer_cmp a.key b.key
key_cmp (due.SubscribeUnanswered a) (due.SubscribeUnanswered b) = subscription_cmp a.key b.key
key_cmp (due.EventLost a) (due.EventLost b) = missing_cmp a.key b.key
key_cmp (due.Silent a) (due.Silent b) = flow_cmp a.flow b.flow
key_cmp a b = Equal

-- by deadline, then by book, and then by key
abbrev pub fell_cmp : FellDue → FellDue → Ordering
fell_cmp a b = ordering_then (nat_cmp (deadline a) (deadline b)) (ordering_then (nat_cmp (book_of a) (book_of b)) (key_cmp a b))

-- none of the subscriptions that stand has passed by a moment
abbrev pub NonePassed : ℕ → Subscriptions → Type 0
NonePassed at standing = (key : SubscriptionKey) (lasting : Lasting SocketAddrV4) → finite.get standing key ≡ Some lasting → has_passed at lasting.until ≡ false

-- it waits in its book, so as it is told; and a silent event only until a subscription has passed
abbrev pub IsAwaited : Held → FellDue → Type 0
IsAwaited held (due.Unanswered told) = IsOpenCall held.calls.calls told
IsAwaited held (due.Missing told) = segments.IsWaiting held.segments.waiting told
IsAwaited held (due.Expired told) = (finite.get held.offers.standing told.key ≡ Some told.offer) × (passes_at told.offer ≡ Some told.at)
IsAwaited held (due.SubscribeUnanswered told) = finite.get held.subscriptions.waiting told.key ≡ Some (record { origin = told.origin; until = told.at })
IsAwaited held (due.EventLost told) = finite.get held.events.gaps.waiting told.key ≡ Some (record { shown_by = told.shown_by; numbers = told.numbers; until = told.at })
IsAwaited held (due.Silent told) =
    (finite.get held.cycles.watched told.flow ≡ Some (record { silent_ms = told.silent_ms; until = told.at; numbers = told.numbers })) × NonePassed told.at held.receivers.standing

-- and its deadline has come
abbrev pub IsDue : ℕ → Held → FellDue → Type 0
IsDue now held told = IsAwaited held told × (deadline told ≤ now)

-- the moment until which the calls were asked: the deadline of what is told, and else the moment itself
abbrev pub asked_until : ℕ → Option FellDue → ℕ
asked_until now None = now
asked_until now (Some told) = deadline told

-- the calls once it was told
abbrev pub call_told : FellDue → Option Unanswered
call_told (due.Unanswered told) = Some told
call_told _ = None

abbrev pub call_of : Option FellDue → Option Unanswered
call_of None = None
call_of (Some told) = call_told told

abbrev pub calls_then : ℕ → Option FellDue → calls.Book → calls.Book
calls_then now told book = record book { calls = calls_after_due book.rules.limit (asked_until now told) (call_of told) book.calls }

-- the other books once it was told: its own takes note of it
abbrev pub others_after : FellDue → Held → Held
others_after (due.Unanswered told) held = held
others_after (due.Missing told) held = record held { segments = segments.book_after_due (max held.segments.latest told.until) (Some told) held.segments }
others_after (due.Expired told) held = record held { offers = offers.after_due (Some told) held.offers }
others_after (due.SubscribeUnanswered told) held = record held { subscriptions = subscriptions.after_due (Some told) held.subscriptions }
others_after (due.EventLost told) held = record held { events = events.after_due (Some told) held.events }
others_after (due.Silent told) held = record held { cycles = cycles.after_silent (Some told) held.cycles }

abbrev pub others_then : Option FellDue → Held → Held
others_then None held = held
others_then (Some told) held = others_after told held

-- the books once it was told, or nothing
abbrev pub after_due : ℕ → Option FellDue → Held → Held
after_due now told held = record (others_then told held) { calls = calls_then now told held.calls }

-- a moment, or one before it if there is one
abbrev pub soonest : ℕ → Option ℕ → ℕ
soonest now None = now
soonest now (Some at) = if nat_le at now then at else now

-- a moment, unless something ends at it or before
abbrev pub unless_ended : Option ℕ → Option ℕ → Option ℕ
unless_ended None end = None
unless_ended (Some at) None = Some at
unless_ended (Some at) (Some end) = if nat_le end at then None else Some at
