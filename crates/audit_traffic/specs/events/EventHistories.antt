-- What a recording showed so far of the flows of events, without a table. A list of what was shown has the newest first.
use Rattle.std.specs.Prelude.{ℕ, ◌==◌, Bool, true, false, not, ◌||◌, if◌then◌else◌, List, [], ◌∷◌, Option, None, Some}
use Rattle.std.specs.Option.{option_map}
use Rattle.std.specs.List.{list_any}
use Rattle.std.specs.Ordering.{eq_by_cmp}
use Rattle.std.specs.FinMap as finite
use Rattle.std.specs.declared.net.ipv4_addr.Ipv4Addr.{Ipv4Addr}
use Rattle.someip_tables.specs.Sessions.{next_session}
use Rattle.audit_traffic.specs.declared.events.flow.EventFlow.{EventFlow}
use Rattle.audit_traffic.specs.declared.events.last_event.LastEvent.{LastEvent}
use Rattle.audit_traffic.specs.declared.events.notification.Notification.{Notification}
use Rattle.audit_traffic.specs.declared.events.finding.Finding.{Finding}
use Rattle.audit_traffic.specs.declared.events.finding.Finding.TheVariants.{Behind, Gap, Repeated}
use Rattle.audit_traffic.specs.events.FlowKeys.{flow_cmp}
use Rattle.audit_traffic.specs.events.EventRules.{ahead, is_at, is_behind, is_between, is_of_service, is_other, is_skipped, nearer}
use Rattle.audit_traffic.specs.events.EventTables.{Events, after_change, after_event, after_withdrawal, without}

-- an event came, a subscription of a client to a service at a server began or ended, a server withdrew an offer of a service, or an address began
-- again
pub data Shown : Type 0 where
  Came : Notification → Shown
  Changed : Ipv4Addr → Ipv4Addr → ℕ → Shown
  Withdrawn : Ipv4Addr → ℕ → Shown
  BeganAgain : Ipv4Addr → Shown

-- the session of the last event of a flow; whether since then a subscription of its receiver to its service at its sender began or ended or an
-- offer of its service was withdrawn; and the sessions that other receivers got since then of the same event
pub record Since : Type 0 where
  pub session : ℕ
  pub is_disturbed : Bool
  pub got : List ℕ

-- once an event came: one with the session of the last one, and one behind it, leaves the last one
abbrev pub since_event : ℕ → Option Since → Since
since_event session None = record { session = session; is_disturbed = false; got = [] }
since_event session (Some since) =
    if session == since.session then since
    else if is_behind since.session session then since
    else record { session = session; is_disturbed = false; got = [] }

-- once another receiver got a session, and once the flow was disturbed
abbrev pub since_got : ℕ → Since → Since
since_got session since = record since { got = session ∷ since.got }

abbrev pub since_disturbed : Since → Since
since_disturbed since = record since { is_disturbed = true }

-- once something was shown: an event without a session shows nothing, and after a reboot of its sender or receiver a flow has
-- no last event
abbrev pub since_after : Shown → EventFlow → Option Since → Option Since
since_after (Came event) flow before =
    if event.session == 0 then before
    else if eq_by_cmp flow_cmp flow event.flow then Some (since_event event.session before)
    else if is_other event.flow flow then option_map (since_got event.session) before
    else before
since_after (Changed client server service) flow before = if is_between client server service flow then option_map since_disturbed before else before
since_after (Withdrawn server service) flow before = if is_of_service server service flow then option_map since_disturbed before else before
since_after (BeganAgain address) flow before = if is_at address flow then None else before

abbrev pub since_in : List Shown → EventFlow → Option Since
since_in [] flow = None
since_in (shown ∷ earlier) flow = since_after shown flow (since_in earlier flow)

-- the sessions between the last one and this must be lost: this is not the next one, the flow was not disturbed since, and
-- no other receiver got one of them
abbrev pub is_lost : Since → ℕ → Bool
is_lost since session = not (since.is_disturbed || (session == next_session since.session) || list_any (is_skipped since.session session) since.got)

-- what a session shows
abbrev pub shown_since : Option Since → ℕ → Option Finding
shown_since None session = None
shown_since (Some since) session =
    if session == since.session then Some Repeated
    else if is_behind since.session session then Some Behind
    else if is_lost since session then Some (Gap session (next_session since.session))
    else None

-- what an event shows after these
abbrev pub shown_after : List Shown → Notification → Option Finding
shown_after earlier event = if event.session == 0 then None else shown_since (since_in earlier event.flow) event.session

-- ---- the book

-- the nearest of these sessions that is ahead of the last one, by its distance
abbrev pub nearest_of : ℕ → List ℕ → Option ℕ
nearest_of last [] = None
nearest_of last (session ∷ sessions) = nearer (ahead last session) (nearest_of last sessions)

-- what a book keeps of it
abbrev pub kept_of : Since → LastEvent
kept_of since = record { session = since.session; is_disturbed = since.is_disturbed; nearest = nearest_of since.session since.got }

-- once something was shown
abbrev pub book_after : Shown → Events → Events
book_after (Came event) book = after_event event book
book_after (Changed client server service) book = after_change client server service book
book_after (Withdrawn server service) book = after_withdrawal server service book
book_after (BeganAgain address) book = without address book

abbrev pub book_of : ℕ → List Shown → Events
book_of limit [] = record { limit = limit; flows = finite.empty; told_full = false }
book_of limit (shown ∷ earlier) = book_after shown (book_of limit earlier)
