-- What the messages of Service Discovery so far show, without a table. A list of messages has the newest first.
use Rattle.std.specs.Prelude.{ℕ, Bool, if◌then◌else◌, ◌&&◌, List, [], ◌∷◌, Option, None, Some}
use Rattle.std.specs.Ordering.{eq_by_cmp}
use Rattle.std.specs.declared.net.ipv4_addr.Ipv4Addr.{Ipv4Addr}
use Rattle.someip_tables.specs.Endpoints.{address_cmp}
use Rattle.sd_session.specs.Peers.{shows_reboot}
use Rattle.audit_sd.specs.declared.sessions.finding.Finding.{Finding}
use Rattle.audit_sd.specs.declared.sessions.last.Last.{Last}
use Rattle.audit_sd.specs.declared.sessions.message.SdMessage.{SdMessage}
use Rattle.audit_sd.specs.sessions.SessionRules.{as_last, counts, judged, stamp_of, told_uncounted}
use Rattle.audit_sd.specs.sessions.SessionBooks.{Sessions, no_sessions, sessions_after}

-- a message is of a sender, and counts, by the last one of its pair
abbrev pub is_from : ℕ → Option Last → Ipv4Addr → SdMessage → Bool
is_from overtake before sender message = counts overtake before message && eq_by_cmp address_cmp sender message.from

-- a message is to a destination
abbrev pub is_to : Ipv4Addr → SdMessage → Bool
is_to destination message = eq_by_cmp address_cmp destination message.to

-- the newest message that counts of a sender to a destination, unless the sender began again since: then there is none
abbrev pub last_in : ℕ → List SdMessage → Ipv4Addr → Ipv4Addr → Option Last
last_in overtake [] sender destination = None
last_in overtake (message ∷ earlier) sender destination =
    if is_from overtake (last_in overtake earlier message.from message.to) sender message && is_to destination message then Some (as_last message)
    else if is_from overtake (last_in overtake earlier message.from message.to) sender message && shows_reboot (stamp_of (last_in overtake earlier message.from message.to)) message.stamp then None
    else last_in overtake earlier sender destination

-- a message after these is of a sender, and counts
abbrev pub is_from_after : ℕ → List SdMessage → Ipv4Addr → SdMessage → Bool
is_from_after overtake earlier sender message = is_from overtake (last_in overtake earlier message.from message.to) sender message

-- what a message shows, by the last one of its pair
abbrev pub shown_by : ℕ → Option Last → SdMessage → Option Finding
shown_by overtake before message = if counts overtake before message then judged (stamp_of before) message.stamp else told_uncounted message

-- what a message shows after these
abbrev pub shown_after : ℕ → List SdMessage → SdMessage → Option Finding
shown_after overtake earlier message = shown_by overtake (last_in overtake earlier message.from message.to) message

-- the book once these messages came
abbrev pub sessions_of : ℕ → ℕ → List SdMessage → Sessions
sessions_of limit overtake [] = no_sessions limit overtake
sessions_of limit overtake (message ∷ earlier) = sessions_after message (sessions_of limit overtake earlier)
