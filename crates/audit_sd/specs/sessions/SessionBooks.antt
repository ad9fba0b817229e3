-- The last message of each sender to each destination.
use Rattle.std.specs.Prelude.{ℕ, nat_lt, Bool, true, false, not, ◌&&◌, ◌||◌, if◌then◌else◌, Option, refl}
use Rattle.std.specs.Option.{is_none}
use Rattle.std.specs.Coded.{Coded, code_by, coded×, coded_ℕ, coded_bool}
use Rattle.std.specs.Ordering.{eq_by_cmp, ordering_then}
use Rattle.std.specs.declared.cmp.Ordering.{Ordering}
use Rattle.std.specs.FinMap as finite
use Rattle.std.specs.FinMap.{FinMap}
use Rattle.std.specs.declared.net.ipv4_addr.Ipv4Addr.{Ipv4Addr}
use Rattle.someip_tables.specs.Endpoints.{address_cmp, coded_address}
use Rattle.someip_tables.specs.hashed.Rooms.{may_hold, told_when_full}
use Rattle.sd_session.specs.declared.stamp.Stamp.{Stamp}
use Rattle.sd_session.specs.Peers.{shows_reboot, coded_stamp}
use Rattle.audit_sd.specs.declared.sessions.finding.Finding.{Finding}
use Rattle.audit_sd.specs.declared.sessions.finding.Finding.TheVariants.{Full}
use Rattle.audit_sd.specs.declared.sessions.last.Last.{Last}
use Rattle.audit_sd.specs.declared.sessions.message.SdMessage.{SdMessage}
use Rattle.audit_sd.specs.sessions.SessionRules.{as_last, counts, has_session, judged, stamp_of, told_uncounted}

-- by sender, and then by destination
abbrev pub pair_cmp : Ipv4Addr × Ipv4Addr → Ipv4Addr × Ipv4Addr → Ordering
pair_cmp a b = ordering_then (address_cmp a.0 b.0) (address_cmp a.1 b.1)

-- the last message of each sender to each destination
abbrev pub Pairs : Type 0
Pairs = FinMap pair_cmp Last

-- what a book holds, how many pairs it may hold, within how many milliseconds a message overtakes another, and whether it told that
-- it is full
pub record Sessions : Type 0 where
  pub limit : ℕ
  pub overtake_ms : ℕ
  pub last : Pairs
  pub told_full : Bool

-- a book for so many that holds none
abbrev pub no_sessions : ℕ → ℕ → Sessions
no_sessions limit overtake = record { limit = limit; overtake_ms = overtake; last = finite.empty; told_full = false }

-- the last message of a message's sender to its destination
abbrev pub last_of : SdMessage → Pairs → Option Last
last_of message pairs = finite.get pairs (message.from, message.to)

-- a pair has another sender, or it is that of one destination
abbrev pub is_other : Ipv4Addr → Ipv4Addr → Ipv4Addr × Ipv4Addr → Bool
is_other sender destination pair = not (eq_by_cmp address_cmp pair.0 sender) || eq_by_cmp address_cmp pair.1 destination

-- what is kept of the messages before one that counts: where it shows that its sender began again, nothing that this sent
abbrev pub pairs_before : SdMessage → Pairs → Pairs
pairs_before message pairs =
    if shows_reboot (stamp_of (last_of message pairs)) message.stamp then finite.retain_keys pairs (λ pair. not (eq_by_cmp address_cmp pair.0 message.from)) else pairs

-- and once it came: it is the last of its sender to its destination
abbrev pub pairs_after : SdMessage → Pairs → Pairs
pairs_after message pairs = finite.insert (pairs_before message pairs) (message.from, message.to) (as_last message)

-- a message counts, by what a book holds
abbrev pub counts_in : Sessions → SdMessage → Bool
counts_in book message = counts book.overtake_ms (last_of message book.last) message

-- what is told of a message that counts
abbrev pub told_of : SdMessage → Sessions → Option Finding
told_of message book =
    if may_hold book.limit book.last (message.from, message.to) then judged (stamp_of (last_of message book.last)) message.stamp
    else told_when_full Full book.told_full

-- what is told of a message
abbrev pub told_by : SdMessage → Sessions → Option Finding
told_by message book = if counts_in book message then told_of message book else told_uncounted message

-- the book once a message that counts came: one that it has no room for is not taken
abbrev pub sessions_with : SdMessage → Sessions → Sessions
sessions_with message book =
    if may_hold book.limit book.last (message.from, message.to) then record book { last = pairs_after message book.last }
    else record book { told_full = true }

-- the book once a message came: one that does not count changes nothing
abbrev pub sessions_after : SdMessage → Sessions → Sessions
sessions_after message book = if counts_in book message then sessions_with message book else book

-- memory may be wanted for a message: it has a session, its pair is new, and there is room for it
abbrev pub needs_memory : SdMessage → Sessions → Bool
needs_memory message book = has_session message.stamp && is_none (last_of message book.last) && nat_lt (finite.len book.last) book.limit

-- codes, by which a proof tells values apart
abbrev pub coded_last : Coded Last
coded_last = code_by (Stamp × ℕ) (coded× coded_stamp coded_ℕ) (λ l. (l.stamp, l.at)) (λ c. record { stamp = c.0; at = c.1 }) (λ _. refl)

abbrev pub coded_sessions : Coded Sessions
coded_sessions =
    code_by ((ℕ × ℕ) × (Pairs × Bool)) (coded× (coded× coded_ℕ coded_ℕ) (coded× (finite.code (coded× coded_address coded_address) coded_last) coded_bool))
    (λ b. ((b.limit, b.overtake_ms), (b.last, b.told_full))) (λ c. record { limit = c.0.0; overtake_ms = c.0.1; last = c.1.0; told_full = c.1.1 }) (λ _. refl)
