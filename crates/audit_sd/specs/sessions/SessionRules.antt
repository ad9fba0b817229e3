-- What two messages of Service Discovery, one after the other from one sender to one destination, show (SOME/IP Service
-- Discovery Protocol, "Session ID", "Reboot flag", "Detection of reboots").
use Rattle.std.specs.Prelude.{ℕ, ◌+◌, ◌==◌, nat_le, nat_lt, Bool, false, not, ◌&&◌, if◌then◌else◌, Option, None, Some, option_map}
use Rattle.sd_session.specs.declared.stamp.Stamp.{Stamp}
use Rattle.sd_session.specs.Sessions.{following, is_reboot}
use Rattle.audit_sd.specs.declared.sessions.finding.Finding.{Finding}
use Rattle.audit_sd.specs.declared.sessions.finding.Finding.TheVariants.{Reboot, NotNext, Overtaken}
use Rattle.audit_sd.specs.declared.sessions.last.Last.{Last}
use Rattle.audit_sd.specs.declared.sessions.message.SdMessage.{SdMessage}

-- a message has a session: they begin at 1, so no node sends 0, and one that gets it drops it
abbrev pub has_session : Stamp → Bool
has_session stamp = not (stamp.session == 0)

-- two stamps have one Reboot flag
abbrev pub is_same_flag : Stamp → Stamp → Bool
is_same_flag a b = if a.reboot then b.reboot else not b.reboot

-- two stamps have one session and one Reboot flag
abbrev pub is_same_stamp : Stamp → Stamp → Bool
is_same_stamp a b = (a.session == b.session) && is_same_flag a b

-- a session is one of the 8 before another
abbrev pub is_little_below : ℕ → ℕ → Bool
is_little_below session last = nat_lt session last && nat_le last (session + 8)

-- the last message overtook a later one: both have one Reboot flag, the later has one of the 8 sessions before, and it comes at
-- most so many milliseconds after
abbrev pub is_overtaken_by : ℕ → Last → SdMessage → Bool
is_overtaken_by overtake last message =
    is_same_flag last.stamp message.stamp && (is_little_below message.stamp.session last.stamp.session && nat_le message.at (last.at + overtake))

-- of a first message nothing is known
abbrev pub is_overtaken : ℕ → Option Last → SdMessage → Bool
is_overtaken overtake None message = false
is_overtaken overtake (Some last) message = is_overtaken_by overtake last message

-- a message counts, by the last one: it has a session, and was not overtaken
abbrev pub counts : ℕ → Option Last → SdMessage → Bool
counts overtake last message = has_session message.stamp && not (is_overtaken overtake last message)

-- a message that counts, as the last one
abbrev pub as_last : SdMessage → Last
as_last message = record { stamp = message.stamp; at = message.at }

-- the stamp of the last one
abbrev pub stamp_of : Option Last → Option Stamp
stamp_of last = option_map (λ (l : Last). l.stamp) last

-- what a message that counts shows, by the stamp of the last one: a reboot, or nothing where it is the one after that, and else
-- that it is not. Of a first one nothing is shown
abbrev pub judged : Option Stamp → Stamp → Option Finding
judged None stamp = None
judged (Some last) stamp =
    if is_reboot last stamp then Some Reboot
    else if is_same_stamp stamp (following last) then None
    else Some (NotNext stamp (following last))

-- what one shows that does not count: that it was overtaken, and without a session nothing
abbrev pub told_uncounted : SdMessage → Option Finding
told_uncounted message = if has_session message.stamp then Some (Overtaken message.stamp) else None
