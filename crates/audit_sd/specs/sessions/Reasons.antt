-- Why something is told of a message of Service Discovery, in plain words. A list of messages has the newest first.
use Rattle.std.specs.Prelude.{◌≡◌, ◌≢◌, ℕ, true, false, ◌&&◌, List, [], ◌∷◌, ◌++◌, Some}
use Rattle.std.specs.declared.net.ipv4_addr.Ipv4Addr.{Ipv4Addr}
use Rattle.sd_session.specs.declared.stamp.Stamp.{Stamp}
use Rattle.sd_session.specs.Sessions.{following, is_reboot}
use Rattle.audit_sd.specs.declared.sessions.finding.Finding.TheVariants.{Reboot}
use Rattle.audit_sd.specs.declared.sessions.last.Last.{Last}
use Rattle.audit_sd.specs.declared.sessions.message.SdMessage.{SdMessage}
use Rattle.audit_sd.specs.sessions.SessionRules.{as_last, has_session, is_overtaken_by}
use Rattle.audit_sd.specs.sessions.Histories.{is_from_after, is_to, shown_after}

-- of the newer messages, which came after the older ones, none that counts went from a sender to a destination, and none showed
-- that this sender began again
abbrev pub NoneSince : ℕ → Ipv4Addr → Ipv4Addr → List SdMessage → List SdMessage → Type 0
NoneSince overtake sender destination [] older = Unit {0}
NoneSince overtake sender destination (message ∷ newer) older =
    ((is_from_after overtake (newer ++ older) sender message && is_to destination message) ≡ false)
    × (is_from_after overtake (newer ++ older) sender message ≡ true → shown_after overtake (newer ++ older) message ≢ Some Reboot)
    × NoneSince overtake sender destination newer older

-- among the messages one that counts went from a sender to a destination. Since then none did, nor did one show that the
-- sender began again
abbrev pub IsLast : ℕ → Ipv4Addr → Ipv4Addr → Last → List SdMessage → Type 0
IsLast overtake sender destination last messages =
    (newer : List SdMessage) × (message : SdMessage) × (older : List SdMessage) × (messages ≡ newer ++ message ∷ older)
    × ((is_from_after overtake older sender message && is_to destination message) ≡ true) × (as_last message ≡ last)
    × NoneSince overtake sender destination newer (message ∷ older)

-- a message with a session was overtaken, by the last one of its sender to its destination
abbrev pub IsOvertaken : ℕ → Stamp → SdMessage → List SdMessage → Type 0
IsOvertaken overtake stamp message messages =
    (has_session message.stamp ≡ true) × (last : Last) × IsLast overtake message.from message.to last messages
    × (is_overtaken_by overtake last message ≡ true) × (message.stamp ≡ stamp)

-- a message with a session that was not overtaken shows that its sender began again, by the last one of its sender to its
-- destination
abbrev pub IsReboot : ℕ → SdMessage → List SdMessage → Type 0
IsReboot overtake message messages =
    (has_session message.stamp ≡ true) × (last : Last) × IsLast overtake message.from message.to last messages
    × (is_overtaken_by overtake last message ≡ false) × (is_reboot last.stamp message.stamp ≡ true)

-- a message with a session that was not overtaken is not the one after the last of its sender to its destination, and shows no
-- reboot: it has a stamp in place of another
abbrev pub IsNotNext : ℕ → Stamp → Stamp → SdMessage → List SdMessage → Type 0
IsNotNext overtake stamp expected message messages =
    (has_session message.stamp ≡ true) × (last : Last) × IsLast overtake message.from message.to last messages
    × (is_overtaken_by overtake last message ≡ false) × (is_reboot last.stamp message.stamp ≡ false) × (message.stamp ≡ stamp)
    × (following last.stamp ≡ expected) × (stamp ≢ expected)
