-- Session IDs and the Reboot flag (SOME/IP Service Discovery Protocol, "Session ID", "Reboot flag", "Detection of reboots").
use Rattle.std.specs.Prelude.{ℕ, zero, suc, ◌==◌, nat_le, Bool, true, not, ◌&&◌, ◌||◌}
use Rattle.someip_tables.specs.Sessions.{next_session}
use Rattle.sd_session.specs.declared.stamp.Stamp.{Stamp}

-- the first message of a counter
abbrev pub first : Stamp
first = record { session = 1; reboot = true }

-- the message after one: the Reboot flag ends where the session wraps, for good
abbrev pub following : Stamp → Stamp
following stamp = record { session = next_session stamp.session; reboot = stamp.reboot && not (stamp.session == 0xffff) }

-- the stamp of the next message once n were sent
abbrev pub after_uses : ℕ → Stamp
after_uses zero = first
after_uses (suc n) = following (after_uses n)

-- the later of two messages on a channel shows that its sender began again: its Reboot flag is set, and that of the
-- earlier was not, or the session did not rise
abbrev pub is_reboot : Stamp → Stamp → Bool
is_reboot earlier later = later.reboot && (not earlier.reboot || nat_le later.session earlier.session)
