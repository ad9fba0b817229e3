-- Session IDs in cyclic order (SOME/IP Protocol, "Session ID").
use Rattle.std.specs.Prelude.{ℕ, ◌+◌, ◌==◌, if◌then◌else◌, Option, None, Some}

-- the session after a session: FFFF is followed by 1, and 0 is never given
abbrev pub next_session : ℕ → ℕ
next_session session = if session == 0xffff then 1 else session + 1

-- the session after the last one: the first session is 1
abbrev pub session_after_last : Option ℕ → ℕ
session_after_last None = 1
session_after_last (Some last) = next_session last
