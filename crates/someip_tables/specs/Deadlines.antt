-- Until when something lasts (SOME/IP Service Discovery Protocol, "TTL").
use Rattle.std.specs.Prelude.{◌≡◌, ℕ, ◌+◌, ◌*◌, ◌==◌, Bool, false, nat_le, if◌then◌else◌, Option, None, Some, refl}
use Rattle.std.specs.Coded.{Coded, code_by, coded_option, coded_ℕ}
use Rattle.someip_tables.specs.declared.deadline.Deadline.{Deadline}
use Rattle.someip_tables.specs.declared.deadline.Deadline.TheVariants.{At, Never}

-- the deadline of what comes at a moment with a TTL in seconds: FFFFFF lasts until the next reboot
abbrev pub deadline_after : ℕ → ℕ → Deadline
deadline_after now ttl = if ttl == 0xFFFFFF then Never else At (now + 1000 * ttl)

-- a deadline has passed from its own moment on
abbrev pub has_passed : ℕ → Deadline → Bool
has_passed now (At moment) = nat_le moment now
has_passed now Never = false

-- a deadline is stored as its moment, if it has one
abbrev pub millis_of : Deadline → Option ℕ
millis_of (At moment) = Some moment
millis_of Never = None

abbrev pub deadline_at : Option ℕ → Deadline
deadline_at (Some moment) = At moment
deadline_at None = Never

pub deadline_at-millis_of : (d : Deadline) → deadline_at (millis_of d) ≡ d
deadline_at-millis_of (At moment) = refl
deadline_at-millis_of Never = refl

abbrev pub coded_deadline : Coded Deadline
coded_deadline = code_by (Option ℕ) (coded_option coded_ℕ) millis_of deadline_at deadline_at-millis_of
