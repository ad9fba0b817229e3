-- Changes and intervals of one key, by example. What stands is a number.
use Rattle.std.specs.Prelude.{ℕ}
use Rattle.audit_services.specs.declared.stay.Interval.{Interval}
use Rattle.audit_services.specs.declared.why.Why.{Why}
use Rattle.audit_services.specs.Timelines.{Begins, Change, Changed, Ends, GoesOn, Leaves}

-- at a moment a number begins to stand for so many seconds, or goes on, what stands goes on, it ends, or it is left as it is
abbrev pub begins : ℕ → ℕ → ℕ → Changed ℕ
begins at value ttl = record { at = at; change = Begins value ttl }

abbrev pub goes_on : ℕ → ℕ → Changed ℕ
goes_on at ttl = record { at = at; change = GoesOn ttl }

abbrev pub ends : ℕ → Why → Changed ℕ
ends at why = record { at = at; change = Ends why }

abbrev pub leaves : ℕ → Changed ℕ
leaves at = record { at = at; change = Leaves }

-- a number stood from a moment until another
abbrev pub stood : ℕ → ℕ → ℕ → Why → Interval ℕ
stood value from until why = record { value = value; from = from; until = until; why = why }
