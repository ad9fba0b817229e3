-- When Offers and Finds go out (SOME/IP Service Discovery Protocol, "Startup behavior").
use Rattle.std.specs.Prelude.{ℕ, ◌+◌, ◌*◌, ◌^◌, nat_le, nat_lt, Bool, if◌then◌else◌, Option, None, Some, refl}
use Rattle.std.specs.declared.cmp.Ordering.{Ordering}
use Rattle.std.specs.Coded.{Coded, code_by, coded×, coded_ℕ}
use Rattle.std.specs.FinMap.{FinMap}
use Rattle.someip_tables.specs.Retained.{retain}
use Rattle.sd_core.specs.declared.phases.Phases.{Phases}
use Rattle.sd_core.specs.declared.sending.Sending.{Sending}

-- how long after one the next goes out, by how many went out before it: the base delay, twice as long each time while
-- the repetition phase lasts, and then the cyclic delay
abbrev pub wait : Phases → ℕ → ℕ
wait phases earlier = if nat_lt earlier phases.repetitions then phases.base * 2 ^ earlier else phases.cyclic

-- nothing went out, and the first does after a delay
abbrev pub first_at : ℕ → Sending
first_at delay = record { due = delay; sent = 0 }

-- the next goes out at this moment, or was to go out before
abbrev pub goes_out : ℕ → Sending → Bool
goes_out now sending = nat_le sending.due now

-- one went out
abbrev pub has_sent : Sending → Bool
has_sent sending = nat_lt 0 sending.sent

-- one goes out at this moment, and the next is due a delay after it
abbrev pub after_sending : Phases → ℕ → Sending → Sending
after_sending phases now sending =
    record { due = now + wait phases sending.sent; sent = if nat_le sending.sent phases.repetitions then sending.sent + 1 else sending.sent }

-- one goes out at this moment, if it is due: one, however late
abbrev pub sent_if_due : Phases → ℕ → Sending → Sending
sent_if_due phases now sending = if goes_out now sending then after_sending phases now sending else sending

-- a Find goes out at this moment, if it is due: it is the last where as many went out before it as the repetition phase
-- has delays
abbrev pub after_find : Phases → ℕ → Sending → Option Sending
after_find phases now sending =
    if goes_out now sending then (if nat_lt sending.sent phases.repetitions then Some (after_sending phases now sending) else None)
    else Some sending

-- those that are due
abbrev pub due_at : {K : Type 0} {R : K → K → Ordering} → ℕ → FinMap R Sending → FinMap R Sending
due_at now m = retain m (λ _ sending. goes_out now sending)

abbrev pub coded_sending : Coded Sending
coded_sending = code_by (ℕ × ℕ) (coded× coded_ℕ coded_ℕ) (λ s. (s.due, s.sent)) (λ c. record { due = c.0; sent = c.1 }) (λ _. refl)
