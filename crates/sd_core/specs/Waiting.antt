-- What the instances that are offered or wanted wait for.
use Rattle.std.specs.Prelude.{ℕ, Option}
use Rattle.std.specs.Option.{option_and_then, option_map}
use Rattle.someip_tables.specs.Deadlines.{millis_of}
use Rattle.someip_tables.specs.Waits.{earlier}
use Rattle.sd_core.specs.declared.offers.Offering.{Offering}
use Rattle.sd_core.specs.declared.want.Want.{Want}

-- an instance that is offered waits for its next Offer, while it is up
abbrev pub offering_moment : Offering → Option ℕ
offering_moment o = option_map (λ s. s.due) o.sending

-- a wanted instance waits for what comes first: that its known offer passes, or its next Find
abbrev pub want_moment : Want → Option ℕ
want_moment w = earlier (option_and_then (λ l. millis_of l.until) w.known) (option_map (λ s. s.due) w.finding)
