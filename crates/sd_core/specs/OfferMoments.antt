-- The moments of Offers and Finds (SOME/IP Service Discovery Protocol, "Startup behavior").
use Rattle.std.specs.Prelude.{ℕ, zero, suc, ◌+◌, ◌-◌, ◌*◌, ◌^◌, nat_le, Bool, if◌then◌else◌, is_some}
use Rattle.std.specs.FinMap as finite
use Rattle.sd_core.specs.declared.keys.InstanceId.{InstanceId}
use Rattle.sd_core.specs.declared.phases.Phases.{Phases}
use Rattle.sd_core.specs.Sendings.{due_at}
use Rattle.sd_core.specs.OfferTables.{OfferTable, after_tick}
use Rattle.sd_core.specs.SeekTables.{SeekTable, seek_after_tick}

-- the moment of an Offer, or Find, by how many go out before it: the first goes out after a delay from the start, each
-- gap of the repetition phase is twice as long as the one before it, from the base delay on, and those after it are
-- cyclic
abbrev pub offer_moment : Phases → ℕ → ℕ → ℕ
offer_moment phases delay earlier =
    if nat_le earlier phases.repetitions then delay + phases.base * (2 ^ earlier - 1)
    else delay + phases.base * (2 ^ phases.repetitions - 1) + (earlier - phases.repetitions) * phases.cyclic

-- the offers after a tick at each of n milliseconds, from one on
abbrev pub offers_after : Phases → ℕ → ℕ → OfferTable → OfferTable
offers_after phases from zero offers = offers
offers_after phases from (suc n) offers = after_tick phases (from + n) (offers_after phases from n offers)

-- an instance sends an Offer at the tick that comes next
abbrev pub sends_offer : Phases → ℕ → ℕ → OfferTable → InstanceId → Bool
sends_offer phases from n offers instance = is_some (finite.get (due_at (from + n) (offers_after phases from n offers).up) instance)

-- the wanted instances after a tick at each of n milliseconds, from one on
abbrev pub seek_after : Phases → ℕ → ℕ → SeekTable → SeekTable
seek_after phases from zero table = table
seek_after phases from (suc n) table = seek_after_tick phases (from + n) (seek_after phases from n table)

-- an instance sends a Find at the tick that comes next
abbrev pub sends_find : Phases → ℕ → ℕ → SeekTable → InstanceId → Bool
sends_find phases from n table instance = is_some (finite.get (due_at (from + n) (seek_after phases from n table).finding) instance)
