-- When segments are offered.
use Rattle.std.specs.Prelude.{◌≡◌, ℕ, ◌%◌, ◌==◌, ◌&&◌, nat_le, if◌then◌else◌, List, Option, Some, None}
use Rattle.std.specs.List.{All, filter_map}
use Rattle.std.specs.List.Sorted.{IsNonDecreasing}
use Rattle.someip_tp.specs.declared.calls.TpCall.{TpCall}
use Rattle.someip_tp.specs.declared.calls.TpCall.TheVariants.{Offer, Take, Expire, Clear}

-- where a call offers a segment, its offset is a multiple of 16
abbrev pub IsAligned : TpCall → Type 0
IsAligned (Offer key offset more bytes now) = offset % 16 ≡ 0
IsAligned (Take key) = Unit {0}
IsAligned (Expire now) = Unit {0}
IsAligned Clear = Unit {0}

-- when a call offers a segment, if it does
abbrev pub moment_of : TpCall → Option ℕ
moment_of (Offer key offset more bytes now) = Some now
moment_of (Take key) = None
moment_of (Expire now) = None
moment_of Clear = None

-- the moments at which calls offer segments
abbrev pub moments : List TpCall → List ℕ
moments calls = filter_map moment_of calls

-- offsets are multiples of 16, and no segment is offered before an earlier one
pub record AreInTime (calls : List TpCall) : Type 0 where
  pub aligned : All IsAligned calls
  pub rising : IsNonDecreasing (moments calls)

-- the moment of the last segment that was offered, once a call was made, if it may be made then
abbrev pub moment_after : ℕ → TpCall → Option ℕ
moment_after last (Offer key offset more bytes now) = if (offset % 16 == 0) && nat_le last now then Some now else None
moment_after last (Take key) = Some last
moment_after last (Expire now) = Some last
moment_after last Clear = Some last
