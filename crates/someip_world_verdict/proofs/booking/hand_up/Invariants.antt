use Rattle.std.proofs.Common.{◌≡◌, drop, Some}
use Rattle.std.specs.Ordering.{nat_cmp}
use Rattle.someip_tables.specs.Tables.{map_of}
use Rattle.someip_world_verdict.specs.Booking.{handed_up, tokens_told}
use Rattle.someip_world_verdict.proofs.booking.hand_up.Given as goal

-- the lines that are left hand up what all do
abbrev pub invariant-loop-line : goal.invariant-loop-line
invariant-loop-line l =
    handed_up (Some l.sent) (tokens_told (drop l.line-index l.lines)) (map_of nat_cmp l.tokens.entries) ≡ handed_up (Some l.sent) (tokens_told l.lines) (map_of nat_cmp l.fn.tokens.entries)
