use Rattle.std.proofs.Common.{◌≡◌, ◌+◌, ◌<◌, ◌^◌, not, ◌&&◌, filter, length}
use Rattle.someip_tables.specs.Deadlines.{has_passed}
use Rattle.someip_tables.specs.Tables.{AnswersAs}
use Rattle.someip_tables.proofs.tracked.count_unexpired.Given as goal

-- with those that are left it is the count of all
abbrev pub invariant-loop-key : goal.invariant-loop-key
invariant-loop-key g l =
    ((p : _) → AnswersAs g.F.Fn l.of p
    → l.count + length (filter (λ e. not (has_passed l.now e.1.until) && p e.0) l.key-iterator) ≡ length (filter (λ e. not (has_passed l.now e.1.until) && p e.0) l.held.entries))
    × (l.count + length l.key-iterator < 2 ^ 63)
