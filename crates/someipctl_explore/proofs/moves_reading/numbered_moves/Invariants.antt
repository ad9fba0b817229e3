use Rattle.std.proofs.Common.{Some, map, length}
use Rattle.someip_texts.specs.Lines.{lines_of}
use Rattle.someip_texts.proofs.LineLemmas.{HasRead}
use Rattle.someipctl_explore.specs.MovesTexts.{move_in}
use Rattle.someip_world_schedule.specs.Schedule.{is_skipped}
use Rattle.someip_world_schedule.proofs.ScheduleLemmas.{HasNumbered}
use Rattle.someipctl_explore.proofs.moves_reading.numbered_moves.Given as goal

abbrev pub invariant-loop-i : goal.invariant-loop-i
invariant-loop-i l =
    HasRead is_skipped move_in (map (λ s. Some s) l.moves.items) (length l.yielded) (lines_of l.text)
    × HasNumbered l.lines.items (length l.yielded) (lines_of l.text)
