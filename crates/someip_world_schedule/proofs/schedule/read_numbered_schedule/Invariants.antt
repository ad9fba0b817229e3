use Rattle.std.proofs.Common.{Some, map, length}
use Rattle.someip_texts.specs.Lines.{lines_of}
use Rattle.someip_texts.proofs.LineLemmas.{HasRead}
use Rattle.someip_world_schedule.specs.Steps.{step_in}
use Rattle.someip_world_schedule.specs.Schedule.{is_skipped}
use Rattle.someip_world_schedule.proofs.ScheduleLemmas.{HasNumbered}
use Rattle.someip_world_schedule.proofs.schedule.read_numbered_schedule.Given as goal

abbrev pub invariant-loop-i : goal.invariant-loop-i
invariant-loop-i l =
    HasRead is_skipped step_in (map (λ s. Some s) l.steps.items) (length l.yielded) (lines_of l.text)
    × HasNumbered l.lines.items (length l.yielded) (lines_of l.text)
