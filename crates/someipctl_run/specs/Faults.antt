-- The faults of the command, by those of what it rests on.
use Rattle.someip_world_rules.specs.declared.error.RunError.{RunError}
use Rattle.someip_world_rules.specs.declared.error.RunError.TheVariants as runs
use Rattle.someip_world_schedule.specs.declared.error.ScheduleError.{ScheduleError}
use Rattle.someip_world_schedule.specs.declared.error.ScheduleError.TheVariants as schedules
use Rattle.someipctl_io.specs.declared.fault.Fault.{Fault}
use Rattle.someipctl_io.specs.declared.fault.Fault.TheVariants.{Refused, OutOfMemory}
use Rattle.someipctl_run.specs.declared.error.ScheduleRefusal.{ScheduleRefusal}
use Rattle.someipctl_run.specs.declared.error.ScheduleRefusal.TheVariants.{BadLine, BadStep}

-- why SCHEDULE spells no steps: a line is bad, or memory ran out
abbrev pub fault_of_schedule : ScheduleError → Fault ScheduleRefusal
fault_of_schedule (schedules.BadLine line) = Refused (BadLine line)
fault_of_schedule schedules.OutOfMemory = OutOfMemory

-- why a schedule has no trace: a step is bad, or memory ran out
abbrev pub fault_of_run : RunError → Fault ScheduleRefusal
fault_of_run (runs.BadStep index fault) = Refused (BadStep index fault)
fault_of_run runs.OutOfMemory = OutOfMemory
