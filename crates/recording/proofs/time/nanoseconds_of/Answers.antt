use Rattle.std.proofs.Common.{◌*◌, ◌<◌, ◌^◌, arith}
use Rattle.recording.proofs.TimeLemmas.{told_enough}
use Rattle.recording.proofs.time.nanoseconds_of.Goals as goal

pub returns-clause-value : goal.returns-clause-value
returns-clause-value c =
    let small : c.args.ticks * 1000000000 < 10 ^ 38 = omega (arith, c.ranges.ticks.fits) in
    rw (c.from.ensures, c.told_ticks.ensures.value) (told_enough (c.args.ticks * 1000000000) c.args.resolution small)
