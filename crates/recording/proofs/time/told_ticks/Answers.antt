use Rattle.std.proofs.Common.{◌≤◌, arith}
use Rattle.std.proofs.Math.Nat.{one-le-pow, pow-le-pow_right}
use Rattle.recording.proofs.time.told_ticks.Goals as goal

pub pow-requires : goal.pow-requires
pow-requires c =
    let le : c.from.result ≤ 38 = omega (arith, c.min.ensures, c.from.ensures) in
    omega (arith, pow-le-pow_right {n = 10} (omega arith) {i = c.from.result} {j = 38} le)

pub pow-requires-else-resolution-lt128 : goal.pow-requires-else-resolution-lt128
pow-requires-else-resolution-lt128 c =
    let le : c.from-else-resolution-lt128.result ≤ 127 = omega (arith, c.from-else-resolution-lt128.ensures, c.ranges.resolution.fits) in
    omega (arith, pow-le-pow_right {n = 2} (omega arith) {i = c.from-else-resolution-lt128.result} {j = 127} le)

pub returns-then-resolution-lt128-clause-some : goal.returns-then-resolution-lt128-clause-some
returns-then-resolution-lt128-clause-some c = omega (arith, c.pow.ensures, one-le-pow c.from.result 10 (omega arith))
