use Rattle.std.proofs.Common.{◌≡◌, ◌-◌, length, drop}
use Rattle.recording.specs.Interfaces.{option_in}
use Rattle.recording.proofs.interface.option_in.Given as goal

abbrev pub invariant-loop-place : goal.invariant-loop-place
invariant-loop-place l = option_in l.order l.code (drop l.place l.options) ≡ option_in l.order l.code l.options

abbrev pub decreases-loop-place : goal.decreases-loop-place
decreases-loop-place l = length l.options - l.place
