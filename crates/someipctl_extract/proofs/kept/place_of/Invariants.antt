use Rattle.std.proofs.Common.{◌≡◌, ◌+◌, ◌-◌, ◌≤◌, drop, length}
use Rattle.someipctl_extract.specs.Kept.{place_of}
use Rattle.someipctl_extract.proofs.kept.place_of.Given as goal

abbrev pub invariant-loop-place : goal.invariant-loop-place
invariant-loop-place l = (l.place ≤ length l.parts) × (l.place + place_of l.key (drop l.place l.parts) ≡ place_of l.key l.parts)

abbrev pub decreases-loop-place : goal.decreases-loop-place
decreases-loop-place l = length l.parts - l.place
