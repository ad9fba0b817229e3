use Rattle.std.proofs.Common.{◌≡◌, ◌≤◌, ◌-◌, length, drop}
use Rattle.recording.specs.Records.{items_from}
use Rattle.recording.proofs.parts.next_record.Given as goal

-- what is left at the place is what was left at the start
abbrev pub invariant-loop-place : goal.invariant-loop-place
invariant-loop-place l =
    (items_from l.format l.interfaces.items l.place (drop l.place l.file) ≡ items_from l.fn.format l.fn.interfaces.items l.fn.place (drop l.fn.place l.file))
    × (l.place ≤ length l.file)

abbrev pub decreases-loop-place : goal.decreases-loop-place
decreases-loop-place l = length l.file - l.place
