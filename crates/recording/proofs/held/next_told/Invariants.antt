use Rattle.std.proofs.Common.{◌≡◌, ◌≤◌, ◌+◌, ◌-◌, ◌++◌, ℕ, List, length, drop}
use Rattle.recording.specs.HeldItems.{held_from}
use Rattle.recording.specs.Readers.{CanFollow}
use Rattle.recording.proofs.held.next_told.Given as goal

-- after what was taken the same is left as at the start
abbrev pub invariant-loop-len : goal.invariant-loop-len
invariant-loop-len l =
    ((rest : List ℕ) → CanFollow l.is_whole rest
    → held_from l.fn.format l.fn.interfaces.items l.place (l.held ++ rest) ≡ held_from l.format l.interfaces.items (l.place + l.len) (drop l.len (l.held ++ rest)))
    × (l.len ≤ length l.held)

abbrev pub decreases-loop-len : goal.decreases-loop-len
decreases-loop-len l = length l.held - l.len
