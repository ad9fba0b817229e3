use Rattle.std.proofs.Common.{◌≡◌, ◌+◌, ◌≤◌, ◌++◌, length}
use Rattle.std.specs.Vec.{vec_capacity}
use Rattle.someip_tables.specs.Agendas.{dues_of}
use Rattle.someip_tables.proofs.awaited.fill.Given as goal

-- with those that are left the list has all
abbrev pub invariant-loop-key : goal.invariant-loop-key
invariant-loop-key g l =
    (l.dues.items ++ dues_of g.V.Waits.moment l.key-iterator ≡ dues_of g.V.Waits.moment l.held.entries)
    × (length l.dues.items + length l.key-iterator ≤ vec_capacity l.dues)
    × (vec_capacity l.dues ≡ vec_capacity l.fn.dues)
