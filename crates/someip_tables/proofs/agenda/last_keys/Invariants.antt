use Rattle.std.proofs.Common.{◌≡◌, ◌++◌, nat_le, map, take_while, reverse, length}
use Rattle.someip_tables.proofs.agenda.last_keys.Given as goal

-- with those at the end of what is left the list has all
abbrev pub invariant-loop-rest : goal.invariant-loop-rest
invariant-loop-rest g l =
    l.keys.items ++ map (λ due. due.key) (take_while (λ due. nat_le due.at l.now) (reverse l.rest)) ≡ map (λ due. due.key) (take_while (λ due. nat_le due.at l.now) (reverse l.dues))

abbrev pub decreases-loop-rest : goal.decreases-loop-rest
decreases-loop-rest g l = length l.rest
