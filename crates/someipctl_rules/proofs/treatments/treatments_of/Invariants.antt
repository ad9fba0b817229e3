use Rattle.std.proofs.Common.{◌≡◌, length, map, option_map}
use Rattle.toml.specs.View.{view}
use Rattle.someipctl_rules.proofs.TreatingLemmas.{IsTreatedTo}
use Rattle.someipctl_rules.proofs.treatments.treatments_of.Given as goal

abbrev pub invariant-loop-i : goal.invariant-loop-i
invariant-loop-i l = IsTreatedTo (map view l.allowed) (option_map (λ b. view b.now) l.bounds) l.kind-items l.i l.treatments × (length l.treatments ≡ 28)
