use Rattle.someipctl_rules.proofs.FileLemmas.{IsReadTo}
use Rattle.someipctl_rules.proofs.reading.each_rule.Given as goal

abbrev pub invariant-loop-i : goal.invariant-loop-i
invariant-loop-i l = IsReadTo l.tables l.i l.rules.items
