use Rattle.someipctl_show.proofs.about_types.IndexLemmas.{IsIndexTo}
use Rattle.someipctl_show.proofs.types.index.index_of.Given as goal

abbrev pub invariant-loop-i : goal.invariant-loop-i
invariant-loop-i l = IsIndexTo l.places l.i l.tables
