use Rattle.std.proofs.lemmas.Bool.Decides.{Decides-eqb}
use Rattle.std.proofs.lemmas.Slice.Eq.{strip_prefix_is}
use Rattle.someipctl_run.proofs.comparing.ends_within.Goals as goal

pub returns-in-Some-clause-yes : goal.returns-in-Some-clause-yes
returns-in-Some-clause-yes c = λ _.
    (c.in-Beginning.is, (c.in-Some._left.now, rw c.in-Some.is at (strip_prefix_is Decides-eqb c.args.line.now c.args.rest.now c.strip_prefix.result c.strip_prefix.ensures.cases)))

pub returns-in-None-clause-no : goal.returns-in-None-clause-no
returns-in-None-clause-no c = λ _.
    rw c.in-Beginning.is (rw c.in-None.is at (strip_prefix_is Decides-eqb c.args.line.now c.args.rest.now c.strip_prefix.result c.strip_prefix.ensures.cases))
