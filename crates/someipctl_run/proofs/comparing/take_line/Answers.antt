use Rattle.std.proofs.Common.{refl}
use Rattle.std.proofs.lemmas.Bool.Decides.{Decides-eqb}
use Rattle.std.proofs.lemmas.Slice.Eq.{strip_prefix_is}
use Rattle.someipctl_run.proofs.comparing.take_line.Goals as goal

pub returns-in-Some : goal.returns-in-Some
returns-in-Some c = rw c.as_slice.ensures.value at (rw c.in-Some.is at (strip_prefix_is Decides-eqb c.args.rest.now c.as_slice.result.now c.strip_prefix.result c.strip_prefix.ensures.cases))

pub returns-then-ends_within : goal.returns-then-ends_within
returns-then-ends_within c = rw c.as_slice-2.ensures.value at (c.ends_within.ensures.yes c.if-ends_within.true)

pub returns : goal.returns
returns c = (
  rw c.as_slice.ensures.value at (rw c.in_default.is at (strip_prefix_is Decides-eqb c.args.rest.now c.as_slice.result.now c.strip_prefix.result c.strip_prefix.ensures.cases)),
  rw c.as_slice-2.ensures.value at (c.ends_within.ensures.no c.if-ends_within.false),
  rw c.line_left.ensures refl,
)
