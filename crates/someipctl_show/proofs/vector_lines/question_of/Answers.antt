use Rattle.std.proofs.Common.{rules}
use Rattle.someipctl_show.proofs.VectorLemmas.{payload_asks_nothing}
use Rattle.someipctl_show.proofs.vector_lines.question_of.Goals as goal

pub returns-in_err-shape-clause-bad : goal.returns-in_err-shape-clause-bad
returns-in_err-shape-clause-bad c bad =
    payload_asks_nothing c.args.line.now c.in-Some-behind.arguments.now c.in-Some-behind.ensures
    (c.in_err-shape.ensures.bad (search rules))
