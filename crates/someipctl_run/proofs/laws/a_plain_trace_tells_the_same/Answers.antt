use Rattle.someipctl_run.proofs.ToldLemmas.{line-plain, reuse-plain, trace-plain}
use Rattle.someipctl_run.proofs.laws.a_plain_trace_tells_the_same.Goals as goal

pub returns-clause-line : goal.returns-clause-line
returns-clause-line c = line-plain

pub returns-clause-verdict : goal.returns-clause-verdict
returns-clause-verdict c = reuse-plain

pub returns-clause-trace : goal.returns-clause-trace
returns-clause-trace c = trace-plain
