use Rattle.std.proofs.Common.{rules}
use Rattle.someipctl_run.proofs.chart.charting.picture_of.Goals as goal

pub returns-clause-ok : goal.returns-clause-ok
returns-clause-ok c = (
  c.in_ok-trace.trace.lines.items,
  c.in_ok-trace.trace.verdict,
  (c.deref.result.now, (rw c.deref.ensures.value (search rules), search rules), search rules, search rules),
)
