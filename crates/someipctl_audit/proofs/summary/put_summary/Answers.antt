use Rattle.someipctl_audit.proofs.TallyLemmas.{same_summary}
use Rattle.someipctl_audit.proofs.summary.put_summary.Goals as goal

pub returns-clause-ok : goal.returns-clause-ok
returns-clause-ok g c = λ reports looked counts. rw (same_summary c.args.form c.args.tally.now reports looked counts) at c.put_tally.ensures.ok

pub returns-clause-err : goal.returns-clause-err
returns-clause-err g c = λ reports looked counts. rw (same_summary c.args.form c.args.tally.now reports looked counts) at c.put_tally.ensures.err
