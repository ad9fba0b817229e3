use Rattle.std.proofs.Common.{rules}
use Rattle.someipctl_io.proofs.EscapeLemmas.{escape-plain}
use Rattle.someipctl_io.proofs.objects.put_escaped.Goals as goal

pub returns-then-is_plain-clause-ok : goal.returns-then-is_plain-clause-ok
returns-then-is_plain-clause-ok g c = rw (escape-plain c.args.text.now (search rules)) c.put.ensures.ok

pub returns-then-is_plain-clause-err : goal.returns-then-is_plain-clause-err
returns-then-is_plain-clause-err g c = rw (escape-plain c.args.text.now (search rules)) c.put.ensures.err
