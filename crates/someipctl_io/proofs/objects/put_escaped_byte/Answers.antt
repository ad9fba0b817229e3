use Rattle.std.proofs.Common.{rules}
use Rattle.someipctl_io.proofs.EscapeLemmas.{escape-short, escape-control, escape-other}
use Rattle.someipctl_io.proofs.objects.put_escaped_byte.Goals as goal

pub returns-then-letter-gt0-clause-ok : goal.returns-then-letter-gt0-clause-ok
returns-then-letter-gt0-clause-ok g c = rw (escape-short c.args.byte c.escape_letter-letter.result c.escape_letter-letter.ensures (search rules)) c.put.ensures.ok

pub returns-then-letter-gt0-clause-err : goal.returns-then-letter-gt0-clause-err
returns-then-letter-gt0-clause-err g c = rw (escape-short c.args.byte c.escape_letter-letter.result c.escape_letter-letter.ensures (search rules)) c.put.ensures.err

pub returns-then-byte-lt32-clause-ok : goal.returns-then-byte-lt32-clause-ok
returns-then-byte-lt32-clause-ok g c = rw (escape-control c.args.byte c.escape_letter-letter.result c.escape_letter-letter.ensures (search rules) (search rules)) c.put_parts.ensures.ok

pub returns-then-byte-lt32-clause-err : goal.returns-then-byte-lt32-clause-err
returns-then-byte-lt32-clause-err g c = rw (escape-control c.args.byte c.escape_letter-letter.result c.escape_letter-letter.ensures (search rules) (search rules)) c.put_parts.ensures.err

pub returns-else-byte-lt32-clause-ok : goal.returns-else-byte-lt32-clause-ok
returns-else-byte-lt32-clause-ok g c = rw (escape-other c.args.byte c.escape_letter-letter.result c.escape_letter-letter.ensures (search rules) (search rules)) c.put-else-byte-lt32.ensures.ok

pub returns-else-byte-lt32-clause-err : goal.returns-else-byte-lt32-clause-err
returns-else-byte-lt32-clause-err g c = rw (escape-other c.args.byte c.escape_letter-letter.result c.escape_letter-letter.ensures (search rules) (search rules)) c.put-else-byte-lt32.ensures.err
