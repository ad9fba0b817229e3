use Rattle.std.proofs.Common.{rules}
use Rattle.someip_wire.specs.View.{view}
use Rattle.someipctl_io.proofs.SendingLemmas.{OnErr-any}
use Rattle.someipctl_io.proofs.LinesLemmas.{segment_lines-fault, segment_lines-read}
use Rattle.someipctl_io.proofs.lines.put_segment.Goals as goal

pub returns-in_err-put_fault-clause-err : goal.returns-in_err-put_fault-clause-err
returns-in_err-put_fault-clause-err g c =
    rw (segment_lines-fault c.args.k c.args.place (view c.args.message.now) (search rules) c.in_default.ensures.read.0) (OnErr-any c.from_residual.result c.in_err-put_fault.ensures.err)

pub returns-in_default-clause-ok : goal.returns-in_default-clause-ok
returns-in_default-clause-ok g c = rw (segment_lines-fault c.args.k c.args.place (view c.args.message.now) (search rules) c.in_default.ensures.read.0) c.in_ok-put_fault.ensures.ok

pub returns-in_err-put_parts-clause-err : goal.returns-in_err-put_parts-clause-err
returns-in_err-put_parts-clause-err g c =
    rw (segment_lines-read c.args.k c.args.place (view c.args.message.now) c.in-Ok.offset c.in-Ok.more c.in-Ok.slice (search rules) c.in-Ok.ensures.read, ← c.digit_of_flag.ensures) (OnErr-any c.from_residual-in_err-put_parts.result c.in_err-put_parts.ensures.err)

pub returns-clause-ok : goal.returns-clause-ok
returns-clause-ok g c =
    rw (segment_lines-read c.args.k c.args.place (view c.args.message.now) c.in-Ok.offset c.in-Ok.more c.in-Ok.slice (search rules) c.in-Ok.ensures.read, ← c.digit_of_flag.ensures) c.in_ok-put_parts.ensures.ok
