use Rattle.std.proofs.Common.{drop, map}
use Rattle.someipctl_io.specs.ToldLines.{origin_text}
use Rattle.someipctl_io.specs.ToldViews.{view_field}
use Rattle.someipctl_io.proofs.SendingLemmas.{IsSending}
use Rattle.someipctl_io.proofs.told.put_origin.Given as goal

abbrev pub invariant-loop-field : goal.invariant-loop-field
invariant-loop-field g l = IsSending (g.W.Write.contents l.initial.writer) l.initial.buffer (g.W.Write.contents l.writer) l.buffer (origin_text (map view_field (drop l.field-index l.fields))) (origin_text (map view_field l.fields))
