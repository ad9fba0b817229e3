use Rattle.std.proofs.Common.{true, length}
use Rattle.recording_packets.specs.View.{view_arrival}
use Rattle.someipctl_recordings.specs.RecordedText.{line_head, with_heads}
use Rattle.someipctl_io.proofs.SendingLemmas.{IsSending}
use Rattle.someipctl_recordings.proofs.heads.put_with_heads.Given as goal

abbrev pub invariant-loop-rest : goal.invariant-loop-rest
invariant-loop-rest g l =
    IsSending (g.W.Write.contents l.initial.writer) l.initial.buffer (g.W.Write.contents l.writer) l.buffer (with_heads (line_head l.heads (view_arrival l.arrival)) true l.rest)
    (with_heads (line_head l.heads (view_arrival l.arrival)) true l.text)

abbrev pub decreases-loop-rest : goal.decreases-loop-rest
decreases-loop-rest g l = length l.rest
