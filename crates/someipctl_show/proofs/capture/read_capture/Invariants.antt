use Rattle.std.proofs.Common.{Some, map, length}
use Rattle.someip_texts.specs.Lines.{lines_of}
use Rattle.someip_texts.proofs.LineLemmas.{HasRead}
use Rattle.someipctl_show.specs.Capture.{bytes_of, is_skipped}
use Rattle.someipctl_show.proofs.capture.read_capture.Given as goal

abbrev pub invariant-loop-i : goal.invariant-loop-i
invariant-loop-i l =
    HasRead is_skipped bytes_of (map (λ d. Some d.items) l.datagrams.items) (length l.yielded) (lines_of l.text)
