use Rattle.someipctl_run.proofs.ExpectedLemmas.{IsBeforeEnd}
use Rattle.someipctl_run.proofs.comparing.line_len.Given as goal

abbrev pub invariant-loop-byte : goal.invariant-loop-byte
invariant-loop-byte l = IsBeforeEnd l.end l.byte-index l.text
