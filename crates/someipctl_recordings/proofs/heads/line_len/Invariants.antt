use Rattle.std.proofs.Common.{◌≡◌, ◌+◌, drop}
use Rattle.someipctl_recordings.specs.Heads.{line_len}
use Rattle.someipctl_recordings.proofs.heads.line_len.Given as goal

abbrev pub invariant-loop-byte : goal.invariant-loop-byte
invariant-loop-byte l = (l.len ≡ l.byte-index) × (l.len + line_len (drop l.byte-index l.text) ≡ line_len l.text)
