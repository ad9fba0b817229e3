use Rattle.std.proofs.Common.{◌≤◌, ◌+◌, ◌-◌, ◌*◌, ◌^◌, length, map}
use Rattle.someipctl_audit.specs.AskedAudits.{view_asked}
use Rattle.someipctl_audit.proofs.RunLemmas.{IsAudited}
use Rattle.someipctl_audit.proofs.audits.put_audit.Given as goal

-- the files that are left, and the bytes that the one that is read may still have
abbrev pub decreases-loop-file : goal.decreases-loop-file
decreases-loop-file g l = (length l.sources - l.file) * (2 ^ 64 + 1) + (2 ^ 64 - l.recording.place)

-- the records that came so far were gone over
abbrev pub invariant-loop-file : goal.invariant-loop-file
invariant-loop-file g l =
    IsAudited (view_asked l.asked) (map g.R.Read.remaining l.fn.sources) (map g.R.Read.remaining l.sources) l.file l.recording (g.W.Write.contents l.fn.writer) (g.W.Write.contents l.writer) l.buffer l.auditing.audit l.gone l.intake
    × (l.gone.datagrams ≤ l.intake.frames)
