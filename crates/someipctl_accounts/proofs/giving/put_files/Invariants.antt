use Rattle.std.proofs.Common.{◌≤◌, ◌+◌, ◌-◌, ◌*◌, ◌^◌, length, map}
use Rattle.recording_packets.specs.View.{view_chosen}
use Rattle.someipctl_accounts.proofs.GivingLemmas.{IsGiven}
use Rattle.someipctl_accounts.proofs.giving.put_files.Given as goal

-- the files that are left, and the bytes that the one that is read may still have
abbrev pub decreases-loop-file : goal.decreases-loop-file
decreases-loop-file g l = (length l.sources - l.file) * (2 ^ 64 + 1) + (2 ^ 64 - l.recording.place)

-- the datagrams of the records that came so far were given
abbrev pub invariant-loop-file : goal.invariant-loop-file
invariant-loop-file g l =
    IsGiven g.A.Account.takes g.A.Account.ends (view_chosen l.chosen) l.fn.account (map g.R.Read.remaining l.fn.sources) (map g.R.Read.remaining l.sources) l.file l.recording (g.W.Write.contents l.fn.writer) (g.W.Write.contents l.writer) l.buffer
    l.account l.going l.intake
    × (l.going.datagrams ≤ l.intake.frames)
