use Rattle.std.proofs.Common.{◌≡◌, ◌≤◌, ◌+◌, ◌-◌, ◌*◌, ◌^◌, [], length, map}
use Rattle.someipctl_recordings.specs.Gathered.{IsInTime, view_store}
use Rattle.someipctl_recordings.specs.RecordingResult.{progress_of, view_asked}
use Rattle.someipctl_recordings.proofs.ShowingLemmas.{IsShown}
use Rattle.someipctl_recordings.proofs.recordings.put_files.Given as goal

-- the files that are left, and the bytes that the one that is read may still have
abbrev pub decreases-loop-file : goal.decreases-loop-file
decreases-loop-file g l = (length l.sources - l.file) * (2 ^ 64 + 1) + (2 ^ 64 - l.recording.place)

-- the records that came so far were shown
abbrev pub invariant-loop-file : goal.invariant-loop-file
invariant-loop-file g l =
    IsShown (view_asked l.asked) (map g.R.Read.remaining l.fn.sources) (map g.R.Read.remaining l.sources) l.file l.recording (g.W.Write.contents l.fn.writer) (g.W.Write.contents l.writer) l.buffer
    (progress_of l.recorder.shown (view_store g.S.Reassembly.limits g.S.Reassembly.parts l.recorder.telling.store)) (record { intake = l.intake; learner = l.recorder.learner })
    × (l.recorder.shown.datagrams ≤ l.intake.frames)
    × (l.recorder.lines ≡ [])
    × (l.recorder.telling.values.types.now ≡ l.asked.types.now)
    × IsInTime g.S.Reassembly.parts l.recorder.shown.now l.recorder.telling.store
