use Rattle.std.proofs.Common.{◌+◌, ◌-◌, ◌*◌, ◌^◌, length, map}
use Rattle.someipctl_recordings.specs.Wanted.{view_wanted}
use Rattle.someipctl_extract.specs.Extracted.{view_extraction}
use Rattle.someipctl_extract.proofs.ExtractingLemmas.{IsExtracted}
use Rattle.someipctl_extract.proofs.extract.put_files.Given as goal

-- the files that are left, and the bytes that the one that is read may still have
abbrev pub decreases-loop-file : goal.decreases-loop-file
decreases-loop-file g l = (length l.sources - l.file) * (2 ^ 64 + 1) + (2 ^ 64 - l.recording.place)

-- the packets of the records that came so far were printed
abbrev pub invariant-loop-file : goal.invariant-loop-file
invariant-loop-file g l =
    IsExtracted (view_wanted l.wanted) (map g.R.Read.remaining l.fn.sources) (map g.R.Read.remaining l.sources) l.file l.recording (g.W.Write.contents l.fn.writer) (g.W.Write.contents l.writer) l.buffer
    (view_extraction l.extractor) l.output
