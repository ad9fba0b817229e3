use Rattle.recording.proofs.reader.RecordingReader.next.Goals as goal
use Rattle.recording.proofs.reader.RecordingReader.next.Goals.{in-Head, in-Inside, in-Over}

pub returns-then-is_err-clause-memory : goal.returns-then-is_err-clause-memory
returns-then-is_err-clause-memory c = elim c.match-self.branch [
  | in-Head w ↦ rw (w.next-is, ← c.self.view_is) w.open-next.ensures.memory
  | in-Inside w ↦ rw (w.next-is, ← c.self.view_is, w.in-Inside.is) w.take-next.ensures.memory
  | in-Over w ↦ rw w.next-is tt
]
