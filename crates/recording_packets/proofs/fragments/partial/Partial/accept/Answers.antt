use Rattle.std.proofs.Common.{arith}
use Rattle.recording_packets.proofs.about_fragments.CellLemmas.{count-le}
use Rattle.recording_packets.proofs.fragments.partial.Partial.accept.Goals as goal

pub overflow_add-self : goal.overflow_add-self
overflow_add-self c = omega (arith, c.self.invariant.counted, c.in_ok-added.ensures.count, count-le c.take_bytes.new.known.items)
