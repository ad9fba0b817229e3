use Rattle.std.proofs.Common.{sym, subst}
use Rattle.recording_packets.specs.copies.Queues.{AreBelow, IsRising}
use Rattle.recording_packets.proofs.about_copies.QueueLemmas.{dropped_below, dropped_rising}
use Rattle.recording_packets.proofs.copies.sightings.Sightings.pop_first.Goals as goal

pub invariant_of-self-2 : goal.invariant_of-self-2
invariant_of-self-2 c = (
  c.trim.ensures.rising (subst IsRising (sym c.pop_front.ensures.rest) (dropped_rising c.self.inside.queue.items c.self.invariant.0)),
  c.trim.ensures.below c.self.inside.next (subst (AreBelow c.self.inside.next) (sym c.pop_front.ensures.rest) (dropped_below c.self.inside.next c.self.inside.queue.items c.self.invariant.1)),
  c.trim.ensures.trimmed,
)
