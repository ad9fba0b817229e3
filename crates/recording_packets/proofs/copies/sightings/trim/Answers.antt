use Rattle.std.proofs.Common.{◌∙◌, ap, sym, subst}
use Rattle.recording_packets.specs.copies.Queues.{AreBelow, IsRising, entries_in}
use Rattle.recording_packets.proofs.about_copies.QueueLemmas.{dropped_below, dropped_entries, dropped_rising}
use Rattle.recording_packets.proofs.copies.sightings.trim.Goals as goal

pub loop-queue-preserved-in-loop-queue-2 : goal.loop-queue-preserved-in-loop-queue-2
loop-queue-preserved-in-loop-queue-2 c =
    record {
      same = ap entries_in c.pop_front.ensures.rest ∙ dropped_entries c.loop-queue.queue.items (sym c.starts_with_gap.ensures ∙ c.loop-queue-test.true) ∙ c.loop-queue.invariant.same;
      rising = λ h. subst IsRising (sym c.pop_front.ensures.rest) (dropped_rising c.loop-queue.queue.items (c.loop-queue.invariant.rising h));
      below = λ next h. subst (AreBelow next) (sym c.pop_front.ensures.rest) (dropped_below next c.loop-queue.queue.items (c.loop-queue.invariant.below next h));
    }
