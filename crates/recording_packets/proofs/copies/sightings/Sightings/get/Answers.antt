use Rattle.std.proofs.Common.{◌∙◌, ap, sym}
use Rattle.std.specs.Map.{lookup}
use Rattle.std.specs.BTreeMap.{is_at}
use Rattle.std.specs.Ordering.{nat_cmp}
use Rattle.recording_packets.specs.copies.Queues.{Row}
use Rattle.recording_packets.specs.declared.copies.sightings.Turn.{Turn}
use Rattle.recording_packets.proofs.about_copies.QueueLemmas.{looked_up}
use Rattle.recording_packets.proofs.copies.sightings.Sightings.get.Goals as goal

pub returns : goal.returns
returns c =
    c.as_ref.ensures.value ∙ ap (λ (t : Turn). t.sighting) c.in_ok-get.ensures.lookup
    ∙ sym (looked_up c.args.turn c.in_ok-i.i c.self.inside.queue.items c.in_ok-get.field-0.now c.self.invariant.0 c.in_ok-i.ensures.found)
    ∙ ap (λ (r : Row). lookup (is_at (nat_cmp c.args.turn)) r.entries) c.self.view_is
