use Rattle.std.proofs.Common.{◌∙◌, ap, sym, subst}
use Rattle.std.specs.Map.{remove_entry}
use Rattle.std.specs.BTreeMap.{is_at}
use Rattle.std.specs.Ordering.{nat_cmp}
use Rattle.recording_packets.specs.copies.Queues.{AreBelow, IsRising, Row, entries_in}
use Rattle.recording_packets.proofs.about_copies.QueueLemmas.{below_gap, gap_made, removed_none, rising_gap, row}
use Rattle.recording_packets.proofs.copies.sightings.Sightings.remove.Goals as goal

pub invariant_of-self : goal.invariant_of-self
invariant_of-self c = (
  c.trim.ensures.rising (subst IsRising (sym c.make_gap.ensures) (rising_gap c.args.turn c.in-Some.i c.self.inside.queue.items c.self.invariant.0 c.in-Some.ensures.found)),
  c.trim.ensures.below c.self.inside.next (subst (AreBelow c.self.inside.next) (sym c.make_gap.ensures) (below_gap c.self.inside.next c.args.turn c.in-Some.i c.self.inside.queue.items c.self.invariant.1 c.in-Some.ensures.found)),
  c.trim.ensures.trimmed,
)

pub returns-in-Some : goal.returns-in-Some
returns-in-Some c =
    ap (λ es. row c.self.inside.next es) (c.trim.ensures.same ∙ ap entries_in c.make_gap.ensures ∙ gap_made c.args.turn c.in-Some.i c.self.inside.queue.items c.self.invariant.0 c.in-Some.ensures.found)
    ∙ ap (λ (r : Row). record r { entries = remove_entry (is_at (nat_cmp c.args.turn)) r.entries }) c.self.view_is

pub returns-in_default : goal.returns-in_default
returns-in_default c =
    sym c.self.view_is
    ∙ sym (ap (λ es. row c.self.inside.next es) (removed_none c.args.turn c.self.inside.queue.items c.in_default.ensures.none))
    ∙ ap (λ (r : Row). record r { entries = remove_entry (is_at (nat_cmp c.args.turn)) r.entries }) c.self.view_is
