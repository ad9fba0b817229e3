use Rattle.std.proofs.Common.{◌≡◌, ◌∙◌, ◌+◌, ◌++◌, ◌∷◌, [], Some, ap, sym, subst, rules}
use Rattle.recording_packets.specs.copies.Queues.{AreBelow, IsRising, Row, entries_in, starts_with_gap}
use Rattle.recording_packets.proofs.about_copies.QueueLemmas.{below_last, entries_last, front_last, rising_last, row}
use Rattle.recording_packets.proofs.copies.sightings.Sightings.push.Goals as goal

pub invariant_of-self : goal.invariant_of-self
invariant_of-self c = (
  subst IsRising (sym c.in_err-push_back.ensures.items) (c.close_gaps.ensures.rising c.self.invariant.0),
  subst (AreBelow c.self.inside.next) (sym c.in_err-push_back.ensures.items) (c.close_gaps.ensures.below c.self.inside.next c.self.invariant.1),
  ap starts_with_gap c.in_err-push_back.ensures.items ∙ c.close_gaps.ensures.front c.self.invariant.2,
)

pub invariant_of-self-2 : goal.invariant_of-self-2
invariant_of-self-2 c =
    let next : c.in_ok-following.following ≡ c.self.inside.next + 1 = search rules in
    let below = c.close_gaps.ensures.below c.self.inside.next c.self.invariant.1 in (
      subst IsRising (sym c.in_ok-push_back.ensures.items) (rising_last c.self.inside.next c.close_gaps.new.queue.items (Some c.args.sighting) below (c.close_gaps.ensures.rising c.self.invariant.0)),
      subst (λ n. AreBelow n c.push_back.new.self.items) (sym next) (subst (AreBelow (c.self.inside.next + 1)) (sym c.in_ok-push_back.ensures.items) (below_last c.self.inside.next c.close_gaps.new.queue.items (Some c.args.sighting) below)),
      ap starts_with_gap c.in_ok-push_back.ensures.items ∙ front_last c.close_gaps.new.queue.items c.self.inside.next c.args.sighting (c.close_gaps.ensures.front c.self.invariant.2),
    )

pub returns-clause-ok : goal.returns-clause-ok
returns-clause-ok c =
    let next : c.in_ok-following.following ≡ c.self.inside.next + 1 = search rules in
    ap (row c.in_ok-following.following)
    (ap entries_in c.in_ok-push_back.ensures.items ∙ entries_last c.close_gaps.new.queue.items c.self.inside.next c.args.sighting ∙ ap (λ es. es ++ (c.self.inside.next, c.args.sighting) ∷ []) c.close_gaps.ensures.same)
    ∙ ap (λ n. row n (entries_in c.self.inside.queue.items ++ (c.self.inside.next, c.args.sighting) ∷ [])) next
    ∙ ap (λ (r : Row). row (r.next + 1) (r.entries ++ (r.next, c.args.sighting) ∷ [])) c.self.view_is
