use Rattle.std.proofs.Common.{◌≡◌, ◌∙◌, ap, sym, subst, rules}
use Rattle.recording_packets.specs.copies.Queues.{AreBelow, IsRising, entries_in, starts_with_gap}
use Rattle.std.proofs.lemmas.Fn.{filter_same}
use Rattle.recording_packets.proofs.about_copies.QueueLemmas.{below_full, entries_full, front_full, full, rising_full}
use Rattle.recording_packets.proofs.copies.sightings.close_gaps.Goals as goal

pub returns-then-len-ge-MOST_TURNS-clause-same : goal.returns-then-len-ge-MOST_TURNS-clause-same
returns-then-len-ge-MOST_TURNS-clause-same c =
    let left : c.retain.new.self.items ≡ full c.args.queue.now.items = filter_same _ _ _ (λ x b f' k. search rules) _ _ c.retain.ensures.filtered in
    ap entries_in left ∙ entries_full c.args.queue.now.items

pub returns-then-len-ge-MOST_TURNS-clause-rising : goal.returns-then-len-ge-MOST_TURNS-clause-rising
returns-then-len-ge-MOST_TURNS-clause-rising c =
    let left : c.retain.new.self.items ≡ full c.args.queue.now.items = filter_same _ _ _ (λ x b f' k. search rules) _ _ c.retain.ensures.filtered in
    λ h. subst IsRising (sym left) (rising_full c.args.queue.now.items h)

pub returns-then-len-ge-MOST_TURNS-clause-below : goal.returns-then-len-ge-MOST_TURNS-clause-below
returns-then-len-ge-MOST_TURNS-clause-below c =
    let left : c.retain.new.self.items ≡ full c.args.queue.now.items = filter_same _ _ _ (λ x b f' k. search rules) _ _ c.retain.ensures.filtered in
    λ next h. subst (AreBelow next) (sym left) (below_full next c.args.queue.now.items h)

pub returns-then-len-ge-MOST_TURNS-clause-front : goal.returns-then-len-ge-MOST_TURNS-clause-front
returns-then-len-ge-MOST_TURNS-clause-front c =
    let left : c.retain.new.self.items ≡ full c.args.queue.now.items = filter_same _ _ _ (λ x b f' k. search rules) _ _ c.retain.ensures.filtered in
    λ h. ap starts_with_gap left ∙ front_full c.args.queue.now.items
